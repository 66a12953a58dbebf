use Rattle.std.proofs.Common.{arith, rules, refl, ◌≡◌, ◌∙◌, sym, ap, length, map, take, ℤ, pos, List, get_or, append-nil}
use Rattle.std.specs.List.{zip}
use Rattle.std.specs.Int.{w64}
use mir.Val.{SFits}
use Rattle.std.proofs.lemmas.Int.{to_z-of_z}
use Rattle.std.proofs.lemmas.Slice.Zip.{get_or-zip}
use Rattle.std.proofs.Math.Seq.{take-length}
use Rattle.ip_defs.specs.declared.programs.Column.{Column}
use Rattle.tableau.specs.Nodes.{column_variable}
use Rattle.tableau.proofs.StartLaws.{length-zip, map-push}
use Rattle.tableau.proofs.starts.node_variables.Goals as goal

pub loop-j-preserved : goal.loop-j-preserved
loop-j-preserved c =
    let columns = c.as_slice-columns.result.now in
    let area = c.args.area.now in
    let j = c.loop-j.j in
    let column = c.index-columns-j.result in
    let d : Column × (ℤ × ℤ) = (column, (pos 0, pos 0)) in
    let test = c.loop-j-test.true in
    let same = ap (λ (cs : List Column). length cs) c.as_slice-columns.ensures in
    let size = c.requires.size in
    let pair = get_or-zip columns area j d test (omega arith) in
    let side : ℤ × ℤ = get_or area j (pos 0, pos 0) in
    let low_fits : SFits w64 side.0 = search rules in
    let high_fits : SFits w64 side.1 = search rules in
    let cost_fits : SFits w64 column.cost = search rules in
    let low = to_z-of_z w64 side.0 low_fits in
    let high = to_z-of_z w64 side.1 high_fits in
    let cost = to_z-of_z w64 column.cost cost_fits in
    map-push column_variable (zip columns area) j d _ c.loop-j.variables.items c.push.new.self.items
    (let e = length-zip columns area (omega arith) in omega arith) c.in_ok-push.ensures.items c.loop-j.invariant
    (rw (low, high, cost, ← c.index-columns-j.is) refl ∙ ap column_variable (sym pair))

pub loop-row-init : goal.loop-row-init
loop-row-init c =
    let columns = c.as_slice-columns.result.now in
    let area = c.args.area.now in
    let same = ap (λ (cs : List Column). length cs) c.as_slice-columns.ensures in
    let size = c.requires.size in
    let all = length-zip columns area (omega arith) in
    let done : c.loop-j.j ≡ length (zip columns area) = (let l = c.loop-j-test.false in let k = c.loop-j.auto.j-end in omega arith) in
    c.loop-j.invariant ∙ ap (λ k. map column_variable (take k (zip columns area))) done
    ∙ ap (map column_variable) (take-length (zip columns area))
    ∙ ap (λ (cs : List Column). map column_variable (zip cs area)) c.as_slice-columns.ensures
    ∙ sym (append-nil (map column_variable (zip c.args.parts.now.columns area)))
