use Rattle.std.proofs.Common.{arith, rules, ap, sym, ◌∙◌, length}
use Rattle.std.specs.Int.{w64}
use mir.Val.{SFits}
use Rattle.std.proofs.lemmas.Int.{to_z-of_z}
use Rattle.ip_defs.specs.Program.{at, box_of}
use Rattle.ip_defs.specs.Breaches.{column_breach}
use Rattle.ip_model.proofs.PlaceLaws.{column_breach_read}
use Rattle.ip_model.proofs.StepLaws.{none_more, first_here}
use Rattle.ip_model.proofs.breaches.first_column.Goals as goal

pub returns-in-Some : goal.returns-in-Some
returns-in-Some c =
    let m = c.args.parts.now in
    let x = c.args.point.now in
    let fits : SFits w64 (at x c.loop-j.j) = search rules in
    let here = column_breach_read m x c.as_slice-column-items.result.now c.loop-j.j c.column-item.result _ _
    c.as_slice-column-items.ensures c.loop-j-test.true c.column-item.is (to_z-of_z w64 (at x c.loop-j.j) fits) c.in-Some.ensures in
    let same = ap length c.as_slice-column-items.ensures in
    let inside = c.loop-j-test.true in
    sym (first_here (column_breach (box_of m) x) (length m.columns) c.loop-j.j c.in-Some.breach c.loop-j.invariant here (omega arith))

pub loop-j-preserved : goal.loop-j-preserved
loop-j-preserved c =
    let x = c.args.point.now in
    let fits : SFits w64 (at x c.loop-j.j) = search rules in
    none_more (column_breach (box_of c.args.parts.now) x) c.loop-j.j c.loop-j.invariant
    (column_breach_read c.args.parts.now x c.as_slice-column-items.result.now c.loop-j.j c.column-item.result _ _
    c.as_slice-column-items.ensures c.loop-j-test.true c.column-item.is
    (to_z-of_z w64 (at x c.loop-j.j) fits) (sym c.in_default.is ∙ c.breach_of_column.ensures))
