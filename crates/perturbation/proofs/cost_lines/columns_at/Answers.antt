use Rattle.std.proofs.Common.{rules, ◌≡◌, ◌+◌, ◌++◌, ◌∷◌, [], ◌+ℤ◌, ◌*ℤ◌, refl, sym, ℤ, to_z, of_z}
use Rattle.std.specs.Int.{w64, w128}
use mir.Val.{SFits}
use Rattle.std.proofs.lemmas.Int.{to_z-of_z}
use Rattle.ip_defs.specs.Program.{at}
use Rattle.ip_model.proofs.PlaceLaws.{read_at}
use Rattle.ip_model.specs.Places.{with_cost}
use Rattle.perturbation.proofs.LineLaws.{AreMoved, one_moved, one_large, all_moved}
use Rattle.perturbation.proofs.cost_lines.columns_at.Goals as goal

-- the cost that is computed, without the widths of its parts
value_is : (q cost p step z : ℤ) → SFits w128 q → SFits w64 cost → SFits w128 p → SFits w64 step
    → z ≡ to_z w128 (of_z w128 q) *ℤ to_z w64 (of_z w64 cost) +ℤ to_z w128 (of_z w128 p) *ℤ to_z w64 (of_z w64 step)
    → z ≡ q *ℤ cost +ℤ p *ℤ step
value_is q cost p step z a b c d e = rw (to_z-of_z w128 q a, to_z-of_z w64 cost b, to_z-of_z w128 p c, to_z-of_z w64 step d) at e

pub returns-then-unsigned_abs-gt-LARGEST_COST : goal.returns-then-unsigned_abs-gt-LARGEST_COST
returns-then-unsigned_abs-gt-LARGEST_COST c =
    let cost = c.cost_at-cost.result in
    one_large (rw (to_z-of_z w128 c.args.p (search rules), to_z-of_z w128 c.args.q (search rules)) at c.loop-j.invariant) c.requires.size
    (read_at c.args.columns.now c.args.columns.now c.loop-j.j c.index-columns-j.result refl c.loop-j-test.true c.index-columns-j.is)
    (value_is c.args.q c.index-columns-j.result.cost c.args.p (at c.args.dir.now c.loop-j.j) cost
    (search rules) (search rules) (search rules) (search rules) c.cost_at-cost.ensures)
    (rw (c.unsigned_abs.ensures.value, to_z-of_z w128 cost (search rules)) at c.if-unsigned_abs-gt-LARGEST_COST.true)

pub loop-j-preserved : goal.loop-j-preserved
loop-j-preserved c =
    let cost = c.cost_at-cost.result in
    let wide : SFits w128 cost = search rules in
    let columns = c.args.columns.now in
    let column = c.index-columns-j.result in
    let found = read_at columns columns c.loop-j.j column refl c.loop-j-test.true c.index-columns-j.is in
    let value = value_is c.args.q column.cost c.args.p (at c.args.dir.now c.loop-j.j) cost
    (search rules) (search rules) (search rules) (search rules) c.cost_at-cost.ensures in
    let moved : AreMoved columns c.args.dir.now c.args.p c.args.q (c.loop-j.j + 1) (c.loop-j.moved ++ with_cost (λ old. cost) column ∷ []) =
    one_moved (rw (to_z-of_z w128 c.args.p (search rules), to_z-of_z w128 c.args.q (search rules)) at c.loop-j.invariant) c.requires.size
    found value (rw (c.unsigned_abs.ensures.value, to_z-of_z w128 cost wide) at c.if-unsigned_abs-gt-LARGEST_COST.false) in
    rw (to_z-of_z w128 c.args.p (search rules), to_z-of_z w128 c.args.q (search rules))
    (rw (sym (rw (to_z-of_z w128 cost wide) at c.in_ok-push_column.ensures)) at moved)

pub returns : goal.returns
returns c =
    all_moved c.args.columns.now c.args.dir.now c.args.p c.args.q c.loop-j.j c.loop-j.moved
    (rw (to_z-of_z w128 c.args.p (search rules), to_z-of_z w128 c.args.q (search rules)) at c.loop-j.invariant) c.loop-j-test.false
