use Rattle.std.proofs.Common.{◌≡◌, ◌∙◌, sym, arith, to_z, of_z}
use Rattle.std.specs.Int.{w128}
use Rattle.std.proofs.lemmas.Int.{ints}
use Rattle.node_bounds.proofs.LeafLaws.{point_end}
use Rattle.node_bounds.proofs.leaves.end_at_point.Goals as goal

pub returns-in-None-clause-node : goal.returns-in-None-clause-node
returns-in-None-clause-node c = λ pivots.
    let back : to_z w128 (of_z w128 c.cost-cost.result) ≡ c.cost-cost.result = omega (arith, ints) in
    point_end c.args.task.now.model.now c.args.task.now.area.now c.in_ok-point.point (to_z w128 (of_z w128 c.cost-cost.result))
    c.args.task.now.cut_at c.args.plain c.requires.single c.requires.open c.in_ok-point.ensures c.in-None.ensures.none
    (sym c.cost-cost.ensures ∙ sym back) c.requires.below c.requires.plain
