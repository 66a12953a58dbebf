use Rattle.std.proofs.Common.{rules, ◌≡◌, to_z, of_z}
use Rattle.std.specs.Int.{w128}
use Rattle.node_bounds.proofs.LeafLaws.{whole_area}
use Rattle.branching.proofs.LoopLaws.{root_growing}
use Rattle.branching.proofs.search.begin.Goals as goal

pub box_bound-bound-requires-clause-area : goal.box_bound-bound-requires-clause-area
box_bound-bound-requires-clause-area c =
    let whole = whole_area c.args.model.now c.in_ok-area.ensures.limits in
    rw c.in_ok-area.ensures.sides whole.area

pub returns-clause-growing : goal.returns-clause-growing
returns-clause-growing c = λ l few begun.
    let bound = c.box_bound-bound.result in
    let back : to_z w128 (of_z w128 bound) ≡ bound = search rules in
    let f = c.in_ok-open.open in
    root_growing c.args.model.now l f f.root c.in_ok-area.area bound begun c.in_ok-area.ensures.limits c.in_ok-area.ensures.sides
    (rw back at c.in_ok-open.ensures.root) c.in_ok-open.ensures.frontier few c.box_bound-bound.ensures.bound
