use Rattle.std.proofs.Common.{rules, ◌≡◌, to_z, of_z}
use Rattle.std.specs.Int.{w128}
use Rattle.open_nodes.specs.Nodes.{with_state}
use Rattle.open_nodes.specs.declared.nodes.State.TheVariants as States
use Rattle.branching.proofs.LoopLaws.{IsTaken, round_over, same_growing, same_none, small_cut}
use Rattle.branching.proofs.LoopLaws.{taken_area, taken_asked, taken_from, taken_nodes, taken_shallow}
use Rattle.branching.proofs.search.round.Given as given
use Rattle.branching.proofs.search.round.Goals as goal
use Rattle.branching.proofs.search.round.Goals.{In-Some}

-- the node that was taken, with what it waited with
node_taken : (g : given.Over) (c : goal.In-Some g)
    → IsTaken c.args.search.now.open c.next.new.self c.in-Some.taken.key c.in-Some.taken.depth c.in-Some.taken.bound c.in-Some.taken.solved
node_taken g c =
    let t = c.in-Some.taken in
    taken_from c.args.search.now.open c.next.new.self t.key t.depth t.bound t.solved c.in-Some.ensures.waited c.in-Some.ensures.depth
    c.in-Some.ensures.taken

pub returns-in-None-clause-after : goal.returns-in-None-clause-after
returns-in-None-clause-after g c = λ begun growing.
    let m = c.args.model.now in
    let f = c.args.search.now.open in
    let h = c.next.new.self in
    let same = c.in-None.ensures.unchanged in (
      same_growing m c.args.limits c.args.search.now.found f h same begun c.args.steps.now c.in-None.ensures.frontier growing,
      same_none m c.args.limits c.args.search.now.found f h same c.in-None.ensures.none,
    )

pub answered-requires-clause-area : goal.answered-requires-clause-area
answered-requires-clause-area g c =
    let taken = node_taken g (goal.at.answered-requires-clause-area g c).In-Some in
    taken_area c.args.model.now c.args.limits c.args.search.now.found _ _ _ _ _ _ taken c.requires.growing.1.kept

pub answered-requires-clause-asked : goal.answered-requires-clause-asked
answered-requires-clause-asked g c =
    let taken = node_taken g (goal.at.answered-requires-clause-asked g c).In-Some in
    taken_asked c.args.model.now c.args.limits c.args.search.now.found _ _ _ _ _ _ taken c.requires.growing.1.kept

pub settle-requires-clause-deep : goal.settle-requires-clause-deep
settle-requires-clause-deep g c =
    let taken = node_taken g (goal.at.settle-requires-clause-deep g c).In-Some in
    taken_shallow c.args.model.now c.args.limits c.args.search.now.found _ _ _ _ _ _ taken c.requires.growing.1.kept

pub settle-requires-clause-nodes : goal.settle-requires-clause-nodes
settle-requires-clause-nodes g c =
    let taken = node_taken g (goal.at.settle-requires-clause-nodes g c).In-Some in
    rw c.in_ok-node.ensures.open (taken_nodes c.args.model.now c.args.limits c.args.search.now.found _ _ _ _ _ _ taken
    c.requires.growing.1.nodes)

pub settle-requires-clause-cut : goal.settle-requires-clause-cut
settle-requires-clause-cut g c =
    let taken = node_taken g (goal.at.settle-requires-clause-cut g c).In-Some in
    small_cut _ _ _ _ _ (c.in_ok-node.ensures.node (with_state States.Taken taken.entry) taken.now)

pub returns-clause-after : goal.returns-clause-after
returns-clause-after g c =
    let taken = node_taken g (goal.at.returns-clause-after g c).In-Some in
    let back : to_z w128 (of_z w128 c.in-Some.taken.bound) ≡ c.in-Some.taken.bound = search rules in
    round_over c.args.model.now c.args.limits c.args.search.now.found _ _ _ _ _ _ taken c.settle.result _ _
    c.in_ok-node.node _ _ _ _ c.args.steps.now c.answered.new.steps c.settle.ensures.settled back c.is_some.ensures
    c.in_ok-node.ensures.found c.in_ok-node.ensures.open c.in_ok-node.ensures.node c.in_ok-node.ensures.keeps
    c.in_ok-node.ensures.least c.in_ok-node.ensures.most c.in-Some.ensures.least c.settle.ensures.whole
