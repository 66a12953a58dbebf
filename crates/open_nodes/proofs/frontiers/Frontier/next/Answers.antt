use Rattle.std.specs.Prelude.{◌≡◌, Some, is_some}
use Rattle.std.specs.Int.{w128}
use Rattle.std.specs.BinaryHeap.{heap_items}
use Rattle.std.proofs.Common.{ap, refl, sym, subst, ◌∙◌, arith, rules, to_z, of_z}
use Rattle.std.proofs.lemmas.Int.{to_z-of_z}
use Rattle.std.proofs.lemmas.List.Sorted.{Contains-permutation, IsPermutation-sym}
use Rattle.slab.specs.Slab.{get}
use Rattle.open_nodes.specs.declared.nodes.Node.{Node}
use Rattle.open_nodes.specs.declared.nodes.State.TheVariants.{Taken, Waiting}
use Rattle.open_nodes.specs.Nodes.{bound_of}
use Rattle.open_nodes.specs.Frontiers.{HasState, IsLeast}
use Rattle.open_nodes.proofs.ForestLaws.{renewed_rooted}
use Rattle.open_nodes.proofs.FrontierLaws.{depth_there, has_state, least_bound, none_waits, same_nodes, waiting_childless}
use Rattle.open_nodes.proofs.OrderLaws.{one_waits, popped_ordered, rank_waits, waits_with}
use Rattle.open_nodes.proofs.RenewLaws.{Renews, renews, sets_state}
use Rattle.open_nodes.proofs.frontiers.Frontier.next.Goals as goal
use Rattle.open_nodes.proofs.frontiers.Frontier.next.Goals.{After-put_state, In-Some, In-Waiting}

-- the node of the greatest rank waits with the bound of the rank
waiting : (c : In-Some)
    → (n : Node) × (get c.args.self.now.nodes c.in-Some.rank.2 ≡ Some n) × (bound_of n.state ≡ Some c.in-Some.rank.0.0)
waiting c =
    let r = c.in-Some.rank in
    let moved = c.in-Some.ensures.taken in
    let listed = Contains-permutation _ _ r (IsPermutation-sym _ _ moved) (0, omega arith, refl) in
    rank_waits c.args.self.now.nodes (heap_items c.args.self.now.order) r c.requires.frontier.ordered listed

-- it is taken
taken : (c : After-put_state) (n : Node) → get c.args.self.now.nodes c.in-Some.rank.2 ≡ Some n
    → Renews c.args.self.now.nodes c.put_state.new.nodes c.in-Some.rank.2 n Taken
taken c n has =
    renews c.args.self.now.nodes c.put_state.new.nodes c.in-Some.rank.2 n Taken has (rw has at c.put_state.ensures).1

-- its state was that which is handed over
state_was : (c : In-Waiting) (n : Node) → get c.args.self.now.nodes c.in-Some.rank.2 ≡ Some n
    → n.state ≡ Waiting c.in-Waiting.bound c.in-Waiting.solved
state_was c n has = sym (rw has at c.put_state.ensures).0 ∙ c.in-Waiting.is

pub returns-in-None-clause-none : goal.returns-in-None-clause-none
returns-in-None-clause-none c =
    none_waits c.args.self.now c.requires.frontier (sym c.args.self.now.order.data.ok.0 ∙ c.in-None.ensures.none)

pub returns-in-None-clause-unchanged : goal.returns-in-None-clause-unchanged
returns-in-None-clause-unchanged c = same_nodes _ _ refl

pub index-requires : goal.index-requires
index-requires c = ap is_some (waiting (goal.at.index-requires c).In-Some).1

pub unreachable-requires : goal.unreachable-requires
unreachable-requires c =
    let n = waiting (goal.at.unreachable-requires c).In-Some in
    let waits = waits_with n.0.state c.in-Some.rank.0.0 n.2 in
    c.in_default.not-Waiting c.in-Some.rank.0.0 waits.0 ((rw n.1 at c.put_state.ensures).0 ∙ waits.1)

pub returns-clause-frontier : goal.returns-clause-frontier
returns-clause-frontier c =
    let f = c.args.self.now in
    let r = c.in-Some.rank in
    let n = waiting (goal.at.returns-clause-frontier c).In-Some in
    let new = taken (goal.at.returns-clause-frontier c).After-put_state n.0 n.1 in
    let heap = (c.in-Some.ensures.least c.requires.frontier.ordered.heap).0 in
    record {
      rooted = renewed_rooted f.nodes c.put_state.new.nodes f.root r.2 n.0 Taken new (waiting_childless n.0.state r.0.0 n.2)
          (λ cut k h. h) c.requires.frontier.rooted;
      ordered = popped_ordered f.nodes c.put_state.new.nodes r n.0 Taken (heap_items f.order) (heap_items c.take_rank.new.order) new
          (one_waits n.0.state r.0.0 n.2) refl c.in-Some.ensures.taken heap c.requires.frontier.ordered;
    }

pub returns-clause-waited : goal.returns-clause-waited
returns-clause-waited c =
    let f = c.args.self.now in
    let key = c.in-Some.rank.2 in
    let n = waiting (goal.at.returns-clause-waited c).In-Some in
    let was = state_was (goal.at.returns-clause-waited c).In-Waiting n.0 n.1 in
    let back : to_z w128 (of_z w128 c.in-Waiting.bound) ≡ c.in-Waiting.bound = to_z-of_z w128 c.in-Waiting.bound (search rules) in
    rw back (subst (HasState f key) was (has_state f key n.0 n.1))

pub returns-clause-depth : goal.returns-clause-depth
returns-clause-depth c = λ e has.
    let n = waiting (goal.at.returns-clause-depth c).In-Some in
    let both : Some n.0 ≡ Some c.index.result.now = sym n.1 ∙ c.index.ensures in
    let same : n.0 ≡ c.index.result.now = cc in
    depth_there c.args.self.now c.in-Some.rank.2 n.0 e c.requires.frontier n.1 has ∙ ap (λ (x : Node). x.depth) same

pub returns-clause-taken : goal.returns-clause-taken
returns-clause-taken c =
    let n = waiting (goal.at.returns-clause-taken c).In-Some in
    sets_state c.args.self.now _ c.in-Some.rank.2 n.0 Taken c.requires.frontier.rooted.parents
    (taken (goal.at.returns-clause-taken c).After-put_state n.0 n.1)

pub returns-clause-least : goal.returns-clause-least
returns-clause-least c =
    let n = waiting (goal.at.returns-clause-least c).In-Some in
    let was = state_was (goal.at.returns-clause-least c).In-Waiting n.0 n.1 in
    let back : to_z w128 (of_z w128 c.in-Waiting.bound) ≡ c.in-Waiting.bound = to_z-of_z w128 c.in-Waiting.bound (search rules) in
    let two : Some c.in-Waiting.bound ≡ Some c.in-Some.rank.0.0 = sym (ap bound_of was) ∙ n.2 in
    let bound_is : c.in-Some.rank.0.0 ≡ c.in-Waiting.bound = cc in
    let most = (c.in-Some.ensures.least c.requires.frontier.ordered.heap).1 in
    rw back (subst (IsLeast c.args.self.now) bound_is (least_bound c.args.self.now c.in-Some.rank c.requires.frontier most))
