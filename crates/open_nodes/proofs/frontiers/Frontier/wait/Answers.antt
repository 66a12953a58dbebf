use Rattle.std.specs.Prelude.{◌≡◌, is_some, Some}
use Rattle.std.specs.Int.{w128}
use Rattle.std.specs.BinaryHeap.{heap_items}
use Rattle.std.proofs.Common.{ap, refl, sym, subst, ◌∙◌, to_z, of_z}
use Rattle.std.proofs.lemmas.Int.{to_z-of_z}
use Rattle.open_nodes.specs.declared.nodes.Node.{Node}
use Rattle.open_nodes.specs.declared.nodes.State.TheVariants.{Taken, Waiting}
use Rattle.open_nodes.specs.Internal.Orders.{IsOrdered, waits, waits_by}
use Rattle.open_nodes.proofs.ForestLaws.{renewed_rooted}
use Rattle.open_nodes.proofs.FrontierLaws.{taken_childless}
use Rattle.open_nodes.proofs.OrderLaws.{pushed_ordered}
use Rattle.open_nodes.proofs.RenewLaws.{Renews, renewed, renews, sets_state, state_there}
use Rattle.open_nodes.proofs.frontiers.Frontier.wait.Goals as goal
use Rattle.open_nodes.proofs.frontiers.Frontier.wait.Goals.{Joined-put_state}

pub index-requires : goal.index-requires
index-requires c = let n = state_there c.args.self.now c.args.key Taken c.requires.taken in ap is_some n.1

-- the slabs before and after, of which the first has a node that was taken at the key
put_back : (c : Joined-put_state)
    → (n : Node) × (n.state ≡ Taken)
    × Renews c.args.self.now.nodes c.put_state.new.nodes c.args.key n (Waiting c.args.bound (Some c.args.solved))
put_back c =
    let n = state_there c.args.self.now c.args.key Taken c.requires.taken in
    let back : to_z w128 (of_z w128 c.args.bound) ≡ c.args.bound = to_z-of_z w128 c.args.bound c.ranges.bound in
    let set = (rw (n.1, back) at c.put_state.ensures).1 in
    (n.0, n.2, renews _ _ c.args.key n.0 (Waiting c.args.bound (Some c.args.solved)) n.1 set)

pub returns-clause-waits : goal.returns-clause-waits
returns-clause-waits c =
    let new = put_back c in
    sets_state c.args.self.now _ c.args.key new.0 (Waiting c.args.bound (Some c.args.solved)) c.requires.frontier.rooted.parents new.2

pub returns-clause-frontier : goal.returns-clause-frontier
returns-clause-frontier c =
    let f = c.args.self.now in
    let st = Waiting c.args.bound (Some c.args.solved) in
    let back : to_z w128 (of_z w128 c.args.bound) ≡ c.args.bound = to_z-of_z w128 c.args.bound c.ranges.bound in
    let new = put_back c in
    let reserved = subst (IsOrdered f.nodes) (sym c.in_ok-reserve.ensures.items) c.requires.frontier.ordered in
    record {
      rooted = renewed_rooted f.nodes c.put_state.new.nodes f.root c.args.key new.0 st new.2 (taken_childless new.0.state new.1)
          (λ cut k h. h) c.requires.frontier.rooted;
      ordered = pushed_ordered f.nodes c.put_state.new.nodes _ (heap_items c.reserve.new.self) (heap_items c.add_rank.new.order)
          new.2.others (ap waits new.2.had ∙ ap waits_by new.1) (renewed new.0 st) new.2.has refl (rw back at c.add_rank.ensures.added)
          (c.add_rank.ensures.heap reserved.heap) reserved;
    }
