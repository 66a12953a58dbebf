use Rattle.std.specs.Prelude.{◌≡◌}
use Rattle.std.specs.Int.{w128}
use Rattle.std.specs.BinaryHeap.{heap_items, IsHeap}
use Rattle.std.proofs.Common.{ap, refl, sym, subst, to_z, of_z}
use Rattle.std.proofs.lemmas.Int.{to_z-of_z}
use Rattle.open_nodes.specs.Internal.Orders.{IsOrdered, rank_cmp, waits}
use Rattle.open_nodes.proofs.NewLaws.{empty_ordered, is_new, new_rooted, nothing_there, root_node}
use Rattle.open_nodes.proofs.OrderLaws.{pushed_ordered}
use Rattle.open_nodes.proofs.frontiers.Frontier.new.Goals as goal

pub returns-clause-root : goal.returns-clause-root
returns-clause-root c =
    let back : to_z w128 (of_z w128 c.args.bound) ≡ c.args.bound = to_z-of_z w128 c.args.bound c.ranges.bound in
    is_new _ c.new-nodes.result c.args.bound c.new-nodes.ensures.empty (rw (c.new_node.ensures, back) at c.in_ok-root.ensures.updates)

pub returns-clause-frontier : goal.returns-clause-frontier
returns-clause-frontier c =
    let s = c.new-nodes.result in
    let back : to_z w128 (of_z w128 c.args.bound) ≡ c.args.bound = to_z-of_z w128 c.args.bound c.ranges.bound in
    let u = rw (c.new_node.ensures, back) at c.in_ok-root.ensures.updates in
    let empty = c.new-nodes.ensures.empty in
    let start : IsOrdered s (heap_items c.new-order.result) = subst (IsOrdered s) (sym c.new-order.ensures.items)
    (empty_ordered s empty (subst (IsHeap rank_cmp) c.new-order.ensures.items c.new-order.ensures.heap_order)) in
    record {
      rooted = new_rooted s c.insert.new.self c.in_ok-root.root c.args.bound empty u;
      ordered = pushed_ordered s c.insert.new.self _ (heap_items c.new-order.result) (heap_items c.push.new.self) u.others
          (ap waits (nothing_there s empty c.in_ok-root.root)) (root_node c.args.bound) u.changed refl
          (rw back at c.in_ok-push.ensures.permutation) (c.in_ok-push.ensures.heap_order start.heap) start;
    }
