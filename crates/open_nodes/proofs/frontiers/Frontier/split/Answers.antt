use Rattle.std.specs.Prelude.{◌≡◌, ℕ, is_some, Some}
use Rattle.std.specs.Int.{w64, w128}
use Rattle.std.specs.BinaryHeap.{heap_items}
use Rattle.std.proofs.Common.{ap, refl, sym, subst, arith, ◌∙◌, to_z, of_z}
use Rattle.std.proofs.lemmas.Int.{to_z-of_z}
use Rattle.slab.specs.Slab.{get}
use Rattle.open_nodes.specs.declared.nodes.Node.{Node}
use Rattle.open_nodes.specs.declared.nodes.State.TheVariants.{Split, Taken}
use Rattle.open_nodes.specs.Internal.Orders.{IsOrdered, waits, waits_by}
use Rattle.open_nodes.proofs.ForestLaws.{slots_rooted}
use Rattle.open_nodes.proofs.OrderLaws.{kept_ordered, pushed_ordered, renewed_ordered}
use Rattle.open_nodes.proofs.RenewLaws.{renews, state_there}
use Rattle.open_nodes.proofs.FrontierLaws.{depth_there, entry_node}
use Rattle.open_nodes.proofs.SplitLaws.{Grows, grown_from, grown_rooted, grows, splits_node, still_there}
use Rattle.open_nodes.proofs.frontiers.Frontier.split.Goals as goal
use Rattle.open_nodes.proofs.frontiers.Frontier.split.Goals.{After-add_rank-2}

pub returns-in_err-reserve-clause-frontier : goal.returns-in_err-reserve-clause-frontier
returns-in_err-reserve-clause-frontier c =
    let f = c.args.self.now in
    let same : (k : ℕ) → get c.reserve.new.self k ≡ get f.nodes k = λ k. ap (λ s. get s k) c.reserve.ensures.rest_kept in
    record {
      rooted = slots_rooted f.nodes c.reserve.new.self f.root same c.requires.frontier.rooted;
      ordered = kept_ordered f.nodes c.reserve.new.self _ (λ k. ap waits (same k)) (λ k n b has w. sym (same k) ∙ has)
          c.requires.frontier.ordered;
    }

pub returns-in_err-reserve-2-clause-frontier : goal.returns-in_err-reserve-2-clause-frontier
returns-in_err-reserve-2-clause-frontier c =
    let f = c.args.self.now in
    let same : (k : ℕ) → get c.reserve.new.self k ≡ get f.nodes k = λ k. ap (λ s. get s k) c.reserve.ensures.rest_kept in
    record {
      rooted = slots_rooted f.nodes c.reserve.new.self f.root same c.requires.frontier.rooted;
      ordered = subst (IsOrdered c.reserve.new.self) (sym c.in_err-reserve-2.ensures.items)
          (kept_ordered f.nodes c.reserve.new.self _ (λ k. ap waits (same k)) (λ k n b has w. sym (same k) ∙ has)
          c.requires.frontier.ordered);
    }

pub index-requires : goal.index-requires
index-requires c =
    let n = state_there c.args.self.now c.args.key Taken c.requires.taken in
    ap is_some (ap (λ s. get s c.args.key) c.reserve.ensures.rest_kept ∙ n.1)

pub overflow_add-depth : goal.overflow_add-depth
overflow_add-depth c =
    let f = c.args.self.now in
    let n = c.index.result.now in
    let has = sym (ap (λ s. get s c.args.key) c.reserve.ensures.rest_kept) ∙ c.index.ensures in
    let e = entry_node f c.args.key n has in
    let few = c.requires.depth e.0 e.1 in
    let deep = depth_there f c.args.key n e.0 c.requires.frontier has e.1 in
    omega (arith, few, deep)

-- the slabs before and after
was_grown : (c : After-add_rank-2)
    → Grows c.args.self.now.nodes c.put_state.new.nodes c.args.key c.args.col c.args.at c.args.why c.args.bound c.index.result.now
    c.insert_reserved-left.result c.insert_reserved-right.result
was_grown c =
    let f = c.args.self.now in
    let n = c.index.result.now in
    let back : to_z w128 (of_z w128 c.args.bound) ≡ c.args.bound = to_z-of_z w128 c.args.bound c.ranges.bound in
    let back_at : to_z w64 (of_z w64 c.args.at) ≡ c.args.at = to_z-of_z w64 c.args.at c.ranges.at in
    let known = state_there f c.args.key Taken c.requires.taken in
    let has = sym (ap (λ s. get s c.args.key) c.reserve.ensures.rest_kept) ∙ c.index.ensures in
    let both : Some known.0 ≡ Some n = sym known.1 ∙ has in
    let same : known.0 ≡ n = cc in
    let taken : n.state ≡ Taken = sym (ap (λ (x : Node). x.state) same) ∙ known.2 in
    let u1 = rw (c.new_node.ensures, back, back_at) at c.insert_reserved-left.ensures.updates in
    let u2 = rw (c.new_node-2.ensures, back, back_at) at c.insert_reserved-right.ensures.updates in
    let in_first = still_there _ _ c.args.key _ n _ c.index.ensures c.insert_reserved-left.ensures.was_vacant u1 in
    let in_second = still_there _ _ c.args.key _ n _ in_first c.insert_reserved-right.ensures.was_vacant u2 in
    let set = (rw (in_second, back_at) at c.put_state.ensures).1 in
    grown_from f.nodes c.reserve.new.self _ _ _ _ _ _ n _ _ (ap (λ s. s.slots) c.reserve.ensures.rest_kept)
    (grows c.reserve.new.self _ _ _ c.args.key c.args.col c.args.at c.args.why c.args.bound n _ _ c.index.ensures taken
    c.insert_reserved-left.ensures.was_vacant u1 c.insert_reserved-right.ensures.was_vacant u2 set)

pub returns-clause-split : goal.returns-clause-split
returns-clause-split c =
    splits_node c.args.self.now _ c.args.key c.args.col c.args.at c.args.why c.args.bound c.index.result.now _ _
    c.requires.frontier.rooted.parents (was_grown c)

pub returns-clause-frontier : goal.returns-clause-frontier
returns-clause-frontier c =
    let f = c.args.self.now in
    let n = c.index.result.now in
    let w = was_grown c in
    let back : to_z w128 (of_z w128 c.args.bound) ≡ c.args.bound = to_z-of_z w128 c.args.bound c.ranges.bound in
    let back_at : to_z w64 (of_z w64 c.args.at) ≡ c.args.at = to_z-of_z w64 c.args.at c.ranges.at in
    let u1 = rw (c.new_node.ensures, back, back_at) at c.insert_reserved-left.ensures.updates in
    let u2 = rw (c.new_node-2.ensures, back, back_at) at c.insert_reserved-right.ensures.updates in
    let none1 = c.insert_reserved-left.ensures.was_vacant in
    let none2 = c.insert_reserved-right.ensures.was_vacant in
    let in_first = still_there _ _ c.args.key _ n _ c.index.ensures none1 u1 in
    let in_second = still_there _ _ c.args.key _ n _ in_first none2 u2 in
    let set = (rw (in_second, back_at) at c.put_state.ensures).1 in
    let last = renews _ _ c.args.key n (Split c.args.col c.args.at c.args.why c.insert_reserved-left.result c.insert_reserved-right.result)
    in_second set in
    let same : (k : ℕ) → get c.reserve.new.self k ≡ get f.nodes k = λ k. ap (λ s. get s k) c.reserve.ensures.rest_kept in
    let reserved : IsOrdered c.reserve.new.self (heap_items c.reserve-2.new.self) =
    subst (IsOrdered c.reserve.new.self) (sym c.in_ok-reserve-2.ensures.items)
    (kept_ordered f.nodes c.reserve.new.self _ (λ k. ap waits (same k)) (λ k m b has v. sym (same k) ∙ has) c.requires.frontier.ordered) in
    let first = pushed_ordered c.reserve.new.self c.insert_reserved-left.new.self _ (heap_items c.reserve-2.new.self)
    (heap_items c.add_rank.new.order) u1.others (ap waits none1) _ u1.changed refl (rw back at c.add_rank.ensures.added)
    (c.add_rank.ensures.heap reserved.heap) reserved in
    let second = pushed_ordered c.insert_reserved-left.new.self c.insert_reserved-right.new.self _ (heap_items c.add_rank.new.order)
    (heap_items c.add_rank-2.new.order) u2.others (ap waits none2) _ u2.changed refl (rw back at c.add_rank-2.ensures.added)
    (c.add_rank-2.ensures.heap first.heap) first in
    record {
      rooted = grown_rooted f.nodes c.put_state.new.nodes c.args.key c.args.col c.args.at c.args.why c.args.bound n _ _ w f.root
          c.requires.small c.requires.frontier.rooted;
      ordered =
          renewed_ordered c.insert_reserved-right.new.self c.put_state.new.nodes c.args.key n _ _ last (ap waits_by w.taken) refl second;
    }
