use Rattle.std.proofs.Common.{◌++◌, ◌∷◌, ◌≡◌, ◌<◌, [], subst, arith, suc, length, drop, rules, to_z, of_z}
use Rattle.std.specs.Int.{w64}
use Rattle.tree_format.specs.Orders.{IsInOrder, trees}
use Rattle.tree_format.specs.Internal.Remaining.{remaining}
use Rattle.proof_tree.specs.Trees.{plain}
use Rattle.tree_format.proofs.OrderLaws.{after_left, parts_before, split_parts, something_left}
use Rattle.tree_format.proofs.StretchLaws.{both_read}
use Rattle.tree_format.proofs.decoding.+tree.Goals as goal

pub next_part-requires-in-SplitAt-clause-left : goal.next_part-requires-in-SplitAt-clause-left
next_part-requires-in-SplitAt-clause-left t c =
    let o = c.requires.order in
    let one = c.in-Ok-next_part.ensures.on in
    let left = c.in-Ok-tree.ensures.on in
    something_left (trees (suc o.0)) _ (λ h. h) (after_left o.0 c.args.first c.in-Ok-next_part.part c.in-SplitAt.col c.in-SplitAt.cut
    left.0
    (plain c.in-Ok-tree.left) _ _ _ o.1 c.in-SplitAt.is one.left left.1 left.2.left)

pub tree-requires-in-SplitAt : goal.tree-requires-in-SplitAt
tree-requires-in-SplitAt t c =
    let measure = c.decreases in
    let o = c.requires.order in
    let one = c.in-Ok-next_part.ensures.on in
    let left = c.in-Ok-tree.ensures.on in
    let two = c.in-Ok-next_part-2.ensures.on in
    let order = after_left o.0 c.args.first c.in-Ok-next_part.part c.in-SplitAt.col c.in-SplitAt.cut left.0
    (plain c.in-Ok-tree.left) _ _ _ o.1 c.in-SplitAt.is one.left left.1 left.2.left in
    let first = parts_before (c.in-Ok-next_part.part ∷ []) _ _ one.left in
    let second = parts_before left.0 _ _ left.2.left in
    let third = parts_before (c.in-Ok-next_part-2.part ∷ []) _ _ two.left in
    let bytes = c.args.bytes.now in
    let falls : length (remaining c.next_part-in-SplitAt.new.reader (drop c.next_part-in-SplitAt.new.at bytes)).parts < t = omega arith in
    let within = two.within (left.2.within (one.within c.requires.within)) in
    (falls, (within, (o.0, subst (IsInOrder (trees (suc o.0))) two.left order)))

pub returns-in_ok-right-in-SplitAt-clause-on : goal.returns-in_ok-right-in-SplitAt-clause-on
returns-in_ok-right-in-SplitAt-clause-on t c =
    let bytes = c.args.bytes.now in
    let p = c.in-Ok-next_part.part in
    let q = c.in-Ok-next_part-2.part in
    let one = c.in-Ok-next_part.ensures.on in
    let left = c.in-Ok-tree.ensures.on in
    let two = c.in-Ok-next_part-2.ensures.on in
    let right = c.in-Ok-tree-2.ensures.on in
    let back : to_z w64 (of_z w64 c.in-SplitAt.cut) ≡ c.in-SplitAt.cut = search rules in
    let to_left = both_read bytes c.args.reader.now c.next_part.new.reader c.tree.new.reader c.args.at.now c.next_part.new.at c.tree.new.at
    (p ∷ []) left.0 one left.2 in
    let to_right = both_read bytes c.args.reader.now c.tree.new.reader c.next_part-in-SplitAt.new.reader c.args.at.now c.tree.new.at
    c.next_part-in-SplitAt.new.at (p ∷ left.0) (q ∷ []) to_left two in
    let all = both_read bytes c.args.reader.now c.next_part-in-SplitAt.new.reader c.tree-in-SplitAt.new.reader c.args.at.now
    c.next_part-in-SplitAt.new.at c.tree-in-SplitAt.new.at ((p ∷ left.0) ++ q ∷ []) right.0 to_right right.2 in
    let parts = split_parts c.args.first c.in-SplitAt.col c.in-SplitAt.cut (plain c.in-Ok-tree.left) (plain c.in-Ok-tree-2.right) p q
    left.0
    right.0 c.in-SplitAt.is left.1 right.1 in (
      ((p ∷ left.0) ++ q ∷ []) ++ right.0,
      rw (c.in_ok-left-in-SplitAt.ensures.ok, c.in_ok-right-in-SplitAt.ensures.ok, back) parts,
      all,
    )
