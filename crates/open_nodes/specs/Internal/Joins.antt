-- The tree of a node, by its state and the trees of its children.
use Rattle.std.specs.Prelude.{◌≡◌, ℕ}
use Rattle.proof_tree.specs.LabelledTrees.{leaf, split}
use Rattle.open_nodes.specs.OpenTrees.{PlainOpen, pending, stuck, ended}
use Rattle.open_nodes.specs.declared.nodes.State.{State}
use Rattle.open_nodes.specs.declared.nodes.State.TheVariants.{Waiting, Taken, Closed, Stuck, Split}

-- the node is not split
abbrev pub IsLeafState : State → Type 0
IsLeafState (Waiting bound solved) = Unit {0}
IsLeafState Taken = Unit {0}
IsLeafState (Closed c) = Unit {0}
IsLeafState (Stuck why) = Unit {0}
IsLeafState (Split col cut why left right) = ⊥

-- the node is split
abbrev pub IsSplitState : State → Type 0
IsSplitState (Waiting bound solved) = ⊥
IsSplitState Taken = ⊥
IsSplitState (Closed c) = ⊥
IsSplitState (Stuck why) = ⊥
IsSplitState (Split col cut why left right) = Unit {0}

-- the node is split, and its children are at these keys
abbrev pub IsSplitInto : State → ℕ → ℕ → Type 0
IsSplitInto (Waiting bound solved) a b = ⊥
IsSplitInto Taken a b = ⊥
IsSplitInto (Closed c) a b = ⊥
IsSplitInto (Stuck why) a b = ⊥
IsSplitInto (Split col cut why left right) a b = (a ≡ left) × (b ≡ right)

-- the tree of a node that is not split
abbrev pub leaf_tree : State → PlainOpen
leaf_tree (Waiting bound solved) = leaf pending
leaf_tree Taken = leaf pending
leaf_tree (Closed c) = leaf (ended c)
leaf_tree (Stuck why) = leaf (stuck why)
leaf_tree (Split col cut why left right) = leaf pending

-- the tree of a split node over those of its children
abbrev pub split_tree : State → PlainOpen → PlainOpen → PlainOpen
split_tree (Split col cut why left right) a b = split col cut why a b
split_tree (Waiting bound solved) a b = a
split_tree Taken a b = a
split_tree (Closed c) a b = a
split_tree (Stuck why) a b = a
