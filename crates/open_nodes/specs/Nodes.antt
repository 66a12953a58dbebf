-- What a caller sees of a node: the cuts above it, which give its depth and its box, and what is known of it.
use Rattle.std.specs.Prelude.{ℤ, List, [], ◌∷◌, length, Option, None, Some}
use Rattle.proof_tree.specs.LabelledTrees.{leaf_node, split_node, place}
use Rattle.ip_defs.specs.Boxes.{below, above}
use Rattle.open_nodes.specs.OpenTrees.{pending, stuck, ended, OpenNode, OpenPlace}
use Rattle.open_nodes.specs.declared.nodes.Cut.{Cut}
use Rattle.open_nodes.specs.declared.nodes.Cut.TheVariants.{Below, Above}
use Rattle.open_nodes.specs.declared.nodes.State.{State}
use Rattle.open_nodes.specs.declared.nodes.State.TheVariants.{Waiting, Taken, Closed, Stuck, Split}

-- a node: the cuts above it, the last one first, and what is known of it
pub record Entry : Type 0 where
  pub path : List Cut
  pub state : State

-- the half of a box at a cut
abbrev pub half : Cut → List (ℤ × ℤ) → List (ℤ × ℤ)
half (Below j z) b = below b j z
half (Above j z) b = above b j z

-- a box after the cuts of a path, of which the first is made last
abbrev pub box_along : List Cut → List (ℤ × ℤ) → List (ℤ × ℤ)
box_along [] b = b
box_along (c ∷ cs) b = half c (box_along cs b)

-- how a node stands in an open tree; one that waits, or was taken, is pending
abbrev pub node_of : State → OpenNode
node_of (Waiting bound solved) = leaf_node pending
node_of Taken = leaf_node pending
node_of (Closed c) = leaf_node (ended c)
node_of (Stuck why) = leaf_node (stuck why)
node_of (Split col cut why left right) = split_node col cut why

-- the place of a node under a root whose box is given: its depth, its box and the node
abbrev pub place_over : List (ℤ × ℤ) → Entry → OpenPlace
place_over b e = place (length e.path) (box_along e.path b) (node_of e.state)

-- a node with another state
abbrev pub with_state : State → Entry → Entry
with_state s e = record { path = e.path; state = s }

-- a node below another one
abbrev pub under : Cut → State → Entry → Entry
under c s e = record { path = c ∷ e.path; state = s }

-- the bound of a node that waits
abbrev pub bound_of : State → Option ℤ
bound_of (Waiting bound solved) = Some bound
bound_of s = None
