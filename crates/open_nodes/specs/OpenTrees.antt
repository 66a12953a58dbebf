-- Trees that are still being grown, as plain data: how their branches end, and what is left of them when no node is open.
use Rattle.std.specs.Prelude.{ℕ, ◌+◌, ◌⊎◌, List, [], ◌∷◌}
use Rattle.ip_defs.specs.declared.certificates.Cert.{Cert}
use Rattle.ip_defs.specs.declared.programs.Parts.{Parts}
use Rattle.ip_defs.specs.Program.{box_of}
use Rattle.proof_tree.specs.LabelledTrees.{LabelledTree, leaf, split, LabelledNode, Place, places_from, relabelled, no_label}
use Rattle.proof_tree.specs.Trees.{PlainTree}
use Rattle.open_nodes.specs.declared.open_trees.OpenTree.{OpenTree, Pending, Stuck, Leaf, Split'}
use Rattle.node_bounds.specs.Certificates.{plain_cert}
use Rattle.node_bounds.specs.declared.reasons.Why.{Why}

-- how a branch ends: at a node that was not visited, at one that has to be split and may not be, or at one that a certificate closes
pub data End : Type 0 where
  pending : End
  stuck : Why → End
  ended : Cert → End

-- an open tree without where it lies in memory: an end at each leaf, and a reason at each split
abbrev pub PlainOpen : Type 0
PlainOpen = LabelledTree End Why

-- a node of such a tree, and the node with its depth and its box
abbrev pub OpenNode : Type 0
OpenNode = LabelledNode End Why

abbrev pub OpenPlace : Type 0
OpenPlace = Place End Why

-- the plain open tree of an open tree
abbrev pub plain_open : OpenTree → PlainOpen
plain_open Pending = leaf pending
plain_open (Stuck why) = leaf (stuck why)
plain_open (Leaf c) = leaf (ended c)
plain_open (Split' col cut why one left other right) = split col cut why (plain_open left) (plain_open right)

-- the nodes of a tree over the box of a program, in preorder
abbrev pub places : Parts → PlainOpen → List OpenPlace
places m t = places_from 0 (box_of m) t

-- no node is open
abbrev pub IsDone : PlainOpen → Type 0
IsDone (leaf (ended c)) = Unit {0}
IsDone (leaf e) = ⊥
IsDone (split col cut why left right) = IsDone left × IsDone right

-- how many nodes are stuck
abbrev pub stuck_count : PlainOpen → ℕ
stuck_count (leaf (stuck why)) = 1
stuck_count (leaf e) = 0
stuck_count (split col cut why left right) = stuck_count left + stuck_count right

-- the certificate of a leaf; an open node has the one without multipliers
abbrev pub cert_of : End → Cert
cert_of (ended c) = c
cert_of e = plain_cert

-- the tree without the reasons of its splits
abbrev pub tree_of : PlainOpen → PlainTree
tree_of t = relabelled cert_of no_label t

-- some element of a list is so
abbrev pub SomeOf : {A : Type 0} → (A → Type 0) → List A → Type 0
SomeOf P [] = ⊥
SomeOf P (x ∷ xs) = P x ⊎ SomeOf P xs
