-- Binary trees with a label at each leaf and at each split: their counts and depths, their nodes in preorder, and their boxes.
use Rattle.std.specs.Prelude.{ℕ, suc, ◌+◌, max, List, [], ◌∷◌, ◌++◌, ℤ}
use Rattle.ip_defs.specs.Boxes.{below, above}

-- a tree with labels of type L at its leaves and of type S at its splits; a split has a column and a cut
pub data LabelledTree (L S : Type 0) : Type 0 where
  leaf : L → LabelledTree L S
  split : ℕ → ℤ → S → LabelledTree L S → LabelledTree L S → LabelledTree L S

-- ---- counts and depths

-- the number of nodes of a tree
abbrev pub node_count : {L S : Type 0} → LabelledTree L S → ℕ
node_count (leaf x) = 1
node_count (split col cut y left right) = suc (node_count left + node_count right)

-- the depth of the deepest node
abbrev pub depth : {L S : Type 0} → LabelledTree L S → ℕ
depth (leaf x) = 0
depth (split col cut y left right) = suc (max (depth left) (depth right))

-- ---- nodes in preorder

-- a node without its children
pub data LabelledNode (L S : Type 0) : Type 0 where
  leaf_node : L → LabelledNode L S
  split_node : ℕ → ℤ → S → LabelledNode L S

-- the nodes in preorder: each split before its left half, and that before its right half
abbrev pub nodes : {L S : Type 0} → LabelledTree L S → List (LabelledNode L S)
nodes (leaf x) = leaf_node x ∷ []
nodes (split col cut y left right) = split_node col cut y ∷ (nodes left ++ nodes right)

-- the nodes with their depths, given the depth of the root
abbrev pub nodes_from : {L S : Type 0} → ℕ → LabelledTree L S → List (ℕ × LabelledNode L S)
nodes_from d (leaf x) = (d, leaf_node x) ∷ []
nodes_from d (split col cut y left right) = (d, split_node col cut y) ∷ (nodes_from (d + 1) left ++ nodes_from (d + 1) right)

-- a node with its depth and its box
pub record Place (L S : Type 0) : Type 0 where
  pub depth : ℕ
  pub box : List (ℤ × ℤ)
  pub node : LabelledNode L S

abbrev pub place : {L S : Type 0} → ℕ → List (ℤ × ℤ) → LabelledNode L S → Place L S
place d b n = record { depth = d; box = b; node = n }

-- the nodes with their depths and boxes, given those of the root
abbrev pub places_from : {L S : Type 0} → ℕ → List (ℤ × ℤ) → LabelledTree L S → List (Place L S)
places_from d b (leaf x) = place d b (leaf_node x) ∷ []
places_from d b (split col cut y left right) =
    place d b (split_node col cut y) ∷ (places_from (d + 1) (below b col cut) left ++ places_from (d + 1) (above b col cut) right)

-- ---- leaves

-- the leaves with their boxes
abbrev pub leaves : {L S : Type 0} → LabelledTree L S → List (ℤ × ℤ) → List (List (ℤ × ℤ) × L)
leaves (leaf x) b = (b, x) ∷ []
leaves (split col cut y left right) b = leaves left (below b col cut) ++ leaves right (above b col cut)

-- ---- splits

-- a split of a box: in its left half the column is at most the cut, in its right half above it
pub record Split : Type 0 where
  pub box : List (ℤ × ℤ)
  pub col : ℕ
  pub cut : ℤ

abbrev pub split_at : List (ℤ × ℤ) → ℕ → ℤ → Split
split_at b j z = record { box = b; col = j; cut = z }

-- the splits of a tree over a box, in preorder
abbrev pub splits_over : {L S : Type 0} → List (ℤ × ℤ) → LabelledTree L S → List Split
splits_over b (leaf x) = []
splits_over b (split col cut y left right) =
    split_at b col cut ∷ (splits_over (below b col cut) left ++ splits_over (above b col cut) right)

-- the labels of the splits, in preorder
abbrev pub split_labels : {L S : Type 0} → LabelledTree L S → List S
split_labels (leaf x) = []
split_labels (split col cut y left right) = y ∷ (split_labels left ++ split_labels right)

-- ---- other labels

-- the same tree with other labels
abbrev pub relabelled : {L L' S S' : Type 0} → (L → L') → (S → S') → LabelledTree L S → LabelledTree L' S'
relabelled f g (leaf x) = leaf (f x)
relabelled f g (split col cut y left right) = split col cut (g y) (relabelled f g left) (relabelled f g right)

abbrev pub no_label : {S : Type 0} → S → Unit {0}
no_label y = tt
