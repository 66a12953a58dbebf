-- Labelled trees: how many nodes, leaves and splits there are, how deep they lie, and the same tree with other labels.
use Rattle.std.specs.Prelude.{◌≡◌, ℕ, ◌+◌, ◌*◌, ◌≤◌, ℤ, List, ◌∷◌, ◌++◌, length, map}
use Rattle.std.proofs.Common.{refl, arith, ap, ◌∙◌}
use Rattle.std.proofs.lemmas.List.{length-append, map-append}
use Rattle.ip_defs.proofs.ListLaws.{each_left, each_right, each_append}
use Rattle.ip_defs.specs.Boxes.{below, above}
use Rattle.ip_defs.specs.Lists.{Each}
use Rattle.proof_tree.specs.LabelledTrees.{LabelledTree, leaf, split, LabelledNode, split_node, Place, node_count, depth, nodes}
use Rattle.proof_tree.specs.LabelledTrees.{nodes_from, places_from, leaves, splits_over, split_labels, relabelled}

-- ---- nodes in preorder

-- the places of a tree are its nodes with more said of each
pub nodes_of_places : {L S : Type 0} (d : ℕ) (b : List (ℤ × ℤ)) (t : LabelledTree L S) → map (λ p. p.node) (places_from d b t) ≡ nodes t
nodes_of_places d b (leaf x) = refl
nodes_of_places {L} {S} d b (split col cut y left right) =
    let f : Place L S → LabelledNode L S = λ p. p.node in
    let ps = places_from (d + 1) (below b col cut) left in
    let qs = places_from (d + 1) (above b col cut) right in
    let first = nodes_of_places (d + 1) (below b col cut) left in
    let second = nodes_of_places (d + 1) (above b col cut) right in
    ap (λ ns. split_node col cut y ∷ ns) (map-append f ps qs ∙ ap (λ ns. ns ++ map f qs) first ∙ ap (λ ns. nodes left ++ ns) second)

-- ---- counts

-- the length of two lists together
lengths_joined : {A : Type 0} (xs ys : List A) (m n : ℕ) → length xs ≡ m → length ys ≡ n → length (xs ++ ys) ≡ m + n
lengths_joined xs ys m n first second = omega (arith, length-append xs ys)

-- each node stands once in the lists of nodes
pub nodes_counted : {L S : Type 0} (t : LabelledTree L S) → length (nodes t) ≡ node_count t
nodes_counted (leaf x) = refl
nodes_counted (split col cut y left right) =
    omega (arith, lengths_joined _ _ _ _ (nodes_counted left) (nodes_counted right))

pub nodes_from_counted : {L S : Type 0} (d : ℕ) (t : LabelledTree L S) → length (nodes_from d t) ≡ node_count t
nodes_from_counted d (leaf x) = refl
nodes_from_counted d (split col cut y left right) =
    omega (arith, lengths_joined _ _ _ _ (nodes_from_counted (d + 1) left) (nodes_from_counted (d + 1) right))

pub places_counted : {L S : Type 0} (d : ℕ) (b : List (ℤ × ℤ)) (t : LabelledTree L S) → length (places_from d b t) ≡ node_count t
places_counted d b (leaf x) = refl
places_counted d b (split col cut y left right) =
    omega (arith, lengths_joined _ _ _ _ (places_counted (d + 1) (below b col cut) left) (places_counted (d + 1) (above b col cut) right))

-- a tree has one more leaf than splits
pub leaves_counted : {L S : Type 0} (b : List (ℤ × ℤ)) (t : LabelledTree L S) → 2 * length (leaves t b) ≡ node_count t + 1
leaves_counted b (leaf x) = refl
leaves_counted b (split col cut y left right) =
    let all = length-append (leaves left (below b col cut)) (leaves right (above b col cut)) in
    omega (arith, all, leaves_counted (below b col cut) left, leaves_counted (above b col cut) right)

pub labels_counted : {L S : Type 0} (t : LabelledTree L S) → 2 * length (split_labels t) + 1 ≡ node_count t
labels_counted (leaf x) = refl
labels_counted (split col cut y left right) =
    omega (arith, labels_counted left, labels_counted right, length-append (split_labels left) (split_labels right))

pub splits_counted : {L S : Type 0} (b : List (ℤ × ℤ)) (t : LabelledTree L S) → 2 * length (splits_over b t) + 1 ≡ node_count t
splits_counted b (leaf x) = refl
splits_counted b (split col cut y left right) =
    omega (
      arith,
      splits_counted (below b col cut) left,
      splits_counted (above b col cut) right,
      length-append (splits_over (below b col cut) left) (splits_over (above b col cut) right),
    )

-- ---- depths

-- no node lies deeper than the depth of its tree
pub shallow : {L S : Type 0} (k d : ℕ) (t : LabelledTree L S) → d + depth t ≤ k → Each (λ n. n.0 ≤ k) (nodes_from d t)
shallow k d (leaf x) h = (omega arith, tt)
shallow k d (split col cut y left right) h = (
  omega arith,
  each_append _ (nodes_from (d + 1) left) (nodes_from (d + 1) right) (shallow k (d + 1) left (omega arith))
      (shallow k (d + 1) right (omega arith)),
)

-- and one lies as deep
pub deepest : {L S : Type 0} (k d : ℕ) (t : LabelledTree L S) → Each (λ n. n.0 ≤ k) (nodes_from d t) → d + depth t ≤ k
deepest k d (leaf x) h = let l = h.0 in omega arith
deepest k d (split col cut y left right) h =
    let first = deepest k (d + 1) left (each_left _ (nodes_from (d + 1) left) (nodes_from (d + 1) right) h.1) in
    let second = deepest k (d + 1) right (each_right _ (nodes_from (d + 1) left) (nodes_from (d + 1) right) h.1) in
    omega arith

pub deepest_place : {L S : Type 0} (k d : ℕ) (b : List (ℤ × ℤ)) (t : LabelledTree L S) → Each (λ p. p.depth ≤ k) (places_from d b t)
    → d + depth t ≤ k
deepest_place k d b (leaf x) h = let l = h.0 in omega arith
deepest_place k d b (split col cut y left right) h =
    let ps = places_from (d + 1) (below b col cut) left in
    let qs = places_from (d + 1) (above b col cut) right in
    let first = deepest_place k (d + 1) (below b col cut) left (each_left _ ps qs h.1) in
    let second = deepest_place k (d + 1) (above b col cut) right (each_right _ ps qs h.1) in
    omega arith

-- ---- other labels

module _ {L L' S S' : Type 0} (f : L → L') (g : S → S') where
  pub relabelled_count : (t : LabelledTree L S) → node_count (relabelled f g t) ≡ node_count t
  relabelled_count (leaf x) = refl
  relabelled_count (split col cut y left right) =
      omega (arith, relabelled_count left, relabelled_count right)

  pub relabelled_depth : (t : LabelledTree L S) → depth (relabelled f g t) ≡ depth t
  relabelled_depth (leaf x) = refl
  relabelled_depth (split col cut y left right) =
      omega (arith, relabelled_depth left, relabelled_depth right)

  pub relabelled_splits : (b : List (ℤ × ℤ)) (t : LabelledTree L S) → splits_over b (relabelled f g t) ≡ splits_over b t
  relabelled_splits b (leaf x) = refl
  relabelled_splits b (split col cut y left right) =
      let first = relabelled_splits (below b col cut) left in
      let second = relabelled_splits (above b col cut) right in
      cc
