-- A grown tree without open nodes is a proof, and what is closed stays closed.
use Rattle.std.specs.Prelude.{ℕ, ◌+◌, ◌≤◌, ℤ, ◌≤ℤ◌, List, [], ◌∷◌, length, Option, Some, None}
use Rattle.std.proofs.Common.{arith, ap, sym, ◌∙◌, subst}
use Rattle.std.proofs.lemmas.Int.{ints, clamps}
use Rattle.ip_defs.specs.declared.certificates.Bound.{Bound}
use Rattle.ip_defs.specs.declared.certificates.Bound.TheVariants.{At, Infinite}
use Rattle.ip_defs.specs.declared.programs.Parts.{Parts}
use Rattle.ip_defs.specs.Boxes.{below, above}
use Rattle.ip_defs.specs.Certificates.{leaf_bound}
use Rattle.ip_defs.specs.declared.certificates.Cert.{Cert}
use Rattle.ip_defs.specs.Limits.{IsCert, IsWithinLimits}
use Rattle.ip_defs.specs.Program.{cost}
use Rattle.proof_tree.proofs.TreeLaws.{bound_split, bound_min-infinite}
use Rattle.proof_tree.proofs.LabelledTreeLaws.{deepest_place, relabelled_depth}
use Rattle.proof_tree.specs.LabelledTrees.{leaf, split, leaf_node, split_node, depth, places_from, splits_over, split_at, split_labels}
use Rattle.proof_tree.specs.LabelledTrees.{no_label, Split}
use Rattle.node_bounds.specs.declared.reasons.Why.{Why}
use Rattle.branching.specs.BestFirst.{BoundsAllAt, IsBestNode}
use Rattle.proof_tree.specs.Trees.{bound_min, bound_over, FitsColumns, FitsRows, FitsModel}
use Rattle.proof_tree.specs.Verdicts.{IsAtLeast}
use Rattle.proof_tree.specs.Within.{AreNumbersWithin}
use Rattle.open_nodes.specs.OpenTrees.{PlainOpen, pending, stuck, ended, OpenNode, OpenPlace, cert_of, IsDone, tree_of}
use Rattle.branching.specs.Outcomes.{Pairwise, HasReason, IsClosedBy, IsClosedNode, FitsNode}
use Rattle.node_bounds.specs.Reasons.{IsReasoned}
use Rattle.branching.proofs.OutcomeLaws.{pair_join}
use Rattle.ip_defs.proofs.ListLaws.{each_left, each_right}
use Rattle.ip_defs.specs.Lists.{Each}

-- a certificate for the rows of a program is within the limits of trees
cert_within : (m : Parts) (c : Cert) → IsWithinLimits m → IsCert (length m.rows) c → IsCert 1024 c
cert_within m c limits ok = record {
  not_negative = ok.not_negative;
  divisor = ok.divisor;
  ordered = record {
    rising = ok.ordered.rising;
    within = λ i p. let row = ok.ordered.within i p in omega (arith, row, limits.row_count);
    present = ok.ordered.present;
  };
  multipliers = ok.multipliers;
}

pub done_depth : (k d : ℕ) (b : List (ℤ × ℤ)) (t : PlainOpen) → Each (λ p. p.depth ≤ k) (places_from d b t) → d + depth (tree_of t) ≤ k
done_depth k d b t h = let deep = deepest_place k d b t h in omega (arith, relabelled_depth cert_of no_label t)

module _ (m : Parts) where
  done_columns : (d : ℕ) (b : List (ℤ × ℤ)) (t : PlainOpen) → IsDone t → Each (λ p. FitsNode m p.node) (places_from d b t)
      → FitsColumns (length m.columns) (tree_of t)
  done_columns d b (leaf pending) done h = absurd done
  done_columns d b (leaf (stuck why)) done h = absurd done
  done_columns d b (leaf (ended c)) done h = tt
  done_columns d b (split col cut why left right) done h =
      let ps = places_from (d + 1) (below b col cut) left in
      let qs = places_from (d + 1) (above b col cut) right in
      let first = done_columns (d + 1) (below b col cut) left done.0 (each_left _ ps qs h.1) in
      let second = done_columns (d + 1) (above b col cut) right done.1 (each_right _ ps qs h.1) in
      (h.0.0, first, second)

  done_rows : (d : ℕ) (b : List (ℤ × ℤ)) (t : PlainOpen) → IsDone t → Each (λ p. FitsNode m p.node) (places_from d b t)
      → FitsRows (length m.rows) (tree_of t)
  done_rows d b (leaf pending) done h = absurd done
  done_rows d b (leaf (stuck why)) done h = absurd done
  done_rows d b (leaf (ended c)) done h = h.0.ordered.within
  done_rows d b (split col cut why left right) done h =
      let ps = places_from (d + 1) (below b col cut) left in
      let qs = places_from (d + 1) (above b col cut) right in
      let first = done_rows (d + 1) (below b col cut) left done.0 (each_left _ ps qs h.1) in
      let second = done_rows (d + 1) (above b col cut) right done.1 (each_right _ ps qs h.1) in
      (first, second)

  -- a tree whose nodes fit the program does
  pub done_fits : (d : ℕ) (b : List (ℤ × ℤ)) (t : PlainOpen) → IsDone t → Each (λ p. FitsNode m p.node) (places_from d b t)
      → FitsModel m (tree_of t)
  done_fits d b t done h = record { columns = done_columns d b t done h; rows = done_rows d b t done h }

  -- and its numbers are within the limits of trees
  pub done_numbers : IsWithinLimits m → (d : ℕ) (b : List (ℤ × ℤ)) (t : PlainOpen) → IsDone t
      → Each (λ p. FitsNode m p.node) (places_from d b t) → AreNumbersWithin (tree_of t)
  done_numbers limits d b (leaf pending) done h = absurd done
  done_numbers limits d b (leaf (stuck why)) done h = absurd done
  done_numbers limits d b (leaf (ended c)) done h = cert_within m c limits h.0
  done_numbers limits d b (split col cut why left right) done h =
      let ps = places_from (d + 1) (below b col cut) left in
      let qs = places_from (d + 1) (above b col cut) right in
      let first = done_numbers limits (d + 1) (below b col cut) left done.0 (each_left _ ps qs h.1) in
      let second = done_numbers limits (d + 1) (above b col cut) right done.1 (each_right _ ps qs h.1) in
      (omega (arith, h.0.0, limits.column_count), h.0.1, first, second)

both_closed : (m : Parts) (x : Option (List ℤ)) (u v : Bound) → IsClosedBy m x u → IsClosedBy m x v → IsClosedBy m x (bound_min u v)
both_closed m None u v p q = ap (λ w. bound_min w v) p ∙ q
both_closed m (Some x) (At u) (At v) p q = omega (arith, ints, clamps)
both_closed m (Some x) (At u) Infinite p q = p
both_closed m (Some x) Infinite v p q = q

pub done_closed : (m : Parts) (x : Option (List ℤ)) (d : ℕ) (b : List (ℤ × ℤ)) (t : PlainOpen) → IsDone t
    → Each (λ p. IsClosedNode m x p.box p.node) (places_from d b t) → IsClosedBy m x (bound_over m (tree_of t) b)
done_closed m x d b (leaf pending) done h = absurd done
done_closed m x d b (leaf (stuck why)) done h = absurd done
done_closed m x d b (leaf (ended c)) done h = subst (IsClosedBy m x) (sym (bound_min-infinite (leaf_bound m b c))) h.0
done_closed m x d b (split col cut why left right) done h =
    let ps = places_from (d + 1) (below b col cut) left in
    let qs = places_from (d + 1) (above b col cut) right in
    let first = done_closed m x (d + 1) (below b col cut) left done.0 (each_left _ ps qs h.1) in
    let second = done_closed m x (d + 1) (above b col cut) right done.1 (each_right _ ps qs h.1) in
    let both = both_closed m x (bound_over m (tree_of left) (below b col cut)) (bound_over m (tree_of right) (above b col cut)) first
    second in
    subst (IsClosedBy m x) (sym (bound_split m b col cut (tree_of left) (tree_of right))) both

-- what is right of each split node, as a relation of the splits and their reasons
pub done_pairs : (m : Parts) (N : List (ℤ × ℤ) → OpenNode → Type 0) (R : Split → Why → Type 0)
    → ((b : List (ℤ × ℤ)) (col : ℕ) (cut : ℤ) (why : Why) → N b (split_node col cut why) → R (split_at b col cut) why)
    → (d : ℕ) (b : List (ℤ × ℤ)) (t : PlainOpen) → IsDone t → Each (λ p. N p.box p.node) (places_from d b t)
    → Pairwise R (splits_over b (tree_of t)) (split_labels t)
done_pairs m N R own d b (leaf pending) done h = absurd done
done_pairs m N R own d b (leaf (stuck why)) done h = absurd done
done_pairs m N R own d b (leaf (ended c)) done h = tt
done_pairs m N R own d b (split col cut why left right) done h =
    let ps = places_from (d + 1) (below b col cut) left in
    let qs = places_from (d + 1) (above b col cut) right in
    let first = done_pairs m N R own (d + 1) (below b col cut) left done.0 (each_left _ ps qs h.1) in
    let second = done_pairs m N R own (d + 1) (above b col cut) right done.1 (each_right _ ps qs h.1) in
    let xs = splits_over (below b col cut) (tree_of left) in
    let ys = splits_over (above b col cut) (tree_of right) in
    (own b col cut why h.0, pair_join R xs ys (split_labels left) (split_labels right) first second)

pub done_reasons : (m : Parts) (pivots d : ℕ) (b : List (ℤ × ℤ)) (t : PlainOpen) → IsDone t
    → Each (λ p. HasReason m pivots p.box p.node) (places_from d b t)
    → Pairwise (IsReasoned m pivots) (splits_over b (tree_of t)) (split_labels t)
done_reasons m pivots d b t done h = done_pairs m (HasReason m pivots) (IsReasoned m pivots) (λ b col cut why own. own) d b t done h

-- the bounds of the splits of a search that went best bound first
pub done_best : (m : Parts) (d : ℕ) (b : List (ℤ × ℤ)) (t : PlainOpen) → IsDone t
    → Each (λ p. IsBestNode m p.box p.node) (places_from d b t) → Pairwise (BoundsAllAt m) (splits_over b (tree_of t)) (split_labels t)
done_best m d b t done h = done_pairs m (IsBestNode m) (BoundsAllAt m) (λ b col cut why own. own) d b t done h

-- ---- later points

-- a later best point costs no more
abbrev pub IsNoWorse : Parts → Option (List ℤ) → Option (List ℤ) → Type 0
IsNoWorse m None later = Unit {0}
IsNoWorse m (Some x) None = ⊥
IsNoWorse m (Some x) (Some y) = cost m y ≤ℤ cost m x

pub closed_by_later : (m : Parts) (x y : Option (List ℤ)) (v : Bound) → IsNoWorse m x y → IsClosedBy m x v → IsClosedBy m y v
closed_by_later m None None v w h = h
closed_by_later m None (Some y) v w h = subst (λ (u : Bound). IsAtLeast u (cost m y)) (sym h) tt
closed_by_later m (Some x) None v w h = absurd w
closed_by_later m (Some x) (Some y) Infinite w h = tt
closed_by_later m (Some x) (Some y) (At v) w h = omega (arith, ints)

node_later : (m : Parts) (x y : Option (List ℤ)) (b : List (ℤ × ℤ)) (n : OpenNode) → IsNoWorse m x y → IsClosedNode m x b n
    → IsClosedNode m y b n
node_later m x y b (leaf_node pending) w h = tt
node_later m x y b (leaf_node (stuck why)) w h = tt
node_later m x y b (leaf_node (ended c)) w h = closed_by_later m x y (leaf_bound m b c) w h
node_later m x y b (split_node col cut why) w h = tt

-- what is closed stays closed, when a better point is found
pub closed_stays : (m : Parts) (x y : Option (List ℤ)) (ps : List OpenPlace) → IsNoWorse m x y
    → Each (λ p. IsClosedNode m x p.box p.node) ps → Each (λ p. IsClosedNode m y p.box p.node) ps
closed_stays m x y [] w h = tt
closed_stays m x y (p ∷ ps) w h = (node_later m x y p.box p.node w h.0, closed_stays m x y ps w h.1)
