-- A right outcome is no stop, where the limits are ample: a stuck node has a proper split, so that the tree with that split would still
-- be a tree of proper splits.
use Rattle.std.specs.Prelude.{◌≡◌, ℕ, ◌+◌, ◌<◌, ◌≤◌, ℤ, List, Option, length}
use Rattle.std.proofs.Common.{arith, inl, inr}
use Rattle.std.proofs.lemmas.List.{length-append}
use Rattle.ip_defs.specs.declared.programs.Parts.{Parts}
use Rattle.ip_defs.specs.Boxes.{IsOpen, below, above, width}
use Rattle.ip_defs.specs.Program.{box_of}
use Rattle.proof_tree.proofs.LabelledTreeLaws.{places_counted, leaves_counted}
use Rattle.proof_tree.specs.LabelledTrees.{leaf, split, places_from, leaves}
use Rattle.branching.specs.declared.budgets.Limits.{Limits}
use Rattle.branching.specs.declared.budgets.BudgetWhat.{BudgetWhat}
use Rattle.branching.specs.declared.budgets.BudgetWhat.TheVariants.{Nodes, Depth}
use Rattle.branching.specs.declared.outcomes.Outcome.TheVariants.{Best, Empty, Budget}
use Rattle.open_nodes.specs.OpenTrees.{PlainOpen, pending, stuck, ended, plain_open, places, stuck_count}
use Rattle.branching.specs.Outcomes.{HasReason, IsStuckNode, IsStuckAt, IsStopped}
use Rattle.open_nodes.specs.OpenTrees.{SomeOf}
use Rattle.branching.specs.Sizes.{point_count, AreAmple, SearchesEnd}
use Rattle.node_bounds.specs.Reasons.{IsStuckFor}
use Rattle.branching.proofs.OutcomeLaws.{some_of_parts}
use Rattle.branching.proofs.BoxSizeLaws.{proper_open, points_split, has_point, below_narrower, above_narrower, width_of}
use Rattle.ip_defs.proofs.ListLaws.{each_left, each_right}
use Rattle.ip_defs.specs.Lists.{Each}

-- a tree with a stuck node counts it
stuck_counted : (d : ℕ) (b : List (ℤ × ℤ)) (t : PlainOpen) → SomeOf (λ p. IsStuckNode p.node) (places_from d b t) → 1 ≤ stuck_count t
stuck_counted d b (leaf pending) (inl h) = absurd h
stuck_counted d b (leaf pending) (inr h) = absurd h
stuck_counted d b (leaf (stuck why)) h = omega arith
stuck_counted d b (leaf (ended c)) (inl h) = absurd h
stuck_counted d b (leaf (ended c)) (inr h) = absurd h
stuck_counted d b (split col cut why left right) (inl h) = absurd h
stuck_counted d b (split col cut why left right) (inr h) =
    let ps = places_from (d + 1) (below b col cut) left in
    let qs = places_from (d + 1) (above b col cut) right in
    some_of_parts _ ps qs h
    (λ q. let p = stuck_counted (d + 1) (below b col cut) left q in omega arith)
    (λ q. let p = stuck_counted (d + 1) (above b col cut) right q in omega arith)

module _ (m : Parts) (pivots : ℕ) where
  -- at most as many leaves as points, where each stuck node counts as split
  ends_small : (d : ℕ) (b : List (ℤ × ℤ)) (t : PlainOpen) → IsOpen b → Each (λ p. HasReason m pivots p.box p.node) (places_from d b t)
      → length (leaves t b) + stuck_count t ≤ point_count b
  ends_small d b (leaf pending) has h = has_point b has
  ends_small d b (leaf (ended c)) has h = has_point b has
  ends_small d b (leaf (stuck why)) has h =
      let s : IsStuckFor m pivots b why = h.0 in
      let proper = s.reasoned.0 in
      let sum = points_split b s.col s.cut proper in
      let left = has_point (below b s.col s.cut) proper.left in
      let right = has_point (above b s.col s.cut) proper.right in
      omega arith
  ends_small d b (split col cut why left right) has h =
      let ps = places_from (d + 1) (below b col cut) left in
      let qs = places_from (d + 1) (above b col cut) right in
      let proper = h.0.0 in
      let sum = points_split b col cut proper in
      let first = ends_small (d + 1) (below b col cut) left proper.left (each_left _ ps qs h.1) in
      let second = ends_small (d + 1) (above b col cut) right proper.right (each_right _ ps qs h.1) in
      let both = length-append (leaves left (below b col cut)) (leaves right (above b col cut)) in
      omega arith

  -- a box with a stuck node has a point
  open_of : (d : ℕ) (b : List (ℤ × ℤ)) (t : PlainOpen) → SomeOf (λ p. IsStuckNode p.node) (places_from d b t)
      → Each (λ p. HasReason m pivots p.box p.node) (places_from d b t) → IsOpen b
  open_of d b (leaf pending) (inl s) h = absurd s
  open_of d b (leaf pending) (inr s) h = absurd s
  open_of d b (leaf (ended c)) (inl s) h = absurd s
  open_of d b (leaf (ended c)) (inr s) h = absurd s
  open_of d b (leaf (stuck why)) s h = let r : IsStuckFor m pivots b why = h.0 in proper_open b r.col r.cut r.reasoned.0
  open_of d b (split col cut why left right) s h = proper_open b col cut h.0.0

  -- a stuck node is less deep than the box is wide
  stuck_depth : (D d : ℕ) (b : List (ℤ × ℤ)) (t : PlainOpen) → SomeOf (IsStuckAt D) (places_from d b t)
      → Each (λ p. HasReason m pivots p.box p.node) (places_from d b t) → D + 1 ≤ d + width b
  stuck_depth D d b (leaf pending) (inl s) h = absurd s.0
  stuck_depth D d b (leaf pending) (inr s) h = absurd s
  stuck_depth D d b (leaf (ended c)) (inl s) h = absurd s.0
  stuck_depth D d b (leaf (ended c)) (inr s) h = absurd s
  stuck_depth D d b (leaf (stuck why)) (inr s) h = absurd s
  stuck_depth D d b (leaf (stuck why)) (inl s) h =
      let r : IsStuckFor m pivots b why = h.0 in
      let is : d ≡ D = s.1 in
      let falls = below_narrower b r.col r.cut r.reasoned.0 in
      omega arith
  stuck_depth D d b (split col cut why left right) (inl s) h = absurd s.0
  stuck_depth D d b (split col cut why left right) (inr s) h =
      let ps = places_from (d + 1) (below b col cut) left in
      let qs = places_from (d + 1) (above b col cut) right in
      let first = below_narrower b col cut h.0.0 in
      let second = above_narrower b col cut h.0.0 in
      some_of_parts (IsStuckAt D) ps qs s
      (λ q. let p = stuck_depth D (d + 1) (below b col cut) left q (each_left _ ps qs h.1) in omega arith)
      (λ q. let p = stuck_depth D (d + 1) (above b col cut) right q (each_right _ ps qs h.1) in omega arith)

module _ (m : Parts) where
  no_stop : (l : Limits) (what : BudgetWhat) (t : PlainOpen) (best : Option (List ℤ)) → IsStopped m l what (places m t) best → AreAmple m l
      → ⊥
  no_stop l Nodes t best right ample =
      let open' = open_of m l.pivots 0 (box_of m) t right.stuck right.reasons in
      let small = ends_small m l.pivots 0 (box_of m) t open' right.reasons in
      let some = stuck_counted 0 (box_of m) t right.stuck in
      let size = leaves_counted (box_of m) t in
      let same = places_counted 0 (box_of m) t in
      let over : l.nodes < length (places_from 0 (box_of m) t) + 2 = right.cause.1 in
      let room = ample.nodes in
      omega arith
  no_stop l Depth t best right ample =
      let open' = open_of m l.pivots 0 (box_of m) t right.stuck right.reasons in
      let far = stuck_depth m l.pivots l.depth 0 (box_of m) t right.cause right.reasons in
      let is = width_of m open' in
      let room = ample.depth in
      omega arith

pub searches_end : SearchesEnd
searches_end m l (Best p whys) right ample = tt
searches_end m l (Empty p whys) right ample = tt
searches_end m l (Budget what grown best) right ample = no_stop m l what (plain_open grown) best right ample
