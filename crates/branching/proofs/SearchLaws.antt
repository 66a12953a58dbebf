-- The box of a half is one that a search may come to, and the tree of a search that ended is a right outcome.
use Rattle.std.specs.Prelude.{◌≡◌, ℕ, ◌≤◌, ◌<◌, ◌==◌, Bool, true, false, ℤ, pos, ◌+ℤ◌, ◌≤ℤ◌, List, [], ◌∷◌, length, Option}
use Rattle.std.specs.Prelude.{Some, None, IfSome}
use Rattle.std.specs.Int.{int_min, int_max}
use Rattle.std.proofs.Common.{refl, arith, inl, inr, subst, sym, ap, ◌∙◌, set, length-set}
use Rattle.std.proofs.lemmas.Bool.{eqb-true, eqb-false}
use Rattle.std.proofs.lemmas.Grind.{get_or-set_at}
use Rattle.std.proofs.lemmas.Int.{ints, clamps}
use Rattle.std.proofs.lemmas.List.{get_or-set_other}
use Rattle.std.proofs.lemmas.List.{length-map}
use Rattle.ip_defs.specs.declared.programs.Column.{Column}
use Rattle.ip_defs.specs.declared.programs.Parts.{Parts}
use Rattle.ip_defs.specs.Boxes.{below, above}
use Rattle.ip_defs.specs.Limits.{IsArea, IsWithinLimits}
use Rattle.ip_defs.specs.Program.{box_of, high_at, low_at, IsFeasible}
use Rattle.ip_defs.proofs.BoxLaws.{below_area, above_area}
use Rattle.proof_tree.proofs.WithinLaws.{limits_are_exact}
use Rattle.proof_tree.proofs.LabelledTreeLaws.{places_counted, relabelled_count}
use Rattle.proof_tree.specs.LabelledTrees.{places_from, node_count, depth, splits_over, split_labels, no_label}
use Rattle.proof_tree.specs.Trees.{PlainTree, plain, bound_over, tree_limit, FitsModel}
use Rattle.proof_tree.specs.Verdicts.{AreProvedBy, HasLength}
use Rattle.proof_tree.specs.Within.{IsTreeWithin}
use Rattle.proof_tree.specs.declared.claims.Claim.{Claim}
use Rattle.proof_tree.specs.declared.claims.Proof.{Proof}
use Rattle.branching.specs.declared.budgets.Limits.{Limits}
use Rattle.branching.specs.declared.budgets.BudgetWhat.{BudgetWhat}
use Rattle.branching.specs.declared.budgets.BudgetWhat.TheVariants.{Nodes, Depth}
use Rattle.branching.specs.declared.outcomes.Outcome.{Outcome}
use Rattle.branching.specs.declared.outcomes.Outcome.TheVariants.{Best, Empty, Budget}
use Rattle.node_bounds.specs.declared.reasons.Why.{Why}
use Rattle.open_nodes.specs.OpenTrees.{PlainOpen, OpenPlace, places, cert_of, IsDone, tree_of}
use Rattle.branching.specs.Outcomes.{HasOneStuck, Pairwise, ClaimsPoint, IsFinished, IsRightOutcome, IsStopped, IsStuckNode}
use Rattle.open_nodes.specs.OpenTrees.{SomeOf}
use Rattle.branching.specs.Outcomes.{IsStuckAt}
use Rattle.branching.specs.Internal.Search.{Found, point_of, IsSound, Improves, IsAnswerOf}
use Rattle.node_bounds.specs.Areas.{IsPartOf, IsSearchArea}
use Rattle.node_bounds.specs.Nodes.{IsSplit}
use Rattle.branching.specs.Internal.Search.{IsGrown}
use Rattle.node_bounds.specs.Reasons.{IsReasoned}
use Rattle.branching.proofs.BoxSizeLaws.{cut_low, cut_high}
use Rattle.branching.proofs.FinishLaws.{IsNoWorse, done_closed, done_depth, done_fits, done_numbers, done_reasons}
use Rattle.branching.proofs.FinishLaws.{done_best}
use Rattle.branching.specs.BestFirst.{IsBestFirst, IsBestNode}
use Rattle.ip_defs.specs.Lists.{Each}

-- what was found, as points
pub no_worse : (m : Parts) (x y : Found) → IsSound m x → IsSound m y → Improves x y → IsNoWorse m (point_of x) (point_of y)
no_worse m None y p q h = tt
no_worse m (Some x) None p q h = absurd h
no_worse m (Some x) (Some y) p q h = rw (p.1, q.1) h

pub no_worse_self : (m : Parts) (x : Option (List ℤ)) → IsNoWorse m x x
no_worse_self m None = tt
no_worse_self m (Some x) = omega (arith, ints)

-- ---- the box of a half

-- a box with a narrower side for one column
part_cut : (b whole_box : List (ℤ × ℤ)) (j : ℕ) (lo hi : ℤ) → j < length b → low_at b j ≤ℤ lo → hi ≤ℤ high_at b j → IsPartOf b whole_box
    → IsPartOf (set b j (lo, hi)) whole_box
part_cut b whole_box j lo hi within from to' part = λ k l. by k (k == j) refl (omega (arith, length-set b j (lo, hi)))
  where
    by : (k : ℕ) (t : Bool) → (k == j) ≡ t → k < length b → (low_at whole_box k ≤ℤ low_at (set b j (lo, hi)) k)
        × (high_at (set b j (lo, hi)) k ≤ℤ high_at whole_box k)
    by k true e l =
        let same = eqb-true k j e in
        let is = get_or-set_at b j k (lo, hi) (pos 0, pos 0) same within in
        let old = part k l in
        rw (ap (λ (s : ℤ × ℤ). s.0) is, ap (λ (s : ℤ × ℤ). s.1) is, same)
        (let before = part j within in (omega (arith, ints), omega (arith, ints)))
    by k false e l =
        let is = get_or-set_other b j k (lo, hi) (pos 0, pos 0) (eqb-false k j e) in
        rw (ap (λ (s : ℤ × ℤ). s.0) is, ap (λ (s : ℤ × ℤ). s.1) is) (part k l)

-- so with the sides of a half
half_search : (m : Parts) (b : List (ℤ × ℤ)) (j : ℕ) (lo hi : ℤ) → IsSearchArea m b → j < length b → low_at b j ≤ℤ lo
    → hi ≤ℤ high_at b j → IsArea (length m.columns) (set b j (lo, hi)) → IsSearchArea m (set b j (lo, hi))
half_search m b j lo hi so within from to' area = record { area = area; part = part_cut b (box_of m) j lo hi within from to' so.part }

pub below_search : (m : Parts) (pivots : ℕ) (b : List (ℤ × ℤ)) (j : ℕ) (z : ℤ) (why : Why) → IsSplit m pivots b j z why → IsSearchArea m b
    → IsSearchArea m (below b j z)
below_search m pivots b j z why halved so =
    let proper = halved.reasoned.0 in
    half_search m b j (low_at b j) (int_min (high_at b j) z) so proper.col (omega (arith, ints)) (omega (arith, ints, clamps))
    (below_area (length m.columns) b j z proper.col (cut_low b j z proper) (cut_high b j z proper) so.area)

pub above_search : (m : Parts) (pivots : ℕ) (b : List (ℤ × ℤ)) (j : ℕ) (z : ℤ) (why : Why) → IsSplit m pivots b j z why → IsSearchArea m b
    → IsSearchArea m (above b j z)
above_search m pivots b j z why halved so =
    let proper = halved.reasoned.0 in
    half_search m b j (int_max (low_at b j) (z +ℤ pos 1)) (high_at b j) so proper.col (omega (arith, ints, clamps)) (omega (arith, ints))
    (above_area (length m.columns) b j z proper.col (cut_low b j z proper) (cut_high b j z proper) so.area)

-- ---- the whole search

some_stuck : (D : ℕ) (ps : List OpenPlace) → SomeOf (IsStuckAt D) ps → SomeOf (λ p. IsStuckNode p.node) ps
some_stuck D [] h = absurd h
some_stuck D (p ∷ ps) (inl h) = inl h.0
some_stuck D (p ∷ ps) (inr h) = inr (some_stuck D ps h)

sound_point : (m : Parts) (x : Found) → IsSound m x → IfSome (point_of x) (IsFeasible m)
sound_point m None h = tt
sound_point m (Some p) h = h.0

-- a search of the box that stopped
pub stop_is_right : (m : Parts) (l : Limits) (t : PlainOpen) (after : ℕ) (x : Found) (what : BudgetWhat)
    → IsGrown m l 0 (box_of m) 1 after None x t (Some what) → IsStopped m l what (places m t) (point_of x)
stop_is_right m l t after x Depth g = record {
  reasons = g.places.reasons;
  stuck = some_stuck l.depth (places_from 0 (box_of m) t) g.ends;
  nodes = (let p = g.places.count in let q = g.places.room in omega arith);
  deep = g.places.deep;
  cause = g.ends;
  point = sound_point m x g.sound;
  fits = g.places.fits;
  closed = g.places.closed;
}
stop_is_right m l t after x Nodes g = record {
  reasons = g.places.reasons;
  stuck = g.ends.0;
  nodes = (let p = g.places.count in let q = g.places.room in omega arith);
  deep = g.places.deep;
  cause = (g.ends.1, (let p = g.places.count in let q = g.ends.2 in omega arith));
  point = sound_point m x g.sound;
  fits = g.places.fits;
  closed = g.places.closed;
}

-- a search of the box that ended, as a proof
end_is_finished : (m : Parts) (l : Limits) (t : PlainOpen) (after : ℕ) (x : Found) (p : Proof) (whys : List Why) → IsWithinLimits m
    → l.nodes ≤ 1000000 → l.depth ≤ 800 → HasLength (length m.columns) p.claim → IsGrown m l 0 (box_of m) 1 after None x t None
    → plain p.tree ≡ tree_of t → whys ≡ split_labels t
    → AreProvedBy m p.claim (bound_over m (tree_of t) (box_of m)) → IsFinished m l p whys
end_is_finished m l t after x p whys limits few shallow sized g tree_is whys_is proved' =
    let listed = places_counted 0 (box_of m) t in
    let same = relabelled_count cert_of no_label t in
    let room : node_count (tree_of t) ≤ l.nodes = (let c = g.places.count in let r = g.places.room in omega arith) in
    let deep' : depth (tree_of t) ≤ l.depth = (let d = done_depth l.depth 0 (box_of m) t g.places.deep in omega arith) in
    let within : IsTreeWithin (tree_of t) =
    record { count = omega arith; deep = omega arith; numbers = done_numbers m limits 0 (box_of m) t g.ends g.places.fits } in
    let back = sym tree_is in
    record {
      proved = subst (λ (s : PlainTree). AreProvedBy m p.claim (bound_over m s (box_of m))) back proved';
      point = sized;
      fits = subst (FitsModel m) back (done_fits m 0 (box_of m) t g.ends g.places.fits);
      nodes = subst (λ (s : PlainTree). node_count s ≤ l.nodes) back room;
      deep = subst (λ (s : PlainTree). depth s ≤ l.depth) back deep';
      limits = subst (λ (s : PlainTree). tree_limit s ≡ None) back ((limits_are_exact (tree_of t)).1 within);
      reasons = subst (λ (s : PlainTree). Pairwise (IsReasoned m l.pivots) (splits_over (box_of m) s) whys) back
          (subst (Pairwise (IsReasoned m l.pivots) (splits_over (box_of m) (tree_of t))) (sym whys_is)
          (done_reasons m l.pivots 0 (box_of m) t g.ends g.places.reasons));
    }

pub end_is_right : (m : Parts) (l : Limits) (t : PlainOpen) (after : ℕ) (x : Found) (o : Outcome) → IsWithinLimits m → l.nodes ≤ 1000000
    → l.depth ≤ 800 → IsGrown m l 0 (box_of m) 1 after None x t None → IsAnswerOf t (point_of x) o → IsRightOutcome m l o
end_is_right m l t after None (Empty p whys) limits few shallow g made =
    let closed = done_closed m None 0 (box_of m) t g.ends g.places.closed in
    let sized = subst (HasLength (length m.columns)) (sym made.claim_is) tt in (
      made.claim_is,
      end_is_finished m l t after None p whys limits few shallow sized g made.tree_is made.reasons_are
          (subst (λ (c : Claim). AreProvedBy m c (bound_over m (tree_of t) (box_of m))) (sym made.claim_is) closed),
    )
end_is_right m l t after (Some y) (Best p whys) limits few shallow g made =
    let closed = done_closed m (Some y.0) 0 (box_of m) t g.ends g.places.closed in
    let claims : ClaimsPoint p.claim = subst ClaimsPoint (sym made.claim_is) tt in
    let length_is : length y.0 ≡ length m.columns = g.sound.0.within.size ∙ length-map m.columns (λ (c : Column). (c.lo, c.hi)) in
    let sized = subst (HasLength (length m.columns)) (sym made.claim_is) length_is in (
      claims,
      end_is_finished m l t after (Some y) p whys limits few shallow sized g made.tree_is made.reasons_are
          (subst (λ (c : Claim). AreProvedBy m c (bound_over m (tree_of t) (box_of m))) (sym made.claim_is) (g.sound.0, closed)),
    )
end_is_right m l t after None (Best p whys) limits few shallow g made = absurd made
end_is_right m l t after None (Budget what grown best) limits few shallow g made = absurd made
end_is_right m l t after (Some y) (Empty p whys) limits few shallow g made = absurd made
end_is_right m l t after (Some y) (Budget what grown best) limits few shallow g made = absurd made

-- an answer has no stuck node to count
pub answer_has_none : (t : PlainOpen) (best : Option (List ℤ)) (o : Outcome) → IsAnswerOf t best o → HasOneStuck o
answer_has_none t best (Best p whys) made = tt
answer_has_none t best (Empty p whys) made = tt
answer_has_none t None (Budget what grown b) made = absurd made
answer_has_none t (Some x) (Budget what grown b) made = absurd made

-- an answer by a tree whose splits bound all went best bound first
pub answer_first : (m : Parts) (t : PlainOpen) (best : Option (List ℤ)) (o : Outcome) → IsDone t
    → Each (λ p. IsBestNode m p.box p.node) (places m t) → IsAnswerOf t best o → IsBestFirst m o
answer_first m t None (Empty p whys) done h made = rw (made.tree_is, made.reasons_are) (done_best m 0 (box_of m) t done h)
answer_first m t (Some x) (Best p whys) done h made = rw (made.tree_is, made.reasons_are) (done_best m 0 (box_of m) t done h)
answer_first m t None (Best p whys) done h made = absurd made
answer_first m t None (Budget what grown b) done h made = absurd made
answer_first m t (Some x) (Empty p whys) done h made = absurd made
answer_first m t (Some x) (Budget what grown b) done h made = absurd made
