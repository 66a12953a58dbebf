-- The good changes at a place are a run without gaps.
use Rattle.std.specs.Prelude.{◌≡◌, ℕ, zero, suc, ◌+◌, ◌<◌, ◌≤◌, Bool, true, false, List, [], ◌∷◌, length, All, Option, Some, None, IfSome}
use Rattle.std.specs.Prelude.{slice_index_or, ℤ, pos, negsuc, ◌+ℤ◌, ◌-ℤ◌, ◌≤ℤ◌, ◌<ℤ◌}
use Rattle.std.specs.Int.Signed.{lt_z}
use Rattle.std.specs.Int.RustNames.{unsigned_abs}
use Rattle.std.proofs.Common.{arith, refl, sym, ◌∙◌, subst}
use Rattle.std.proofs.lemmas.Int.{ints}
use Rattle.ip_defs.specs.Program.{row_sum, Meets, box_of, IsIn, IsFeasible, cost}
use Rattle.ip_defs.specs.Certificates.{IsAtMost}
use Rattle.ip_defs.specs.declared.certificates.Bound.{Bound}
use Rattle.ip_defs.specs.declared.certificates.Bound.TheVariants.{At, Infinite}
use Rattle.ip_defs.specs.declared.programs.Row.{Row}
use Rattle.ip_defs.specs.declared.programs.Parts.{Parts}
use Rattle.proof_tree.specs.Trees.{PlainTree, bound_over, tree_bound, FitsColumns}
use Rattle.proof_tree.proofs.TreeLaws.{trees_bound}
use Rattle.ip_model.proofs.ChangeLaws.{length_changed}
use Rattle.ip_model.specs.declared.places.Place.{Place}
use Rattle.ip_model.specs.declared.places.Place.TheVariants.{Cost, Low, High, Coef, Lower, Upper}
use Rattle.ip_model.specs.Places.{changed_at, with_cost, with_lower, with_upper, with_coef, raised, number_of, limit_of}
use Rattle.proof_tree.specs.Verdicts.{IsAtLeast}
use Rattle.range_laws.specs.Ranges.{PlainAim, keep, stay_best, HasPoint, due, IsGoodChange, IsRun}
use Rattle.range_laws.specs.Widening.{IsWider}
use Rattle.range_laws.specs.Laws.{GoodChangesAreRuns, NoneIsGoodBeyond, EndsAreRanges, RangesAreUnique, Holds, GoodChangesHold}
use Rattle.range_laws.proofs.ConcaveLaws.{Linear, linear_steps, concave_past, linear_is_concave}
use Rattle.range_laws.proofs.ReachLaws.{tree_between}
use Rattle.range_laws.proofs.WideningLaws.{widening_lowers_bounds, wider_cost, widening_keeps_points}
use Rattle.leaf_cert.specs.Changes.{IsWithinLimit}
use Rattle.leaf_cert.proofs.RaisedNumbers.{plus, raised_coefs}
use Rattle.proof_tree.proofs.ChangedBoxes.{cost_box}
use Rattle.range_laws.proofs.RaisedLaws.{low_narrows, high_widens, lower_narrows, upper_widens}
use Rattle.range_laws.proofs.RaisedLaws.{cost_between, cost_fixed, cost_at_linear, coef_between, coef_fixed, row_linear}

-- an aim asks the same of the bounds of a wider program, and its point stays feasible
pub wider_due : (g : PlainAim) (m n : Parts) → IsWider m n → due g m ≡ due g n
wider_due (keep w) m n wider = refl
wider_due (stay_best x) m n wider = wider_cost m n x wider

narrower_bound : (g : PlainAim) (m n : Parts) (t : PlainTree) → IsWider m n → IsAtLeast (tree_bound n t) (due g n)
    → IsAtLeast (tree_bound m t) (due g m)
narrower_bound g m n t wider h = rw (wider_due g m n wider) (widening_lowers_bounds m n t (due g n) wider h)

wider_point : (g : PlainAim) (m n : Parts) → IsWider m n → HasPoint g m → HasPoint g n
wider_point (keep w) m n wider h = tt
wider_point (stay_best x) m n wider h = widening_keeps_points m n x wider h

-- one element changed in three ways
changed_between : {A : Type 0} (P : A → Type 0) (f g h : A → A) → ((x : A) → P (f x) → P (h x) → P (g x)) → (xs : List A) (i : ℕ)
    → All P (changed_at f i xs) → All P (changed_at h i xs) → All P (changed_at g i xs)
changed_between P f g h each [] i first last = first
changed_between P f g h each (x ∷ xs) zero first last = λ k d l. by k d l
  where
    by : (k : ℕ) → (d : _) → k < suc (length xs) → P (slice_index_or (g x ∷ xs) k d)
    by zero d l = each x (first 0 d (omega arith)) (last 0 d (omega arith))
    by (suc k) d l = first (suc k) d l
changed_between P f g h each (x ∷ xs) (suc i) first last = by (changed_between P f g h each xs i (λ k d l. first (suc k) d (omega arith))
    (λ k d l. last (suc k) d (omega arith)))
  where
    by : All P (changed_at g i xs) → (k : ℕ) → (d : _) → k < suc (length (changed_at g i xs))
        → P (slice_index_or (x ∷ changed_at g i xs) k d)
    by rest zero d l = first 0 d (omega arith)
    by rest (suc k) d l = rest k d (omega arith)

module _ (p r : ℕ) (a b c : ℤ) (some : 0 < p + r) (steps : Linear p r a b c) where
  -- the value of a row is linear, so a side that it keeps at both ends it keeps between
  coef_meets : (j : ℕ) (x : List ℤ) (s : Row) → Meets x (with_coef j (plus a) s) → Meets x (with_coef j (plus c) s)
      → Meets x (with_coef j (plus b) s)
  coef_meets j x s first last = record { low = low s.low first.low last.low; high = high s.high first.high last.high }
    where
      F : ℤ → ℤ
      F e = row_sum (raised_coefs j e s.coefs) x

      lev : Linear p r (F a) (F b) (F c)
      lev = row_linear p r a b c steps j s.coefs x

      low : (o : Option ℤ) → IfSome o (λ side. side ≤ℤ F a) → IfSome o (λ side. side ≤ℤ F c) → IfSome o (λ side. side ≤ℤ F b)
      low None h g = h
      low (Some z) h g = concave_past p r (F a) (F b) (F c) z z z some (linear_is_concave p r (F a) (F b) (F c) lev) refl h g

      high : (o : Option ℤ) → IfSome o (λ side. F a ≤ℤ side) → IfSome o (λ side. F c ≤ℤ side) → IfSome o (λ side. F b ≤ℤ side)
      high None h g = h
      high (Some z) h g = concave_past p r z z z (F a) (F b) (F c) some (linear_is_concave p r z z z refl) lev h g

  cost_bound : (m : Parts) (t : PlainTree) (j : ℕ) (u v w : ℤ) → Linear p r u v w → IsAtLeast (tree_bound (raised m (Cost j) a) t) u
      → IsAtLeast (tree_bound (raised m (Cost j) c) t) w → IsAtLeast (tree_bound (raised m (Cost j) b) t) v
  cost_bound m t j u v w lev first last =
      let M : ℤ → Parts = λ e. raised m (Cost j) e in
      let at_box : (e z : ℤ) → IsAtLeast (bound_over (M e) t (box_of (M e))) z
      → IsAtLeast (bound_over (M e) t (box_of m)) z = λ e z h. subst (λ (d : List (ℤ × ℤ)). IsAtLeast (bound_over (M e) t d) z)
      (cost_box m j e) h in
      subst (λ (d : List (ℤ × ℤ)). IsAtLeast (bound_over (M b) t d) v) (sym (cost_box m j b))
      (tree_between p r (M a) (M b) (M c) some (cost_between p r a b c steps m j) u v w lev (cost_fixed p r a b c steps m j u v w) t
      (box_of m) (at_box a u first) (at_box c w last))

  coef_bound : (m : Parts) (t : PlainTree) (i j : ℕ) (w : ℤ) → IsAtLeast (tree_bound (raised m (Coef i j) a) t) w
      → IsAtLeast (tree_bound (raised m (Coef i j) c) t) w → IsAtLeast (tree_bound (raised m (Coef i j) b) t) w
  coef_bound m t i j w first last =
      let M : ℤ → Parts = λ e. raised m (Coef i j) e in
      tree_between p r (M a) (M b) (M c) some (coef_between p r a b c steps m i j) w w w refl (coef_fixed p r a b c steps m i j w) t
      (box_of m) first last

  cost_good : (m : Parts) (t : PlainTree) (j : ℕ) (g : PlainAim) → IsGoodChange m t (Cost j) g a → IsGoodChange m t (Cost j) g c
      → IsWithinLimit m (Cost j) b → IsGoodChange m t (Cost j) g b
  cost_good m t j (keep w) first last within = record {
    within = within;
    point = tt;
    bound = cost_bound m t j w w w refl first.bound
        last.bound;
  }
  cost_good m t j (stay_best x) first last within = record {
    within = within;
    point = record {
      within = subst (λ (d : List (ℤ × ℤ)). IsIn d x) (cost_box m j a ∙ sym (cost_box m j b)) first.point.within;
      rows = first.point.rows;
    };
    bound = cost_bound m t j (cost (raised m (Cost j) a) x) (cost (raised m (Cost j) b) x) (cost (raised m (Cost j) c) x)
        (cost_at_linear p r a b c steps m j x) first.bound last.bound;
  }

  coef_good : (m : Parts) (t : PlainTree) (i j : ℕ) (g : PlainAim) → IsGoodChange m t (Coef i j) g a → IsGoodChange m t (Coef i j) g c
      → IsWithinLimit m (Coef i j) b → IsGoodChange m t (Coef i j) g b
  coef_good m t i j (keep w) first last within = record { within = within; point = tt; bound = coef_bound m t i j w first.bound last.bound }
  coef_good m t i j (stay_best x) first last within = record {
    within = within;
    point = record {
      within = first.point.within;
      rows = changed_between (Meets x) (with_coef j (plus a)) (with_coef j (plus b)) (with_coef j (plus c))
          (λ s h g. coef_meets j x s h g) m.rows i first.point.rows last.point.rows;
    };
    bound = coef_bound m t i j (cost m x) first.bound last.bound;
  }

within_between : (n a b c : ℤ) (most : ℕ) → a ≤ℤ b → b ≤ℤ c → unsigned_abs (n +ℤ a) ≤ most → unsigned_abs (n +ℤ c) ≤ most
    → unsigned_abs (n +ℤ b) ≤ most
within_between n a b c most l h first last = omega (arith, ints)

-- a change that narrows a program with a good bound, and widens one with a feasible point
between_wider : (m : Parts) (t : PlainTree) (p : Place) (g : PlainAim) (wide b narrow : ℤ) → IsWider (raised m p b) (raised m p wide)
    → IsWider (raised m p narrow) (raised m p b) → IsGoodChange m t p g wide → IsGoodChange m t p g narrow → IsWithinLimit m p b
    → IsGoodChange m t p g b
between_wider m t p g wide b narrow outer inner first last within = record {
  within = within;
  point = wider_point g (raised m p narrow) (raised m p b) inner last.point;
  bound = narrower_bound g (raised m p b) (raised m p wide) t outer first.bound;
}

-- the middle one of three changes, by their distances
good_by : (m : Parts) (t : PlainTree) (p : Place) (g : PlainAim) (a b c : ℤ) (v w : ℤ) → v ≡ c -ℤ b → w ≡ b -ℤ a → a <ℤ c → a ≤ℤ b
    → b ≤ℤ c → IsGoodChange m t p g a → IsGoodChange m t p g c → IsWithinLimit m p b → IsGoodChange m t p g b
good_by m t (Cost j) g a b c (pos v) (pos w) d e less l h first last within = cost_good v w a b c (omega (arith, ints))
    (linear_steps v w a b c d e) m t j g first last within
good_by m t (Coef i j) g a b c (pos v) (pos w) d e less l h first last within = coef_good v w a b c (omega (arith, ints))
    (linear_steps v w a b c d e) m t i j g first last within
good_by m t (Low i) g a b c (pos v) (pos w) d e less l h first last within =
    between_wider m t (Low i) g a b c (low_narrows m i a b l) (low_narrows m i b c h) first last within
good_by m t (High i) g a b c (pos v) (pos w) d e less l h first last within =
    between_wider m t (High i) g c b a (high_widens m i b c h) (high_widens m i a b l) last first within
good_by m t (Lower j) g a b c (pos v) (pos w) d e less l h first last within =
    between_wider m t (Lower j) g a b c (lower_narrows m j a b l) (lower_narrows m j b c h) first last within
good_by m t (Upper j) g a b c (pos v) (pos w) d e less l h first last within =
    between_wider m t (Upper j) g c b a (upper_widens m j b c h) (upper_widens m j a b l) last first within
good_by m t p g a b c (negsuc v) w d e less l h first last within = absurd (omega (arith, ints))
good_by m t p g a b c (pos v) (negsuc w) d e less l h first last within = absurd (omega (arith, ints))

pub good_changes_are_runs : GoodChangesAreRuns
good_changes_are_runs m t p g a b c l h first last = by (lt_z a c) refl
  where
    by : (s : Bool) → lt_z a c ≡ s → IsGoodChange m t p g b
    by true e = good_by m t p g a b c (c -ℤ b) (b -ℤ a) refl refl (omega (arith, ints)) l h first last
        (within_between (number_of m p) a b c (limit_of p) l h first.within last.within)
    by false e = let is : a ≡ b = omega (arith, ints) in subst (IsGoodChange m t p g) is first

pub none_is_good_beyond : NoneIsGoodBeyond
none_is_good_beyond m t p g a b c good bad = (
  λ l h other. bad (good_changes_are_runs m t p g a b c l h good other),
  λ l h other. bad (good_changes_are_runs m t p g c b a l h other good),
)

pub ends_are_ranges : EndsAreRanges
ends_are_ranges m t p g from to l h first last before after = record {
  from_low = l;
  to_high = h;
  good = λ e le he. good_changes_are_runs m t p g from e to le he first last;
  before = before;
  after = after;
}

low_end : (m : Parts) (t : PlainTree) (p : Place) (g : PlainAim) (a b c d : ℤ) → IsRun m t p g a b → IsRun m t p g c d → a ≤ℤ c
low_end m t p g a b c d run other = by (lt_z c a) refl
  where
    by : (s : Bool) → lt_z c a ≡ s → a ≤ℤ c
    by false e = omega (arith, ints)
    by true e =
        let h = run.from_low in
        let i = other.to_high in
        absurd (run.before (other.good (a -ℤ pos 1) (omega (arith, ints)) (omega (arith, ints))))

high_end : (m : Parts) (t : PlainTree) (p : Place) (g : PlainAim) (a b c d : ℤ) → IsRun m t p g a b → IsRun m t p g c d → d ≤ℤ b
high_end m t p g a b c d run other = by (lt_z b d) refl
  where
    by : (s : Bool) → lt_z b d ≡ s → d ≤ℤ b
    by false e = omega (arith, ints)
    by true e =
        let h = run.to_high in
        let i = other.from_low in
        absurd (run.after (other.good (b +ℤ pos 1) (omega (arith, ints)) (omega (arith, ints))))

pub ranges_are_unique : RangesAreUnique
ranges_are_unique m t p g None None h i = refl
ranges_are_unique m t p g None (Some r) h i = absurd (h (i.good (pos 0) i.from_low i.to_high))
ranges_are_unique m t p g (Some r) None h i = absurd (i (h.good (pos 0) h.from_low h.to_high))
ranges_are_unique m t p g (Some r) (Some s) h i =
    let a = low_end m t p g r.0 r.1 s.0 s.1 h i in
    let b = low_end m t p g s.0 s.1 r.0 r.1 i h in
    let c = high_end m t p g r.0 r.1 s.0 s.1 h i in
    let d = high_end m t p g s.0 s.1 r.0 r.1 i h in
    let low : r.0 ≡ s.0 = omega (arith, ints) in
    let high : r.1 ≡ s.1 = omega (arith, ints) in
    pair r s low high
  where
    pair : (u v : ℤ × ℤ) → u.0 ≡ v.0 → u.1 ≡ v.1 → Some u ≡ Some v
    pair (a, b) (c, d) e f = rw (e, f) refl

-- ---- what a good change says

at_most_due : (u : Bound) (w z : ℤ) → IsAtLeast u w → IsAtMost u z → w ≤ℤ z
at_most_due (At v) w z h g = omega (arith, ints)
at_most_due Infinite w z h g = absurd g

raised_columns : (m : Parts) (p : Place) (e : ℤ) → length (raised m p e).columns ≡ length m.columns
raised_columns m (Cost j) e = length_changed (with_cost (plus e)) m.columns j
raised_columns m (Lower j) e = length_changed (with_lower (plus e)) m.columns j
raised_columns m (Upper j) e = length_changed (with_upper (plus e)) m.columns j
raised_columns m (Low i) e = refl
raised_columns m (High i) e = refl
raised_columns m (Coef i j) e = refl

pub good_changes_hold : GoodChangesHold
good_changes_hold m t p g e fits good = by g good
  where
    n : Parts
    n = raised m p e

    bounded : (y : List ℤ) → IsFeasible n y → IsAtMost (tree_bound n t) (cost n y)
    bounded y ok = trees_bound n t y (subst (λ (k : ℕ). FitsColumns k t) (sym (raised_columns m p e)) fits) ok

    by : (g : PlainAim) → IsGoodChange m t p g e → Holds g n
    by (keep w) good = λ y ok. at_most_due (tree_bound n t) w (cost n y) good.bound (bounded y ok)
    by (stay_best x) good = record {
      feasible = good.point;
      least = λ y ok. at_most_due (tree_bound n t) (cost n x) (cost n y) good.bound (bounded y ok);
    }
