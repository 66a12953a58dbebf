-- Lines of sides: one more side moved, and what stays of the sides, the coefficients and the limits.
use Rattle.std.specs.Prelude.{◌≡◌, ◌≢◌, ℕ, zero, suc, ◌+◌, ◌≤◌, Bool, true, false, cond, List, [], ◌∷◌, length, drop, option_map}
use Rattle.std.specs.Prelude.{option_and_then}
use Rattle.std.specs.Prelude.{Option, Some, None, slice_get, sum_by, Ok, Err, ℤ, pos, ◌+ℤ◌, ◌*ℤ◌}
use Rattle.std.specs.Int.RustNames.{unsigned_abs}
use Rattle.std.proofs.Common.{arith, refl, ap, sym, ◌∙◌, subst}
use Rattle.std.proofs.lemmas.Bool.{ltb-false}
use Rattle.std.proofs.lemmas.List.{drop_all}
use Rattle.std.proofs.lemmas.List.Sums.{sum_by-cons}
use Rattle.ip_defs.specs.Limits.{IsWithinLimits, exceeds}
use Rattle.ip_defs.specs.Lists.{Each}
use Rattle.ip_defs.proofs.ListLaws.{each_weaker}
use Rattle.ip_defs.specs.declared.programs.Row.{Row}
use Rattle.ip_defs.specs.declared.programs.Parts.{Parts}
use Rattle.ip_model.specs.declared.places.Place.{Place}
use Rattle.ip_model.specs.declared.places.Place.TheVariants.{Cost, Low, High, Coef, Lower, Upper}
use Rattle.ip_model.specs.Places.{changed_at, with_low, with_high, raised, changed, Exists, number_of, limit_of}
use Rattle.ip_model.proofs.ChangeLaws as Changes
use Rattle.perturbation.specs.declared.edits.LineError.{LineError}
use Rattle.perturbation.specs.declared.edits.LineError.TheVariants.{Limit, Memory}
use Rattle.perturbation.specs.Lines.{row_at, index_of, side_moved, unless_stopped, row_line_of, IsSide, IsLineAnswer}
use Rattle.perturbation.proofs.ApplyLaws.{drop_at}

-- ---- one side

pub side_exists : (m : Parts) (place : Place) → IsSide m place → Exists m place
side_exists m (Low i) h = h
side_exists m (High i) h = h
side_exists m (Cost j) h = absurd h
side_exists m (Coef i j) h = absurd h
side_exists m (Lower j) h = absurd h
side_exists m (Upper j) h = absurd h

-- the answer where the moved side is within its limit
pub side_moved_is : (m : Parts) (place : Place) (step : ℤ) (t : ℕ) (z : ℤ) (n : Parts) → IsWithinLimits m
    → z ≡ number_of m place +ℤ pos t *ℤ step → exceeds (limit_of place) z ≡ false → n ≡ changed m place (λ old. z)
    → side_moved m place step t ≡ Ok n
side_moved_is m place step t z n limits value few is =
    ap (λ s. cond s (Err (Limit (index_of place))) (Ok (raised m place (pos t *ℤ step)))) (ap (exceeds (limit_of place)) (sym value) ∙ few)
    ∙ ap Ok (Changes.replaced m place (λ y. y +ℤ pos t *ℤ step) limits ∙ ap (λ y. changed m place (λ old. y)) (sym value) ∙ sym is)

-- a moved side keeps each side of each row, and all coefficients
kept : (side : Row → Option ℤ) (g : Row → Row) (rows : List Row) (k i : ℕ) → ((r : Row) → side r ≢ None → side (g r) ≢ None)
    → option_and_then side (slice_get rows i) ≢ None → option_and_then side (slice_get (changed_at g k rows) i) ≢ None
kept side g [] k i h there = there
kept side g (r ∷ rows) zero zero h there = h r there
kept side g (r ∷ rows) zero (suc i) h there = there
kept side g (r ∷ rows) (suc k) zero h there = there
kept side g (r ∷ rows) (suc k) (suc i) h there = kept side g rows k i h there

mapped : (f : ℤ → ℤ) (o : Option ℤ) → o ≢ None → option_map f o ≢ None
mapped f None there = there
mapped f (Some z) there = λ e. absurd cc

pub side_stays : (m : Parts) (q p : Place) (f : ℤ → ℤ) → IsSide m q → IsSide m p → IsSide (changed m q f) p
side_stays m (Low k) (Low i) f at there = kept (λ r. r.low) (with_low f) m.rows k i (λ r h. mapped f r.low h) there
side_stays m (Low k) (High i) f at there = kept (λ r. r.high) (with_low f) m.rows k i (λ r h. h) there
side_stays m (High k) (Low i) f at there = kept (λ r. r.low) (with_high f) m.rows k i (λ r h. h) there
side_stays m (High k) (High i) f at there = kept (λ r. r.high) (with_high f) m.rows k i (λ r h. mapped f r.high h) there
side_stays m (Cost j) p f at there = absurd at
side_stays m (Coef i j) p f at there = absurd at
side_stays m (Lower j) p f at there = absurd at
side_stays m (Upper j) p f at there = absurd at
side_stays m (Low k) (Cost j) f at there = there
side_stays m (Low k) (Coef i j) f at there = there
side_stays m (Low k) (Lower j) f at there = there
side_stays m (Low k) (Upper j) f at there = there
side_stays m (High k) (Cost j) f at there = there
side_stays m (High k) (Coef i j) f at there = there
side_stays m (High k) (Lower j) f at there = there
side_stays m (High k) (Upper j) f at there = there

same_count : (g : Row → Row) (rows : List Row) (k : ℕ) → ((r : Row) → length (g r).coefs ≡ length r.coefs)
    → sum_by (λ r. length r.coefs) (changed_at g k rows) ≡ sum_by (λ r. length r.coefs) rows
same_count g [] k h = refl
same_count g (r ∷ rows) zero h =
    sum_by-cons (λ (q : Row). length q.coefs) (g r) rows
    ∙ ap (λ n. n + sum_by (λ (q : Row). length q.coefs) rows) (h r) ∙ sym (sum_by-cons (λ (q : Row). length q.coefs) r rows)
same_count g (r ∷ rows) (suc k) h =
    sum_by-cons (λ (q : Row). length q.coefs) r (changed_at g k rows)
    ∙ ap (λ n. length r.coefs + n) (same_count g rows k h) ∙ sym (sum_by-cons (λ (q : Row). length q.coefs) r rows)

side_count : (m : Parts) (place : Place) (f : ℤ → ℤ) → IsSide m place → IsWithinLimits m
    → sum_by (λ r. length r.coefs) (changed m place f).rows ≤ 200000
side_count m (Low i) f at limits = let same = same_count (with_low f) m.rows i (λ r. refl) in let few = limits.entry_count in omega arith
side_count m (High i) f at limits = let same = same_count (with_high f) m.rows i (λ r. refl) in let few = limits.entry_count in omega arith
side_count m (Cost j) f at limits = absurd at
side_count m (Coef i j) f at limits = absurd at
side_count m (Lower j) f at limits = absurd at
side_count m (Upper j) f at limits = absurd at

-- what an answer that is a program says
pub record IsMoved (m : Parts) (place : Place) (step : ℤ) (t : ℕ) (n : Parts) : Type 0 where
  pub raised : raised m place (pos t *ℤ step) ≡ n
  pub limits : IsWithinLimits n

pub moved_says : (m : Parts) (place : Place) (step : ℤ) (t : ℕ) (n : Parts) → IsWithinLimits m → IsSide m place
    → side_moved m place step t ≡ Ok n → IsMoved m place step t n
moved_says m place step t n limits at e = by (exceeds (limit_of place) (number_of m place +ℤ pos t *ℤ step)) refl e
  where
    by : (s : Bool) → exceeds (limit_of place) (number_of m place +ℤ pos t *ℤ step) ≡ s
        → cond s (Err (Limit (index_of place))) (Ok (raised m place (pos t *ℤ step))) ≡ Ok n → IsMoved m place step t n
    by true is e = absurd cc
    by false is e =
        let same : raised m place (pos t *ℤ step) ≡ n = cc in
        record {
          raised = same;
          limits = subst IsWithinLimits same (Changes.changed_within m place (λ y. y +ℤ pos t *ℤ step) limits (side_exists m place at)
              (ltb-false (limit_of place) (unsigned_abs (number_of m place +ℤ pos t *ℤ step)) is)
              (side_count m place (λ y. y +ℤ pos t *ℤ step) at limits));
        }

-- ---- a list of sides

-- after the first i sides of a direction: the program, and the answer to the others is that to all
pub record AreStepped (m : Parts) (ds : List (Place × ℤ)) (t i : ℕ) (now : Parts) : Type 0 where
  pub limits : IsWithinLimits now
  pub sides : Each (λ d. IsSide now d.0) (drop i ds)
  pub left : row_line_of m ds t ≡ row_line_of now (drop i ds) t

pub none_stepped : (m : Parts) (ds : List (Place × ℤ)) (t : ℕ) → IsWithinLimits m → Each (λ d. IsSide m d.0) ds → AreStepped m ds t 0 m
none_stepped m ds t limits sides = record { limits = limits; sides = sides; left = refl }

pub side_now : (m : Parts) (ds : List (Place × ℤ)) (t i : ℕ) (now : Parts) (d : Place × ℤ) → AreStepped m ds t i now
    → slice_get ds i ≡ Some d
    → IsSide now d.0
side_now m ds t i now d before at =
    let sides : Each (λ (c : Place × ℤ). IsSide now c.0) (d ∷ drop (i + 1) ds) = subst (Each (λ (c : Place × ℤ). IsSide now c.0))
    (drop_at ds i d at) before.sides in
    sides.0

pub one_stepped : (m : Parts) (ds : List (Place × ℤ)) (t i : ℕ) (now next : Parts) (d : Place × ℤ) → AreStepped m ds t i now
    → slice_get ds i ≡ Some d → side_moved now d.0 d.1 t ≡ Ok next → AreStepped m ds t (i + 1) next
one_stepped m ds t i now next d before at is =
    let sides : Each (λ (c : Place × ℤ). IsSide now c.0) (d ∷ drop (i + 1) ds) = subst (Each (λ (c : Place × ℤ). IsSide now c.0))
    (drop_at ds i d at) before.sides in
    let says = moved_says now d.0 d.1 t next before.limits sides.0 is in
    record {
      limits = says.limits;
      sides = each_weaker (λ (c : Place × ℤ). IsSide now c.0) (λ (c : Place × ℤ). IsSide next c.0) (drop (i + 1) ds)
          (λ c h. subst (λ (n : Parts). IsSide n c.0) says.raised (side_stays now d.0 c.0 (λ y. y +ℤ pos t *ℤ d.1) sides.0 h)) sides.1;
      left = before.left ∙ ap (λ cs. row_line_of now cs t) (drop_at ds i d at)
          ∙ ap (λ r. unless_stopped r (λ n. row_line_of n (drop (i + 1) ds) t)) is;
    }

pub one_stopped : (m : Parts) (ds : List (Place × ℤ)) (t i : ℕ) (now : Parts) (d : Place × ℤ) (error : LineError) → AreStepped m ds t i now
    → slice_get ds i ≡ Some d → IsLineAnswer (side_moved now d.0 d.1 t) (Err error) → IsLineAnswer (row_line_of m ds t) (Err error)
one_stopped m ds t i now d Memory before at is = tt
one_stopped m ds t i now d (Limit k) before at is = before.left ∙ ap (λ cs. row_line_of now cs t) (drop_at ds i d at)
    ∙ ap (λ r. unless_stopped r (λ n. row_line_of n (drop (i + 1) ds) t)) is

pub all_stepped : (m : Parts) (ds : List (Place × ℤ)) (t i : ℕ) (now : Parts) → AreStepped m ds t i now → length ds ≤ i
    → row_line_of m ds t ≡ Ok now
all_stepped m ds t i now before past = before.left ∙ ap (λ cs. row_line_of now cs t) (drop_all i ds past)

-- the answer is the program after the steps
pub row_line_says : (m : Parts) (ds : List (Place × ℤ)) (t : ℕ) (n : Parts) → row_line_of m ds t ≡ Ok n → n ≡ row_at m ds t
row_line_says m [] t n e = let same : m ≡ n = cc in sym same
row_line_says m (d ∷ ds) t n e = by (exceeds (limit_of d.0) (number_of m d.0 +ℤ pos t *ℤ d.1)) e
    (row_line_says (raised m d.0 (pos t *ℤ d.1)) ds t n)
  where
    by : (s : Bool)
        → unless_stopped (cond s (Err (Limit (index_of d.0))) (Ok (raised m d.0 (pos t *ℤ d.1)))) (λ k. row_line_of k ds t) ≡ Ok n
        → (row_line_of (raised m d.0 (pos t *ℤ d.1)) ds t ≡ Ok n → n ≡ row_at (raised m d.0 (pos t *ℤ d.1)) ds t)
        → n ≡ row_at (raised m d.0 (pos t *ℤ d.1)) ds t
    by true e rest = absurd cc
    by false e rest = rest e
