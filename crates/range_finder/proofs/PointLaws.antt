-- A feasible point after a change of one number: when it stays feasible, and what it costs.
use Rattle.std.specs.Prelude.{◌≡◌, ◌≢◌, ◌↔◌, IsTrue, ℕ, zero, suc, ◌*◌, ◌^◌, ◌<◌, ◌≤◌, ◌==◌, nat_lt, Bool, true, false}
use Rattle.std.specs.Prelude.{List, [], ◌∷◌, length, All}
use Rattle.std.specs.Prelude.{Option, Some, None, IfSome, option_map, option_and_then, slice_get, slice_index_or, slice_set, cond}
use Rattle.std.specs.Prelude.{ℤ, pos, negsuc, ◌+ℤ◌, ◌*ℤ◌, ◌≤ℤ◌}
use Rattle.std.specs.Int.RustNames.{unsigned_abs}
use Rattle.std.specs.Int.Signed.{le_z}
use Rattle.std.proofs.Common.{rules, arith, refl, ap, sym, ◌∙◌, subst, ◌⊎◌, inl, inr}
use Rattle.std.proofs.lemmas.Bool.{eqb-true}
use Rattle.std.proofs.Math.Nat.{suc-mul}
use Rattle.std.proofs.lemmas.Int.{ints}
use Rattle.std.proofs.lemmas.Grind.{get_or-set_at}
use Rattle.std.proofs.lemmas.List.{length-map, length-set}
use Rattle.ip_defs.specs.Sums.{sum_below}
use Rattle.ip_defs.specs.Limits.{AreOrdered, IsWithinLimits}
use Rattle.ip_defs.specs.Program.{at, coefficient, row_sum, Meets, box_of, costs_of, low_at, high_at, IsIn, IsFeasible, cost}
use Rattle.ip_defs.specs.Certificates.{coefs_of}
use Rattle.ip_defs.specs.declared.programs.Column.{Column}
use Rattle.ip_defs.specs.declared.programs.Row.{Row}
use Rattle.ip_defs.specs.declared.programs.Parts.{Parts}
use Rattle.ip_defs.proofs.BoxLaws.{in_cut, box_within}
use Rattle.ip_defs.proofs.SumLaws.{sum_same, sum_add}
use Rattle.ip_model.proofs.ChangeLaws.{ordered_tail}
use Rattle.ip_model.proofs.WalkLaws.{row_walk}
use Rattle.ip_model.specs.declared.places.Place.{Place}
use Rattle.ip_model.specs.declared.places.Place.TheVariants.{Cost, Low, High, Coef, Lower, Upper}
use Rattle.ip_model.specs.Places.{changed_at, listed, with_cost, with_lower, with_upper, with_low, with_high, with_coef}
use Rattle.ip_model.specs.Places.{with_columns, with_rows, raised, Exists, or_zero}
use Rattle.leaf_cert.proofs.RaisedNumbers.{plus, raised_coefs, raised_coefs_is, changed_map, cost_is, where_same}
use Rattle.leaf_cert.proofs.Steps.{size_of_product}
use Rattle.leaf_cert.proofs.Taken.{cost_small}
use Rattle.proof_tree.proofs.ChangedBoxes.{cost_box, lower_box, upper_box}
use Rattle.ring_laws.proofs.Products.{add_mul}
use Rattle.range_finder.specs.Internal.Points.{KeepsSides, value_of, Stays}

-- a comparison of equal numbers
pub at_most : (a b c d : ℤ) → a ≡ c → b ≡ d → (IsTrue (le_z a b) ↔ c ≤ℤ d)
at_most a b c d e f = rw (e, f) (le_is c d)
  where
    le_is : (u v : ℤ) → IsTrue (le_z u v) ↔ u ≤ℤ v
    le_is u v = search rules

-- ---- one element of a list changed

all_tail : {A : Type 0} (P : A → Type 0) (x : A) (xs : List A) → All P (x ∷ xs) → All P xs
all_tail P x xs all = λ k d l. all (suc k) d (omega arith)

all_cons : {A : Type 0} (P : A → Type 0) (x : A) (xs : List A) → P x → All P xs → All P (x ∷ xs)
all_cons P x xs own all = λ k d l. by k d l
  where
    by : (k : ℕ) → (d : _) → k < suc (length xs) → P (slice_index_or (x ∷ xs) k d)
    by zero d l = own
    by (suc k) d l = all k d (omega arith)

-- all elements of the list have a property after one is changed, if that one has it
all_changed : {A : Type 0} (P : A → Type 0) (f : A → A) (xs : List A) (i : ℕ) → All P xs → ((x : A) → slice_get xs i ≡ Some x → P (f x))
    → All P (changed_at f i xs)
all_changed P f [] i all own = all
all_changed P f (x ∷ xs) zero all own = all_cons P (f x) xs (own x refl) (all_tail P x xs all)
all_changed P f (x ∷ xs) (suc i) all own =
    all_cons P x (changed_at f i xs) (all 0 x (omega arith)) (all_changed P f xs i (all_tail P x xs all) own)

-- and then it has it
changed_own : {A : Type 0} (P : A → Type 0) (f : A → A) (xs : List A) (i : ℕ) → All P (changed_at f i xs) → (x : A)
    → slice_get xs i ≡ Some x → P (f x)
changed_own P f [] i all x e = absurd cc
changed_own P f (y ∷ xs) zero all x e = let same : y ≡ x = cc in subst (λ z. P (f z)) same (all 0 (f y) (omega arith))
changed_own P f (y ∷ xs) (suc i) all x e = changed_own P f xs i (all_tail P y (changed_at f i xs) all) x e

all_own : {A : Type 0} (P : A → Type 0) (xs : List A) (i : ℕ) → All P xs → (x : A) → slice_get xs i ≡ Some x → P x
all_own P [] i all x e = absurd cc
all_own P (y ∷ xs) zero all x e = let same : y ≡ x = cc in subst P same (all 0 y (omega arith))
all_own P (y ∷ xs) (suc i) all x e = all_own P xs i (all_tail P y xs all) x e

-- ---- bounds

module _ (b : List (ℤ × ℤ)) (j : ℕ) (s : ℤ × ℤ) (l : j < length b) where
  cut_low : (x : List ℤ) → IsIn (slice_set b j s) x → s.0 ≤ℤ at x j
  cut_low x inside =
      let is = get_or-set_at b j j s (pos 0, pos 0) refl l in
      subst (λ (p : ℤ × ℤ). p.0 ≤ℤ at x j) is (inside.low j (omega (arith, length-set b j s)))

  cut_high : (x : List ℤ) → IsIn (slice_set b j s) x → at x j ≤ℤ s.1
  cut_high x inside =
      let is = get_or-set_at b j j s (pos 0, pos 0) refl l in
      subst (λ (p : ℤ × ℤ). at x j ≤ℤ p.1) is (inside.high j (omega (arith, length-set b j s)))

-- ---- sides

-- the sides of a row that has the low one or the high one
meets_low : (x : List ℤ) (e : ℤ) (r : Row) → Meets x r
    → (Meets x (with_low (plus e) r) ↔ IfSome r.low (λ side. (side +ℤ e) ≤ℤ row_sum r.coefs x))
meets_low x e r before = (λ now. by r.low now.low, λ h. record { low = back r.low h; high = before.high })
  where
    by : (o : Option ℤ) → IfSome (option_map (plus e) o) (λ side. side ≤ℤ row_sum r.coefs x)
        → IfSome o (λ side. (side +ℤ e) ≤ℤ row_sum r.coefs x)
    by None h = h
    by (Some z) h = h

    back : (o : Option ℤ) → IfSome o (λ side. (side +ℤ e) ≤ℤ row_sum r.coefs x)
        → IfSome (option_map (plus e) o) (λ side. side ≤ℤ row_sum r.coefs x)
    back None h = h
    back (Some z) h = h

meets_high : (x : List ℤ) (e : ℤ) (r : Row) → Meets x r
    → (Meets x (with_high (plus e) r) ↔ IfSome r.high (λ side. row_sum r.coefs x ≤ℤ (side +ℤ e)))
meets_high x e r before = (λ now. by r.high now.high, λ h. record { low = before.low; high = back r.high h })
  where
    by : (o : Option ℤ) → IfSome (option_map (plus e) o) (λ side. row_sum r.coefs x ≤ℤ side)
        → IfSome o (λ side. row_sum r.coefs x ≤ℤ (side +ℤ e))
    by None h = h
    by (Some z) h = h

    back : (o : Option ℤ) → IfSome o (λ side. row_sum r.coefs x ≤ℤ (side +ℤ e))
        → IfSome (option_map (plus e) o) (λ side. row_sum r.coefs x ≤ℤ side)
    back None h = h
    back (Some z) h = h

-- the number of a side that exists
side_is : (o : Option ℤ) (P : ℤ → Type 0) → o ≢ None → (IfSome o P ↔ P (or_zero o))
side_is None P some = absurd (some refl)
side_is (Some z) P some = (λ h. h, λ h. h)

-- ---- coefficients

-- the value of a row with a coefficient raised
pub row_raised : (j : ℕ) (e : ℤ) (ps : List (ℕ × ℤ)) (x : List ℤ) → row_sum (raised_coefs j e ps) x ≡ row_sum ps x +ℤ e *ℤ at x j
row_raised j e ps x =
    let same : row_sum (raised_coefs j e ps) x ≡ row_sum ((j, e) ∷ ps) x = sum_same (λ k. coefficient (raised_coefs j e ps) k *ℤ at x k)
    (λ k. coefficient ((j, e) ∷ ps) k *ℤ at x k) (length x) (λ k l. ap (λ z. z *ℤ at x k) (raised_coefs_is j e ps k)) in
    let one = row_walk ((j, e) ∷ ps) x in
    let two = row_walk ps x in
    omega (arith, ints)

meets_coef : (x : List ℤ) (j : ℕ) (e : ℤ) (r : Row) → Meets x (with_coef j (plus e) r) ↔ KeepsSides r (row_sum r.coefs x +ℤ e *ℤ at x j)
meets_coef x j e r = (
  λ now. (
    subst (λ v. IfSome r.low (λ side. side ≤ℤ v)) (row_raised j e r.coefs x) now.low,
    subst (λ v. IfSome r.high (λ side. v ≤ℤ side)) (row_raised j e r.coefs x) now.high,
  ),
  λ h. record {
    low = subst (λ v. IfSome r.low (λ side. side ≤ℤ v)) (sym (row_raised j e r.coefs x)) h.0;
    high = subst (λ v. IfSome r.high (λ side. v ≤ℤ side)) (sym (row_raised j e r.coefs x)) h.1;
  },
)

-- ---- a feasible point stays feasible where it keeps to the changed number

row_there : (m : Parts) (i : ℕ) (side : Row → Option ℤ) → option_and_then side (slice_get m.rows i) ≢ None
    → (r : Row) × (slice_get m.rows i ≡ Some r) × (side r ≢ None)
row_there m i side some = by (slice_get m.rows i) refl
  where
    by : (o : Option Row) → slice_get m.rows i ≡ o → (r : Row) × (slice_get m.rows i ≡ Some r) × (side r ≢ None)
    by None e = absurd (some (ap (option_and_then side) e))
    by (Some r) e = (r, e, λ none. some (ap (option_and_then side) e ∙ none))

-- from the point of one row to that of the program
rows_stay : (m : Parts) (f : Row → Row) (i : ℕ) (r : Row) (x : List ℤ) (Q : Type 0) → IsFeasible m x → slice_get m.rows i ≡ Some r
    → (Meets x (f r) ↔ Q) → (IsFeasible (with_rows m (changed_at f i m.rows)) x ↔ Q)
rows_stay m f i r x Q before found own = (
  λ now. own.0 (changed_own (Meets x) f m.rows i now.rows r found),
  λ h. record {
    within = before.within;
    rows = all_changed (Meets x) f m.rows i before.rows
        (λ s e. let same : r ≡ s = cc in subst (λ (z : Row). Meets x (f z)) same (own.1 h));
  },
)

both : {P Q R : Type 0} → (P ↔ Q) → (Q ↔ R) → (P ↔ R)
both f g = (λ p. g.0 (f.0 p), λ r. f.1 (g.1 r))

low_stays : (m : Parts) (i : ℕ) (e : ℤ) (x : List ℤ) → Exists m (Low i) → IsFeasible m x
    → (IsFeasible (raised m (Low i) e) x ↔ Stays m (Low i) e x)
low_stays m i e x there before =
    let row = row_there m i (λ r. r.low) there in
    let r = row.0 in
    let found = row.1 in
    rows_stay m (with_low (plus e)) i r x (Stays m (Low i) e x) before found
    (both (meets_low x e r (all_own (Meets x) m.rows i before.rows r found))
    (subst (λ (o : Option Row). IfSome r.low (λ side. (side +ℤ e) ≤ℤ row_sum r.coefs x) ↔
    ((or_zero (option_and_then (λ r. r.low) o) +ℤ e) ≤ℤ row_sum (coefs_of o) x)) (sym found)
    (side_is r.low (λ side. (side +ℤ e) ≤ℤ row_sum r.coefs x) row.2)))

high_stays : (m : Parts) (i : ℕ) (e : ℤ) (x : List ℤ) → Exists m (High i) → IsFeasible m x
    → (IsFeasible (raised m (High i) e) x ↔ Stays m (High i) e x)
high_stays m i e x there before =
    let row = row_there m i (λ r. r.high) there in
    let r = row.0 in
    let found = row.1 in
    rows_stay m (with_high (plus e)) i r x (Stays m (High i) e x) before found
    (both (meets_high x e r (all_own (Meets x) m.rows i before.rows r found))
    (subst (λ (o : Option Row). IfSome r.high (λ side. row_sum r.coefs x ≤ℤ (side +ℤ e)) ↔
    (row_sum (coefs_of o) x ≤ℤ (or_zero (option_and_then (λ r. r.high) o) +ℤ e))) (sym found)
    (side_is r.high (λ side. row_sum r.coefs x ≤ℤ (side +ℤ e)) row.2)))

coef_stays : (m : Parts) (i j : ℕ) (e : ℤ) (x : List ℤ) → IsFeasible m x
    → (IsFeasible (raised m (Coef i j) e) x ↔ Stays m (Coef i j) e x)
coef_stays m i j e x before = (
  λ now r found. at_row r found (changed_own (Meets x) (with_coef j (plus e)) m.rows i now.rows r found),
  λ h. record {
    within = before.within;
    rows = all_changed (Meets x) (with_coef j (plus e)) m.rows i before.rows
        (λ r found. (meets_coef x j e r).1 (from_row r found (h r found)));
  },
)
  where
    at_row : (r : Row) → slice_get m.rows i ≡ Some r → Meets x (with_coef j (plus e) r) → KeepsSides r (value_of m i x +ℤ e *ℤ at x j)
    at_row r found now = subst (λ (o : Option Row). KeepsSides r (row_sum (coefs_of o) x +ℤ e *ℤ at x j)) (sym found)
        ((meets_coef x j e r).0 now)

    from_row : (r : Row) → slice_get m.rows i ≡ Some r → KeepsSides r (value_of m i x +ℤ e *ℤ at x j)
        → KeepsSides r (row_sum r.coefs x +ℤ e *ℤ at x j)
    from_row r found h = subst (λ (o : Option Row). KeepsSides r (row_sum (coefs_of o) x +ℤ e *ℤ at x j)) found h

box_length : (m : Parts) → length (box_of m) ≡ length m.columns
box_length m = length-map m.columns (λ (c : Column). (c.lo, c.hi))

lower_stays : (m : Parts) (j : ℕ) (e : ℤ) (x : List ℤ) → Exists m (Lower j) → IsFeasible m x
    → (IsFeasible (raised m (Lower j) e) x ↔ Stays m (Lower j) e x)
lower_stays m j e x there before =
    let b = box_of m in
    let l : j < length b = omega (arith, box_length m) in
    let s : ℤ × ℤ = (low_at b j +ℤ e, high_at b j) in (
      λ now. cut_low b j s l x (subst (λ (d : List (ℤ × ℤ)). IsIn d x) (lower_box m j e) now.within),
      λ h. record {
        within = subst (λ (d : List (ℤ × ℤ)). IsIn d x) (sym (lower_box m j e)) (in_cut b j s l x before.within h (before.within.high j l));
        rows = before.rows;
      },
    )

upper_stays : (m : Parts) (j : ℕ) (e : ℤ) (x : List ℤ) → Exists m (Upper j) → IsFeasible m x
    → (IsFeasible (raised m (Upper j) e) x ↔ Stays m (Upper j) e x)
upper_stays m j e x there before =
    let b = box_of m in
    let l : j < length b = omega (arith, box_length m) in
    let s : ℤ × ℤ = (low_at b j, high_at b j +ℤ e) in (
      λ now. cut_high b j s l x (subst (λ (d : List (ℤ × ℤ)). IsIn d x) (upper_box m j e) now.within),
      λ h. record {
        within = subst (λ (d : List (ℤ × ℤ)). IsIn d x) (sym (upper_box m j e)) (in_cut b j s l x before.within (before.within.low j l) h);
        rows = before.rows;
      },
    )

pub point_stays : (m : Parts) (p : Place) (e : ℤ) (x : List ℤ) → Exists m p → IsFeasible m x
    → (IsFeasible (raised m p e) x ↔ Stays m p e x)
point_stays m (Cost j) e x there before = (
  λ now. tt,
  λ h. record { within = subst (λ (d : List (ℤ × ℤ)). IsIn d x) (sym (cost_box m j e)) before.within; rows = before.rows },
)
point_stays m (Low i) e x there before = low_stays m i e x there before
point_stays m (High i) e x there before = high_stays m i e x there before
point_stays m (Coef i j) e x there before = coef_stays m i j e x before
point_stays m (Lower j) e x there before = lower_stays m j e x there before
point_stays m (Upper j) e x there before = upper_stays m j e x there before

-- ---- what the point costs

-- a sum of which one term is more
raised_sum : (j : ℕ) (e : ℤ) (x : List ℤ) → sum_below (λ k. where_same j k e *ℤ at x k) (length x) ≡ e *ℤ at x j
raised_sum j e x =
    let same : sum_below (λ k. where_same j k e *ℤ at x k) (length x) ≡ row_sum ((j, e) ∷ []) x = sum_same
    (λ k. where_same j k e *ℤ at x k) (λ k. coefficient ((j, e) ∷ []) k *ℤ at x k) (length x)
    (λ k l. ap (λ z. z *ℤ at x k) (by (j == k))) in
    let one = row_walk ((j, e) ∷ []) x in
    omega (arith, ints)
  where
    by : (t : Bool) → cond t e (pos 0) ≡ cond t (e +ℤ pos 0) (pos 0)
    by true = omega (arith, ints)
    by false = refl

pub cost_raised : (m : Parts) (j : ℕ) (e : ℤ) (x : List ℤ) → j < length m.columns
    → cost (raised m (Cost j) e) x ≡ cost m x +ℤ e *ℤ at x j
cost_raised m j e x there =
    let c : ℕ → ℤ = λ k. at (costs_of m) k in
    let each = sum_same (λ k. at (costs_of (raised m (Cost j) e)) k *ℤ at x k) (λ k. c k *ℤ at x k +ℤ where_same j k e *ℤ at x k) (length x)
    (λ k l. ap (λ z. z *ℤ at x k) (cost_is m.columns j k e there) ∙ add_mul (c k) (where_same j k e) (at x k)) in
    let split = sum_add (λ k. c k *ℤ at x k) (λ k. where_same j k e *ℤ at x k) (length x) in
    let lone = raised_sum j e x in
    omega (arith, ints)

-- where none of the terms exceeds a number, the sum does not exceed so many times it
sum_small : (f : ℕ → ℤ) (most n : ℕ) → ((k : ℕ) → k < n → unsigned_abs (f k) ≤ most) → unsigned_abs (sum_below f n) ≤ n * most
sum_small f most zero h = omega (arith, ints)
sum_small f most (suc n) h =
    let rest = sum_small f most n (λ k l. h k (omega arith)) in
    let last = h n (omega arith) in
    let size = suc-mul n most in
    omega (arith, ints)

-- what a feasible point costs
pub cost_is_small : (m : Parts) (x : List ℤ) → IsWithinLimits m → IsFeasible m x → unsigned_abs (cost m x) ≤ 2 ^ 80
cost_is_small m x limits point =
    let area = box_within m limits in
    let few = limits.column_count in
    let size = point.within.size in
    let all = sum_small (λ k. at (costs_of m) k *ℤ at x k) (2 ^ 64) (length x) (λ k l.
    let within : k < length m.columns = omega (arith, size, area.size) in
    let low = area.low k within in
    let high = area.high k within in
    let from = point.within.low k (omega (arith, area.size)) in
    let to = point.within.high k (omega (arith, area.size)) in
    let one : unsigned_abs (at x k) ≤ 2 ^ 24 = omega (arith, ints) in
    size_of_product (at (costs_of m) k) (at x k) (2 ^ 40) (2 ^ 24) (cost_small m k limits within) one) in
    let whole = limits.constant in
    omega (arith, ints, area.size)

-- the costs of columns with another bound
costs_same : (m : Parts) (f : Column → Column) (j : ℕ) (x : List ℤ) → ((c : Column) → (f c).cost ≡ c.cost)
    → cost (with_columns m (changed_at f j m.columns)) x ≡ cost m x
costs_same m f j x same = ap (λ cs. m.constant +ℤ sum_below (λ k. at cs k *ℤ at x k) (length x))
    (changed_map (λ (c : Column). c.cost) f same m.columns j)

-- other numbers are not seen in what a point costs
pub kept_cost : (m : Parts) (p : Place) (e : ℤ) (x : List ℤ)
    → ((i : ℕ) × (p ≡ Low i)) ⊎ (((i : ℕ) × (p ≡ High i)) ⊎ (((i : ℕ) × (j : ℕ) × (p ≡ Coef i j)) ⊎ (((j : ℕ) × (p ≡ Lower j)) ⊎
    ((j : ℕ) × (p ≡ Upper j))))) → cost (raised m p e) x ≡ cost m x
kept_cost m p e x (inl is) = rw is.1 refl
kept_cost m p e x (inr (inl is)) = rw is.1 refl
kept_cost m p e x (inr (inr (inl is))) = rw is.2 refl
kept_cost m p e x (inr (inr (inr (inl is)))) = rw is.1 (costs_same m (with_lower (plus e)) is.0 x (λ c. refl))
kept_cost m p e x (inr (inr (inr (inr is)))) = rw is.1 (costs_same m (with_upper (plus e)) is.0 x (λ c. refl))

-- ---- no change

plus_none : (z : ℤ) → z +ℤ pos 0 ≡ z
plus_none z = omega (arith, ints)

changed_self : {A : Type 0} (f : A → A) (xs : List A) (j : ℕ) → ((x : A) → slice_get xs j ≡ Some x → f x ≡ x) → changed_at f j xs ≡ xs
changed_self f [] j same = refl
changed_self f (x ∷ xs) zero same = ap (λ z. z ∷ xs) (same x refl)
changed_self f (x ∷ xs) (suc j) same = ap (λ zs. x ∷ zs) (changed_self f xs j same)

side_self : (o : Option ℤ) → option_map (plus (pos 0)) o ≡ o
side_self None = refl
side_self (Some z) = ap Some (plus_none z)

listed_self : (j : ℕ) (z : ℤ) (ps : List (ℕ × ℤ)) → z ≢ pos 0 → listed j z ps ≡ (j, z) ∷ ps
listed_self j (pos zero) ps some = absurd (some refl)
listed_self j (pos (suc n)) ps some = refl
listed_self j (negsuc n) ps some = refl

coefs_self : (n j : ℕ) (ps : List (ℕ × ℤ)) → AreOrdered n ps → raised_coefs j (pos 0) ps ≡ ps
coefs_self n j [] o = refl
coefs_self n j (p ∷ ps) o = by (p.0 == j) (nat_lt j p.0) refl (coefs_self n j ps (ordered_tail n p ps o))
  where
    here : p.0 ≡ j → listed j (p.1 +ℤ pos 0) ps ≡ p ∷ ps
    here same = rw plus_none (listed_self j p.1 ps (o.present 0 (omega arith)) ∙ ap (λ k. (k, p.1) ∷ ps) (sym same))

    by : (s t : Bool) → (p.0 == j) ≡ s → raised_coefs j (pos 0) ps ≡ ps
        → cond s (listed j (p.1 +ℤ pos 0) ps) (cond t (listed j (pos 0 +ℤ pos 0) (p ∷ ps)) (p ∷ raised_coefs j (pos 0) ps)) ≡ p ∷ ps
    by true t e rest = here (eqb-true p.0 j e)
    by false true e rest = refl
    by false false e rest = ap (λ qs. p ∷ qs) rest

pub raised_none : (m : Parts) (p : Place) → IsWithinLimits m → raised m p (pos 0) ≡ m
raised_none m (Cost j) limits = ap (with_columns m) (changed_self (with_cost (plus (pos 0))) m.columns j
    (λ c e. ap (λ z. record { name = c.name; cost = z; lo = c.lo; hi = c.hi }) (plus_none c.cost)))
raised_none m (Lower j) limits = ap (with_columns m) (changed_self (with_lower (plus (pos 0))) m.columns j
    (λ c e. ap (λ z. record { name = c.name; cost = c.cost; lo = z; hi = c.hi }) (plus_none c.lo)))
raised_none m (Upper j) limits = ap (with_columns m) (changed_self (with_upper (plus (pos 0))) m.columns j
    (λ c e. ap (λ z. record { name = c.name; cost = c.cost; lo = c.lo; hi = z }) (plus_none c.hi)))
raised_none m (Low i) limits = ap (with_rows m) (changed_self (with_low (plus (pos 0))) m.rows i
    (λ r e. ap (λ o. record { name = r.name; decimals = r.decimals; coefs = r.coefs; low = o; high = r.high }) (side_self r.low)))
raised_none m (High i) limits = ap (with_rows m) (changed_self (with_high (plus (pos 0))) m.rows i
    (λ r e. ap (λ o. record { name = r.name; decimals = r.decimals; coefs = r.coefs; low = r.low; high = o }) (side_self r.high)))
raised_none m (Coef i j) limits = ap (with_rows m) (changed_self (with_coef j (plus (pos 0))) m.rows i
    (λ r e. ap (λ ps. record { name = r.name; decimals = r.decimals; coefs = ps; low = r.low; high = r.high })
    (coefs_self (length m.columns) j r.coefs (limits.shape.rows i r e).coefs)))
