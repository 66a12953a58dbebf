-- A row that a point breaks: the first one, and the ray that shows a box of this one point empty.
use Rattle.std.specs.Prelude.{◌≡◌, ◌≢◌, ℕ, zero, suc, ◌^◌, ◌<◌, ◌≤◌, ◌||◌, Bool, true, false, if◌then◌else◌, List, [], ◌∷◌, length}
use Rattle.std.specs.Prelude.{slice_get, Option, Some, None, ℤ, pos, negsuc, ◌<ℤ◌}
use Rattle.std.specs.Int.RustNames.{unsigned_abs}
use Rattle.std.specs.Int.Signed.{lt_z}
use Rattle.std.proofs.Common.{arith, refl, ◌∙◌, ap, ◌⊎◌, inl, inr}
use Rattle.std.proofs.lemmas.Int.{ints}
use Rattle.std.proofs.lemmas.List.{length-map}
use Rattle.std.proofs.lemmas.Option.{slice_get_within}
use Rattle.ip_defs.specs.declared.certificates.Bound.TheVariants.{At, Infinite}
use Rattle.ip_defs.specs.declared.programs.Breach.{Breach}
use Rattle.ip_defs.specs.declared.programs.Breach.TheVariants as Broken
use Rattle.ip_defs.specs.declared.programs.Column.{Column}
use Rattle.ip_defs.specs.declared.programs.Parts.{Parts}
use Rattle.ip_defs.specs.declared.programs.Row.{Row}
use Rattle.ip_defs.specs.Boxes.{IsOpen}
use Rattle.ip_defs.specs.Breaches.{column_breach, is_below_side, is_above_side, row_breach, first_breach}
use Rattle.ip_defs.specs.Certificates.{leaf_bound}
use Rattle.ip_defs.specs.Limits.{IsCert, index_at, value_at}
use Rattle.ip_defs.specs.Lists.{first}
use Rattle.std.specs.Option.{option_or}
use Rattle.ip_defs.specs.Program.{at, box_of, low_at, high_at, row_sum, IsIn}
use Rattle.ip_defs.proofs.FirstLaws.{none_first}
use Rattle.node_bounds.specs.Areas.{IsSingle, lowest}
use Rattle.node_bounds.specs.Internal.Leaves.{BreaksRow, ray_on}
use Rattle.node_bounds.proofs.LeafLaws.{ray_infinite}
use Rattle.ip_defs.proofs.OrderLaws.{less_false}

-- ---- the first broken row

-- a point of the program's box breaks no column
no_column : (m : Parts) (x : List ℤ) → IsIn (box_of m) x → first (column_breach (box_of m) x) (length m.columns) ≡ None
no_column m x inside = none_first (column_breach (box_of m) x) (length m.columns) (λ j l.
    let size : length (box_of m) ≡ length m.columns = length-map m.columns (λ (c : Column). (c.lo, c.hi)) in
    rw (
      less_false (at x j) (low_at (box_of m) j) (inside.low j (omega arith)),
      less_false (high_at (box_of m) j) (at x j)
          (inside.high j (omega arith)),
    ) refl)

-- what breaks at row i is row i
own_row : (x : List ℤ) (i : ℕ) (o : Option Row) (breach : Breach) → row_breach x i o ≡ Some breach → breach ≡ Broken.Row i
own_row x i None breach e = absurd cc
own_row x i (Some r) breach e = by (is_below_side (row_sum r.coefs x) r.low || is_above_side (row_sum r.coefs x) r.high) e
  where
    by : (t : Bool) → (if t then Some (Broken.Row i) else None) ≡ Some breach → breach ≡ Broken.Row i
    by true f = cc
    by false f = absurd cc

-- the first breach of rows
first_row : (m : Parts) (x : List ℤ) (n : ℕ) (breach : Breach) → first (λ i. row_breach x i (slice_get m.rows i)) n ≡ Some breach → (i : ℕ)
    × (breach ≡ Broken.Row i) × BreaksRow m x i
first_row m x zero breach e = absurd cc
first_row m x (suc n) breach e = by (first (λ i. row_breach x i (slice_get m.rows i)) n) refl (first_row m x n breach) e
  where
    by : (o : Option Breach) → first (λ i. row_breach x i (slice_get m.rows i)) n ≡ o
        → (first (λ i. row_breach x i (slice_get m.rows i)) n ≡ Some breach → (i : ℕ) × (breach ≡ Broken.Row i) × BreaksRow m x i)
        → option_or o (row_breach x n (slice_get m.rows n)) ≡ Some breach → (i : ℕ) × (breach ≡ Broken.Row i) × BreaksRow m x i
    by (Some b) f rest g = let same : b ≡ breach = cc in rest (f ∙ ap Some same)
    by None f rest g = let is = own_row x n (slice_get m.rows n) breach g in (n, is, g ∙ ap Some is)

-- the breach of a point of the program's box
pub breach_in : (m : Parts) (x : List ℤ) (breach : Breach) → IsIn (box_of m) x → first_breach m x ≡ Some breach → (i : ℕ)
    × (breach ≡ Broken.Row i) × BreaksRow m x i
breach_in m x breach inside e = first_row m x (length m.rows) breach (rw (no_column m x inside) at e)

-- ---- rays

-- the row has a side that its value breaks
sides : (v : ℤ) (low high : Option ℤ) → (is_below_side v low || is_above_side v high) ≡ true → ((l : ℤ) × (low ≡ Some l) × (v <ℤ l))
    ⊎ ((h : ℤ) × (high ≡ Some h) × (h <ℤ v))
sides v None None e = absurd cc
sides v None (Some h) e = inr (h, refl, omega (arith, ints))
sides v (Some l) high e = by (lt_z v l) refl e
  where
    by : (t : Bool) → lt_z v l ≡ t → (t || is_above_side v high) ≡ true → ((k : ℤ) × (Some l ≡ Some k) × (v <ℤ k))
        ⊎ ((h : ℤ) × (high ≡ Some h) × (h <ℤ v))
    by true f g = inl (l, refl, omega (arith, ints))
    by false f g = over high g
      where
        over : (o : Option ℤ) → is_above_side v o ≡ true → ((k : ℤ) × (Some l ≡ Some k) × (v <ℤ k)) ⊎ ((h : ℤ) × (o ≡ Some h) × (h <ℤ v))
        over None k = absurd cc
        over (Some h) k = inr (h, refl, omega (arith, ints))

-- a broken row is there, and one of its sides is broken
broken_side : (m : Parts) (x : List ℤ) (i : ℕ) → BreaksRow m x i → (r : Row) × (slice_get m.rows i ≡ Some r)
    × (((l : ℤ) × (r.low ≡ Some l) × (row_sum r.coefs x <ℤ l)) ⊎ ((h : ℤ) × (r.high ≡ Some h) × (h <ℤ row_sum r.coefs x)))
broken_side m x i broken = by (slice_get m.rows i) refl broken
  where
    by : (o : Option Row) → slice_get m.rows i ≡ o → row_breach x i o ≡ Some (Broken.Row i) → (r : Row) × (slice_get m.rows i ≡ Some r)
        × (((l : ℤ) × (r.low ≡ Some l) × (row_sum r.coefs x <ℤ l)) ⊎ ((h : ℤ) × (r.high ≡ Some h) × (h <ℤ row_sum r.coefs x)))
    by None e f = absurd cc
    by (Some r) e f = (
      r,
      e,
      sides (row_sum r.coefs x) r.low r.high
          (test (is_below_side (row_sum r.coefs x) r.low || is_above_side (row_sum r.coefs x) r.high) f),
    )
      where
        test : (t : Bool) → (if t then Some (Broken.Row i) else None) ≡ Some (Broken.Row i) → t ≡ true
        test true g = refl
        test false g = absurd cc

-- a certificate of one multiplier of 1 or -1
pub ray_cert : (rows i : ℕ) (k : ℤ) → i < rows → k ≢ pos 0 → unsigned_abs k ≤ 2 ^ 36 → IsCert rows (ray_on i k)
ray_cert rows i k l other small = record {
  not_negative = omega (arith, ints);
  divisor = omega (arith, ints);
  ordered = record { rising = λ a c p q. absurd (omega arith); within = λ a p. at_first a p; present = λ a p. present_first a p };
  multipliers = λ a p. small_first a p;
}
  where
    at_first : (a : ℕ) → a < 1 → index_at ((i, k) ∷ []) a < rows
    at_first zero p = l
    at_first (suc a) p = absurd (omega arith)

    present_first : (a : ℕ) → a < 1 → value_at ((i, k) ∷ []) a ≢ pos 0
    present_first zero p = other
    present_first (suc a) p = absurd (omega arith)

    small_first : (a : ℕ) → a < 1 → unsigned_abs (value_at ((i, k) ∷ []) a) ≤ 2 ^ 36
    small_first zero p = small
    small_first (suc a) p = absurd (omega arith)

-- where the ray of 1 is not infinite, that of -1 is
pub other_ray : (m : Parts) (b : List (ℤ × ℤ)) (i : ℕ) (v : ℤ) → IsSingle b → IsOpen b → BreaksRow m (lowest b) i
    → leaf_bound m b (ray_on i (pos 1)) ≡ At v → leaf_bound m b (ray_on i (negsuc 0)) ≡ Infinite
other_ray m b i v single open' broken low_is = by (broken_side m (lowest b) i broken)
  where
    by : (r : Row) × (slice_get m.rows i ≡ Some r)
        × (((l : ℤ) × (r.low ≡ Some l) × (row_sum r.coefs (lowest b) <ℤ l))
        ⊎ ((h : ℤ) × (r.high ≡ Some h) × (h <ℤ row_sum r.coefs (lowest b)))) → leaf_bound m b (ray_on i (negsuc 0)) ≡ Infinite
    by (r, is, inl (l, low, less)) = let infinite = ray_infinite b single open' m i r (pos 1) l is low (omega (arith, ints)) in absurd cc
    by (r, is, inr (h, high, more)) = ray_infinite b single open' m i r (negsuc 0) h is high (omega (arith, ints))

-- a broken row is one of the rows
pub broken_within : (m : Parts) (x : List ℤ) (i : ℕ) → BreaksRow m x i → i < length m.rows
broken_within m x i broken = let found = broken_side m x i broken in slice_get_within m.rows i found.0 found.1
