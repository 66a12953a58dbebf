-- Steps of a direction of sides: where no side exceeds its limit at the last one, none does at any before it.
use Rattle.std.specs.Prelude.{◌≡◌, ℕ, zero, suc, ◌≤◌, ◌^◌, Bool, true, false, cond, List, [], ◌∷◌, Option, Some, None, option_map}
use Rattle.std.specs.Prelude.{option_and_then, slice_get, Ok, Err, ℤ, pos, negsuc, ◌+ℤ◌, ◌*ℤ◌}
use Rattle.std.specs.Int.RustNames.{unsigned_abs}
use Rattle.std.proofs.Common.{arith, refl}
use Rattle.std.proofs.lemmas.Int.{ints}
use Rattle.std.proofs.lemmas.Bool.{ltb-false}
use Rattle.ring_laws.proofs.Products.{mul_add}
use Rattle.std.specs.Option.{ForSome}
use Rattle.ip_defs.specs.Limits.{IsRow, IsWithinLimits, exceeds}
use Rattle.ip_defs.specs.Lists.{Each}
use Rattle.ip_defs.proofs.ListLaws.{each_weaker}
use Rattle.ip_defs.proofs.OrderLaws.{lt_false}
use Rattle.ip_defs.specs.declared.programs.Row.{Row}
use Rattle.ip_defs.specs.declared.programs.Parts.{Parts}
use Rattle.ip_model.specs.declared.places.Place.{Place}
use Rattle.ip_model.specs.declared.places.Place.TheVariants.{Cost, Low, High, Coef, Lower, Upper}
use Rattle.ip_model.specs.Places.{limit_of, number_of, or_zero, raised, with_high, with_low}
use Rattle.perturbation.specs.Lines.{IsSide, index_of, row_at, row_line_of, side_moved, unless_stopped}
use Rattle.perturbation.specs.declared.edits.LineError.TheVariants.{Limit}
use Rattle.range_laws.specs.Widening.{Paired}
use Rattle.sweep_proof.proofs.DirectionLaws.{changed_both, scaled_down, scaled_up}
use Rattle.sweep_proof.specs.Internal.Lines.{AreWithin}
use Rattle.sweep_proof.specs.RowSweeps.{IsWithinAt}

-- between 0 steps and more, a number stays between its values there
within_between : (s t : ℕ) (z r : ℤ) → s ≤ t → unsigned_abs z ≤ 2 ^ 62 → unsigned_abs (z +ℤ pos t *ℤ r) ≤ 2 ^ 62
    → unsigned_abs (z +ℤ pos s *ℤ r) ≤ 2 ^ 62
within_between s t z (pos n) le first last =
    let up = scaled_up s t (pos n) le (omega (arith, ints)) in
    let from = scaled_up 0 s (pos n) (omega arith) (omega (arith, ints)) in
    omega (arith, ints)
within_between s t z (negsuc n) le first last =
    let down = scaled_down s t (negsuc n) le (omega (arith, ints)) in
    let from = scaled_down 0 s (negsuc n) (omega arith) (omega (arith, ints)) in
    omega (arith, ints)

-- two numbers are those after s and after t steps of one that is within the limit
pub record IsSteady (s t : ℕ) (x y : ℤ) : Type 0 where
  pub start : ℤ
  pub step : ℤ
  pub sooner : x ≡ start +ℤ pos s *ℤ step
  pub later : y ≡ start +ℤ pos t *ℤ step
  pub within : unsigned_abs start ≤ 2 ^ 62

abbrev pub AreSteady : ℕ → ℕ → Option ℤ → Option ℤ → Type 0
AreSteady s t None None = Unit {0}
AreSteady s t None (Some y) = ⊥
AreSteady s t (Some x) None = ⊥
AreSteady s t (Some x) (Some y) = IsSteady s t x y

pub record IsSteadyRow (s t : ℕ) (r q : Row) : Type 0 where
  pub low : AreSteady s t r.low q.low
  pub high : AreSteady s t r.high q.high

-- a place is a side, whether or not the row has it
abbrev pub IsRowSide : Place → Type 0
IsRowSide (Low i) = Unit {0}
IsRowSide (High i) = Unit {0}
IsRowSide (Cost j) = ⊥
IsRowSide (Coef i j) = ⊥
IsRowSide (Lower j) = ⊥
IsRowSide (Upper j) = ⊥

pub row_side : (m : Parts) (place : Place) → IsSide m place → IsRowSide place
row_side m (Low i) h = tt
row_side m (High i) h = tt
row_side m (Cost j) h = absurd h
row_side m (Coef i j) h = absurd h
row_side m (Lower j) h = absurd h
row_side m (Upper j) h = absurd h

module _ (s t : ℕ) (le : s ≤ t) where
  -- one more step of a number
  steady_more : (x y r : ℤ) → IsSteady s t x y → IsSteady s t (x +ℤ pos s *ℤ r) (y +ℤ pos t *ℤ r)
  steady_more x y r h = record {
    start = h.start;
    step = h.step +ℤ r;
    sooner = let e = h.sooner in let out = mul_add (pos s) h.step r in omega (arith, ints);
    later = let e = h.later in let out = mul_add (pos t) h.step r in omega (arith, ints);
    within = h.within;
  }

  options_more : (a b : Option ℤ) (r : ℤ) → AreSteady s t a b
      → AreSteady s t (option_map (λ z. z +ℤ pos s *ℤ r) a) (option_map (λ z. z +ℤ pos t *ℤ r) b)
  options_more None None r h = tt
  options_more None (Some y) r h = absurd h
  options_more (Some x) None r h = absurd h
  options_more (Some x) (Some y) r h = steady_more x y r h

  -- what is within the limit at the later step is so at the sooner one
  steady_within : (x y r : ℤ) → IsSteady s t x y → exceeds (2 ^ 62) (y +ℤ pos t *ℤ r) ≡ false → exceeds (2 ^ 62) (x +ℤ pos s *ℤ r) ≡ false
  steady_within x y r h e =
      let more = steady_more x y r h in
      let large : unsigned_abs (y +ℤ pos t *ℤ r) ≤ 2 ^ 62 = ltb-false (2 ^ 62) (unsigned_abs (y +ℤ pos t *ℤ r)) e in
      let few = within_between s t more.start more.step le more.within (rw more.later at large) in
      rw more.sooner (lt_false (2 ^ 62) (unsigned_abs (more.start +ℤ pos s *ℤ more.step)) few)

  options_within : (a b : Option ℤ) (r : ℤ) → AreSteady s t a b → exceeds (2 ^ 62) (or_zero b +ℤ pos t *ℤ r) ≡ false
      → exceeds (2 ^ 62) (or_zero a +ℤ pos s *ℤ r) ≡ false
  options_within None None r h e = steady_within (pos 0) (pos 0) r (record {
    start = pos 0;
    step = pos 0;
    sooner = omega (arith, ints);
    later = omega (arith, ints);
    within = omega (arith, ints);
  }) e
  options_within None (Some y) r h e = absurd h
  options_within (Some x) None r h e = absurd h
  options_within (Some x) (Some y) r h e = steady_within x y r h e

  low_steady : (rs qs : List Row) (i : ℕ) → Paired (IsSteadyRow s t) rs qs
      → AreSteady s t (option_and_then (λ r. r.low) (slice_get rs i)) (option_and_then (λ r. r.low) (slice_get qs i))
  low_steady [] [] i h = tt
  low_steady [] (q ∷ qs) i h = absurd h
  low_steady (r ∷ rs) [] i h = absurd h
  low_steady (r ∷ rs) (q ∷ qs) zero h = h.0.low
  low_steady (r ∷ rs) (q ∷ qs) (suc i) h = low_steady rs qs i h.1

  high_steady : (rs qs : List Row) (i : ℕ) → Paired (IsSteadyRow s t) rs qs
      → AreSteady s t (option_and_then (λ r. r.high) (slice_get rs i)) (option_and_then (λ r. r.high) (slice_get qs i))
  high_steady [] [] i h = tt
  high_steady [] (q ∷ qs) i h = absurd h
  high_steady (r ∷ rs) [] i h = absurd h
  high_steady (r ∷ rs) (q ∷ qs) zero h = h.0.high
  high_steady (r ∷ rs) (q ∷ qs) (suc i) h = high_steady rs qs i h.1

  side_within : (m n : Parts) (place : Place) (r : ℤ) → IsRowSide place → Paired (IsSteadyRow s t) m.rows n.rows
      → exceeds (limit_of place) (number_of n place +ℤ pos t *ℤ r) ≡ false
      → exceeds (limit_of place) (number_of m place +ℤ pos s *ℤ r) ≡ false
  side_within m n (Low i) r at h e = options_within (option_and_then (λ r. r.low) (slice_get m.rows i))
      (option_and_then (λ r. r.low) (slice_get n.rows i)) r (low_steady m.rows n.rows i h) e
  side_within m n (High i) r at h e = options_within (option_and_then (λ r. r.high) (slice_get m.rows i))
      (option_and_then (λ r. r.high) (slice_get n.rows i)) r (high_steady m.rows n.rows i h) e
  side_within m n (Cost j) r at h e = absurd at
  side_within m n (Coef i j) r at h e = absurd at
  side_within m n (Lower j) r at h e = absurd at
  side_within m n (Upper j) r at h e = absurd at

  rows_more : (m n : Parts) (place : Place) (r : ℤ) → IsRowSide place → Paired (IsSteadyRow s t) m.rows n.rows
      → Paired (IsSteadyRow s t) (raised m place (pos s *ℤ r)).rows (raised n place (pos t *ℤ r)).rows
  rows_more m n (Low i) r at h = changed_both (IsSteadyRow s t) (with_low (λ z. z +ℤ pos s *ℤ r)) (with_low (λ z. z +ℤ pos t *ℤ r))
      (λ x y own. record { low = options_more x.low y.low r own.low; high = own.high }) m.rows n.rows i h
  rows_more m n (High i) r at h = changed_both (IsSteadyRow s t) (with_high (λ z. z +ℤ pos s *ℤ r)) (with_high (λ z. z +ℤ pos t *ℤ r))
      (λ x y own. record { low = own.low; high = options_more x.high y.high r own.high }) m.rows n.rows i h
  rows_more m n (Cost j) r at h = absurd at
  rows_more m n (Coef i j) r at h = absurd at
  rows_more m n (Lower j) r at h = absurd at
  rows_more m n (Upper j) r at h = absurd at

  within_from : (m n : Parts) (d : List (Place × ℤ)) → Each (λ p. IsRowSide p.0) d → Paired (IsSteadyRow s t) m.rows n.rows
      → IsWithinAt n d t → IsWithinAt m d s
  within_from m n [] sides h e = refl
  within_from m n (p ∷ d) sides h e = by (exceeds (limit_of p.0) (number_of n p.0 +ℤ pos t *ℤ p.1)) refl e
      (λ g. within_from (raised m p.0 (pos s *ℤ p.1)) (raised n p.0 (pos t *ℤ p.1)) d sides.1 (rows_more m n p.0 p.1 sides.0 h) g)
    where
      by : (b : Bool) → exceeds (limit_of p.0) (number_of n p.0 +ℤ pos t *ℤ p.1) ≡ b
          → unless_stopped (cond b (Err (Limit (index_of p.0))) (Ok (raised n p.0 (pos t *ℤ p.1)))) (λ k. row_line_of k d t)
          ≡ Ok (row_at (raised n p.0 (pos t *ℤ p.1)) d t)
          → (IsWithinAt (raised n p.0 (pos t *ℤ p.1)) d t → IsWithinAt (raised m p.0 (pos s *ℤ p.1)) d s)
          → unless_stopped (side_moved m p.0 p.1 s) (λ k. row_line_of k d s) ≡ Ok (row_at (raised m p.0 (pos s *ℤ p.1)) d s)
      by true is e rest = absurd cc
      by false is e rest = rw (side_within m n p.0 p.1 sides.0 h is) (rest e)

-- ---- the start

start_option : (s t : ℕ) (o : Option ℤ) → ForSome o (λ side. unsigned_abs side ≤ 2 ^ 62) → AreSteady s t o o
start_option s t None h = tt
start_option s t (Some z) h = record {
  start = z;
  step = pos 0;
  sooner = omega (arith, ints);
  later = omega (arith, ints);
  within = h z refl;
}

start_rows : (s t : ℕ) (rows : List Row) → ((i : ℕ) (r : Row) → slice_get rows i ≡ Some r → IsRow r) → Paired (IsSteadyRow s t) rows rows
start_rows s t [] each = tt
start_rows s t (r ∷ rows) each = (
  record {
    low = start_option s t r.low (each 0 r refl).low;
    high = start_option s t r.high (each 0 r refl).high;
  },
  start_rows s t rows (λ i q at. each (suc i) q at),
)

pub line_within : (m : Parts) (d : List (Place × ℤ)) (steps : ℕ) → IsWithinLimits m → Each (λ p. IsSide m p.0) d → IsWithinAt m d steps
    → AreWithin m d steps
line_within m d steps limits sides last = λ s le. within_from s steps le m m d
    (each_weaker (λ (p : Place × ℤ). IsSide m p.0) (λ (p : Place × ℤ). IsRowSide p.0) d (λ p h. row_side m p.0 h) sides)
    (start_rows s steps m.rows limits.rows) last
