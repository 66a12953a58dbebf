-- Steps up and down within the limit of a number.
use Rattle.std.specs.Prelude.{◌≡◌, ℕ, ◌+◌, ◌^◌, ◌≤◌, Bool, true, false, ℤ, pos, ◌+ℤ◌, ◌-ℤ◌, ◌≤ℤ◌}
use Rattle.std.specs.Int.RustNames.{unsigned_abs}
use Rattle.std.proofs.Common.{arith}
use Rattle.std.proofs.lemmas.Int.{ints}
use Rattle.ip_model.specs.declared.places.Place.{Place}
use Rattle.ip_model.specs.declared.places.Place.TheVariants.{Cost, Low, High, Coef, Lower, Upper}
use Rattle.ip_model.specs.Places.{limit_of}
use Rattle.range_finder.specs.Internal.Asked.{steps_by}

-- the steps up or down from a number to its limit
abbrev pub steps_left : ℤ → ℕ → Bool → ℤ
steps_left number limit true = pos limit -ℤ number
steps_left number limit false = pos limit +ℤ number

pub limit_small : (p : Place) → limit_of p ≤ 2 ^ 62
limit_small (Cost j) = omega arith
limit_small (Low i) = omega arith
limit_small (High i) = omega arith
limit_small (Coef i j) = omega arith
limit_small (Lower j) = omega arith
limit_small (Upper j) = omega arith

module _ (z number : ℤ) (limit : ℕ) where
  pub left_fits : (up : Bool) → z ≡ steps_left number limit up → unsigned_abs number ≤ limit → limit ≤ 2 ^ 62
      → (pos 0 ≤ℤ z) × (z ≤ℤ pos (2 ^ 63))
  left_fits true is small most = (omega (arith, ints), omega (arith, ints))
  left_fits false is small most = (omega (arith, ints), omega (arith, ints))

  pub left_within : (k : ℕ) (up : Bool) → z ≡ steps_left number limit up → unsigned_abs number ≤ limit → k ≤ unsigned_abs z
      → unsigned_abs (number +ℤ steps_by up k) ≤ limit
  left_within k true is small l = omega (arith, ints)
  left_within k false is small l = omega (arith, ints)

  pub left_beyond : (up : Bool) → z ≡ steps_left number limit up → unsigned_abs number ≤ limit
      → ¬ (unsigned_abs (number +ℤ steps_by up (unsigned_abs z + 1)) ≤ limit)
  left_beyond true is small = λ h. omega (arith, ints)
  left_beyond false is small = λ h. omega (arith, ints)
