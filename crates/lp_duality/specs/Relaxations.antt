-- The relaxation of a node, whose points have rational coordinates, one for each column.
use Rattle.std.specs.Prelude.{◌≡◌, ℕ, ◌<◌, length, Option, Some, slice_get, slice_index_or, option_and_then, ℤ, pos, List, ◌≤ℤ◌}
use Rattle.ip_defs.specs.Program.{at, costs_of, low_at, high_at}
use Rattle.ip_defs.specs.Certificates.{coefficient_of}
use Rattle.ip_defs.specs.declared.programs.Parts.{Parts}
use Rattle.frac128.specs.Fractions.{Fraction}
use Rattle.frac128.specs.Values.{value_of}
use Rattle.frac128.specs.Rationals.{Rational, of, add, mul, AtMost, sum}

-- a list of fractions as rational numbers, 0 past its end
abbrev pub numbers_of : List Fraction → ℕ → Rational
numbers_of xs k = value_of (slice_index_or xs k (record { num = pos 0; den = pos 1 }))

-- the sides of a row by number, none where there is no such row
abbrev pub row_low : Parts → ℕ → Option ℤ
row_low m k = option_and_then (λ r. r.low) (slice_get m.rows k)

abbrev pub row_high : Parts → ℕ → Option ℤ
row_high m k = option_and_then (λ r. r.high) (slice_get m.rows k)

-- the cost of a column as a rational number
abbrev pub cost_of : Parts → ℕ → Rational
cost_of m j = of (at (costs_of m) j)

-- the value of a row at a point
abbrev pub row_total : Parts → (ℕ → Rational) → ℕ → Rational
row_total m x k = sum (λ j. mul (of (coefficient_of m.rows k j)) (x j)) (length m.columns)

-- the cost of a point
abbrev pub total_cost : Parts → (ℕ → Rational) → Rational
total_cost m x = add (of m.constant) (sum (λ j. mul (cost_of m j) (x j)) (length m.columns))

-- a number lies between the sides that exist
pub record IsBetween (l h : Option ℤ) (x : Rational) : Type 0 where
  pub low : (side : ℤ) → l ≡ Some side → AtMost (of side) x
  pub high : (side : ℤ) → h ≡ Some side → AtMost x (of side)

-- a point of the relaxation: each column lies between its bounds in the box, and each row between its sides
pub record IsRelaxed (m : Parts) (b : List (ℤ × ℤ)) (x : ℕ → Rational) : Type 0 where
  pub low : (j : ℕ) → j < length m.columns → AtMost (of (low_at b j)) (x j)
  pub high : (j : ℕ) → j < length m.columns → AtMost (x j) (of (high_at b j))
  pub rows : (k : ℕ) → k < length m.rows → IsBetween (row_low m k) (row_high m k) (row_total m x k)

-- no column of the box is empty and no row is crossed
pub record IsUncrossed (m : Parts) (b : List (ℤ × ℤ)) : Type 0 where
  pub columns : (j : ℕ) → j < length m.columns → low_at b j ≤ℤ high_at b j
  pub rows : (k : ℕ) (low high : ℤ) → k < length m.rows → row_low m k ≡ Some low → row_high m k ≡ Some high → low ≤ℤ high
