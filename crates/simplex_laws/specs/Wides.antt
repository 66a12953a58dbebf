-- Where a step or a number of a tableau of a node leaves the range of fractions.
use Rattle.std.specs.Prelude.{◌≡◌, ◌≢◌, ℕ, ◌+◌, ◌<◌, List, length, None, Err, ℤ, pos}
use Rattle.ip_defs.specs.declared.programs.Parts.{Parts}
use Rattle.tableau.specs.declared.positions.Rest.{Rest}
use Rattle.tableau.specs.declared.positions.Rest.TheVariants.{Basic}
use Rattle.tableau.specs.Tables.{Table, entry, basic_at, position_at, variable_at}
use Rattle.tableau.specs.Numbers.{value, price, ratio, side_at}
use Rattle.simplex_laws.specs.Steps.{next}
use Rattle.simplex_laws.specs.Runs.{step, IsReached}

-- a value, a reduced cost or a ratio of a tableau is wide
pub data HasWideNumber (T : Table) : Type 0 where
  wide_value : (i : ℕ) → i < length T.rows → value T i ≡ Err (record {}) → HasWideNumber T
  wide_price : (v : ℕ) → v < length T.variables → price T v ≡ Err (record {}) → HasWideNumber T
  wide_ratio : (i v : ℕ) (side : Rest) → i < length T.rows → v < length T.variables → position_at T.positions v ≢ Basic →
      (entry T.rows i v).num ≢ pos 0 → side_at (variable_at T.variables (basic_at T.basics i)) side ≢ None →
      ratio T i v side ≡ Err (record {}) → HasWideNumber T

-- at its nth step the simplex leaves the range of fractions: that step is a pivot, and is wide, or the tableau after it has a wide number
pub data IsWideAfter (m : Parts) (b : List (ℤ × ℤ)) (n : ℕ) : Type 0 where
  wide_step : (k : ℕ) (T : Table) → n ≡ k + 1 → IsReached m b k T → step T (next T) ≡ Err (record {}) → IsWideAfter m b n
  wide_number : (T : Table) → IsReached m b n T → HasWideNumber T → IsWideAfter m b n
