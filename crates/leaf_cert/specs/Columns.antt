-- The sums over the rows of multiplier times coefficient, one for each column, and lists of small numbers.
use Rattle.std.specs.Prelude.{ℕ, ◌<◌, ◌≤◌, List, length, ℤ, ◌*ℤ◌}
use Rattle.std.specs.Int.RustNames.{unsigned_abs}
use Rattle.ip_defs.specs.Sums.{sum_over}
use Rattle.ip_defs.specs.Program.{at}
use Rattle.ip_defs.specs.Certificates.{coefficient_of}
use Rattle.ip_defs.specs.declared.programs.Row.{Row}

-- no number of a list exceeds a limit in absolute value
abbrev pub AllSmall : ℕ → List ℤ → Type 0
AllSmall most d = (j : ℕ) → j < length d → unsigned_abs (at d j) ≤ most

-- the sum over the rows of multiplier times coefficient in a column
abbrev pub taken_of : List Row → List (ℕ × ℤ) → ℕ → ℤ
taken_of rows y j = sum_over (λ p. p.1 *ℤ coefficient_of rows p.0 j) y
