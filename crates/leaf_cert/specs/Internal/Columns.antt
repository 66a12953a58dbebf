-- The columns' part of a dual value, given for each column the sum over the rows of multiplier times coefficient.
use Rattle.std.specs.Prelude.{ℕ, List, ℤ, ◌-ℤ◌, ◌*ℤ◌}
use Rattle.std.specs.Int.{int_min}
use Rattle.ip_defs.specs.Program.{at, low_at, high_at}

-- the lesser of reduced cost times lower bound and times upper bound, for q, the costs and the sums over the rows
abbrev pub least_part : List ℤ → ℤ → List ℤ → List (ℤ × ℤ) → ℕ → ℤ
least_part costs q taken b j =
    int_min ((q *ℤ at costs j -ℤ at taken j) *ℤ low_at b j) ((q *ℤ at costs j -ℤ at taken j) *ℤ high_at b j)
