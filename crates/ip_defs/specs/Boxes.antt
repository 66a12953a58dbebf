-- Boxes: their halves at a cut of a column, and their widths.
use Rattle.std.specs.Prelude.{ℕ, ◌<◌, List, length, slice_set, sum_by, ℤ, pos, ◌+ℤ◌, ◌≤ℤ◌}
use Rattle.std.specs.Int.{int_gap, int_min, int_max}
use Rattle.ip_defs.specs.Program.{low_at, high_at}

-- the lower half at a cut: the column's upper bound is lowered to the cut
abbrev pub below : List (ℤ × ℤ) → ℕ → ℤ → List (ℤ × ℤ)
below b j cut = slice_set b j (low_at b j, int_min (high_at b j) cut)

-- the upper half at a cut: the column's lower bound is raised to the integer after the cut
abbrev pub above : List (ℤ × ℤ) → ℕ → ℤ → List (ℤ × ℤ)
above b j cut = slice_set b j (int_max (low_at b j) (cut +ℤ pos 1), high_at b j)

-- no column is empty: each lower bound is at most its upper bound
abbrev pub IsOpen : List (ℤ × ℤ) → Type 0
IsOpen b = (j : ℕ) → j < length b → low_at b j ≤ℤ high_at b j

-- the sum over the columns of upper bound less lower bound; an empty column counts 0
abbrev pub width : List (ℤ × ℤ) → ℕ
width b = sum_by (λ s. int_gap s.0 s.1) b
