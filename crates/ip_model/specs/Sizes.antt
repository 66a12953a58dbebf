-- The width of a program's box, its first crossed row, and its node allowance.
use Rattle.std.specs.Prelude.{ℕ, ◌+◌, ◌/◌, ◌^◌, min, if◌then◌else◌, length, sum_by, position, Option, ℤ}
use Rattle.std.specs.Int.{int_gap}
use Rattle.std.specs.List.{list_any}
use Rattle.ip_defs.specs.Program.{box_of, is_crossed}
use Rattle.ip_defs.specs.Certificates.{is_empty_side}
use Rattle.ip_defs.specs.declared.programs.Parts.{Parts}

-- the upper bound less the lower bound, 0 where it is below
abbrev pub width_of : ℤ × ℤ → ℕ
width_of s = int_gap s.0 s.1

-- the sum of the widths of the columns, 0 where a column is empty
abbrev pub width_sum : Parts → ℕ
width_sum m = if list_any is_empty_side (box_of m) then 0 else sum_by width_of (box_of m)

-- the first row that has both sides, with the low side above the high side
abbrev pub first_crossed : Parts → Option ℕ
first_crossed m = position is_crossed m.rows

-- the number of nodes that a tree may have, where `nodes` are asked for
abbrev pub allowance : Parts → ℕ → ℕ
allowance m nodes = min nodes (2 ^ 24 / (length m.columns + length m.rows + 1))
