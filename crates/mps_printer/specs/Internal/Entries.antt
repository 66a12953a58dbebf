-- The coefficients of a program by column.
use Rattle.std.specs.Prelude.{ℕ, suc, ◌==◌, if◌then◌else◌, List, [], ◌∷◌, ◌++◌, ℤ, slice_get}
use Rattle.std.specs.Option.{option_map_or}
use Rattle.mps_defs.specs.Numbers.{decimal_text}
use Rattle.mps_defs.specs.CanonicalText.{Written, triple}
use Rattle.ip_defs.specs.declared.programs.Row.{Row}

-- what the i-th row lists for a column, with the number of the row
abbrev pub listed_for : ℕ → ℕ → List (ℕ × ℤ) → List (ℕ × ℤ)
listed_for j i [] = []
listed_for j i (p ∷ ps) = if p.0 == j then (i, p.1) ∷ listed_for j i ps else listed_for j i ps

-- what the rows from the i-th on list for a column, in order of rows
abbrev pub column_entries : ℕ → ℕ → List Row → List (ℕ × ℤ)
column_entries j i [] = []
column_entries j i (r ∷ rs) = listed_for j i r.coefs ++ column_entries j (suc i) rs

-- the line of a column's coefficient in a row by number
abbrev pub entry_line : List ℕ → List Row → ℕ × ℤ → List Written
entry_line name rows e = option_map_or (λ r. triple name r.name (decimal_text e.1 r.decimals) ∷ []) (slice_get rows e.0) []
