-- Where the coefficient of a column stands in the coefficients of a row.
use Rattle.std.specs.Prelude.{ℕ, suc, ◌==◌, nat_lt, Bool, false, if◌then◌else◌, List, [], ◌∷◌, Option, None, Some, Result, Ok, Err, ℤ}
use Rattle.std.specs.Prelude.{slice_get}

-- how many coefficients at the start have a column before this one
abbrev pub columns_before : ℕ → List (ℕ × ℤ) → ℕ
columns_before j [] = 0
columns_before j (p ∷ ps) = if nat_lt p.0 j then suc (columns_before j ps) else 0

-- an entry is there, and its column is this one
abbrev pub is_column : ℕ → Option (ℕ × ℤ) → Bool
is_column j None = false
is_column j (Some p) = p.0 == j

-- the index at which the coefficient of a column is listed, or as an error that at which it would be
abbrev pub place_in : ℕ → List (ℕ × ℤ) → Result ℕ ℕ
place_in j ps = if is_column j (slice_get ps (columns_before j ps)) then Ok (columns_before j ps) else Err (columns_before j ps)
