-- How the rows of a pivot are made: the new pivot row first, and then those of the others that change.
use Rattle.std.specs.Prelude.{◌≡◌, ℕ, ◌<◌, ◌==◌, ◌&&◌, not, Bool, true, List, length, Result, Ok, Err}
use Rattle.frac128.specs.declared.fraction.Wide.{Wide}
use Rattle.frac128.specs.Fractions.{Fraction}
use Rattle.tableau.specs.Tables.{at, line, entry, is_zero_fraction}
use Rattle.tableau.specs.Numbers.{less_product}
use Rattle.tableau.specs.Pivots.{all_below}

-- a pivot at row r and variable v changes another row: its pivot-column entry is not 0
abbrev pub is_changed : List (List Fraction) → ℕ → ℕ → ℕ → Bool
is_changed rows r v i = not (i == r) && not (is_zero_fraction (entry rows i v))

-- a row less a multiple of the new pivot row
abbrev pub lessened_row : List Fraction → Fraction → List Fraction → Result (List Fraction) Wide
lessened_row row factor quotients = all_below (length row) (λ w. less_product (at row w) factor (at quotients w))

-- the spare lines hold the rows that change
abbrev pub AreLessened : List (List Fraction) → ℕ → ℕ → List Fraction → List (List Fraction) → Type 0
AreLessened rows r v quotients spare = (i : ℕ) → i < length rows → is_changed rows r v i ≡ true →
    lessened_row (line rows i) (entry rows i v) quotients ≡ Ok (line spare i)

-- one of the rows that change is wide
abbrev pub HasWideRow : List (List Fraction) → ℕ → ℕ → List Fraction → Type 0
HasWideRow rows r v quotients = (i : ℕ) × (i < length rows) × (is_changed rows r v i ≡ true)
    × (lessened_row (line rows i) (entry rows i v) quotients ≡ Err (record {}))
