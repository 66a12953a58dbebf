-- The steps of a tableau as functions on plain data: a pivot, which is wide exactly where the step of one of its entries is, and a flip.
use Rattle.std.specs.Prelude.{ℕ, zero, suc, ◌==◌, if◌then◌else◌, List, [], ◌∷◌, length, Result, Ok, slice_set}
use Rattle.frac128.specs.declared.fraction.Wide.{Wide}
use Rattle.frac128.specs.Fractions.{Fraction, quotient_of}
use Rattle.tableau.specs.declared.positions.Rest.{Rest}
use Rattle.tableau.specs.declared.positions.Rest.TheVariants.{Basic, Low, High, Zero}
use Rattle.tableau.specs.Tables.{Table, entry, basic_at, position_at}
use Rattle.tableau.specs.Numbers.{and_then, less_product}

-- the list of f 0, .., f (n - 1), wide where one of them is
abbrev pub all_below : {A : Type 0} → ℕ → (ℕ → Result A Wide) → Result (List A) Wide
all_below zero f = Ok []
all_below (suc n) f = and_then (f 0) (λ x. and_then (all_below n (λ k. f (suc k))) (λ xs. Ok (x ∷ xs)))

-- entry (i, w) after a pivot at row r and variable v: the pivot row is divided by the pivot, and each other entry loses its
-- pivot-column entry times the new pivot-row entry
abbrev pub new_entry : List (List Fraction) → ℕ → ℕ → ℕ → ℕ → Result Fraction Wide
new_entry rows r v i w =
    let quotient = quotient_of (entry rows r w) (entry rows r v) in
    if i == r then quotient else and_then quotient (less_product (entry rows i w) (entry rows i v))

-- the rows, of n numbers each, after a pivot
abbrev pub new_rows : ℕ → List (List Fraction) → ℕ → ℕ → Result (List (List Fraction)) Wide
new_rows n rows r v = all_below (length rows) (λ i. all_below n (new_entry rows r v i))

-- the tableau after a pivot at row r and variable v, where the row's basic variable leaves to a position
abbrev pub after_pivot : Table → ℕ → ℕ → Rest → Result Table Wide
after_pivot T r v leaving =
    and_then (new_rows (length T.variables) T.rows r v) (λ rows. Ok (record {
      rows = rows;
      basics = slice_set T.basics r v;
      positions = slice_set (slice_set T.positions (basic_at T.basics r) leaving) v Basic;
      variables = T.variables;
    }))

-- the other side
abbrev pub other_side : Rest → Rest
other_side Basic = Basic
other_side Low = High
other_side High = Low
other_side Zero = Zero

-- the tableau after a flip of a variable
abbrev pub after_flip : Table → ℕ → Table
after_flip T v = record {
  rows = T.rows;
  basics = T.basics;
  positions = slice_set T.positions v (other_side (position_at T.positions v));
  variables = T.variables;
}
