-- The definitions at work: least -x with 2x <= 3 and x from 0 to 4, its tableau at the start and after a pivot, and a wide pivot.
use Rattle.std.specs.Prelude.{◌≡◌, ◌^◌, ℕ, [], ◌∷◌, List, Option, Some, None, Ok, Err, ℤ, pos, negsuc, refl}
use Rattle.frac128.specs.Gcd.{gcd}
use Rattle.frac128.specs.Fractions.{Fraction, lowest_of, sum_of, product_of, whole}
use Rattle.ip_defs.specs.declared.programs.Column.{Column}
use Rattle.ip_defs.specs.declared.programs.Row.{Row}
use Rattle.ip_defs.specs.declared.programs.Parts.{Parts}
use Rattle.tableau.specs.declared.positions.Rest.TheVariants.{Basic, Low, High}
use Rattle.tableau.specs.declared.variables.Variable.{Variable}
use Rattle.tableau.specs.Tables.{Table}
use Rattle.tableau.specs.Numbers.{value, price, ratio}
use Rattle.tableau.specs.Pivots.{new_rows, after_pivot, after_flip}
use Rattle.tableau.specs.Nodes.{start_of}

-- ---- programs without names, of whole numbers
abbrev pub column : ℤ → ℤ → ℤ → Column
column cost lo hi = record { name = []; cost = cost; lo = lo; hi = hi }

abbrev pub row : List (ℕ × ℤ) → Option ℤ → Option ℤ → Row
row coefs low high = record { name = []; decimals = 0; coefs = coefs; low = low; high = high }

abbrev pub program : ℤ → List Column → List Row → Parts
program constant columns rows = record {
  objective = [];
  cost_decimals = 0;
  constant = constant;
  columns = columns;
  rows = rows;
}

abbrev pub fraction : ℤ → ℤ → Fraction
fraction n d = record { num = n; den = d }

abbrev pub variable : Option ℤ → Option ℤ → ℤ → Variable
variable low high cost = record { low = low; high = high; cost = cost }

abbrev pub one_row : Parts
one_row = program (pos 0) (column (negsuc 0) (pos 0) (pos 9) ∷ []) (row ((0, pos 2) ∷ []) None (Some (pos 3)) ∷ [])

-- the column with the sides of the box, and the slack with those of its row
abbrev variables : List Variable
variables = variable (Some (pos 0)) (Some (pos 4)) (negsuc 0) ∷ variable None (Some (pos 3)) (pos 0) ∷ []

abbrev pub before : Table
before = record {
  rows = (whole (negsuc 1) ∷ whole (pos 1) ∷ []) ∷ [];
  basics = 1 ∷ [];
  positions = Low ∷ Basic ∷ [];
  variables = variables;
}

abbrev pub after : Table
after = record {
  rows = (whole (pos 1) ∷ fraction (negsuc 0) (pos 2) ∷ []) ∷ [];
  basics = 0 ∷ [];
  positions = Basic ∷ High ∷ [];
  variables = variables;
}

pub starts : start_of one_row ((pos 0, pos 4) ∷ []) ≡ before
starts = refl

pub goes_so_far : ratio before 0 0 High ≡ Ok (fraction (pos 3) (pos 2))
unfolding lowest_of sum_of product_of gcd
goes_so_far = refl

pub pivots : after_pivot before 0 0 High ≡ Ok after
unfolding lowest_of sum_of product_of gcd
pivots = refl

pub value_after : value after 0 ≡ Ok (fraction (pos 3) (pos 2))
unfolding lowest_of sum_of product_of gcd
value_after = refl

pub price_after : price after 1 ≡ Ok (fraction (negsuc 0) (pos 2))
unfolding lowest_of sum_of product_of gcd
price_after = refl

-- from its high side the slack takes the column back to where it was, but for its position
pub pivots_back : after_pivot after 0 1 High ≡ Ok (record {
  rows = before.rows;
  basics = before.basics;
  positions = High ∷ Basic ∷ [];
  variables = variables;
})
unfolding lowest_of sum_of product_of gcd
pivots_back = refl

pub flips : (after_flip before 0).positions ≡ High ∷ Basic ∷ []
flips = refl

-- another row loses its multiple of the new pivot row: 5 - 3 * (4 / 2)
pub other_row : new_rows 2 ((whole (pos 2) ∷ whole (pos 4) ∷ []) ∷ (whole (pos 3) ∷ whole (pos 5) ∷ []) ∷ []) 0 0
    ≡ Ok ((whole (pos 1) ∷ whole (pos 2) ∷ []) ∷ (whole (pos 0) ∷ whole (negsuc 0) ∷ []) ∷ [])
unfolding lowest_of sum_of product_of gcd
other_row = refl

-- 2^126 divided by 1/2 leaves the range
pub wide : new_rows 2 ((fraction (pos 1) (pos 2) ∷ whole (pos (2 ^ 126)) ∷ []) ∷ []) 0 0 ≡ Err (record {})
unfolding lowest_of sum_of product_of gcd
wide = refl
