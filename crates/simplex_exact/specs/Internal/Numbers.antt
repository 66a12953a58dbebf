-- What the simplex keeps while it looks for its next step: the row of each basic variable, and the number of each variable.
use Rattle.std.specs.Prelude.{◌≡◌, ◌≢◌, ℕ, ◌<◌, ◌==◌, List, length, Option, Some, None, Ok, slice_index_or, option_map, if◌then◌else◌, Bool}
use Rattle.std.specs.List.{position}
use Rattle.frac128.specs.Fractions.{Fraction}
use Rattle.frac128.specs.Rationals.{Rational, neg}
use Rattle.frac128.specs.Values.{value_of}
use Rattle.tableau.specs.declared.positions.Rest.TheVariants.{Basic}
use Rattle.tableau.specs.Tables.{Table, at, position_at}
use Rattle.tableau.specs.Meanings.{value_number}
use Rattle.tableau.specs.Numbers.{value}
use Rattle.simplex_laws.specs.Finals.{point_of}
use Rattle.simplex_laws.specs.declared.next.Next.{Next}

-- the row of a variable, none for one that is not basic
abbrev pub row_of : Table → ℕ → Option ℕ
row_of T v = position (λ w. w == v) T.basics

-- a list holds the row of each variable
abbrev pub AreBasicRows : Table → List (Option ℕ) → Type 0
AreBasicRows T basic_rows = (v : ℕ) → v < length T.variables → slice_index_or basic_rows v None ≡ row_of T v

-- a fraction is the number of a variable; that of a basic one is the value of its row, as the tableau computes it
pub record IsNumber (T : Table) (v : ℕ) (x : Fraction) : Type 0 where
  pub exact : (i : ℕ) → row_of T v ≡ Some i → value T i ≡ Ok x
  pub number : value_of x ≡ point_of T v

-- a list holds the numbers of the variables below n
abbrev pub AreNumbersBelow : Table → List Fraction → ℕ → Type 0
AreNumbersBelow T values n = (v : ℕ) → v < n → IsNumber T v (at values v)

-- the rows of the basic variables and the numbers of all variables are found
pub record AreFound (T : Table) (basic_rows : List (Option ℕ)) (values : List Fraction) : Type 0 where
  pub small : length basic_rows < 8192
  pub count : length basic_rows ≡ length T.variables
  pub rows : AreBasicRows T basic_rows
  pub size : length values ≡ length T.variables
  pub numbers : AreNumbersBelow T values (length T.variables)

-- a nonbasic variable may be blocked by a row, whose basic variable has this value
pub record MayBlock (T : Table) (row var : ℕ) (x : Fraction) : Type 0 where
  pub row_inside : row < length T.rows
  pub inside : var < length T.variables
  pub value_is : value T row ≡ Ok x
  pub number : value_of x ≡ value_number T row
  pub free : position_at T.positions var ≢ Basic

-- a number as it is, or negated
abbrev pub turned : Bool → Rational → Rational
turned up p = if up then p else neg p

-- a block whose distance is a fraction
abbrev pub block_value : Option (Fraction × Next) → Option (Rational × Next)
block_value o = option_map (λ s. (value_of s.0, s.1)) o
