-- Tableaus as plain data: rows of fractions, a basic variable for each row, the position of each variable, and the variables of the
-- node.
use Rattle.std.specs.Prelude.{◌≡◌, ◌≢◌, ℕ, ◌<◌, ◌==◌, Bool, List, [], length, None, slice_index_or, pos, unsigned_abs}
use Rattle.frac128.specs.Fractions.{Fraction, IsFraction, whole}
use Rattle.tableau.specs.declared.positions.Rest.{Rest}
use Rattle.tableau.specs.declared.positions.Rest.TheVariants.{Basic, Low, High, Zero}
use Rattle.tableau.specs.declared.variables.Variable.{Variable}

-- a tableau of a node
pub record Table : Type 0 where
  pub rows : List (List Fraction)
  pub basics : List ℕ
  pub positions : List Rest
  pub variables : List Variable

-- the tableau of its four lists
abbrev pub table_of : List (List Fraction) → List ℕ → List Rest → List Variable → Table
table_of rows basics positions variables = record { rows = rows; basics = basics; positions = positions; variables = variables }

-- a number of a row by its variable, 0 past its end
abbrev pub at : List Fraction → ℕ → Fraction
at line v = slice_index_or line v (whole (pos 0))

-- a row by its number, and none past the last
abbrev pub line : List (List Fraction) → ℕ → List Fraction
line rows i = slice_index_or rows i []

-- the entry of a row and a variable
abbrev pub entry : List (List Fraction) → ℕ → ℕ → Fraction
entry rows i v = at (line rows i) v

-- the basic variable of a row
abbrev pub basic_at : List ℕ → ℕ → ℕ
basic_at basics i = slice_index_or basics i 0

-- the position of a variable; past the last one all are basic
abbrev pub position_at : List Rest → ℕ → Rest
position_at positions v = slice_index_or positions v Basic

-- a variable by its number; past the last there are no sides and no cost
abbrev pub variable_at : List Variable → ℕ → Variable
variable_at variables v = slice_index_or variables v (record { low = None; high = None; cost = pos 0 })

-- a fraction is 0
abbrev pub is_zero_fraction : Fraction → Bool
is_zero_fraction x = unsigned_abs x.num == 0

-- a nonbasic variable can have this position: at a side that it has, or at 0 where it has no side
abbrev pub CanRest : Variable → Rest → Type 0
CanRest x Basic = ⊥
CanRest x Low = x.low ≢ None
CanRest x High = x.high ≢ None
CanRest x Zero = (x.low ≡ None) × (x.high ≡ None)

-- rows of n numbers, all of them fractions in lowest terms
pub record AreRows (n : ℕ) (rows : List (List Fraction)) : Type 0 where
  pub size : (i : ℕ) → i < length rows → length (line rows i) ≡ n
  pub fractions : (i v : ℕ) → i < length rows → v < n → IsFraction (entry rows i v).num (entry rows i v).den

-- the lists of a tableau fit together
pub record IsTable (T : Table) : Type 0 where
  pub rows : AreRows (length T.variables) T.rows
  pub basics : length T.basics ≡ length T.rows
  pub positions : length T.positions ≡ length T.variables
  pub within : (i : ℕ) → i < length T.rows → basic_at T.basics i < length T.variables

-- spare lines of n numbers, one for each row, and one for the quotients of the pivot row
pub record AreSpareLines (rows n : ℕ) (spare : List (List Fraction)) (more : List Fraction) : Type 0 where
  pub lines : length spare ≡ rows
  pub size : (i : ℕ) → i < rows → length (line spare i) ≡ n
  pub quotients : length more ≡ n
