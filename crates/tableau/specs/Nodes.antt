-- The linear system of a node, and what it means that a tableau stands for it. A node has one variable for each column, with the
-- sides of its area, and one slack for each row, with the row's sides; its equations say that each slack is its row's sum.
use Rattle.std.specs.Prelude.{◌≡◌, ◌≢◌, ℕ, zero, suc, ◌+◌, ◌<◌, ◌==◌, if◌then◌else◌, nat_lt, List, [], ◌∷◌, ◌++◌, length, map, Some, ℤ}
use Rattle.std.specs.Prelude.{pos, neg_ℤ}
use Rattle.std.specs.List.{zip}
use Rattle.frac128.specs.Fractions.{Fraction, whole}
use Rattle.frac128.specs.Rationals.{Rational, of, mul, neg, sum}
use Rattle.frac128.specs.Values.{value_of}
use Rattle.ip_defs.specs.declared.programs.Column.{Column}
use Rattle.ip_defs.specs.declared.programs.Row.{Row}
use Rattle.ip_defs.specs.declared.programs.Parts.{Parts}
use Rattle.ip_defs.specs.Certificates.{coefficient_of}
use Rattle.tableau.specs.declared.positions.Rest.{Rest}
use Rattle.tableau.specs.declared.positions.Rest.TheVariants.{Basic, Low, High, Zero}
use Rattle.tableau.specs.declared.variables.Variable.{Variable}
use Rattle.tableau.specs.Tables.{Table, entry, basic_at, position_at, variable_at, CanRest}

-- ---- the variables of a node
abbrev pub column_variable : Column × (ℤ × ℤ) → Variable
column_variable p = record { low = Some p.1.0; high = Some p.1.1; cost = p.0.cost }

abbrev pub slack_variable : Row → Variable
slack_variable r = record { low = r.low; high = r.high; cost = pos 0 }

-- the columns of a program in a box, then its slacks
abbrev pub variables_of : Parts → List (ℤ × ℤ) → List Variable
variables_of m b = map column_variable (zip m.columns b) ++ map slack_variable m.rows

-- ---- the tableau at the start
-- f 0, .., f (n - 1)
abbrev pub listed : {A : Type 0} → ℕ → (ℕ → A) → List A
listed zero f = []
listed (suc n) f = f 0 ∷ listed n (λ k. f (suc k))

-- row k says that its slack less its sum is 0
abbrev pub start_entry : Parts → ℕ → ℕ → Fraction
start_entry m k v =
    let columns = length m.columns in
    if nat_lt v columns then whole (neg_ℤ (coefficient_of m.rows k v)) else if v == columns + k then whole (pos 1) else whole (pos 0)

-- all slacks are basic, and each column, which has both sides, is nonbasic at its low side
abbrev pub start_of : Parts → List (ℤ × ℤ) → Table
start_of m b =
    let columns = length m.columns in
    let rows = length m.rows in
    record {
      rows = listed rows (λ k. listed (columns + rows) (start_entry m k));
      basics = listed rows (λ k. columns + k);
      positions = listed (columns + rows) (λ v. if nat_lt v columns then Low else Basic);
      variables = variables_of m b;
    }

-- ---- standing for a node
-- an entry as a rational number
abbrev pub number : Table → ℕ → ℕ → Rational
number T i v = value_of (entry T.rows i v)

-- a basic variable is basic in some row, and each other one is at a side that it has, or at 0 where it has no side
abbrev pub IsWellPlaced : Table → ℕ → Rest → Type 0
IsWellPlaced T v Basic = (i : ℕ) × (i < length T.rows) × (basic_at T.basics i ≡ v)
IsWellPlaced T v Low = CanRest (variable_at T.variables v) Low
IsWellPlaced T v High = CanRest (variable_at T.variables v) High
IsWellPlaced T v Zero = CanRest (variable_at T.variables v) Zero

-- a tableau stands for a node: its basic variables differ and their columns are unit columns; its rows are combinations of the
-- node's equations, weighed by their slack entries; and each variable has a position that it can have
pub record StandsFor (m : Parts) (b : List (ℤ × ℤ)) (T : Table) : Type 0 where
  pub variables : T.variables ≡ variables_of m b
  pub size : length T.variables ≡ length m.columns + length m.rows
  pub rows : length T.rows ≡ length m.rows
  pub within : (i : ℕ) → i < length m.rows → basic_at T.basics i < length m.columns + length m.rows
  pub different : (i k : ℕ) → i < length m.rows → k < length m.rows → basic_at T.basics i ≡ basic_at T.basics k → i ≡ k
  pub one : (i : ℕ) → i < length m.rows → number T i (basic_at T.basics i) ≡ of (pos 1)
  pub zeros : (i k : ℕ) → i < length m.rows → k < length m.rows → i ≢ k → number T i (basic_at T.basics k) ≡ of (pos 0)
  pub combination : (i j : ℕ) → i < length m.rows → j < length m.columns → number T i j
      ≡ neg (sum (λ k. mul (number T i (length m.columns + k)) (of (coefficient_of m.rows k j))) (length m.rows))
  pub basic : (i : ℕ) → i < length m.rows → position_at T.positions (basic_at T.basics i) ≡ Basic
  pub positions : (v : ℕ) → v < length m.columns + length m.rows → IsWellPlaced T v (position_at T.positions v)

-- each row of the tableau is 0 at a point
abbrev pub AreRowsZero : Parts → Table → (ℕ → Rational) → Type 0
AreRowsZero m T x = (i : ℕ) → i < length m.rows → sum (λ v. mul (number T i v) (x v)) (length m.columns + length m.rows) ≡ of (pos 0)

-- a point meets the node's equations: each slack is its row's sum
abbrev pub MeetsEquations : Parts → (ℕ → Rational) → Type 0
MeetsEquations m x = (k : ℕ) → k < length m.rows → x (length m.columns + k)
    ≡ sum (λ j. mul (of (coefficient_of m.rows k j)) (x j)) (length m.columns)

-- only points that meet the node's equations make each row of the tableau 0
abbrev pub HasItsPoints : Parts → Table → Type 0
HasItsPoints m T = (x : ℕ → Rational) → AreRowsZero m T x → MeetsEquations m x
