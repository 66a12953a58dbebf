-- The numbers of a tableau: the value of a row's basic variable, the reduced cost of a variable, and how far a variable can move. Each
-- is made by steps in a named order, and is wide exactly where one of them is.
use Rattle.std.specs.Prelude.{ℕ, zero, suc, ◌&&◌, not, Bool, false, length, Option, Some, None, Result, Ok, Err, ℤ, pos, ◌-ℤ◌}
use Rattle.std.specs.Int.Signed.{lt_z}
use Rattle.frac128.specs.declared.fraction.Wide.{Wide}
use Rattle.frac128.specs.Fractions.{Fraction, product_of, difference_of, quotient_of, whole}
use Rattle.frac128.specs.Rationals.{Rational, of}
use Rattle.tableau.specs.declared.positions.Rest.{Rest}
use Rattle.tableau.specs.declared.positions.Rest.TheVariants.{Basic, Low, High, Zero}
use Rattle.tableau.specs.declared.variables.Variable.{Variable}
use Rattle.tableau.specs.Tables.{Table, entry, basic_at, position_at, variable_at}

-- a step on what is not wide
abbrev pub and_then : {A B : Type 0} → Result A Wide → (A → Result B Wide) → Result B Wide
and_then (Ok x) f = f x
and_then (Err e) f = Err (record {})

-- x less the product of f and g
abbrev pub less_product : Fraction → Fraction → Fraction → Result Fraction Wide
less_product x f g = and_then (product_of f g) (difference_of x)

-- x after the steps 0 to n - 1
abbrev pub after_steps : (ℕ → Fraction → Result Fraction Wide) → Fraction → ℕ → Result Fraction Wide
after_steps f x zero = Ok x
after_steps f x (suc n) = and_then (after_steps f x n) (f n)

-- a side, 0 where it is absent
abbrev pub side_or_zero : Option ℤ → ℤ
side_or_zero None = pos 0
side_or_zero (Some side) = side

-- the value of a variable at a nonbasic position, none for a basic one
abbrev pub nonbasic_value : Variable → Rest → Option ℤ
nonbasic_value x Basic = None
nonbasic_value x Low = Some (side_or_zero x.low)
nonbasic_value x High = Some (side_or_zero x.high)
nonbasic_value x Zero = Some (pos 0)

-- x less an entry times the value of its variable, where that is nonbasic
abbrev pub less_nonbasic_value : Fraction → Fraction → Option ℤ → Result Fraction Wide
less_nonbasic_value x t None = Ok x
less_nonbasic_value x t (Some z) = less_product x t (whole z)

-- the value of a row's basic variable: 0 less each entry times the value of its nonbasic variable, over the variables by number
abbrev pub value : Table → ℕ → Result Fraction Wide
value T i = after_steps
    (λ v x. less_nonbasic_value x (entry T.rows i v) (nonbasic_value (variable_at T.variables v) (position_at T.positions v)))
    (whole (pos 0)) (length T.variables)

-- the cost of a variable
abbrev pub cost_at : Table → ℕ → Fraction
cost_at T v = whole (variable_at T.variables v).cost

-- the reduced cost of a variable (that of a slack is the dual price of its row): its cost less each entry times the cost of the row's
-- basic variable, over the rows by number
abbrev pub price : Table → ℕ → Result Fraction Wide
price T v = after_steps (λ i x. less_product x (entry T.rows i v) (cost_at T (basic_at T.basics i))) (cost_at T v) (length T.rows)

-- the side of a variable that is named by a position
abbrev pub side_at : Variable → Rest → Option ℤ
side_at x Basic = None
side_at x Low = x.low
side_at x High = x.high
side_at x Zero = None

-- how far a variable can move until the row's basic variable meets a side: its value less the side, divided by the entry
abbrev pub ratio : Table → ℕ → ℕ → Rest → Result Fraction Wide
ratio T i v side =
    and_then (value T i) (λ x. and_then (difference_of x (whole
    (side_or_zero (side_at (variable_at T.variables (basic_at T.basics i)) side)))) (λ gap. quotient_of gap (entry T.rows i v)))

-- ---- both sides of a variable
-- it has two equal sides
abbrev pub is_fixed_between : Option ℤ → Option ℤ → Bool
is_fixed_between (Some low) (Some high) = not (lt_z low high) && not (lt_z high low)
is_fixed_between (Some low) None = false
is_fixed_between None high = false

abbrev pub is_fixed : Variable → Bool
is_fixed x = is_fixed_between x.low x.high

-- how far it can move between its sides
abbrev pub range_between : Option ℤ → Option ℤ → Option Rational
range_between (Some low) (Some high) = Some (of (high -ℤ low))
range_between (Some low) None = None
range_between None high = None

abbrev pub range : Variable → Option Rational
range x = range_between x.low x.high
