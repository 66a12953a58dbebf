-- What the numbers of a tableau are: its value, reduced cost and ratio as rational numbers.
use Rattle.std.specs.Prelude.{ℕ, length}
use Rattle.frac128.specs.Rationals.{Rational, of, sub, mul, neg, quotient, sum}
use Rattle.tableau.specs.declared.positions.Rest.{Rest}
use Rattle.tableau.specs.Tables.{Table, basic_at, position_at, variable_at}
use Rattle.tableau.specs.Numbers.{side_or_zero, side_at, nonbasic_value}
use Rattle.tableau.specs.Nodes.{number}

-- the value of a nonbasic variable; a basic one counts 0
abbrev pub nonbasic_number : Table → ℕ → Rational
nonbasic_number T v = of (side_or_zero (nonbasic_value (variable_at T.variables v) (position_at T.positions v)))

-- the value of a row's basic variable: minus the sum of each entry times the value of its nonbasic variable
abbrev pub value_number : Table → ℕ → Rational
value_number T i = neg (sum (λ v. mul (number T i v) (nonbasic_number T v)) (length T.variables))

abbrev pub cost_number : Table → ℕ → Rational
cost_number T v = of (variable_at T.variables v).cost

-- the reduced cost of a variable: its cost less the sum of entry times cost of the row's basic variable
abbrev pub price_number : Table → ℕ → Rational
price_number T v = sub (cost_number T v) (sum (λ i. mul (number T i v) (cost_number T (basic_at T.basics i))) (length T.rows))

-- the value less the side, divided by the entry
abbrev pub ratio_number : Table → ℕ → ℕ → Rest → Rational
ratio_number T i v side =
    quotient (sub (value_number T i) (of (side_or_zero (side_at (variable_at T.variables (basic_at T.basics i)) side)))) (number T i v)
