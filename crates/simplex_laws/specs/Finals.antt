-- What is read off a final tableau: its point, and the multipliers of the rows.
use Rattle.std.specs.Prelude.{ℕ, ◌+◌, ◌==◌, if◌then◌else◌, Bool, length, Option, Some, None}
use Rattle.std.specs.List.{position}
use Rattle.frac128.specs.Rationals.{Rational, neg}
use Rattle.ip_defs.specs.declared.programs.Parts.{Parts}
use Rattle.tableau.specs.Tables.{Table}
use Rattle.tableau.specs.Nodes.{number}
use Rattle.tableau.specs.Meanings.{nonbasic_number, value_number, price_number}

-- the number of a variable: the value of its row where it is basic, and else its nonbasic value
abbrev pub number_by : Table → ℕ → Option ℕ → Rational
number_by T v None = nonbasic_number T v
number_by T v (Some i) = value_number T i

abbrev pub point_of : Table → ℕ → Rational
point_of T v = number_by T v (position (λ w. w == v) T.basics)

-- the dual prices of the rows: the reduced costs of the slacks
abbrev pub slack_prices : Parts → Table → ℕ → Rational
slack_prices m T k = price_number T (length m.columns + k)

-- the slack entries of a row, or their negations
abbrev pub slack_ray : Parts → Table → ℕ → Bool → ℕ → Rational
slack_ray m T i up k = if up then number T i (length m.columns + k) else neg (number T i (length m.columns + k))
