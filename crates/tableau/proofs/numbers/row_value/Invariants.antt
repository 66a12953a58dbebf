use Rattle.std.proofs.Common.{◌≡◌, Ok, pos}
use Rattle.frac128.specs.Rationals.{of, mul, neg}
use Rattle.frac128.specs.Values.{value_of}
use Rattle.frac128.proofs.Rationals.{rationals}
use Rattle.ring_laws.proofs.Sums.{sum}
use Rattle.frac128.specs.Fractions.{whole}
use Rattle.tableau.specs.Tables.{at, position_at, variable_at}
use Rattle.tableau.specs.Numbers.{after_steps, less_nonbasic_value, nonbasic_value, side_or_zero}
use Rattle.tableau.proofs.numbers.row_value.Given as goal

abbrev pub invariant-loop-v : goal.invariant-loop-v
invariant-loop-v l = record {
  exact : Ok l.value ≡ after_steps (λ v x. less_nonbasic_value x (at l.line v) (nonbasic_value (variable_at l.variables v)
      (position_at l.positions v)))
      (whole (pos 0)) l.v;
  number : value_of l.value ≡ neg (sum rationals (λ v. mul (value_of (at l.line v))
      (of (side_or_zero (nonbasic_value (variable_at l.variables v) (position_at l.positions v))))) l.v);
}
