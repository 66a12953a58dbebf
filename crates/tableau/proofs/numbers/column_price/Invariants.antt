use Rattle.std.proofs.Common.{◌≡◌, Ok}
use Rattle.frac128.specs.Rationals.{of, sub, mul}
use Rattle.frac128.specs.Values.{value_of}
use Rattle.frac128.proofs.Rationals.{rationals}
use Rattle.ring_laws.proofs.Sums.{sum}
use Rattle.frac128.specs.Fractions.{whole}
use Rattle.tableau.specs.Tables.{entry, basic_at, variable_at}
use Rattle.tableau.specs.Numbers.{after_steps, less_product}
use Rattle.tableau.proofs.numbers.column_price.Given as goal

abbrev pub invariant-loop-i : goal.invariant-loop-i
invariant-loop-i l = record {
  exact : Ok l.price ≡ after_steps (λ i x. less_product x (entry l.rows i l.var)
      (whole (variable_at l.variables (basic_at l.basics i)).cost)) (whole (variable_at l.variables l.var).cost) l.i;
  number : value_of l.price ≡ sub (of (variable_at l.variables l.var).cost) (sum rationals
      (λ i. mul (value_of (entry l.rows i l.var)) (of (variable_at l.variables (basic_at l.basics i)).cost)) l.i);
}
