use Rattle.std.proofs.Common.{◌≡◌, None}
use Rattle.simplex_laws.specs.Steps.{infeasible}
use Rattle.simplex_exact.specs.Internal.Numbers.{AreNumbersBelow}
use Rattle.simplex_exact.proofs.numbers.first_infeasible.Given as goal
use Rattle.ip_defs.specs.Lists.{first}

abbrev pub invariant-loop-v : goal.invariant-loop-v
invariant-loop-v l = record {
  none : first (infeasible l.tableau) l.v ≡ None;
  numbers : AreNumbersBelow l.tableau l.values l.v;
}
