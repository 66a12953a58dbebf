use Rattle.std.proofs.Common.{◌+◌}
use Rattle.tableau.specs.Meanings.{price_number}
use Rattle.simplex_exact.specs.Answers.{AreNumbers}
use Rattle.simplex_exact.proofs.finals.prices.Given as goal

abbrev pub invariant-loop-k : goal.invariant-loop-k
invariant-loop-k l = AreNumbers l.k (λ k. price_number l.tableau (l.columns + k)) l.prices.items
