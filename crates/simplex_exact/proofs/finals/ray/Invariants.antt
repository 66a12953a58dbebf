use Rattle.std.proofs.Common.{◌+◌}
use Rattle.tableau.specs.Nodes.{number}
use Rattle.simplex_exact.specs.Answers.{AreNumbers}
use Rattle.simplex_exact.specs.Internal.Numbers.{turned}
use Rattle.simplex_exact.proofs.finals.ray.Given as goal

abbrev pub invariant-loop-k : goal.invariant-loop-k
invariant-loop-k l = AreNumbers l.k (λ k. turned l.up (number l.tableau l.row (l.columns + k))) l.ray.items
