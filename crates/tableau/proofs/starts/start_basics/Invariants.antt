use Rattle.std.proofs.Common.{◌≡◌, ◌+◌}
use Rattle.tableau.specs.Nodes.{listed}
use Rattle.tableau.proofs.starts.start_basics.Given as goal

abbrev pub invariant-loop-k : goal.invariant-loop-k
invariant-loop-k l = l.basics.items ≡ listed l.k (λ k. l.columns + k)
