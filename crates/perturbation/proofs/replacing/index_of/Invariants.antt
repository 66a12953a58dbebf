use Rattle.std.proofs.Common.{◌≡◌, ◌+◌, drop}
use Rattle.perturbation.specs.Internal.Coefs.{columns_before}
use Rattle.perturbation.proofs.replacing.index_of.Given as goal

abbrev pub invariant-loop-k : goal.invariant-loop-k
invariant-loop-k l = columns_before l.column l.coefs ≡ l.k + columns_before l.column (drop l.k l.coefs)
