use Rattle.std.proofs.Common.{◌≡◌}
use Rattle.simplex_laws.specs.Steps.{nearest, block}
use Rattle.simplex_exact.specs.Internal.Numbers.{block_value}
use Rattle.simplex_exact.proofs.blocking.nearest.Given as goal

abbrev pub invariant-loop-w : goal.invariant-loop-w
invariant-loop-w l = block_value l.best ≡ nearest (block l.tableau l.var l.up) l.w
