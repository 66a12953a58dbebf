use Rattle.std.proofs.Common.{◌≡◌, None}
use Rattle.simplex_exact.proofs.ScanLaws.{lowering}
use Rattle.simplex_exact.proofs.directions.entering.Given as goal
use Rattle.ip_defs.specs.Lists.{first}

abbrev pub invariant-loop-var : goal.invariant-loop-var
invariant-loop-var l = first (lowering l.tableau) l.var ≡ None
