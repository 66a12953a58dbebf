use Rattle.std.proofs.Common.{◌≡◌, None, option_map}
use Rattle.tableau.specs.Nodes.{number}
use Rattle.simplex_laws.specs.Steps.{direction}
use Rattle.simplex_exact.specs.Internal.Numbers.{turned}
use Rattle.simplex_exact.proofs.directions.row_entering.Given as goal
use Rattle.ip_defs.specs.Lists.{first}

abbrev pub invariant-loop-var : goal.invariant-loop-var
invariant-loop-var l = first (λ v. option_map (λ advance. v) (direction l.tableau (turned l.up (number l.tableau l.row v)) v)) l.var ≡ None
