use Rattle.node_bounds.proofs.WholeLaws.{IsBrokenAt}
use Rattle.node_bounds.proofs.relaxations.fractional_column.Given as goal

abbrev pub invariant-loop-j : goal.invariant-loop-j
invariant-loop-j l = IsBrokenAt l.point l.j l.nearest
