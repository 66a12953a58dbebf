use Rattle.node_bounds.proofs.HalvingLaws.{IsWidestBelow}
use Rattle.node_bounds.proofs.boxes.widest_column.Given as goal

abbrev pub invariant-loop-j : goal.invariant-loop-j
invariant-loop-j l = IsWidestBelow l.area l.j l.widest l.most
