use Rattle.std.specs.Prelude.{take}
use Rattle.ip_defs.specs.Lists.{Each}
use Rattle.sweep_proof.specs.CostSweeps.{FitsPoint}
use Rattle.sweep_proof.proofs.cost_fits.points_fit.Given as goal

abbrev pub invariant-loop-point : goal.invariant-loop-point
invariant-loop-point l = Each (FitsPoint l.model) (take l.point-index l.points)
