use Rattle.std.specs.Prelude.{take}
use Rattle.ip_defs.specs.Lists.{Each}
use Rattle.sweep_proof.specs.CostSweeps.{FitsBreak}
use Rattle.sweep_proof.proofs.cost_fits.breaks_fit.Given as goal

abbrev pub invariant-loop-number : goal.invariant-loop-number
invariant-loop-number l = Each FitsBreak (take l.number-index l.breaks)
