use Rattle.std.specs.Prelude.{◌<◌, take}
use Rattle.ip_defs.specs.Lists.{Each}
use Rattle.sweep_proof.proofs.fits.are_below.Given as goal

abbrev pub invariant-loop-row : goal.invariant-loop-row
invariant-loop-row l = Each (λ p. p.0 < l.rows) (take l.row-index l.y)
