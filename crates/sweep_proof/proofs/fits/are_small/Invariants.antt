use Rattle.std.specs.Prelude.{◌≤◌, ◌^◌, take}
use Rattle.std.specs.Int.RustNames.{unsigned_abs}
use Rattle.ip_defs.specs.Lists.{Each}
use Rattle.sweep_proof.proofs.fits.are_small.Given as goal

abbrev pub invariant-loop-coordinate : goal.invariant-loop-coordinate
invariant-loop-coordinate l = Each (λ z. unsigned_abs z ≤ 2 ^ 24) (take l.coordinate-index l.point)
