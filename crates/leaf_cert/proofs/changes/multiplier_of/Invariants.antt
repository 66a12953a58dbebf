use Rattle.std.proofs.Common.{◌≡◌, drop}
use Rattle.ip_defs.specs.Program.{coefficient}
use Rattle.leaf_cert.proofs.changes.multiplier_of.Given as goal

abbrev pub invariant-loop-i : goal.invariant-loop-i
invariant-loop-i l = coefficient l.y l.row ≡ coefficient (drop l.i-index l.y) l.row
