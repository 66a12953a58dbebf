use Rattle.std.proofs.Common.{◌≡◌, None}
use Rattle.ip_defs.specs.Lists.{first}
use Rattle.ip_defs.specs.Program.{box_of}
use Rattle.ip_defs.specs.Breaches.{column_breach}
use Rattle.ip_model.proofs.breaches.first_column.Given as goal

abbrev pub invariant-loop-j : goal.invariant-loop-j
invariant-loop-j l = first (column_breach (box_of l.parts) l.point) l.j ≡ None
