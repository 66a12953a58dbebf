use Rattle.std.proofs.Common.{◌≡◌, None}
use Rattle.std.specs.Prelude.{slice_get}
use Rattle.ip_defs.specs.Lists.{first}
use Rattle.ip_defs.specs.Breaches.{row_breach}
use Rattle.ip_model.proofs.breaches.first_row.Given as goal

abbrev pub invariant-loop-i : goal.invariant-loop-i
invariant-loop-i l = first (λ i. row_breach l.point i (slice_get l.parts.rows i)) l.i ≡ None
