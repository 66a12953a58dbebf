use Rattle.std.proofs.Common.{◌^◌}
use Rattle.ip_model.proofs.WalkLaws.{IsFirstSum}
use Rattle.ip_model.proofs.breaches.row_value.Given as goal

abbrev pub invariant-loop-column : goal.invariant-loop-column
invariant-loop-column l = IsFirstSum l.coefs l.point l.column-index (2 ^ 114) l.total
