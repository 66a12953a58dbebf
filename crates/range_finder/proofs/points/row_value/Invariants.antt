use Rattle.std.proofs.Common.{◌≤◌, ◌^◌}
use Rattle.std.specs.Int.RustNames.{unsigned_abs}
use Rattle.ip_model.proofs.WalkLaws.{IsFirstSum}
use Rattle.range_finder.proofs.points.row_value.Given as goal

abbrev pub invariant-loop-column : goal.invariant-loop-column
invariant-loop-column l = record {
  sum : IsFirstSum l.coefs l.point l.column-index (2 ^ 114) l.total;
  small : unsigned_abs l.total ≤ 2 ^ 126;
}
