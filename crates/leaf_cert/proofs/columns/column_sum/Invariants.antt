use Rattle.std.proofs.Common.{◌≡◌, ◌*◌, ◌^◌, ◌≤◌}
use Rattle.std.specs.Int.RustNames.{unsigned_abs}
use Rattle.ip_defs.specs.Program.{costs_of}
use Rattle.ip_defs.specs.Sums.{sum_below}
use Rattle.leaf_cert.specs.Internal.Columns.{least_part}
use Rattle.leaf_cert.proofs.columns.column_sum.Given as goal

abbrev pub invariant-loop-j : goal.invariant-loop-j
invariant-loop-j l = record {
  sum : l.total ≡ sum_below (least_part (costs_of l.parts) l.q l.taken l.area) l.j;
  small : unsigned_abs l.total ≤ l.j * 2 ^ 111;
}
