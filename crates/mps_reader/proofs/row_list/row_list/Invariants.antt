use Rattle.std.proofs.Common.{◌≡◌, ◌++◌, drop, map}
use Rattle.std.specs.Prelude.{string_bytes}
use Rattle.mps_reader.specs.Internal.Clamps.{clamped_row}
use Rattle.mps_reader.specs.Internal.Drafted.{drafted_rows}
use Rattle.mps_reader.proofs.row_list.row_list.Given as goal

abbrev pub invariant-loop-i : goal.invariant-loop-i
invariant-loop-i l =
    l.list.items ++ map clamped_row (drafted_rows l.how (drop l.i (map string_bytes l.names)) (drop l.i l.rows)) ≡ map clamped_row
    (drafted_rows l.how (map string_bytes l.names) l.rows)
