use Rattle.std.proofs.Common.{◌≡◌, ◌≤◌, ◌++◌, drop, map, length}
use Rattle.std.specs.Prelude.{string_bytes}
use Rattle.mps_reader.specs.Internal.Clamps.{clamped_column}
use Rattle.mps_reader.specs.Internal.Drafted.{drafted_columns}
use Rattle.mps_reader.proofs.column_list.column_list.Given as goal

abbrev pub invariant-loop-j : goal.invariant-loop-j
invariant-loop-j l = record {
  same : l.list.items ++ map clamped_column
      (drafted_columns l.how l.decimals l.j (drop l.next l.costs) (drop l.j (map string_bytes l.names)) (drop l.j l.columns))
      ≡ map clamped_column (drafted_columns l.how l.decimals 0 l.costs (map string_bytes l.names) l.columns);
  within : l.next ≤ length l.costs;
}
