use Rattle.std.proofs.Common.{◌≡◌, ◌<◌, ℕ, [], length, get_or, take}
use Rattle.mps_printer.specs.Internal.Entries.{column_entries}
use Rattle.mps_printer.proofs.column_entries.entries_by_column.Given as goal

abbrev pub invariant-loop-i : goal.invariant-loop-i
invariant-loop-i l = record {
  size : length l.lists.items ≡ length l.parts.columns;
  lists : (j : ℕ) → j < length l.parts.columns → get_or l.lists.items j [] ≡ column_entries j 0 (take l.i l.parts.rows);
}
