use Rattle.std.proofs.Common.{◌≡◌, ◌++◌, ◌<◌, ℕ, [], length, get_or, take}
use Rattle.mps_printer.specs.Internal.Entries.{listed_for}
use Rattle.mps_printer.proofs.column_entries.push_row.Given as goal

abbrev pub invariant-loop-column : goal.invariant-loop-column
invariant-loop-column l = record {
  size : length l.lists.items ≡ length l.initial.lists.items;
  lists : (j : ℕ) → j < length l.initial.lists.items
      → get_or l.lists.items j [] ≡ get_or l.initial.lists.items j [] ++ listed_for j l.row (take l.column-index l.coefs);
}
