use Rattle.std.proofs.Common.{◌≡◌, ◌<◌, ℕ, [], length, get_or}
use Rattle.mps_printer.proofs.column_entries.empty_lists.Given as goal

abbrev pub invariant-loop : goal.invariant-loop
invariant-loop l = record {
  size : length l.lists.items ≡ l.counter;
  empty : (j : ℕ) → j < l.counter → get_or l.lists.items j [] ≡ [];
}
