use Rattle.std.proofs.Common.{◌≡◌, ◌<◌, ℕ, length}
use Rattle.tableau.specs.Tables.{line}
use Rattle.tableau.proofs.starts.zero_lines.Given as goal

abbrev pub invariant-loop : goal.invariant-loop
invariant-loop l = record {
  count : length l.lines.items ≡ l.counter;
  size : (i : ℕ) → i < l.counter → length (line l.lines.items i) ≡ l.all;
}
