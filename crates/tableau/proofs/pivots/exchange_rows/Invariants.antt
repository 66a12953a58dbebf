use Rattle.std.proofs.Common.{◌≡◌, ◌<◌, ◌≤◌, ℕ, length, if◌then◌else◌}
use Rattle.tableau.specs.Tables.{line}
use Rattle.tableau.specs.Internal.Changes.{is_changed}
use Rattle.tableau.proofs.pivots.exchange_rows.Given as goal

abbrev pub invariant-loop-i : goal.invariant-loop-i
invariant-loop-i l = record {
  count : length l.rows ≡ length l.initial.rows;
  lines : length l.spare ≡ length l.initial.rows;
  rows : (k : ℕ) → k < l.i → line l.rows k ≡ (if is_changed l.initial.rows l.row l.var k then line l.initial.spare k
      else line l.initial.rows k);
  spare : (k : ℕ) → k < l.i → line l.spare k ≡ (if is_changed l.initial.rows l.row l.var k then line l.initial.rows k
      else line l.initial.spare k);
  later_rows : (k : ℕ) → l.i ≤ k → line l.rows k ≡ line l.initial.rows k;
  later_spare : (k : ℕ) → l.i ≤ k → line l.spare k ≡ line l.initial.spare k;
}
