use Rattle.std.proofs.Common.{◌≡◌, ◌<◌, ℕ, length, Ok, true}
use Rattle.tableau.specs.Tables.{line, entry}
use Rattle.tableau.specs.Internal.Changes.{is_changed, lessened_row}
use Rattle.tableau.proofs.pivots.lessen_rows.Given as goal

abbrev pub invariant-loop-i : goal.invariant-loop-i
invariant-loop-i l = record {
  lines : length l.spare ≡ length l.rows;
  spare : (k : ℕ) → k < length l.rows → length (line l.spare k) ≡ length l.quotients;
  made : (k : ℕ) → k < l.i → is_changed l.rows l.row l.var k ≡ true → lessened_row (line l.rows k) (entry l.rows k l.var) l.quotients
      ≡ Ok (line l.spare k);
}
