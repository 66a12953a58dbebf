use Rattle.std.proofs.Common.{◌≡◌, ◌<◌, ℕ, length, Ok}
use Rattle.tableau.specs.Tables.{at}
use Rattle.tableau.specs.Numbers.{less_product}
use Rattle.tableau.proofs.pivots.lessen_row.Given as goal

abbrev pub invariant-loop-w : goal.invariant-loop-w
invariant-loop-w l = record {
  size : length l.into ≡ length l.row;
  made : (w : ℕ) → w < l.w → less_product (at l.row w) l.factor (at l.quotients w) ≡ Ok (at l.into w);
}
