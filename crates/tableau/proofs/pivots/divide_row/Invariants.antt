use Rattle.std.proofs.Common.{◌≡◌, ◌<◌, ℕ, length, Ok}
use Rattle.frac128.specs.Fractions.{quotient_of}
use Rattle.tableau.specs.Tables.{at}
use Rattle.tableau.proofs.pivots.divide_row.Given as goal

abbrev pub invariant-loop-w : goal.invariant-loop-w
invariant-loop-w l = record {
  size : length l.into ≡ length l.row;
  made : (w : ℕ) → w < l.w → quotient_of (at l.row w) l.pivot ≡ Ok (at l.into w);
}
