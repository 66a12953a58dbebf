use Rattle.std.proofs.Common.{◌≡◌, ◌<◌, ℕ, length, take, neg_ℤ}
use Rattle.ip_defs.specs.Program.{coefficient}
use Rattle.frac128.specs.Fractions.{whole}
use Rattle.tableau.specs.Tables.{at}
use Rattle.tableau.proofs.starts.put_coefs.Given as goal

abbrev pub invariant-loop-column : goal.invariant-loop-column
invariant-loop-column l = record {
  size : length l.line ≡ length l.initial.line;
  numbers : (v : ℕ) → v < length l.line → at l.line v ≡ whole (neg_ℤ (coefficient (take l.column-index l.coefs) v));
}
