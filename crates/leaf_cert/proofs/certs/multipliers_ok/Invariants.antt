use Rattle.std.proofs.Common.{◌≡◌}
use Rattle.leaf_cert.proofs.OrderLaws.{least_after, AreFirst}
use Rattle.leaf_cert.proofs.certs.multipliers_ok.Given as goal

abbrev pub invariant-loop-row : goal.invariant-loop-row
invariant-loop-row l = record {
  least : l.least ≡ least_after l.y l.row-index;
  first : AreFirst l.y l.rows l.row-index;
}
