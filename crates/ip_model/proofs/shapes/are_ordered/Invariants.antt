use Rattle.std.proofs.Common.{◌≢◌, ℕ, ◌<◌, ◌≤◌, length, pos}
use Rattle.ip_defs.specs.Limits.{AreOrdered, index_at, value_at}
use Rattle.ip_model.proofs.shapes.are_ordered.Given as goal

abbrev pub invariant-loop-column : goal.invariant-loop-column
invariant-loop-column l = record {
  rising : (h k : ℕ) → h < k → k < l.column-index → index_at l.coefs h < index_at l.coefs k;
  within : (k : ℕ) → k < l.column-index → index_at l.coefs k < l.columns;
  present : (k : ℕ) → k < l.column-index → value_at l.coefs k ≢ pos 0;
  below : (k : ℕ) → k < l.column-index → index_at l.coefs k < l.next;
  reach : AreOrdered l.columns l.coefs → l.column-index < length l.coefs → l.next ≤ index_at l.coefs l.column-index;
}
