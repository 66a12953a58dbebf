use Rattle.std.proofs.Common.{◌≡◌, ℕ, ◌+◌, length, drop}
use Rattle.std.specs.List.{flat_map}
use Rattle.tree_format.specs.Orders.{IsInOrder, multipliers}
use Rattle.tree_format.specs.Spellings.{multiplier_part}
use Rattle.tree_format.specs.Internal.Remaining.{remaining}
use Rattle.tree_format.specs.Internal.Stretches.{ReadsOn}
use Rattle.tree_format.proofs.decoding.multipliers.Given as goal

abbrev pub invariant-loop : goal.invariant-loop
invariant-loop l = record {
  on : ReadsOn l.bytes l.fn.reader l.fn.at l.reader l.at (flat_map multiplier_part l.y);
  size : length l.y ≡ l.counter;
  order : (n k : ℕ) × (n + l.counter ≡ l.count) × IsInOrder (multipliers n k) (remaining l.reader (drop l.at l.bytes));
}
