use Rattle.std.proofs.Common.{◌≡◌, ◌^◌, ◌<◌, ◌≤◌, ◌+◌, ◌-◌, length}
use Rattle.tree_format.proofs.NumberStepLaws.{IsLeft}
use Rattle.tree_format.proofs.number_steps.read_number.Given as goal

abbrev pub invariant-loop-at : goal.invariant-loop-at
invariant-loop-at l = record {
  place : l.at ≡ l.fn.at + l.read;
  within : l.at ≤ length l.bytes;
  few : l.read < 6;
  low : l.low < 128 ^ l.read;
  left : IsLeft l.greatest l.bytes l.fn.at l.read l.low l.at;
}

abbrev pub decreases-loop-at : goal.decreases-loop-at
decreases-loop-at l = length l.bytes - l.at
