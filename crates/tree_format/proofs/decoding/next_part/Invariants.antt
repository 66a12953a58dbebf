use Rattle.std.proofs.Common.{length, ◌-◌, []}
use Rattle.tree_format.specs.Internal.Stretches.{ReadsOn}
use Rattle.tree_format.proofs.decoding.next_part.Given as goal

abbrev pub invariant-loop-at : goal.invariant-loop-at
invariant-loop-at l = ReadsOn l.bytes l.fn.reader l.fn.at l.reader l.at []

abbrev pub decreases-loop-at : goal.decreases-loop-at
decreases-loop-at l = length l.bytes - l.at
