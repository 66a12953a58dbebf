use Rattle.std.proofs.Common.{length, drop}
use Rattle.std.specs.List.{flat_map}
use Rattle.tree_format.specs.Orders.{IsInOrder, a_coordinate}
use Rattle.tree_format.specs.Spellings.{coordinate_part}
use Rattle.tree_format.specs.Internal.Remaining.{remaining}
use Rattle.tree_format.specs.Internal.Stretches.{ReadsOn}
use Rattle.tree_format.proofs.decoding.point.Given as goal

abbrev pub invariant-loop-part : goal.invariant-loop-part
invariant-loop-part l = record {
  on : ReadsOn l.bytes l.fn.reader l.fn.at l.reader l.at (flat_map coordinate_part l.point);
  order : IsInOrder a_coordinate (remaining l.reader (drop l.at l.bytes));
}

abbrev pub decreases-loop-part : goal.decreases-loop-part
decreases-loop-part l = length (remaining l.reader (drop l.at l.bytes)).parts
