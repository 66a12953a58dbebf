use Rattle.tree_format.proofs.RowStepLaws.{OpeningRead}
use Rattle.tree_format.proofs.row_decoding.read_opening.Given as goal

abbrev pub invariant-loop-wanted : goal.invariant-loop-wanted
invariant-loop-wanted l = OpeningRead l.bytes l.opening l.fn.at l.at l.wanted-index
