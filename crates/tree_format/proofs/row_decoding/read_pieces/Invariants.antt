use Rattle.tree_format.proofs.RowStepLaws.{PiecesRead}
use Rattle.tree_format.proofs.row_decoding.read_pieces.Given as goal

abbrev pub invariant-loop : goal.invariant-loop
invariant-loop l = PiecesRead l.bytes l.fn.at l.at l.nodes l.counter l.count l.pieces
