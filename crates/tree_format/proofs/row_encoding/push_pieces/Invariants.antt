use Rattle.std.proofs.Common.{◌≡◌, ◌++◌, take}
use Rattle.std.specs.Prelude.{map}
use Rattle.std.specs.List.{flat_map}
use Rattle.tree_format.specs.RowSpellings.{piece_bytes, plain_piece}
use Rattle.tree_format.proofs.row_encoding.push_pieces.Given as goal

abbrev pub invariant-loop-piece : goal.invariant-loop-piece
invariant-loop-piece l = l.out.items ≡ l.fn.out.items ++ flat_map piece_bytes (map plain_piece (take l.piece-index l.pieces))
