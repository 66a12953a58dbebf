use Rattle.std.proofs.Common.{refl, length}
use Rattle.std.proofs.lemmas.Option.{slice_get_read}
use Rattle.tree_format.proofs.RowWriteLaws.{piece_within}
use Rattle.tree_format.proofs.row_encoding.push_pieces.Goals as goal

pub push_piece-requires : goal.push_piece-requires
push_piece-requires c =
    let ps = c.args.pieces.now in
    let i = c.loop-piece.piece-index in
    let p = c.piece-item.result in
    piece_within ps i p c.requires (slice_get_read ps (length ps) i p refl c.loop-piece-test.true c.piece-item.is)
