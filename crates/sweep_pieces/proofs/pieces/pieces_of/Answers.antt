use Rattle.std.proofs.Common.{get_or}
use Rattle.std.proofs.lemmas.Option.{slice_get-get_or}
use Rattle.sweep_pieces.proofs.MoveLaws.{pairs_more, turn, whole_piece}
use Rattle.sweep_pieces.proofs.pieces.pieces_of.Goals as goal

pub take_piece-piece-requires-clause-start : goal.take_piece-piece-requires-clause-start
take_piece-piece-requires-clause-start c =
    let rs = c.args.runs.now in
    let i = c.loop-run.run-index in
    let r = get_or rs i (record { first = 0; last = 0 }) in
    (turn c.args.model.now c.args.dir.now c.args.left.now c.loop-run.left rs i r c.requires.solves c.requires.runs c.requires.ends
    c.loop-run.invariant.left (slice_get-get_or rs i (record { first = 0; last = 0 }) c.loop-run-test.true)).start

pub take_piece-piece-requires-clause-end : goal.take_piece-piece-requires-clause-end
take_piece-piece-requires-clause-end c =
    let rs = c.args.runs.now in
    let i = c.loop-run.run-index in
    let r = get_or rs i (record { first = 0; last = 0 }) in
    (turn c.args.model.now c.args.dir.now c.args.left.now c.loop-run.left rs i r c.requires.solves c.requires.runs c.requires.ends
    c.loop-run.invariant.left (slice_get-get_or rs i (record { first = 0; last = 0 }) c.loop-run-test.true)).end

pub loop-run-preserved : goal.loop-run-preserved
loop-run-preserved c =
    let ms = c.args.left.now in
    let rs = c.args.runs.now in
    let i = c.loop-run.run-index in
    let r = get_or rs i (record { first = 0; last = 0 }) in
    let own = turn c.args.model.now c.args.dir.now ms c.loop-run.left rs i r c.requires.solves c.requires.runs c.requires.ends
    c.loop-run.invariant.left (slice_get-get_or rs i (record { first = 0; last = 0 }) c.loop-run-test.true) in
    let piece = whole_piece ms c.loop-run.left r c.take_piece-piece.result own.whole c.take_piece-piece.ensures.piece in
    record {
      left = rw (c.take_piece-piece.ensures.left) own.later;
      pieces = rw (c.in-Ok.ensures.ok) (pairs_more ms rs c.loop-run.pieces i (record { first = 0; last = 0 }) c.take_piece-piece.result
          c.loop-run-test.true c.loop-run.invariant.pieces piece);
    }
