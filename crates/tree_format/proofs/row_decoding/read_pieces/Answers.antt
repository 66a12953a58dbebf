use Rattle.std.proofs.Common.{◌∙◌, ◌+◌, List, sym, subst}
use Rattle.sweep_proof.specs.declared.row_sweeps.RowPiece.{RowPiece}
use Rattle.tree_format.proofs.RowStepLaws.{PiecesRead, no_piece, piece_read, piece_fails}
use Rattle.tree_format.proofs.row_decoding.read_pieces.Goals as goal

pub loop-init : goal.loop-init
loop-init c =
    subst (λ (ps : List RowPiece). PiecesRead c.args.bytes.now c.args.at.now c.args.at.now 0 0 c.args.count ps)
    (sym (c.from_vec-pieces.ensures ∙ c.new.ensures.items)) (no_piece c.args.bytes.now c.args.at.now c.args.count c.requires.within)

pub returns-in-Err-clause-fault : goal.returns-in-Err-clause-fault
returns-in-Err-clause-fault c =
    piece_fails c.args.bytes.now c.args.at.now c.loop.at c.loop.nodes c.loop.counter c.args.count c.loop.pieces c.in-Err.fault
    c.loop-test.true c.loop.invariant c.in-Err.ensures.fault

pub loop-preserved : goal.loop-preserved
loop-preserved c =
    subst (λ (ps : List RowPiece). PiecesRead c.args.bytes.now c.args.at.now c.read_piece.new.at c.read_piece.new.nodes (c.loop.counter + 1)
    c.args.count ps)
    (sym c.in_ok-push-in-Ok.ensures.ok)
    (piece_read c.args.bytes.now c.args.at.now c.loop.at c.read_piece.new.at c.loop.nodes c.read_piece.new.nodes c.loop.counter
    c.args.count c.loop.pieces c.in-Ok.piece c.loop-test.true c.loop.invariant c.in-Ok.ensures.within c.in-Ok.ensures.on)
