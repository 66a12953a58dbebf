use Rattle.std.specs.Prelude.{take}
use Rattle.ip_defs.specs.Lists.{Each}
use Rattle.sweep_proof.specs.RowSweeps.{FitsPiece}
use Rattle.sweep_proof.proofs.fits.pieces_fit.Given as goal

abbrev pub invariant-loop-piece : goal.invariant-loop-piece
invariant-loop-piece l = Each (FitsPiece l.model) (take l.piece-index l.pieces)
