use Rattle.std.specs.Prelude.{take}
use Rattle.branching.specs.Outcomes.{Pairwise}
use Rattle.sweep_pieces.specs.Internal.Moves.{AreLeft}
use Rattle.sweep_pieces.specs.Pieces.{IsPieceOf}
use Rattle.sweep_pieces.specs.Runs.{next_after}
use Rattle.sweep_pieces.proofs.pieces.pieces_of.Given as goal

abbrev pub invariant-loop-run : goal.invariant-loop-run
invariant-loop-run l = record {
  left : AreLeft l.fn.left (next_after l.fn.left 0 (take l.run-index l.runs)) l.left;
  pieces : Pairwise (IsPieceOf l.fn.left) (take l.run-index l.runs) l.pieces;
}
