-- Pieces of a row sweep, each of a run.
use Rattle.std.specs.Prelude.{◌≡◌, Option, Some, None, slice_get, List}
use Rattle.proof_tree.specs.Trees.{plain, PlainTree}
use Rattle.proof_tree.specs.declared.claims.Claim.{Claim}
use Rattle.sweep_pieces.specs.Runs.{step_at}
use Rattle.sweep_pieces.specs.declared.runs.Run.{Run}
use Rattle.sweep_proof.specs.declared.row_sweeps.RowPiece.{RowPiece}
use Rattle.sweep_solves.specs.declared.made_solves.Made.{Made}

abbrev pub claim_in : Option Made → Option Claim
claim_in None = None
claim_in (Some s) = Some s.proof.claim

abbrev pub tree_in : Option Made → Option PlainTree
tree_in None = None
tree_in (Some s) = Some (plain s.proof.tree)

-- the piece of a run: its steps, the claim of the solve at its first step, and the tree of the one at its last step
pub record IsPieceOf (ms : List Made) (r : Run) (p : RowPiece) : Type 0 where
  pub from : p.from ≡ step_at ms r.first
  pub to : p.to ≡ step_at ms r.last
  pub claim : claim_in (slice_get ms r.first) ≡ Some p.claim
  pub tree : tree_in (slice_get ms r.last) ≡ Some (plain p.tree)
