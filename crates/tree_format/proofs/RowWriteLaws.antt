-- The pieces of a row sweep as they are written, one after another.
use Rattle.std.specs.Prelude.{◌≡◌, ℕ, zero, suc, List, [], ◌∷◌, map, slice_get, Some}
use Rattle.std.proofs.Common.{subst}
use Rattle.ip_defs.specs.Lists.{Each}
use Rattle.sweep_proof.specs.declared.row_sweeps.RowPiece.{RowPiece}
use Rattle.tree_format.specs.RowSpellings.{plain_piece, IsPieceWithin}

-- where each piece is within the limits, so is the one at a place
pub piece_within : (ps : List RowPiece) (i : ℕ) (p : RowPiece) → Each IsPieceWithin (map plain_piece ps) → slice_get ps i ≡ Some p
    → IsPieceWithin (plain_piece p)
piece_within [] i p all at = absurd cc
piece_within (q ∷ qs) zero p all at = let same : q ≡ p = cc in subst (λ (r : RowPiece). IsPieceWithin (plain_piece r)) same all.0
piece_within (q ∷ qs) (suc i) p all at = piece_within qs i p all.1 at
