-- Sweeps that fit a model are within the limits of their files.
use Rattle.std.specs.Prelude.{◌≡◌, ℕ, suc, ◌+◌, ◌≤◌, List, [], ◌∷◌, length, map, sum_by}
use Rattle.std.proofs.Common.{arith, refl, ap, ◌∙◌, sym}
use Rattle.std.proofs.lemmas.List.Sums.{sum_by-cons}
use Rattle.ip_defs.specs.declared.programs.Parts.{Parts}
use Rattle.ip_defs.specs.Lists.{Each}
use Rattle.proof_tree.specs.LabelledTrees.{node_count}
use Rattle.proof_tree.specs.Trees.{plain}
use Rattle.proof_tree.specs.Verdicts.{HasLength}
use Rattle.proof_tree.specs.declared.claims.Claim.{Claim}
use Rattle.proof_tree.specs.declared.claims.Claim.TheVariants.{Best, Empty}
use Rattle.sweep_proof.specs.RowSweeps.{FitsPiece, HasSmallPoint}
use Rattle.sweep_proof.specs.declared.row_sweeps.RowPiece.{RowPiece}
use Rattle.tree_format.specs.Spellings.{IsClaimWithin}
use Rattle.tree_format.specs.RowSpellings.{plain_piece, IsPieceWithin, nodes_of}
use Rattle.tree_format.specs.RowLaws.{FittingSweepsAreWithin}

claim_within : (n : ℕ) (c : Claim) → n ≤ 4096 → HasLength n c → HasSmallPoint c → IsClaimWithin c
claim_within n (Best x) few size small = (omega arith, small)
claim_within n Empty few size small = tt

pub same_size : (ps : List RowPiece) → length (map plain_piece ps) ≡ length ps
same_size [] = refl
same_size (p ∷ ps) = ap suc (same_size ps)

pub same_nodes : (ps : List RowPiece) → nodes_of (map plain_piece ps) ≡ sum_by (λ p. node_count (plain p.tree)) ps
same_nodes [] = refl
same_nodes (p ∷ ps) =
    sum_by-cons (λ p. node_count p.tree) (plain_piece p) (map plain_piece ps)
    ∙ ap (λ (n : ℕ). node_count (plain p.tree) + n) (same_nodes ps)
    ∙ sym (sum_by-cons (λ p. node_count (plain p.tree)) p ps)

each_within : (m : Parts) (ps : List RowPiece) → length m.columns ≤ 4096 → Each (FitsPiece m) ps → Each IsPieceWithin (map plain_piece ps)
each_within m [] few each = tt
each_within m (p ∷ ps) few each = (
  record {
    from = each.0.from;
    to = each.0.to;
    claim = claim_within (length m.columns) p.claim few each.0.point each.0.small;
    tree = each.0.limits;
  },
  each_within m ps few each.1,
)

pub fits_within : FittingSweepsAreWithin
fits_within m ps few fits = record {
  some = (let n = same_size ps in let h = fits.some in omega arith);
  few = (let n = same_size ps in let h = fits.few in omega arith);
  each = each_within m ps few fits.each;
  nodes = (let n = same_nodes ps in let h = fits.nodes in omega arith);
}
