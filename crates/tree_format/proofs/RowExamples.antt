-- The definitions of row files at work: two pieces, and files with a fault, computed.
use Rattle.std.specs.Prelude.{◌≡◌, ℕ, List, [], ◌∷◌, ◌++◌, pos, negsuc, Some, None}
use Rattle.std.proofs.Common.{refl}
use Rattle.proof_tree.specs.LabelledTrees.{leaf}
use Rattle.proof_tree.specs.Trees.{PlainTree}
use Rattle.proof_tree.specs.declared.claims.Claim.TheVariants.{Best}
use Rattle.tree_format.specs.Numbers.{number_bytes}
use Rattle.tree_format.specs.RowSpellings.{PlainPiece, row_opening, row_spelling}
use Rattle.tree_format.specs.RowGrammar.{first_row_fault}
use Rattle.tree_format.specs.declared.errors.TreeError.TheVariants as faults

-- a leaf of divisor 2 with the multiplier -1 of row 0
half : PlainTree
half = leaf (record { q = pos 2; y = (0, negsuc 0) ∷ [] })

-- the points 0 and 1, each with that leaf
first_piece : PlainPiece
first_piece = record { from = 0; to = 0; claim = Best (pos 0 ∷ []); tree = half }

second_piece : PlainPiece
second_piece = record { from = 1; to = 1; claim = Best (pos 1 ∷ []); tree = half }

two_pieces : List ℕ
two_pieces = 73 ∷ 80 ∷ 83 ∷ 82 ∷ 1 ∷ 2 ∷ 0 ∷ 0 ∷ 66 ∷ 1 ∷ 0 ∷ 76 ∷ 2 ∷ 1 ∷ 0 ∷ 1 ∷ 1 ∷ 1 ∷ 66 ∷ 1 ∷ 2 ∷ 76 ∷ 2 ∷ 1 ∷ 0 ∷ 1 ∷ []

two_pieces_are : row_spelling (first_piece ∷ second_piece ∷ []) ≡ two_pieces
unfolding number_bytes half first_piece second_piece two_pieces
two_pieces_are = refl

two_pieces_fine : first_row_fault two_pieces ≡ None
unfolding two_pieces
two_pieces_fine = refl

-- a cut after the count, a byte after the end, no piece, and more pieces than may be
cut_rows : first_row_fault (row_opening ++ 1 ∷ []) ≡ Some (faults.Cut 6)
cut_rows = refl

longer_rows : first_row_fault (two_pieces ++ 0 ∷ []) ≡ Some (faults.Tail 26)
unfolding two_pieces
longer_rows = refl

no_pieces : first_row_fault (row_opening ++ 0 ∷ []) ≡ Some (faults.Zero 5)
no_pieces = refl

many_pieces : first_row_fault (row_opening ++ 145 ∷ 78 ∷ []) ≡ Some (faults.Width 5)
many_pieces = refl
