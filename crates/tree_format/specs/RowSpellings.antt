-- The bytes of row sweeps: the one spelling of the pieces of a sweep, and their limits.
use Rattle.std.specs.Prelude.{◌≡◌, ℕ, ◌≤◌, ◌^◌, List, [], ◌∷◌, ◌++◌, length, sum_by}
use Rattle.std.specs.List.{flat_map}
use Rattle.ip_defs.specs.Lists.{Each}
use Rattle.proof_tree.specs.LabelledTrees.{node_count}
use Rattle.proof_tree.specs.Trees.{PlainTree, plain}
use Rattle.proof_tree.specs.Within.{IsTreeWithin}
use Rattle.proof_tree.specs.declared.claims.Claim.{Claim}
use Rattle.sweep_proof.specs.declared.row_sweeps.RowPiece.{RowPiece}
use Rattle.tree_format.specs.Spellings.{number, claim_bytes, tree_bytes, IsClaimWithin}

-- a piece of a row sweep as plain data, without pointers
pub record PlainPiece : Type 0 where
  pub from : ℕ
  pub to : ℕ
  pub claim : Claim
  pub tree : PlainTree

-- the plain piece of a piece
abbrev pub plain_piece : RowPiece → PlainPiece
plain_piece p = record { from = p.from; to = p.to; claim = p.claim; tree = plain p.tree }

-- ---- bytes

-- 'IPSR' and the version, 1
abbrev pub row_opening : List ℕ
row_opening = 73 ∷ 80 ∷ 83 ∷ 82 ∷ 1 ∷ []

-- the first step and the last step of a piece, its claim and its tree
abbrev pub piece_bytes : PlainPiece → List ℕ
piece_bytes p = number p.from ++ number p.to ++ claim_bytes p.claim ++ tree_bytes p.tree

-- the one spelling of the pieces of a sweep: how many there are, and these
abbrev pub row_spelling : List PlainPiece → List ℕ
row_spelling ps = row_opening ++ number (length ps) ++ flat_map piece_bytes ps

-- ---- limits

-- a piece is within the limits by itself
pub record IsPieceWithin (p : PlainPiece) : Type 0 where
  pub from : p.from ≤ 10 ^ 6
  pub to : p.to ≤ 10 ^ 6
  pub claim : IsClaimWithin p.claim
  pub tree : IsTreeWithin p.tree

-- how many nodes the trees of some pieces have together
abbrev pub nodes_of : List PlainPiece → ℕ
nodes_of ps = sum_by (λ p. node_count p.tree) ps

-- the pieces of a sweep are within the limits: there are 1 to 10,000, and the nodes of all their trees are counted together
pub record AreRowsWithin (ps : List PlainPiece) : Type 0 where
  pub some : 1 ≤ length ps
  pub few : length ps ≤ 10000
  pub each : Each IsPieceWithin ps
  pub nodes : nodes_of ps ≤ 1000000

-- bytes spell the pieces of a sweep that is within the limits
pub record SpellsRows (bytes : List ℕ) (ps : List PlainPiece) : Type 0 where
  pub within : AreRowsWithin ps
  pub spelled : bytes ≡ row_spelling ps
