-- Two row sweeps at work. Least x, where x >= 2 is relaxed step by step and x is from 0 to 1: no point, then 1, then 0. And least -x, where
-- 2x <= 1 becomes 2x <= 2 and x is from 0 to 3: 0, then -1, whose proof is spoiled in three ways.
use Rattle.std.specs.Prelude.{◌≡◌, ℕ, List, [], ◌∷◌, Option, Some, None, codes, ℤ, pos, negsuc}
use Rattle.std.proofs.Common.{refl}
use Rattle.ip_defs.specs.declared.certificates.Bound.TheVariants.{At}
use Rattle.ip_defs.specs.declared.programs.Breach.TheVariants as Broken
use Rattle.ip_defs.specs.declared.programs.Parts.{Parts}
use Rattle.ip_model.specs.declared.places.Place.{Place}
use Rattle.ip_model.specs.declared.places.Place.TheVariants.{Low, High}
use Rattle.proof_tree.specs.declared.claims.Claim.{Claim}
use Rattle.proof_tree.specs.declared.claims.Claim.TheVariants.{Best, Empty}
use Rattle.proof_tree.specs.declared.trees.Tree.{Leaf}
use Rattle.sweep_proof.specs.RowRules.{row_rules}
use Rattle.sweep_proof.specs.declared.row_sweeps.RowPiece.{RowPiece}
use Rattle.sweep_proof.specs.declared.verdicts.SweepVerdict.TheVariants.{Proved, Cover, Breach, Fall, Short}

-- a program of one column from 0 to `hi'` and one row
abbrev program : ℤ → ℤ → ℤ → Option ℤ → Option ℤ → Parts
program cost' hi' coef low' high' = record {
  objective = codes "cost";
  cost_decimals = 0;
  constant = pos 0;
  columns = record { name = codes "x"; cost = cost'; lo = pos 0; hi = hi' } ∷ [];
  rows = record { name = codes "r1"; decimals = 0; coefs = (0, coef) ∷ []; low = low'; high = high' } ∷ [];
}

-- a piece with a tree of one leaf
abbrev piece : ℕ → ℕ → Claim → ℤ → List (ℕ × ℤ) → RowPiece
piece from' to' claim' q' y' = record { from = from'; to = to'; claim = claim'; tree = Leaf (record { q = q'; y = y' }) }

abbrev point : ℤ → Claim
point x = Best (x ∷ [])

-- ---- three pieces

abbrev relaxed : Parts
relaxed = program (pos 1) (pos 1) (pos 1) (Some (pos 2)) None

abbrev down : List (Place × ℤ)
down = (Low 0, negsuc 0) ∷ []

abbrev none_first : RowPiece
none_first = piece 0 0 Empty (pos 0) ((0, pos 1) ∷ [])

abbrev one_next : RowPiece
one_next = piece 1 1 (point (pos 1)) (pos 1) ((0, pos 1) ∷ [])

abbrev zero_last : RowPiece
zero_last = piece 2 2 (point (pos 0)) (pos 1) []

pub three_pieces : row_rules relaxed down 2 (none_first ∷ one_next ∷ zero_last ∷ []) ≡ Proved
three_pieces = refl

-- emptiness is claimed in the middle
pub empty_later : row_rules relaxed down 2 (none_first ∷ piece 1 1 Empty (pos 0) ((0, pos 1) ∷ []) ∷ zero_last ∷ []) ≡ Cover 1
empty_later = refl

-- the ray of the first piece lapses at step 1
pub ray_lapses : row_rules relaxed down 2 (piece 0 1 Empty (pos 0) ((0, pos 1) ∷ []) ∷ zero_last ∷ []) ≡ Short 0 (At (pos 0)) None
ray_lapses = refl

-- a value that stays equal, and a last piece that ends before the sweep does
pub equal_values : row_rules relaxed down 3 (none_first ∷ one_next ∷ zero_last ∷ piece 3 3 (point (pos 0)) (pos 1) [] ∷ [])
    ≡ Fall 3 (pos 0) (pos 0)
equal_values = refl

pub ends_early : row_rules relaxed down 3 (none_first ∷ one_next ∷ zero_last ∷ []) ≡ Cover 2
ends_early = refl

-- a piece that begins one step late
pub begins_late : row_rules relaxed down 2 (none_first ∷ zero_last ∷ []) ≡ Cover 1
begins_late = refl

-- ---- two pieces

abbrev widened : Parts
widened = program (negsuc 0) (pos 3) (pos 2) None (Some (pos 1))

abbrev up : List (Place × ℤ)
up = (High 0, pos 1) ∷ []

abbrev zero_first : ℕ → ℤ → RowPiece
zero_first to' x = piece 0 to' (point x) (pos 2) ((0, negsuc 0) ∷ [])

abbrev one_last : RowPiece
one_last = piece 1 1 (point (pos 1)) (pos 2) ((0, negsuc 0) ∷ [])

pub two_pieces : row_rules widened up 1 (zero_first 0 (pos 0) ∷ one_last ∷ []) ≡ Proved
two_pieces = refl

pub ends_late : row_rules widened up 1 (zero_first 1 (pos 0) ∷ one_last ∷ []) ≡ Cover 1
ends_late = refl

pub broken_row : row_rules widened up 1 (zero_first 0 (pos 1) ∷ one_last ∷ []) ≡ Breach 0 (Broken.Row 0)
broken_row = refl

-- one piece for both steps: the tree bounds step 1 by -1 alone
pub one_piece : row_rules widened up 1 (zero_first 1 (pos 0) ∷ []) ≡ Short 0 (At (negsuc 0)) (Some (pos 0))
one_piece = refl
