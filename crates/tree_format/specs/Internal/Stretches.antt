-- A stretch of bytes that a reader reads from one place to another.
use Rattle.std.specs.Prelude.{◌≡◌, ℕ, ◌≤◌, List, ◌∷◌, ◌++◌, length, take, drop, Bool, true, false, None, ℤ}
use Rattle.std.specs.List.{flat_map}
use Rattle.proof_tree.specs.Trees.{PlainTree}
use Rattle.proof_tree.specs.declared.claims.Claim.{Claim}
use Rattle.proof_tree.specs.declared.claims.Claim.TheVariants.{Best, Empty}
use Rattle.tree_format.specs.Grammar.{first_fault, claims_point, parts_so_far}
use Rattle.tree_format.specs.Spellings.{coordinate_part, tree_parts}
use Rattle.tree_format.specs.Readings.{parts_then}
use Rattle.tree_format.specs.Internal.Remaining.{remaining, HasRead}
use Rattle.tree_format.specs.declared.progress.Progress.{Progress}
use Rattle.tree_format.specs.declared.tokens.Token.{Token}
use Rattle.tree_format.specs.declared.tokens.Token.TheVariants.{Claimed}

-- the parts between two places of bytes, at which a reader has come so far
pub record ReadsOn (bytes : List ℕ) (s : Progress) (i : ℕ) (t : Progress) (j : ℕ) (parts : List Token) : Type 0 where
  pub left : remaining s (drop i bytes) ≡ parts_then parts (remaining t (drop j bytes))
  pub read : HasRead s (take i bytes) → HasRead t (take j bytes)
  pub within : i ≤ length bytes → j ≤ length bytes

-- a claim by whether it is of a point
abbrev pub claim_of : Bool → List ℤ → Claim
claim_of true x = Best x
claim_of false x = Empty

-- bytes without a fault were read as a claim and a tree
pub record IsReadAs (bytes : List ℕ) (c : Claim) (t : PlainTree) : Type 0 where
  pub none : first_fault bytes ≡ None
  pub point : List ℤ
  pub claim : c ≡ claim_of (claims_point bytes) point
  pub parts : parts_so_far bytes ≡ Claimed ∷ (flat_map coordinate_part point ++ tree_parts t)
