-- The bytes of proofs: the one spelling of a claim with its tree, and the parts of a proof in order.
use Rattle.std.specs.Prelude.{◌≡◌, ℕ, ◌≤◌, ◌^◌, List, [], ◌∷◌, ◌++◌, length, ℤ}
use Rattle.std.specs.Int.RustNames.{unsigned_abs}
use Rattle.std.specs.List.{flat_map}
use Rattle.ip_defs.specs.declared.certificates.Cert.{Cert}
use Rattle.ip_defs.specs.Lists.{Each}
use Rattle.proof_tree.specs.LabelledTrees.{leaf, split}
use Rattle.proof_tree.specs.Trees.{PlainTree}
use Rattle.proof_tree.specs.Within.{IsTreeWithin}
use Rattle.proof_tree.specs.declared.claims.Claim.{Claim}
use Rattle.proof_tree.specs.declared.claims.Claim.TheVariants.{Best, Empty}
use Rattle.tree_format.specs.Numbers.{number_bytes, unsigned}
use Rattle.tree_format.specs.declared.tokens.Token.{Token}
use Rattle.tree_format.specs.declared.tokens.Token.TheVariants.{Claimed, Coordinate, SplitAt, LeafQ, Parts, Part}

-- ---- bytes

-- the most bytes of a number of a tree file
abbrev pub longest : ℕ
longest = 6

abbrev pub number : ℕ → List ℕ
number n = number_bytes longest n

abbrev pub signed_number : ℤ → List ℕ
signed_number z = number (unsigned z)

-- 'IPST' and the version, 1
abbrev pub opening : List ℕ
opening = 73 ∷ 80 ∷ 83 ∷ 84 ∷ 1 ∷ []

-- 'B' and the point, its count of coordinates first; or 'E'
abbrev pub claim_bytes : Claim → List ℕ
claim_bytes (Best x) = 66 ∷ (number (length x) ++ flat_map signed_number x)
claim_bytes Empty = 69 ∷ []

-- a multiplier: its row, then its value
abbrev pub multiplier_bytes : ℕ × ℤ → List ℕ
multiplier_bytes p = number p.0 ++ signed_number p.1

-- the divisor, how many multipliers there are, and these
abbrev pub cert_bytes : Cert → List ℕ
cert_bytes c = number (unsigned_abs c.q) ++ number (length c.y) ++ flat_map multiplier_bytes c.y

-- 'L' and a certificate; or 'S', the column and the number of the split, then its left and its right side
abbrev pub tree_bytes : PlainTree → List ℕ
tree_bytes (leaf c) = 76 ∷ cert_bytes c
tree_bytes (split col cut y left right) = 83 ∷ (number col ++ signed_number cut ++ tree_bytes left ++ tree_bytes right)

-- the one spelling of a proof
abbrev pub spelling : Claim → PlainTree → List ℕ
spelling c t = opening ++ claim_bytes c ++ tree_bytes t

-- ---- parts

abbrev pub coordinate_part : ℤ → List Token
coordinate_part z = Coordinate z ∷ []

-- the parts of a claim
abbrev pub claim_parts : Claim → List Token
claim_parts (Best x) = Claimed ∷ flat_map coordinate_part x
claim_parts Empty = Claimed ∷ []

abbrev pub multiplier_part : ℕ × ℤ → List Token
multiplier_part p = Part p.0 p.1 ∷ []

-- the parts of a tree, in preorder
abbrev pub tree_parts : PlainTree → List Token
tree_parts (leaf c) = LeafQ c.q ∷ Parts (length c.y) ∷ flat_map multiplier_part c.y
tree_parts (split col cut y left right) = SplitAt col cut ∷ (tree_parts left ++ tree_parts right)

abbrev pub proof_parts : Claim → PlainTree → List Token
proof_parts c t = claim_parts c ++ tree_parts t

-- ---- limits

-- a claimed point has at most 4096 coordinates, each at most 2 ^ 24 in absolute value
abbrev pub IsClaimWithin : Claim → Type 0
IsClaimWithin (Best x) = (length x ≤ 4096) × Each (λ z. unsigned_abs z ≤ 2 ^ 24) x
IsClaimWithin Empty = Unit {0}

-- bytes spell a claim with its tree, both within the limits
pub record Spells (bytes : List ℕ) (c : Claim) (t : PlainTree) : Type 0 where
  pub claim : IsClaimWithin c
  pub tree : IsTreeWithin t
  pub spelled : bytes ≡ spelling c t
