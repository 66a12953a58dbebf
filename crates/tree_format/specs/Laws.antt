-- The laws of tree files: one spelling, and faults exactly where nothing is spelled.
use Rattle.std.specs.Prelude.{◌≡◌, ℕ, ◌<◌, ◌++◌, List, [], Some, None}
use Rattle.ip_defs.specs.Lists.{Each}
use Rattle.proof_tree.specs.Trees.{PlainTree}
use Rattle.proof_tree.specs.declared.claims.Claim.{Claim}
use Rattle.tree_format.specs.Spellings.{Spells, proof_parts}
use Rattle.tree_format.specs.Grammar.{first_fault, fault_so_far, parts_so_far}
use Rattle.tree_format.specs.declared.errors.TreeError.{TreeError}

-- what spells a proof has no fault, and its parts are those of the proof
abbrev pub SpellingsAreRead : Type 0
SpellingsAreRead = (bytes : List ℕ) (c : Claim) (t : PlainTree) → Spells bytes c t → (first_fault bytes ≡ None)
    × (parts_so_far bytes ≡ proof_parts c t)

-- bytes without a fault spell a proof
abbrev pub ReadingsAreSpelled : Type 0
ReadingsAreSpelled = (bytes : List ℕ) → Each (λ b. b < 256) bytes → first_fault bytes ≡ None
    → (c : Claim) × (t : PlainTree) × Spells bytes c t

-- no bytes spell two proofs, and no spelling begins another
abbrev pub OneSpelling : Type 0
OneSpelling = (bytes more : List ℕ) (c d : Claim) (t u : PlainTree) → Spells bytes c t → Spells (bytes ++ more) d u
    → (more ≡ []) × (c ≡ d) × (t ≡ u)

-- a fault of bytes stands whatever follows them, unless it is that they end
abbrev pub FaultsStand : Type 0
FaultsStand = (bytes more : List ℕ) (e : TreeError) → fault_so_far bytes ≡ Some e → fault_so_far (bytes ++ more) ≡ Some e
