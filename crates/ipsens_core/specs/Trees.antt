-- What is owed to a tree file: its refusal, or what a command owes to the claim and the tree that it spells.
use Rattle.std.specs.Prelude.{◌≡◌, ℕ, List, codes}
use Rattle.std.specs.Option.{MatchOption}
use Rattle.ip_defs.specs.declared.programs.Parts.{Parts}
use Rattle.proof_tree.specs.Trees.{PlainTree}
use Rattle.proof_tree.specs.declared.claims.Claim.{Claim}
use Rattle.tree_checker.specs.Streams.{first_misfit}
use Rattle.tree_format.specs.Grammar.{first_fault}
use Rattle.tree_format.specs.Spellings.{Spells}
use Rattle.ipsens_core.specs.Answers.{Answer, says, ReadsFile, ReadsNoMore}
use Rattle.ipsens_core.specs.Reads.{Reads}
use Rattle.ipsens_core.specs.TreeRefusals.{fault_text, misfit_text, refused_tree}
use Rattle.ipsens_core.specs.declared.statuses.Status.TheVariants.{Refused}

-- the longest tree file, 256 MiB
abbrev pub longest_tree : ℕ
longest_tree = 268435456

-- the refusal of a tree file
abbrev pub refuses_tree : List ℕ → Answer
refuses_tree why = says Refused (refused_tree why)

-- bytes spell a claim and a tree. These have a first misfit in the model, or the rest holds of them
abbrev pub ReadsProof : List ℕ → Parts → (Claim → PlainTree → Reads → Answer → Type 0) → Reads → Answer → Type 0
ReadsProof bytes m Rest rs a =
    (c : Claim) × (t : PlainTree) × Spells bytes c t
    × MatchOption (first_misfit m c t) (Rest c t rs a) (λ s. ReadsNoMore (λ b. b ≡ refuses_tree (misfit_text s)) rs a)

-- the tree file of a name is read: it is too long, or its bytes have a first fault, or they spell a proof that is owed its misfit or the
-- rest
abbrev pub ReadsTree : List ℕ → Parts → (Claim → PlainTree → Reads → Answer → Type 0) → Reads → Answer → Type 0
ReadsTree name m Rest =
    ReadsFile name longest_tree (refuses_tree (codes "too long"))
    (λ bytes rs a. MatchOption (first_fault bytes) (ReadsProof bytes m Rest rs a)
    (λ e. ReadsNoMore (λ b. b ≡ refuses_tree (fault_text e)) rs a))
