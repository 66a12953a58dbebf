-- How reading a whole proof from a tree file ends.
use Rattle.std.specs.Prelude.{◌≡◌, ◌≤◌, ℕ, List, [], ◌∷◌, length, Option, Some, None, Result, Ok, Err}
use Rattle.ip_defs.specs.declared.programs.Parts.{Parts}
use Rattle.ips_io.specs.Files.{Files}
use Rattle.ips_io.specs.declared.reading.ReadError.{ReadError}
use Rattle.ips_io.specs.declared.reading.ReadError.TheVariants as Reading
use Rattle.proof_tree.specs.Trees.{PlainTree, plain}
use Rattle.proof_tree.specs.declared.claims.Claim.{Claim}
use Rattle.proof_tree.specs.declared.claims.Proof.{Proof}
use Rattle.proof_tree.specs.declared.faults.Shape.{Shape}
use Rattle.tree_checker.specs.Streams.{first_misfit}
use Rattle.tree_checker.specs.declared.streams.StreamError.{StreamError}
use Rattle.tree_checker.specs.declared.streams.StreamError.TheVariants as Errors
use Rattle.tree_format.specs.Grammar.{first_fault}
use Rattle.tree_format.specs.Spellings.{Spells}
use Rattle.ipsens_core.specs.Internal.TreeFiles.{IsTreeTooLong}
use Rattle.ipsens_core.specs.Reads.{Agrees}
use Rattle.ipsens_core.specs.Trees.{longest_tree}

-- bytes spell a proof that fits a model
pub record IsSpelledProof (m : Parts) (bytes : List ℕ) (p : Proof) : Type 0 where
  pub spelled : Spells bytes p.claim (plain p.tree)
  pub fits : first_misfit m p.claim (plain p.tree) ≡ None

-- bytes spell a proof with a first misfit in a model
pub record HasMisfit (m : Parts) (bytes : List ℕ) (s : Shape) : Type 0 where
  pub claim : Claim
  pub tree : PlainTree
  pub spelled : Spells bytes claim tree
  pub misfit : first_misfit m claim tree ≡ Some s

-- the proof of bytes for a model, or why there is none
abbrev pub IsProofOf : Parts → List ℕ → Result Proof StreamError → Type 0
IsProofOf m bytes (Ok p) = IsSpelledProof m bytes p
IsProofOf m bytes (Err (Errors.Tree e)) = first_fault bytes ≡ Some e
IsProofOf m bytes (Err (Errors.Shape s)) = HasMisfit m bytes s

-- how understanding the bytes of a tree file ends
abbrev pub IsDecoded : Parts → List ℕ → Result (Result Proof StreamError) ReadError → Type 0
IsDecoded m bytes (Ok result) = IsProofOf m bytes result
IsDecoded m bytes (Err Reading.TooLong) = ⊥
IsDecoded m bytes (Err Reading.Fault) = ⊥
IsDecoded m bytes (Err Reading.Memory) = Unit {0}

-- the tree file was read, is within its length, and this is the proof of its bytes, or why there is none
pub record IsProofRead (m : Parts) (before after : Option Files) (name : List ℕ) (result : Result Proof StreamError) : Type 0 where
  pub bytes : List ℕ
  pub agrees : Agrees before after ((name, bytes) ∷ [])
  pub short : length bytes ≤ longest_tree
  pub proof : IsProofOf m bytes result

-- how reading a proof from a tree file ends
abbrev pub IsProofFile : Parts → Option Files → Option Files → List ℕ → Result (Result Proof StreamError) ReadError → Type 0
IsProofFile m before after name (Ok result) = IsProofRead m before after name result
IsProofFile m before after name (Err Reading.TooLong) = IsTreeTooLong before after name
IsProofFile m before after name (Err Reading.Fault) = Unit {0}
IsProofFile m before after name (Err Reading.Memory) = Unit {0}
