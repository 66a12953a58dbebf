-- What is owed to the file of a sweep's proof: its refusal, or what a command owes to the pieces that it spells.
use Rattle.std.specs.Prelude.{◌≡◌, ◌⊎◌, ℕ, List, map, codes}
use Rattle.std.specs.Option.{MatchOption}
use Rattle.ip_defs.specs.declared.programs.Parts.{Parts}
use Rattle.sweep_proof.specs.RowSweeps.{FitsPieces}
use Rattle.sweep_proof.specs.declared.row_sweeps.RowPiece.{RowPiece}
use Rattle.tree_format.specs.RowGrammar.{first_row_fault}
use Rattle.tree_format.specs.RowSpellings.{SpellsRows, plain_piece}
use Rattle.ipsens_core.specs.Answers.{Answer, says, ReadsFile, ReadsNoMore}
use Rattle.ipsens_core.specs.Reads.{Reads}
use Rattle.ipsens_core.specs.Refusals.{refused}
use Rattle.ipsens_core.specs.TreeRefusals.{fault_text}
use Rattle.ipsens_core.specs.Trees.{longest_tree}
use Rattle.ipsens_core.specs.declared.statuses.Status.TheVariants.{Refused}

-- the refusal of the file of a sweep's proof
abbrev pub refuses_rows : List ℕ → Answer
refuses_rows why = says Refused (refused (codes "proof") why)

-- pieces fit the model, and the answer is owed to them; or they do not, and that is printed
abbrev pub OwedToPieces : Parts → (List RowPiece → Answer → Type 0) → List RowPiece → Answer → Type 0
OwedToPieces m Owed ps a = (FitsPieces m ps × Owed ps a) ⊎ ((FitsPieces m ps → ⊥) × (a ≡ refuses_rows (codes "shape")))

-- bytes spell pieces, and what is owed to these
pub record SpellsOwed (m : Parts) (Owed : List RowPiece → Answer → Type 0) (bytes : List ℕ) (a : Answer) : Type 0 where
  pub pieces : List RowPiece
  pub spelled : SpellsRows bytes (map plain_piece pieces)
  pub owed : OwedToPieces m Owed pieces a

-- the first fault of the bytes is printed, or they spell pieces
abbrev pub OwedToRows : Parts → (List RowPiece → Answer → Type 0) → List ℕ → Answer → Type 0
OwedToRows m Owed bytes a = MatchOption (first_row_fault bytes) (SpellsOwed m Owed bytes a) (λ e. a ≡ refuses_rows (fault_text e))

-- the file of a name is read, the last of the files: it is too long, as a tree file is, or its bytes have a first fault, or they spell
-- pieces
abbrev pub ReadsRows : List ℕ → Parts → (List RowPiece → Answer → Type 0) → Reads → Answer → Type 0
ReadsRows name m Owed =
    ReadsFile name longest_tree (refuses_rows (codes "too long")) (λ bytes. ReadsNoMore (OwedToRows m Owed bytes))
