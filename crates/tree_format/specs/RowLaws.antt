-- The laws of the files of row sweeps: one spelling, and faults exactly where nothing is spelled.
use Rattle.std.specs.Prelude.{◌≡◌, ℕ, ◌<◌, ◌≤◌, ◌++◌, List, [], length, map, None}
use Rattle.ip_defs.specs.Lists.{Each}
use Rattle.ip_defs.specs.declared.programs.Parts.{Parts}
use Rattle.sweep_proof.specs.RowSweeps.{FitsPieces}
use Rattle.sweep_proof.specs.declared.row_sweeps.RowPiece.{RowPiece}
use Rattle.tree_format.specs.RowSpellings.{PlainPiece, SpellsRows, AreRowsWithin, plain_piece}
use Rattle.tree_format.specs.RowGrammar.{first_row_fault}

-- what spells a sweep has no fault
abbrev pub RowSpellingsAreRead : Type 0
RowSpellingsAreRead = (bytes : List ℕ) (ps : List PlainPiece) → SpellsRows bytes ps → first_row_fault bytes ≡ None

-- bytes without a fault spell a sweep
abbrev pub RowReadingsAreSpelled : Type 0
RowReadingsAreSpelled = (bytes : List ℕ) → Each (λ b. b < 256) bytes → first_row_fault bytes ≡ None
    → (ps : List PlainPiece) × SpellsRows bytes ps

-- no bytes spell two sweeps, and no spelling begins another
abbrev pub OneRowSpelling : Type 0
OneRowSpelling = (bytes more : List ℕ) (ps qs : List PlainPiece) → SpellsRows bytes ps → SpellsRows (bytes ++ more) qs
    → (more ≡ []) × (ps ≡ qs)

-- a sweep that fits a model of at most 4096 columns is within the limits of its file
abbrev pub FittingSweepsAreWithin : Type 0
FittingSweepsAreWithin = (m : Parts) (ps : List RowPiece) → length m.columns ≤ 4096 → FitsPieces m ps
    → AreRowsWithin (map plain_piece ps)
