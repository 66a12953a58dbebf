-- How reading the file of a sweep's proof ends.
use Rattle.std.specs.Prelude.{◌≡◌, ℕ, List, [], map, Option, Result, Ok, Err}
use Rattle.ip_defs.specs.declared.programs.Parts.{Parts}
use Rattle.ips_io.specs.Files.{Files}
use Rattle.sweep_proof.specs.RowSweeps.{FitsPieces}
use Rattle.sweep_proof.specs.declared.row_sweeps.RowSweep.{RowSweep}
use Rattle.tree_format.specs.RowSpellings.{SpellsRows, plain_piece}
use Rattle.ipsens_core.specs.Answers.{says}
use Rattle.ipsens_core.specs.Internal.Files.{IsFileRead, IsRefusedText}
use Rattle.ipsens_core.specs.Runs.{IsOwed}
use Rattle.ipsens_core.specs.SweepProofFiles.{OwedToRows, ReadsRows}
use Rattle.ipsens_core.specs.Trees.{longest_tree}
use Rattle.ipsens_core.specs.declared.statuses.Status.TheVariants.{Refused}
use Rattle.ipsens_core.specs.declared.files.Unread.{Unread}
use Rattle.ipsens_core.specs.declared.files.Unread.TheVariants as Un

-- bytes spell the pieces of a sweep, and these fit a model
pub record HasRows (m : Parts) (bytes : List ℕ) (s : RowSweep) : Type 0 where
  pub spelled : SpellsRows bytes (map plain_piece s.pieces)
  pub fits : FitsPieces m s.pieces

-- what the bytes of the file come to: a sweep that fits, or their refusal
abbrev pub IsRowsText : Parts → List ℕ → Result RowSweep Unread → Type 0
IsRowsText m bytes (Ok s) = HasRows m bytes s
IsRowsText m bytes (Err unread) = IsRefusedText (OwedToRows m (λ ps a. ⊥) bytes) unread

-- the file was read, and its bytes spell this sweep
pub record AreRowsRead (m : Parts) (before after : Option Files) (name : List ℕ) (s : RowSweep) : Type 0 where
  pub bytes : List ℕ
  pub read : IsFileRead before after name longest_tree bytes
  pub rows : HasRows m bytes s

-- a refusal of the file is owed, whatever a command owes to pieces
abbrev pub AreRowsRefused : Parts → Option Files → Option Files → List ℕ → List ℕ → Type 0
AreRowsRefused m before after name text = IsOwed (ReadsRows name m (λ ps a. ⊥)) before after (says Refused text)

-- how reading the file ends: with its sweep, or the text of its refusal
abbrev pub IsRowsFile : Parts → Option Files → Option Files → List ℕ → Result RowSweep Unread → Type 0
IsRowsFile m before after name (Ok s) = AreRowsRead m before after name s
IsRowsFile m before after name (Err (Un.Refused text)) = AreRowsRefused m before after name text.items
IsRowsFile m before after name (Err Un.ReadFault) = Unit {0}
IsRowsFile m before after name (Err Un.Memory) = Unit {0}
