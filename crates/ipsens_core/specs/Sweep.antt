-- What `sweep` owes to its model and to the sweep of its sweep file: the text of an exact sweep, and the file of its proof; or that of a
-- stop, with its cause.
use Rattle.std.specs.Prelude.{◌≡◌, ◌≢◌, ◌⊎◌, ℕ, List, map, Option, option_map, ℤ}
use Rattle.branching.specs.declared.budgets.Limits.{Limits}
use Rattle.ip_defs.specs.declared.programs.Parts.{Parts}
use Rattle.ip_model.specs.declared.places.Place.{Place}
use Rattle.rhs_sweep.specs.RowStops.{AreAmpleFor, IsRowStop}
use Rattle.rhs_sweep.specs.declared.stops.RowStop.{RowStop}
use Rattle.rhs_sweep.specs.declared.stops.RowStop.TheVariants as Stops
use Rattle.sens_report.specs.StopTexts.{row_stop_lines}
use Rattle.sens_report.specs.SweepTexts.{row_sweep_lines}
use Rattle.sweep_proof.specs.RowRules.{row_rules}
use Rattle.sweep_proof.specs.RowSweeps.{FitsPieces, IsExactRowSweep}
use Rattle.sweep_proof.specs.declared.row_sweeps.RowPiece.{RowPiece}
use Rattle.sweep_proof.specs.declared.verdicts.SweepVerdict.TheVariants.{Proved}
use Rattle.tree_format.specs.RowSpellings.{SpellsRows, plain_piece, row_spelling}
use Rattle.ipsens_core.specs.Answers.{Answer, says, ReadsNoMore}
use Rattle.ipsens_core.specs.Reads.{Reads}
use Rattle.ipsens_core.specs.Solve.{limits_for}
use Rattle.ipsens_core.specs.SweepFiles.{ReadsSweep}
use Rattle.ipsens_core.specs.declared.statuses.Status.TheVariants.{Answered, Budget}

-- the bytes of a sweep: the one spelling of its pieces
abbrev pub bytes_of_rows : List RowPiece → List ℕ
bytes_of_rows ps = row_spelling (map plain_piece ps)

-- the file that a sweep is saved as, where a name is given
abbrev pub rows_saved : Option (List ℕ) → List RowPiece → Option (List ℕ × List ℕ)
rows_saved proof ps = option_map (λ name. (name, bytes_of_rows ps)) proof

-- the answer to a sweep
abbrev pub sweep_answer : Parts → Option (List ℕ) → List RowPiece → Answer
sweep_answer m proof ps = record { status = Answered; text = row_sweep_lines m ps; saved = rows_saved proof ps }

-- an answer is that of a sweep which is exact: its pieces cover the steps, and the claim of each is the optimal value at each of its
-- steps. The rules prove it, and the bytes that are saved where a name is given spell it
pub record HasSweep (m : Parts) (d : List (Place × ℤ)) (steps : ℕ) (proof : Option (List ℕ)) (a : Answer) : Type 0 where
  pub pieces : List RowPiece
  pub exact : IsExactRowSweep m d steps pieces
  pub proved : row_rules m d steps pieces ≡ Proved
  pub fits : FitsPieces m pieces
  pub spelled : SpellsRows (bytes_of_rows pieces) (map plain_piece pieces)
  pub answer : a ≡ sweep_answer m proof pieces

-- an answer is that of a stop with its cause, which comes in no sweep whose limits are ample; nothing is saved
pub record HasRowStop (m : Parts) (d : List (Place × ℤ)) (steps : ℕ) (l : Limits) (a : Answer) : Type 0 where
  pub stop : RowStop
  pub named : stop ≢ Stops.Memory
  pub cause : IsRowStop m d steps l stop
  pub short : AreAmpleFor m steps l → ⊥
  pub answer : a ≡ says Budget (row_stop_lines stop)

-- an answer is that of an exact sweep or of a stop
abbrev pub IsSwept : Parts → List (Place × ℤ) → ℕ → Limits → Option (List ℕ) → Answer → Type 0
IsSwept m d steps l proof a = HasSweep m d steps proof a ⊎ HasRowStop m d steps l a

-- the answer of `sweep` to its model and to its sweep file: no further file is read
abbrev pub AnswersSweep : List ℕ → Option (List ℕ) → ℕ → ℕ → ℕ → Parts → Reads → Answer → Type 0
AnswersSweep sweep proof nodes depth pivots m =
    ReadsSweep sweep m (λ d steps. ReadsNoMore (IsSwept m d steps (limits_for m nodes depth pivots) proof))
