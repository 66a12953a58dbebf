-- What is owed to a sweep file: its refusal, or what a command owes to the moves of row sides and to the number of steps.
use Rattle.std.specs.Prelude.{◌≡◌, ℕ, List, codes, Result, Ok, Err, ℤ}
use Rattle.ip_defs.specs.declared.programs.Parts.{Parts}
use Rattle.ip_model.specs.declared.places.Place.{Place}
use Rattle.perturbation.specs.declared.edits.EditError.{EditError}
use Rattle.question_text.specs.SweepFiles.{sweep_of}
use Rattle.question_text.specs.declared.errors.TextError.{TextError}
use Rattle.question_text.specs.declared.sweeps.Sweep.{Sweep}
use Rattle.question_text.specs.declared.sweeps.Sweep.TheVariants.{Cost, Rows}
use Rattle.sweep_directions.specs.Directions.{directed}
use Rattle.ipsens_core.specs.Answers.{Answer, says, ReadsFile, ReadsNoMore}
use Rattle.ipsens_core.specs.QuestionRefusals.{edit_text, text_fault}
use Rattle.ipsens_core.specs.Reads.{Reads}
use Rattle.ipsens_core.specs.Refusals.{refused}
use Rattle.ipsens_core.specs.declared.statuses.Status.TheVariants.{Refused}

-- the longest sweep file, 16 MiB
abbrev pub longest_sweep : ℕ
longest_sweep = 16777216

-- the refusal of a sweep file, or of a direction in it
abbrev pub refuses_sweep : List ℕ → Answer
refuses_sweep why = says Refused (refused (codes "sweep") why)

-- the refusal of the directions is printed, or the rest holds of the moves of the sides by one step
abbrev pub OwedToDirections : (List (Place × ℤ) → Reads → Answer → Type 0) → Result (List (Place × ℤ)) EditError → Reads → Answer → Type 0
OwedToDirections Rest (Ok d) rs a = Rest d rs a
OwedToDirections Rest (Err e) rs a = ReadsNoMore (λ b. b ≡ refuses_sweep (edit_text e)) rs a

-- the first fault of a text is printed, or that it sweeps the objective, which is not built; or its directions are tried in the model, and
-- the rest holds of their moves and of the number of steps
abbrev pub OwedToSweep : Parts → (List (Place × ℤ) → ℕ → Reads → Answer → Type 0) → Result Sweep TextError → Reads → Answer → Type 0
OwedToSweep m Rest (Ok (Cost from to dirs)) rs a = ReadsNoMore (λ b. b ≡ refuses_sweep (codes "S0")) rs a
OwedToSweep m Rest (Ok (Rows steps dirs)) rs a = OwedToDirections (λ d. Rest d steps) (directed m dirs steps) rs a
OwedToSweep m Rest (Err e) rs a = ReadsNoMore (λ b. b ≡ refuses_sweep (text_fault e)) rs a

-- the sweep file of a name is read: it is too long, or its text or its directions are refused, or the rest holds of its moves and steps
abbrev pub ReadsSweep : List ℕ → Parts → (List (Place × ℤ) → ℕ → Reads → Answer → Type 0) → Reads → Answer → Type 0
ReadsSweep name m Rest =
    ReadsFile name longest_sweep (refuses_sweep (codes "too long")) (λ bytes. OwedToSweep m Rest (sweep_of bytes))
