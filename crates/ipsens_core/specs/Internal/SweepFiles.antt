-- How reading a sweep file ends.
use Rattle.std.specs.Prelude.{◌≡◌, ℕ, List, [], Option, Result, Ok, Err, ℤ}
use Rattle.ip_defs.specs.declared.programs.Parts.{Parts}
use Rattle.ip_model.specs.declared.places.Place.{Place}
use Rattle.ips_io.specs.Files.{Files}
use Rattle.mps_defs.specs.declared.reading.Number.{Number}
use Rattle.perturbation.specs.declared.edits.Datum.{Datum}
use Rattle.question_text.specs.SweepFiles.{sweep_of}
use Rattle.question_text.specs.declared.sweeps.Sweep.TheVariants.{Rows}
use Rattle.sweep_directions.specs.Directions.{directed}
use Rattle.ipsens_core.specs.Answers.{Answer, says}
use Rattle.ipsens_core.specs.Internal.Files.{IsFileRead, IsRefusedText}
use Rattle.ipsens_core.specs.Reads.{Reads}
use Rattle.ipsens_core.specs.Runs.{IsOwed}
use Rattle.ipsens_core.specs.SweepFiles.{OwedToDirections, OwedToSweep, ReadsSweep, longest_sweep}
use Rattle.ipsens_core.specs.declared.statuses.Status.TheVariants.{Refused}
use Rattle.ipsens_core.specs.declared.files.Unread.{Unread}
use Rattle.ipsens_core.specs.declared.files.Unread.TheVariants as Un
use Rattle.ipsens_core.specs.declared.sweep_files.Course.{Course}

-- what directions come to in a model: the moves of a course, or their refusal
abbrev pub IsDirected : Parts → List (Datum × Number) → ℕ → Result Course Unread → Type 0
IsDirected m dirs steps (Ok c) = (c.steps ≡ steps) × (directed m dirs steps ≡ Ok c.dir)
IsDirected m dirs steps (Err unread) = IsRefusedText (OwedToDirections (λ d rs a. ⊥) (directed m dirs steps) []) unread

-- the course of a text
pub record HasCourse (m : Parts) (bytes : List ℕ) (c : Course) : Type 0 where
  pub dirs : List (Datum × Number)
  pub sweep : sweep_of bytes ≡ Ok (Rows c.steps dirs)
  pub moves : directed m dirs c.steps ≡ Ok c.dir

-- what the text of a sweep file comes to: a course, or its refusal
abbrev pub IsSweepText : Parts → List ℕ → Result Course Unread → Type 0
IsSweepText m bytes (Ok c) = HasCourse m bytes c
IsSweepText m bytes (Err unread) = IsRefusedText (OwedToSweep m (λ d steps rs a. ⊥) (sweep_of bytes) []) unread

-- the sweep file was read, and its text has this course
pub record IsCourseRead (m : Parts) (before after : Option Files) (name : List ℕ) (c : Course) : Type 0 where
  pub bytes : List ℕ
  pub read : IsFileRead before after name longest_sweep bytes
  pub course : HasCourse m bytes c

-- a refusal of the sweep file is owed, whatever a command owes to moves and steps
abbrev pub IsSweepRefused : Parts → Option Files → Option Files → List ℕ → List ℕ → Type 0
IsSweepRefused m before after name text = IsOwed (ReadsSweep name m (λ d steps rs a. ⊥)) before after (says Refused text)

-- how reading a sweep file ends: with its course, or the text of its refusal
abbrev pub IsSweepFile : Parts → Option Files → Option Files → List ℕ → Result Course Unread → Type 0
IsSweepFile m before after name (Ok c) = IsCourseRead m before after name c
IsSweepFile m before after name (Err (Un.Refused text)) = IsSweepRefused m before after name text.items
IsSweepFile m before after name (Err Un.ReadFault) = Unit {0}
IsSweepFile m before after name (Err Un.Memory) = Unit {0}
