-- What is owed to a sweep file.
use Rattle.std.specs.Prelude.{◌≡◌, ◌≢◌, ℕ, List, [], Option, Result, Ok, Err, codes, ℤ}
use Rattle.std.proofs.Common.{refl, ap, sym, ◌∙◌, subst}
use Rattle.ip_defs.specs.declared.programs.Parts.{Parts}
use Rattle.ip_model.specs.declared.places.Place.{Place}
use Rattle.ips_io.specs.Files.{Files, Keeps}
use Rattle.mps_defs.specs.declared.reading.Number.{Number}
use Rattle.perturbation.specs.declared.edits.Datum.{Datum}
use Rattle.perturbation.specs.declared.edits.EditError.{EditError}
use Rattle.perturbation.specs.declared.edits.EditError.TheVariants as Edits
use Rattle.question_text.specs.Lines as Texts
use Rattle.question_text.specs.SweepFiles.{sweep_of}
use Rattle.question_text.specs.declared.errors.TextError.{TextError}
use Rattle.question_text.specs.declared.errors.TextError.TheVariants as Faults
use Rattle.question_text.specs.declared.sweeps.Sweep.{Sweep}
use Rattle.question_text.specs.declared.sweeps.Sweep.TheVariants.{Cost, Rows}
use Rattle.sweep_directions.specs.Directions.{Answers, directed}
use Rattle.ipsens_core.specs.Answers.{Answer, says, ReadsNoMore}
use Rattle.ipsens_core.specs.Internal.Files.{IsFile, IsFileRead, IsLineOf, IsRefusedText}
use Rattle.ipsens_core.specs.Internal.Made.{IsPrepared}
use Rattle.ipsens_core.specs.Internal.SweepFiles.{IsCourseRead, IsDirected, IsSweepFile, IsSweepRefused, IsSweepText}
use Rattle.ipsens_core.specs.QuestionRefusals.{edit_text, text_fault}
use Rattle.ipsens_core.specs.Reads.{Reads}
use Rattle.ipsens_core.specs.Refusals.{refused}
use Rattle.ipsens_core.specs.Runs.{IsOwed}
use Rattle.ipsens_core.specs.SweepFiles.{OwedToDirections, OwedToSweep, ReadsSweep, longest_sweep, refuses_sweep}
use Rattle.ipsens_core.specs.declared.answers.Made.{Made}
use Rattle.ipsens_core.specs.declared.answers.Stop.{Stop}
use Rattle.ipsens_core.specs.declared.files.Unread.{Unread}
use Rattle.ipsens_core.specs.declared.files.Unread.TheVariants as Un
use Rattle.ipsens_core.specs.declared.sweep_files.Course.{Course}
use Rattle.ipsens_core.specs.declared.statuses.Status.TheVariants.{Refused}
use Rattle.ipsens_core.proofs.FileLaws.{IsRefusalOwed, file_more, file_owed, last_owed, line_owed, long_owed}
use Rattle.ipsens_core.proofs.RunLaws.{prepared_then}

-- what a command owes to moves and steps, where it owes nothing
abbrev NoRest : List (Place × ℤ) → ℕ → Reads → Answer → Type 0
NoRest d steps rs a = ⊥

-- ---- the text

-- a refusal of directions that is not want of memory is theirs
direction_named : (due : Result (List (Place × ℤ)) EditError) (e : EditError) → e ≢ Edits.Memory → Answers due (Err e) → due ≡ Err e
direction_named due (Edits.UnknownName k) not is = is
direction_named due (Edits.OffGrid k) not is = is
direction_named due (Edits.Limit k) not is = is
direction_named due (Edits.NoSide k) not is = is
direction_named due Edits.Memory not is = absurd (not refl)

pub direction_owed : (m : Parts) (dirs : List (Datum × Number)) (steps : ℕ) (e : EditError) (unread : Unread) → e ≢ Edits.Memory
    → Answers (directed m dirs steps) (Err e) → IsLineOf (refused (codes "sweep") (edit_text e)) unread
    → IsDirected m dirs steps (Err unread)
direction_owed m dirs steps e unread not is line =
    line_owed (OwedToDirections (λ d rs a. ⊥) (directed m dirs steps) []) (refused (codes "sweep") (edit_text e)) unread
    (rw (direction_named (directed m dirs steps) e not is) (refl, refl)) line

-- the course of directions is that of their text, and so is their refusal
pub directed_owed : (m : Parts) (text : List ℕ) (dirs : List (Datum × Number)) (steps : ℕ) (result : Result Course Unread)
    → sweep_of text ≡ Ok (Rows steps dirs) → IsDirected m dirs steps result → IsSweepText m text result
directed_owed m text dirs steps (Ok c) sweep is = record {
  dirs = dirs;
  sweep = rw is.0 sweep;
  moves = rw is.0 is.1;
}
directed_owed m text dirs steps (Err (Un.Refused line)) sweep is = rw sweep is
directed_owed m text dirs steps (Err Un.ReadFault) sweep is = is
directed_owed m text dirs steps (Err Un.Memory) sweep is = is

-- so is the refusal of a text
fault_named : (due : Result Sweep TextError) (e : TextError) → e ≢ Faults.Memory → Texts.Answers due (Err e) → due ≡ Err e
fault_named due (Faults.Word n) not is = is
fault_named due (Faults.Number n) not is = is
fault_named due (Faults.Unended n) not is = is
fault_named due (Faults.Direction n) not is = is
fault_named due (Faults.Interval n) not is = is
fault_named due Faults.Memory not is = absurd (not refl)

pub text_owed : (m : Parts) (text : List ℕ) (e : TextError) (unread : Unread) → e ≢ Faults.Memory → Texts.Answers (sweep_of text) (Err e)
    → IsLineOf (refused (codes "sweep") (text_fault e)) unread → IsSweepText m text (Err unread)
text_owed m text e unread not is line =
    line_owed (OwedToSweep m NoRest (sweep_of text) []) (refused (codes "sweep") (text_fault e)) unread
    (rw (fault_named (sweep_of text) e not is) (refl, refl)) line

pub objective_owed : (m : Parts) (text : List ℕ) (from to : ℤ) (dirs : List (List ℕ × Number)) (unread : Unread)
    → sweep_of text ≡ Ok (Cost from to dirs) → IsLineOf (refused (codes "sweep") (codes "S0")) unread → IsSweepText m text (Err unread)
objective_owed m text from to dirs unread is line =
    line_owed (OwedToSweep m NoRest (sweep_of text) []) (refused (codes "sweep") (codes "S0")) unread (rw is (refl, refl)) line

-- ---- the file

-- a refusal of the file is owed, whatever a command owes to moves and steps
refused_directions : (Rest : List (Place × ℤ) → Reads → Answer → Type 0) (r : Result (List (Place × ℤ)) EditError) (rs : Reads) (a : Answer)
    → OwedToDirections (λ d rs a. ⊥) r rs a → OwedToDirections Rest r rs a
refused_directions Rest (Ok d) rs a h = absurd h
refused_directions Rest (Err e) rs a h = h

refused_sweep : (m : Parts) (Rest : List (Place × ℤ) → ℕ → Reads → Answer → Type 0) (r : Result Sweep TextError) (rs : Reads) (a : Answer)
    → OwedToSweep m NoRest r rs a → OwedToSweep m Rest r rs a
refused_sweep m Rest (Ok (Cost from to dirs)) rs a h = h
refused_sweep m Rest (Ok (Rows steps dirs)) rs a h = refused_directions (λ d. Rest d steps) (directed m dirs steps) rs a h
refused_sweep m Rest (Err e) rs a h = h

pub refused_more : (m : Parts) (name : List ℕ) (Rest : List (Place × ℤ) → ℕ → Reads → Answer → Type 0) (before after : Option Files)
    (text : List ℕ) → IsSweepRefused m before after name text → IsOwed (ReadsSweep name m Rest) before after (says Refused text)
refused_more m name Rest before after text owed = record {
  reads = owed.reads;
  agrees = owed.agrees;
  run = file_more name longest_sweep (refuses_sweep (codes "too long")) (λ bytes. OwedToSweep m NoRest (sweep_of bytes))
      (λ bytes. OwedToSweep m Rest (sweep_of bytes)) (λ bytes. refused_sweep m Rest (sweep_of bytes)) owed.reads (says Refused text)
      owed.run;
}

pub sweep_refusal : (m : Parts) (name : List ℕ) (Rest : List (Place × ℤ) → ℕ → Reads → Answer → Type 0) (before after : Option Files)
    (unread : Unread) → IsSweepFile m before after name (Err unread) → IsRefusalOwed (ReadsSweep name m Rest) before after unread
sweep_refusal m name Rest before after (Un.Refused text) is = refused_more m name Rest before after text.items is
sweep_refusal m name Rest before after Un.ReadFault is = tt
sweep_refusal m name Rest before after Un.Memory is = tt

-- the file was read, and its text has a course or is refused
pub sweep_read : (m : Parts) (name text : List ℕ) (before after : Option Files) (result : Result Course Unread)
    → IsFileRead before after name longest_sweep text → IsSweepText m text result → IsSweepFile m before after name result
sweep_read m name text before after (Ok c) read is = record { bytes = text; read = read; course = is }
sweep_read m name text before after (Err (Un.Refused line)) read is =
    last_owed name text longest_sweep (refuses_sweep (codes "too long")) (λ bytes. OwedToSweep m NoRest (sweep_of bytes)) before after
    (says Refused line.items) read is
sweep_read m name text before after (Err Un.ReadFault) read is = tt
sweep_read m name text before after (Err Un.Memory) read is = tt

-- the file was not read, or is too long
pub sweep_unread : (m : Parts) (name line : List ℕ) (before after : Option Files) (unread : Unread)
    → line ≡ refused (codes "sweep") (codes "too long") → IsFile before after name longest_sweep line (Err unread)
    → IsSweepFile m before after name (Err unread)
sweep_unread m name line before after (Un.Refused text) same is =
    long_owed name longest_sweep (refused (codes "sweep") (codes "too long")) text.items (λ bytes. OwedToSweep m NoRest (sweep_of bytes))
    before after is.0 (is.1 ∙ same)
sweep_unread m name line before after Un.ReadFault same is = tt
sweep_unread m name line before after Un.Memory same is = tt

-- what a command owes to a course and to the files after it is owed to the sweep file and those
pub course_owed : (m : Parts) (name : List ℕ) (Rest : List (Place × ℤ) → ℕ → Reads → Answer → Type 0) (before mid after : Option Files)
    (c : Course) (a : Answer) → IsCourseRead m before mid name c → IsOwed (Rest c.dir c.steps) mid after a
    → IsOwed (ReadsSweep name m Rest) before after a
course_owed m name Rest before mid after c a read owed =
    file_owed name read.bytes longest_sweep (refuses_sweep (codes "too long")) (λ bytes. OwedToSweep m Rest (sweep_of bytes)) before mid
    after a read.read (record {
      reads = owed.reads;
      agrees = owed.agrees;
      run = rw read.course.sweep (rw read.course.moves owed.run);
    })

-- the sweep file was read, then an answer to its course was made of the files after it
pub course_prepared : (m : Parts) (name : List ℕ) (Rest : List (Place × ℤ) → ℕ → Reads → Answer → Type 0) (before mid after : Option Files)
    (f f' f'' s s' s'' : ℕ) (c : Course) (result : Result Made Stop) → IsCourseRead m before mid name c → Keeps before mid → f' ≡ f
    → s' ≡ s → IsPrepared (Rest c.dir c.steps) mid after f' f'' s' s'' result
    → IsPrepared (ReadsSweep name m Rest) before after f f'' s s'' result
course_prepared m name Rest before mid after f f' f'' s s' s'' c result read keeps same saves ready =
    prepared_then (Rest c.dir c.steps) (ReadsSweep name m Rest) before mid after f f' f'' s s' s'' result
    (λ a owed. course_owed m name Rest before mid after c a read owed) keeps same saves ready
