-- How reading the files of a command and making its answer end, before anything is written.
use Rattle.std.specs.Prelude.{◌≡◌, ◌≢◌, ℕ, List, Option, option_map, Result, Err, IfOk}
use Rattle.ips_io.specs.Causes.{Rose}
use Rattle.ips_io.specs.Files.{Files, Keeps}
use Rattle.ipsens_core.specs.Answers.{Answer}
use Rattle.ipsens_core.specs.Reads.{Reads}
use Rattle.ipsens_core.specs.Runs.{IsOwed}
use Rattle.ipsens_core.specs.declared.answers.Made.{Made}
use Rattle.ipsens_core.specs.declared.answers.Saved.{Saved}
use Rattle.ipsens_core.specs.declared.answers.Stop.{Stop}
use Rattle.ipsens_core.specs.declared.answers.Stop.TheVariants as Stops
use Rattle.ipsens_core.specs.declared.statuses.Status.{Status}
use Rattle.ipsens_core.specs.declared.statuses.Status.TheVariants.{Answered, NotProved, Usage, Refused, Budget, Wide, ReadFault}
use Rattle.ipsens_core.specs.declared.statuses.Status.TheVariants.{WriteFault, Memory}

-- statuses that a command may answer with a text
abbrev pub IsWritten : Status → Type 0
IsWritten Answered = Unit {0}
IsWritten NotProved = Unit {0}
IsWritten Refused = Unit {0}
IsWritten Budget = Unit {0}
IsWritten Usage = ⊥
IsWritten Wide = ⊥
IsWritten ReadFault = ⊥
IsWritten WriteFault = ⊥
IsWritten Memory = ⊥

-- the file that is to be saved
abbrev pub file_saved : Saved → List ℕ × List ℕ
file_saved s = (s.name.now, s.bytes.items)

-- a made answer as plain data
abbrev pub answer_of : Made → Answer
answer_of made = record { status = made.status; text = made.text.items; saved = option_map file_saved made.saved }

-- an answer that is owed to the files that were read, and is to be saved and written
pub record IsMade (IsRun : Reads → Answer → Type 0) (before after : Option Files) (made : Made) : Type 0 where
  pub written : IsWritten made.status
  pub owed : IsOwed IsRun before after (answer_of made)

-- how reading the files of a command and making its answer ends: the files are as before, nothing is saved, and reading failed exactly
-- where the shelf counted a failure
pub record IsPrepared (IsRun : Reads → Answer → Type 0) (before after : Option Files)
    (faults faults_after save_faults save_faults_after : ℕ) (result : Result Made Stop) : Type 0 where
  pub made : IfOk result (IsMade IsRun before after)
  pub keeps : Keeps before after
  pub fault : result ≡ Err Stops.ReadFault → Rose faults faults_after
  pub no_fault : result ≢ Err Stops.ReadFault → faults_after ≡ faults
  pub saves : save_faults_after ≡ save_faults
