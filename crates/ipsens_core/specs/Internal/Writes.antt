-- How saving and writing a made answer ends.
use Rattle.std.specs.Prelude.{◌≡◌, ◌⊎◌, ℕ, List, Option, take, Result, Ok, Err}
use Rattle.ips_io.specs.Causes.{Rose}
use Rattle.ips_io.specs.Files.{Takes}
use Rattle.ipsens_core.specs.Answers.{Answer}
use Rattle.ipsens_core.specs.Internal.Made.{answer_of}
use Rattle.ipsens_core.specs.Runs.{Outside, MaySave, Saves}
use Rattle.ipsens_core.specs.declared.answers.Made.{Made}
use Rattle.ipsens_core.specs.declared.answers.Stop.{Stop}
use Rattle.ipsens_core.specs.declared.answers.Stop.TheVariants as Stops
use Rattle.ipsens_core.specs.declared.statuses.Status.{Status}
use Rattle.ipsens_core.specs.declared.statuses.Status.TheVariants.{ReadFault, WriteFault, Memory}

-- a text was written whole, and the status is its own; or writing failed after some of it
abbrev pub Writes : Option (List ℕ) → Option (List ℕ) → ℕ → ℕ → Status → List ℕ → Status → Type 0
Writes before after faults faults_after status text result =
    ((result ≡ status) × (faults_after ≡ faults) × Takes before after text)
    ⊎ ((result ≡ WriteFault) × Rose faults faults_after × ((most : ℕ) × Takes before after (take most text)))

-- the file of an answer was saved and its text written whole, and the status is its own; or saving or writing failed, after some of the
-- text
abbrev pub Delivers : Outside → Answer → Status → Type 0
Delivers o a status =
    ((status ≡ a.status) × Takes o.taken o.taken_after a.text × Saves o.files o.files_after a.saved)
    ⊎ ((status ≡ WriteFault) × ((most : ℕ) × Takes o.taken o.taken_after (take most a.text)) × MaySave o.files o.files_after a.saved)

-- nothing was saved or written, with this status
pub record IsStill (o : Outside) (why status : Status) : Type 0 where
  pub status_is : status ≡ why
  pub files : o.files_after ≡ o.files
  pub taken : o.taken_after ≡ o.taken

-- a made answer was delivered, or the status says why there is none
abbrev pub IsSent : Outside → Result Made Stop → Status → Type 0
IsSent o (Ok made) status = Delivers o (answer_of made) status
IsSent o (Err Stops.ReadFault) status = IsStill o ReadFault status
IsSent o (Err Stops.Memory) status = IsStill o Memory status
