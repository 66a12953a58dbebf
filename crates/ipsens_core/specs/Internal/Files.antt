-- How reading a file ends, and what a text of it comes to, before a command makes its answer.
use Rattle.std.specs.Prelude.{◌≡◌, ℕ, ◌<◌, ◌≤◌, List, [], ◌∷◌, length, Option, Result, Ok, Err}
use Rattle.ips_io.specs.Files.{Files}
use Rattle.ipsens_core.specs.Answers.{Answer, says}
use Rattle.ipsens_core.specs.Reads.{Agrees}
use Rattle.ipsens_core.specs.declared.answers.Made.{Made}
use Rattle.ipsens_core.specs.declared.answers.Stop.{Stop}
use Rattle.ipsens_core.specs.declared.answers.Stop.TheVariants as Stops
use Rattle.ipsens_core.specs.declared.files.Unread.{Unread}
use Rattle.ipsens_core.specs.declared.files.Unread.TheVariants as Un
use Rattle.ipsens_core.specs.declared.statuses.Status.TheVariants.{Refused}
use Rattle.ipsens_core.specs.Internal.Made.{answer_of}

-- the file was read, and is within its length
pub record IsFileRead (before after : Option Files) (name : List ℕ) (longest : ℕ) (bytes : List ℕ) : Type 0 where
  pub agrees : Agrees before after ((name, bytes) ∷ [])
  pub short : length bytes ≤ longest

-- the file is longer than the limit
pub record IsFileTooLong (before after : Option Files) (name : List ℕ) (longest : ℕ) : Type 0 where
  pub bytes : List ℕ
  pub long : longest < length bytes
  pub agrees : Agrees before after ((name, bytes) ∷ [])

-- a text is refused with this line, or memory ran out as it was made
abbrev pub IsLineOf : List ℕ → Unread → Type 0
IsLineOf line (Un.Refused text) = text.items ≡ line
IsLineOf line Un.ReadFault = ⊥
IsLineOf line Un.Memory = Unit {0}

-- how reading a file ends: with its bytes, or with the line of one that is too long
abbrev pub IsFile : Option Files → Option Files → List ℕ → ℕ → List ℕ → Result (List ℕ) Unread → Type 0
IsFile before after name longest line (Ok bytes) = IsFileRead before after name longest bytes
IsFile before after name longest line (Err (Un.Refused text)) = IsFileTooLong before after name longest × (text.items ≡ line)
IsFile before after name longest line (Err Un.ReadFault) = Unit {0}
IsFile before after name longest line (Err Un.Memory) = Unit {0}

-- why a text gives nothing: its refusal is owed, or memory ran out
abbrev pub IsRefusedText : (Answer → Type 0) → Unread → Type 0
IsRefusedText Owed (Un.Refused text) = Owed (says Refused text.items)
IsRefusedText Owed Un.ReadFault = ⊥
IsRefusedText Owed Un.Memory = Unit {0}

-- the answer of a command where a file gives nothing
abbrev pub IsWithout : Unread → Result Made Stop → Type 0
IsWithout (Un.Refused text) result = (made : Made) × (result ≡ Ok made) × (answer_of made ≡ says Refused text.items)
IsWithout Un.ReadFault result = result ≡ Err Stops.ReadFault
IsWithout Un.Memory result = result ≡ Err Stops.Memory
