-- Answers, and the one combinator of what is owed to the files of a command: the file of a name, within a length, else its refusal;
-- then the rest with its bytes.
use Rattle.std.specs.Prelude.{◌≡◌, ℕ, List, [], ◌∷◌, length, nat_lt, Option, None}
use Rattle.std.specs.Bool.{MatchBool}
use Rattle.ipsens_core.specs.Reads.{Reads}
use Rattle.ipsens_core.specs.declared.statuses.Status.{Status}

-- what a run answers: a status, the text that it prints, and the file that it saves
pub record Answer : Type 0 where
  pub status : Status
  pub text : List ℕ
  pub saved : Option (List ℕ × List ℕ)

-- an answer that saves nothing
abbrev pub says : Status → List ℕ → Answer
says status text = record { status = status; text = text; saved = None }

-- the next file has this name. One that is longer than the limit has its refusal, and no file is read after it; else the rest holds of
-- its bytes and the files after it
abbrev pub ReadsFile : List ℕ → ℕ → Answer → (List ℕ → Reads → Answer → Type 0) → Reads → Answer → Type 0
ReadsFile name longest too_long Rest [] a = ⊥
ReadsFile name longest too_long Rest (r ∷ rs) a = (r.0 ≡ name) × MatchBool (nat_lt longest (length r.1)) ((rs ≡ [])
    × (a ≡ too_long)) (Rest r.1 rs a)

-- no further file is read
abbrev pub ReadsNoMore : (Answer → Type 0) → Reads → Answer → Type 0
ReadsNoMore Owed rs a = (rs ≡ []) × Owed a
