-- Answers that were made to the text of a questions file.
use Rattle.ipsens_core.specs.Answers.{Answer}
use Rattle.ipsens_core.specs.Internal.Made.{IsWritten, answer_of}
use Rattle.ipsens_core.specs.declared.answers.Made.{Made}

-- an answer that is owed, and is to be written
pub record IsMadeFor (Owed : Answer → Type 0) (made : Made) : Type 0 where
  pub written : IsWritten made.status
  pub owed : Owed (answer_of made)
