-- What is owed to a questions file: its refusal, or what a command owes to its questions.
use Rattle.std.specs.Prelude.{◌≡◌, ℕ, List, codes, Result, Ok, Err}
use Rattle.question_text.specs.QuestionFiles.{questions_of}
use Rattle.question_text.specs.declared.errors.TextError.{TextError}
use Rattle.question_text.specs.declared.questions.Question.{Question}
use Rattle.ipsens_core.specs.Answers.{Answer, says, ReadsFile, ReadsNoMore}
use Rattle.ipsens_core.specs.QuestionRefusals.{refused_questions, text_fault}
use Rattle.ipsens_core.specs.Reads.{Reads}
use Rattle.ipsens_core.specs.declared.statuses.Status.TheVariants.{Refused}

-- the longest questions file, 16 MiB
abbrev pub longest_questions : ℕ
longest_questions = 16777216

-- the refusal of a questions file
abbrev pub refuses_questions : List ℕ → Answer
refuses_questions why = says Refused (refused_questions why)

-- the first fault of a text is printed, or the answer is owed to its questions
abbrev pub OwedToText : (List Question → Answer → Type 0) → Result (List Question) TextError → Answer → Type 0
OwedToText Owed (Ok qs) a = Owed qs a
OwedToText Owed (Err e) a = a ≡ refuses_questions (text_fault e)

-- the questions file of a name is read, the last of the files: it is too long, or its text has a first fault, or the answer is owed to its
-- questions
abbrev pub ReadsQuestions : List ℕ → (List Question → Answer → Type 0) → Reads → Answer → Type 0
ReadsQuestions name Owed =
    ReadsFile name longest_questions (refuses_questions (codes "too long"))
    (λ bytes. ReadsNoMore (OwedToText Owed (questions_of bytes)))
