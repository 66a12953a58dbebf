-- What is due after some lines of a question file were taken.
use Rattle.std.specs.Prelude.{ℕ, ◌<◌, ◌==◌, if◌then◌else◌, List, [], ◌∷◌, ◌++◌, length, Option, None, Some, Result}
use Rattle.std.specs.List.{before_first}
use Rattle.std.specs.Option.{is_some}
use Rattle.ip_defs.specs.Lists.{when}
use Rattle.question_text.specs.Lines.{Line, is_end, due}
use Rattle.perturbation.specs.Edits.{AreBelowLarge}
use Rattle.question_text.specs.QuestionFiles.{AreAskable, is_bound, inside_faults, outside_faults, unended, edits_in, questions_in}
use Rattle.question_text.specs.Internal.Taking.{AreNumbered}
use Rattle.question_text.specs.declared.errors.TextError.{TextError}
use Rattle.question_text.specs.declared.errors.TextError.TheVariants as Refused
use Rattle.question_text.specs.declared.questions.Question.{Question}
use Rattle.question_text.specs.declared.questions.Question.TheVariants.{Ask}
use Rattle.question_text.specs.declared.asking.Pending.{Pending}
use Rattle.question_text.specs.declared.asking.Draft.{Draft}

-- the `bound` line of the question in which lines end, where that of the lines before is known
abbrev pub opened : Option ℕ → Line → Option ℕ
opened o l = if is_bound l then Some l.number else (if is_end l then None else o)

abbrev pub open_after : Option ℕ → List Line → Option ℕ
open_after o [] = o
open_after o (l ∷ ls) = open_after (opened o l) ls

abbrev pub faults_after : Option ℕ → List Line → List TextError
faults_after o [] = []
faults_after o (l ∷ ls) = (if is_some o then inside_faults l else outside_faults l) ++ faults_after (opened o l) ls

-- the questions of the lines taken and of those that are left
abbrev pub questions_after : List Question → Option Pending → List Line → List Question
questions_after qs None ls = qs ++ questions_in ls
questions_after qs (Some p) ls = qs ++ Ask (p.edits ++ edits_in (before_first is_end ls)) ∷ questions_in ls

abbrev pub pending_line : Option Pending → Option ℕ
pending_line None = None
pending_line (Some p) = Some p.line

-- the answer that is due for them
abbrev pub due_after : ℕ → Draft → List Line → Result (List Question) TextError
due_after after d ls =
    let questions = questions_after d.questions d.pending ls in
    let o = pending_line d.pending in
    due (faults_after o ls ++ when (length questions == 0) (Refused.Word after) ++ unended (open_after o ls)) questions

-- the questions so far can be asked, and the one that is not ended has fewer edits than there were lines before line n
abbrev pub IsPendingKept : ℕ → Option Pending → Type 0
IsPendingKept n None = Unit {0}
IsPendingKept n (Some p) = (length p.edits < n) × AreBelowLarge p.edits

pub record IsKept (n : ℕ) (d : Draft) : Type 0 where
  pub questions : AreAskable d.questions
  pub pending : IsPendingKept n d.pending

-- the lines that are left can be taken
abbrev pub IsReady : Draft → List Line → Type 0
IsReady d ls = (n : ℕ) × IsKept n d × AreNumbered n ls
