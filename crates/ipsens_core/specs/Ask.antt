-- What `ask` owes to its model, to the proof that its tree file spells, and to its questions: the verdict on a proof that is not proved;
-- else the first question that is refused, or a line for each question.
use Rattle.std.specs.Prelude.{◌≡◌, ℕ, List}
use Rattle.std.specs.Option.{MatchOption}
use Rattle.ip_defs.specs.declared.programs.Parts.{Parts}
use Rattle.proof_tree.specs.Trees.{PlainTree, tree_bound}
use Rattle.proof_tree.specs.Verdicts.{IsTrueClaim, judged}
use Rattle.proof_tree.specs.declared.claims.Claim.{Claim}
use Rattle.proof_tree.specs.declared.verdicts.Verdict.{Verdict}
use Rattle.proof_tree.specs.declared.verdicts.Verdict.TheVariants.{Proved, NotFeasible, Short}
use Rattle.question_text.specs.declared.questions.Question.{Question}
use Rattle.sens_report.specs.ReplyTexts.{reply_lines}
use Rattle.sens_report.specs.declared.replies.Reply.{Reply}
use Rattle.tree_replies.specs.Refusals.{first_refusal}
use Rattle.tree_replies.specs.Replies.{AreReplies}
use Rattle.ipsens_core.specs.Answers.{Answer, says, ReadsNoMore}
use Rattle.ipsens_core.specs.Check.{IsJudged}
use Rattle.ipsens_core.specs.QuestionRefusals.{refused_question}
use Rattle.ipsens_core.specs.Questions.{ReadsQuestions}
use Rattle.ipsens_core.specs.Reads.{Reads}
use Rattle.ipsens_core.specs.Trees.{ReadsTree}
use Rattle.ipsens_core.specs.declared.statuses.Status.TheVariants.{Answered, Refused}

-- an answer has a line for each question, in order: the bound of the tree for the model with the edits of the question, which each feasible
-- point of that model costs at least; or the range of a number, the longest run of changes around 0 for which the tree proves the aim, and
-- after each of which the aim holds: the claimed point is optimal, or each feasible point costs at least the number to keep
pub record HasReplies (m : Parts) (c : Claim) (t : PlainTree) (qs : List Question) (a : Answer) : Type 0 where
  pub replies : List Reply
  pub are : AreReplies m c t qs replies
  pub answer : a ≡ says Answered (reply_lines replies)

-- the first question that is refused is printed, and else there are replies to all
abbrev pub AnswersQuestions : Parts → Claim → PlainTree → List Question → Answer → Type 0
AnswersQuestions m c t qs a =
    MatchOption (first_refusal m c qs) (HasReplies m c t qs a) (λ r. a ≡ says Refused (refused_question r.0 r.1))

-- a proof is judged: where it is proved, its claim is true, and the questions file is read; else the verdict is printed, as `check`
-- prints it, and no further file is read
abbrev pub AsksVerdict : List ℕ → Parts → Claim → PlainTree → Verdict → Reads → Answer → Type 0
AsksVerdict questions m c t (Proved w) rs a = IsTrueClaim m c × ReadsQuestions questions (AnswersQuestions m c t) rs a
AsksVerdict questions m c t (NotFeasible breach) rs a = ReadsNoMore (IsJudged m c t) rs a
AsksVerdict questions m c t (Short bound w) rs a = ReadsNoMore (IsJudged m c t) rs a

-- the answer of `ask` to its model, to its tree file and to its questions file
abbrev pub AnswersAsk : List ℕ → List ℕ → Parts → Reads → Answer → Type 0
AnswersAsk tree questions m = ReadsTree tree m (λ c t. AsksVerdict questions m c t (judged m c (tree_bound m t)))
