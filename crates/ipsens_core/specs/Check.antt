-- What `check` owes to its model and the proof that its tree file spells: the verdict of the definitions.
use Rattle.std.specs.Prelude.{◌≡◌, ◌↔◌, ℕ, List}
use Rattle.ip_defs.specs.declared.programs.Parts.{Parts}
use Rattle.proof_tree.specs.Trees.{PlainTree, tree_bound}
use Rattle.proof_tree.specs.Verdicts.{AreProvedBy, IsTrueClaim, judged}
use Rattle.proof_tree.specs.declared.claims.Claim.{Claim}
use Rattle.proof_tree.specs.declared.verdicts.Verdict.{Verdict}
use Rattle.proof_tree.specs.declared.verdicts.Verdict.TheVariants.{Proved, NotFeasible, Short}
use Rattle.ipsens_core.specs.Answers.{Answer, says, ReadsNoMore}
use Rattle.ipsens_core.specs.Reads.{Reads}
use Rattle.sens_report.specs.VerdictTexts.{verdict_line}
use Rattle.ipsens_core.specs.Trees.{ReadsTree}
use Rattle.ipsens_core.specs.declared.statuses.Status.{Status}
use Rattle.ipsens_core.specs.declared.statuses.Status.TheVariants.{Answered, NotProved}

abbrev pub verdict_status : Verdict → Status
verdict_status (Proved w) = Answered
verdict_status (NotFeasible breach) = NotProved
verdict_status (Short bound w) = NotProved

abbrev pub verdict_answer : Parts → Verdict → Answer
verdict_answer m v = says (verdict_status v) (verdict_line m v)

-- an answer is the verdict on a claim by the bound of its tree. Its status is 0 exactly where they prove the claim, and then the claim is
-- true: the point is least, or no point is feasible
pub record IsJudged (m : Parts) (c : Claim) (t : PlainTree) (a : Answer) : Type 0 where
  pub verdict : a ≡ verdict_answer m (judged m c (tree_bound m t))
  pub proved : (a.status ≡ Answered) ↔ AreProvedBy m c (tree_bound m t)
  pub holds : a.status ≡ Answered → IsTrueClaim m c

-- the answer of `check` to its model and to the tree file after it
abbrev pub AnswersCheck : List ℕ → Parts → Reads → Answer → Type 0
AnswersCheck tree m = ReadsTree tree m (λ c t. ReadsNoMore (IsJudged m c t))
