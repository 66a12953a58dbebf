-- What `solve` owes to its model: the text of a right outcome of a search within its limits, and the file of its proof.
use Rattle.std.specs.Prelude.{◌≡◌, ℕ, List, Option, None, option_map}
use Rattle.ip_defs.specs.declared.programs.Parts.{Parts}
use Rattle.ip_model.specs.Sizes.{allowance}
use Rattle.proof_tree.specs.Trees.{plain}
use Rattle.proof_tree.specs.declared.claims.Proof.{Proof}
use Rattle.tree_format.specs.Spellings.{Spells, spelling}
use Rattle.branching.specs.declared.budgets.Limits.{Limits}
use Rattle.branching.specs.declared.outcomes.Outcome.{Outcome}
use Rattle.branching.specs.declared.outcomes.Outcome.TheVariants.{Best, Empty, Budget}
use Rattle.branching.specs.BestFirst.{IsBestFirst}
use Rattle.branching.specs.Outcomes.{IsRightOutcome, IsTrueOutcome}
use Rattle.branching.specs.Sizes.{AreAmple, IsAnswer}
use Rattle.ipsens_core.specs.Answers.{Answer, ReadsNoMore}
use Rattle.ipsens_core.specs.Reads.{Reads}
use Rattle.ipsens_core.specs.declared.statuses.Status.{Status}
use Rattle.ipsens_core.specs.declared.statuses.Status.TheVariants as Ends
use Rattle.sens_report.specs.AnswerTexts.{outcome_lines}

-- the status of an outcome
abbrev pub outcome_status : Outcome → Status
outcome_status (Best p whys) = Ends.Answered
outcome_status (Empty p whys) = Ends.Answered
outcome_status (Budget what grown best) = Ends.Budget

-- the file that a proof is saved as, where a name is given: its one spelling
abbrev pub saved_proof : Option (List ℕ) → Proof → Option (List ℕ × List ℕ)
saved_proof tree p = option_map (λ name. (name, spelling p.claim (plain p.tree))) tree

-- an answer saves its proof, and a stop saves nothing
abbrev pub saved_outcome : Option (List ℕ) → Outcome → Option (List ℕ × List ℕ)
saved_outcome tree (Best p whys) = saved_proof tree p
saved_outcome tree (Empty p whys) = saved_proof tree p
saved_outcome tree (Budget what grown best) = None

-- the answer to an outcome
abbrev pub outcome_answer : Parts → Option (List ℕ) → Outcome → Answer
outcome_answer m tree o = record { status = outcome_status o; text = outcome_lines m o; saved = saved_outcome tree o }

-- the bytes that are saved spell the proof of the outcome, within the limits of tree files
abbrev pub IsProofSpelled : Proof → Type 0
IsProofSpelled p = Spells (spelling p.claim (plain p.tree)) p.claim (plain p.tree)

abbrev pub IsSpelled : Outcome → Type 0
IsSpelled (Best p whys) = IsProofSpelled p
IsSpelled (Empty p whys) = IsProofSpelled p
IsSpelled (Budget what grown best) = Unit {0}

-- the limits of a search for a model
abbrev pub limits_for : Parts → ℕ → ℕ → ℕ → Limits
limits_for m nodes depth pivots = record { nodes = allowance m nodes; depth = depth; pivots = pivots }

-- an answer is that of a right outcome within the limits: its proof is proved, and saved where a name is given; or its stop has its cause
-- and its open tree is kept. So its point is least, or there is no feasible point, or the best point so far is feasible; and it is no stop
-- where the limits are ample. The search went best bound first
pub record HasOutcome (m : Parts) (l : Limits) (tree : Option (List ℕ)) (a : Answer) : Type 0 where
  pub outcome : Outcome
  pub right : IsRightOutcome m l outcome
  pub holds : IsTrueOutcome m outcome
  pub ends : AreAmple m l → IsAnswer outcome
  pub first : IsBestFirst m outcome
  pub spelled : IsSpelled outcome
  pub answer : a ≡ outcome_answer m tree outcome

-- the answer of `solve` to its model: no further file is read
abbrev pub AnswersSolve : Option (List ℕ) → ℕ → ℕ → ℕ → Parts → Reads → Answer → Type 0
AnswersSolve tree nodes depth pivots m = ReadsNoMore (HasOutcome m (limits_for m nodes depth pivots) tree)
