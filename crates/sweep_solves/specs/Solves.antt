-- Right lists of finished solves of one sweep. The model at a parameter and the parameters that may come next are those of the sweep.
use Rattle.std.specs.Prelude.{◌≡◌, ℕ, ◌-◌, List, Some, slice_get, sum_by, take, ℤ, pos, ◌<ℤ◌, unsigned_abs}
use Rattle.frac128.specs.Gcd.{gcd}
use Rattle.ip_defs.specs.declared.programs.Parts.{Parts}
use Rattle.proof_tree.specs.LabelledTrees.{node_count}
use Rattle.proof_tree.specs.Trees.{plain}
use Rattle.proof_tree.specs.declared.claims.Claim.{Claim}
use Rattle.proof_tree.specs.declared.claims.Claim.TheVariants as Claims
use Rattle.proof_tree.specs.declared.claims.Proof.{Proof}
use Rattle.branching.specs.BestFirst.{IsBestFirst}
use Rattle.branching.specs.Outcomes.{IsRightOutcome}
use Rattle.branching.specs.declared.budgets.Limits.{Limits}
use Rattle.branching.specs.declared.outcomes.Outcome.{Outcome}
use Rattle.branching.specs.declared.outcomes.Outcome.TheVariants.{Best, Empty}
use Rattle.node_bounds.specs.declared.reasons.Why.{Why}
use Rattle.sweep_solves.specs.declared.made_solves.Made.{Made}

-- the outcome of a search that ended with a proof of a claim
abbrev pub outcome_by : Claim → Proof → List Why → Outcome
outcome_by (Claims.Best x) p whys = Best p whys
outcome_by Claims.Empty p whys = Empty p whys

-- the outcome of a finished solve
abbrev pub outcome_of : Made → Outcome
outcome_of s = outcome_by s.proof.claim s.proof s.reasons

-- how many nodes its tree has
abbrev pub nodes_of : Made → ℕ
nodes_of s = node_count (plain s.proof.tree)

-- how many nodes the trees of solves have together
abbrev pub nodes_made : List Made → ℕ
nodes_made ms = sum_by nodes_of ms

-- limits with another limit of nodes
abbrev pub with_nodes : ℕ → Limits → Limits
with_nodes n l = record { nodes = n; depth = l.depth; pivots = l.pivots }

-- what solves leave of the limits: the nodes of their trees are used up
abbrev pub left_by : List Made → Limits → Limits
left_by ms l = with_nodes (l.nodes - nodes_made ms) l

-- the fraction p/q is in lowest terms
pub record IsInLowestTerms (p q : ℤ) : Type 0 where
  pub positive : pos 0 <ℤ q
  pub lowest : gcd (unsigned_abs p) (unsigned_abs q) ≡ 1

-- models at the parameters p/q of a sweep
abbrev pub ModelsAt : Type 0
ModelsAt = ℤ → ℤ → Parts

-- the parameters that may come next after solves
abbrev pub Nexts : Type 1
Nexts = List Made → ℤ → ℤ → Type 0

-- one more solve after others, within limits for all together: its parameter is a next one, in lowest terms, and its outcome is right,
-- best bound first, for the model there within what the others left
pub record IsRightAfter (at : ModelsAt) (next : Nexts) (l : Limits) (before : List Made) (s : Made) : Type 0 where
  pub right : IsRightOutcome (at s.p s.q) (left_by before l) (outcome_of s)
  pub first : IsBestFirst (at s.p s.q) (outcome_of s)
  pub named : next before s.p s.q
  pub lowest : IsInLowestTerms s.p s.q

-- solves in the order in which they were made: each is right after those before it
abbrev pub AreRight : ModelsAt → Nexts → Limits → List Made → Type 0
AreRight at next l ms = (k : ℕ) (s : Made) → slice_get ms k ≡ Some s → IsRightAfter at next l (take k ms) s
