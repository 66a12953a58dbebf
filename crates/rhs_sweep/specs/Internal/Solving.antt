-- One more solve of a sweep, or a stop there.
use Rattle.std.specs.Prelude.{◌≡◌, ℕ, ◌+◌, ◌<◌, List, [], ◌∷◌, ◌++◌, length, Option, None, ℤ, pos}
use Rattle.ip_defs.specs.declared.programs.Parts.{Parts}
use Rattle.open_nodes.specs.declared.open_trees.OpenTree.{OpenTree, Pending}
use Rattle.node_bounds.specs.declared.reasons.Why.{Why}
use Rattle.proof_tree.specs.LabelledTrees.{node_count}
use Rattle.proof_tree.specs.Trees.{plain}
use Rattle.proof_tree.specs.declared.claims.Proof.{Proof}
use Rattle.branching.specs.BestFirst.{IsBestFirst}
use Rattle.branching.specs.Outcomes.{IsRightOutcome}
use Rattle.branching.specs.declared.budgets.BudgetWhat.{BudgetWhat}
use Rattle.branching.specs.declared.budgets.BudgetWhat.TheVariants.{Nodes}
use Rattle.branching.specs.declared.budgets.Limits.{Limits}
use Rattle.branching.specs.declared.outcomes.Outcome.{Outcome}
use Rattle.branching.specs.declared.outcomes.Outcome.TheVariants as Ends
use Rattle.rhs_sweep.specs.declared.solving.Solved.{Solved}
use Rattle.rhs_sweep.specs.declared.stops.RowStop.{RowStop}
use Rattle.rhs_sweep.specs.declared.stops.RowStop.TheVariants.{Budget, Solves, Memory}
use Rattle.sweep_solves.specs.Solves.{nodes_of, outcome_of, with_nodes}
use Rattle.sweep_solves.specs.Stops.{IsStopCause}
use Rattle.sweep_solves.specs.declared.made_solves.Made.{Made}

-- ---- what an outcome makes of a sweep

-- the solve at step t by a proof
abbrev pub made_at : ℕ → Proof → List Why → Made
made_at t p whys = record { p = pos t; q = pos 1; proof = p; reasons = whys }

-- a solve was added, and the nodes of its tree are used up
pub record IsAddition (t : ℕ) (p : Proof) (whys : List Why) (before after : Solved) : Type 0 where
  pub made_is : after.made ≡ before.made ++ made_at t p whys ∷ []
  pub nodes : node_count (plain p.tree) + after.left ≡ before.left

abbrev pub IsAdded : ℕ → Outcome → Solved → Solved → Type 0
IsAdded t (Ends.Best p whys) before after = IsAddition t p whys before after
IsAdded t (Ends.Empty p whys) before after = IsAddition t p whys before after
IsAdded t (Ends.Budget what grown best) before after = ⊥

-- a stop at step t where a search stopped, with the solves and the nodes before it
pub record IsHandedOn (t : ℕ) (o : Outcome) (before : Solved) (what : BudgetWhat) (p q : ℤ) (grown : OpenTree) (best : Option (List ℤ))
    (nodes : ℕ) (made : List Made) : Type 0 where
  pub outcome_is : o ≡ Ends.Budget what grown best
  pub p_is : p ≡ pos t
  pub q_is : q ≡ pos 1
  pub nodes_is : nodes ≡ before.left
  pub made_is : made ≡ before.made

-- nothing is left for the solve at step t
abbrev pub nothing_left : ℕ → List Made → RowStop
nothing_left t made =
    Budget Nodes (pos t) (pos 1) Pending None 0 made

abbrev pub IsHeld : ℕ → Outcome → Solved → RowStop → Type 0
IsHeld t o before (Budget what p q grown best nodes made) = IsHandedOn t o before what p q grown best nodes made
IsHeld t o before (Solves p q made) = ⊥
IsHeld t o before Memory = Unit {0}

-- ---- a solve for a model

-- one more solve, for the model n of step t: its outcome is right, best bound first, within the nodes that were left
pub record IsOneMore (n : Parts) (l : Limits) (t : ℕ) (before after : Solved) : Type 0 where
  pub room : length before.made < 10000
  pub one : Made
  pub made_is : after.made ≡ before.made ++ one ∷ []
  pub p_is : one.p ≡ pos t
  pub q_is : one.q ≡ pos 1
  pub right : IsRightOutcome n (with_nodes before.left l) (outcome_of one)
  pub first : IsBestFirst n (outcome_of one)
  pub nodes : nodes_of one + after.left ≡ before.left

-- the solve at step t stopped
pub record IsBudgetAt (n : Parts) (l : Limits) (t : ℕ) (before : Solved) (what : BudgetWhat) (p q : ℤ) (grown : OpenTree)
    (best : Option (List ℤ)) (nodes : ℕ) (made : List Made) : Type 0 where
  pub p_is : p ≡ pos t
  pub q_is : q ≡ pos 1
  pub nodes_is : nodes ≡ before.left
  pub made_is : made ≡ before.made
  pub cause : IsStopCause n l nodes what grown best

-- as many solves were made as may be
pub record IsLastAt (t : ℕ) (before : Solved) (p q : ℤ) (made : List Made) : Type 0 where
  pub p_is : p ≡ pos t
  pub q_is : q ≡ pos 1
  pub made_is : made ≡ before.made
  pub most : length before.made ≡ 10000

-- what stops a sweep at step t
abbrev pub IsStopAt : Parts → Limits → ℕ → Solved → RowStop → Type 0
IsStopAt n l t before (Budget what p q grown best nodes made) = IsBudgetAt n l t before what p q grown best nodes made
IsStopAt n l t before (Solves p q made) = IsLastAt t before p q made
IsStopAt n l t before Memory = Unit {0}
