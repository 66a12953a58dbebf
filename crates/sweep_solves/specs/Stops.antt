-- Why a sweep may stop at a parameter: its solve stopped there, or nothing was left for it.
use Rattle.std.specs.Prelude.{◌≡◌, ℕ, zero, suc, List, Option, None, ℤ}
use Rattle.ip_defs.specs.declared.programs.Parts.{Parts}
use Rattle.open_nodes.specs.declared.open_trees.OpenTree.{OpenTree, Pending}
use Rattle.branching.specs.BestFirst.{IsBestFirst}
use Rattle.branching.specs.Counts.{AreCountsWithin}
use Rattle.branching.specs.Outcomes.{IsRightOutcome, HasOneStuck}
use Rattle.branching.specs.declared.budgets.BudgetWhat.{BudgetWhat}
use Rattle.branching.specs.declared.budgets.BudgetWhat.TheVariants.{Nodes}
use Rattle.branching.specs.declared.budgets.Limits.{Limits}
use Rattle.branching.specs.declared.outcomes.Outcome.{Outcome}
use Rattle.branching.specs.declared.outcomes.Outcome.TheVariants.{Budget}
use Rattle.sweep_solves.specs.Solves.{with_nodes}

-- a search for a model within limits stopped, best bound first, with one stuck node; the counts of its tree are within the limit of nodes
pub record IsRightStop (m : Parts) (l : Limits) (o : Outcome) : Type 0 where
  pub right : IsRightOutcome m l o
  pub first : IsBestFirst m o
  pub stuck : HasOneStuck o
  pub counts : AreCountsWithin l o

-- nothing is left for a search: its root alone is pending, and no point is known
pub record HasNothingLeft (what : BudgetWhat) (grown : OpenTree) (best : Option (List ℤ)) : Type 0 where
  pub what_is : what ≡ Nodes
  pub grown_is : grown ≡ Pending
  pub best_is : best ≡ None

-- a solve for a model stopped, which was given a number of nodes; one that is given none stops at once
abbrev pub IsStopCause : Parts → Limits → ℕ → BudgetWhat → OpenTree → Option (List ℤ) → Type 0
IsStopCause m l zero what grown best = HasNothingLeft what grown best
IsStopCause m l (suc n) what grown best = IsRightStop m (with_nodes (suc n) l) (Budget what grown best)
