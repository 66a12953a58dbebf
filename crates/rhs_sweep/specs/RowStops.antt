-- Why a row sweep stops, and limits within which it never does.
use Rattle.std.specs.Prelude.{◌≡◌, ℕ, ◌+◌, ◌*◌, ◌≤◌, List, length, Option, ℤ}
use Rattle.branching.specs.Sizes.{count, most_nodes}
use Rattle.branching.specs.declared.budgets.BudgetWhat.{BudgetWhat}
use Rattle.branching.specs.declared.budgets.Limits.{Limits}
use Rattle.ip_defs.specs.Program.{box_of}
use Rattle.ip_defs.specs.declared.programs.Parts.{Parts}
use Rattle.ip_model.specs.Sizes.{width_sum}
use Rattle.ip_model.specs.declared.places.Place.{Place}
use Rattle.open_nodes.specs.declared.open_trees.OpenTree.{OpenTree}
use Rattle.perturbation.specs.Lines.{row_at}
use Rattle.rhs_sweep.specs.RowSolves.{AreRowSolves, IsNextStep}
use Rattle.rhs_sweep.specs.declared.stops.RowStop.{RowStop}
use Rattle.rhs_sweep.specs.declared.stops.RowStop.TheVariants.{Budget, Solves, Memory}
use Rattle.sweep_solves.specs.Solves.{nodes_made}
use Rattle.sweep_solves.specs.Stops.{IsStopCause}
use Rattle.sweep_solves.specs.declared.made_solves.Made.{Made}

-- the solve at a next step stopped: it was given the nodes that the solves before it left
pub record IsBudgetStop (m : Parts) (d : List (Place × ℤ)) (steps : ℕ) (l : Limits) (what : BudgetWhat) (p q : ℤ) (grown : OpenTree)
    (best : Option (List ℤ)) (nodes : ℕ) (made : List Made) : Type 0 where
  pub solves : AreRowSolves m d steps l made
  pub few : length made ≤ 10000
  pub left : nodes_made made + nodes ≡ l.nodes
  pub next : IsNextStep m steps made p q
  pub cause : IsStopCause (row_at m d (count p)) l nodes what grown best

-- 10,000 solves were made, and a step is next
pub record IsSolvesStop (m : Parts) (d : List (Place × ℤ)) (steps : ℕ) (l : Limits) (p q : ℤ) (made : List Made) : Type 0 where
  pub solves : AreRowSolves m d steps l made
  pub most : length made ≡ 10000
  pub next : IsNextStep m steps made p q

-- each stop other than want of memory has its cause
abbrev pub IsRowStop : Parts → List (Place × ℤ) → ℕ → Limits → RowStop → Type 0
IsRowStop m d steps l (Budget what p q grown best nodes made) = IsBudgetStop m d steps l what p q grown best nodes made
IsRowStop m d steps l (Solves p q made) = IsSolvesStop m d steps l p q made
IsRowStop m d steps l Memory = Unit {0}

-- limits as large as a sweep of so many steps can ask: fewer than 10,000 steps, for each the nodes of a tree over the box of the model,
-- and as deep as the box is wide
pub record AreAmpleFor (m : Parts) (steps : ℕ) (l : Limits) : Type 0 where
  pub solves : steps + 1 ≤ 10000
  pub nodes : (steps + 1) * most_nodes (box_of m) ≤ l.nodes
  pub depth : width_sum m ≤ l.depth
