-- How many points a box has, and so how large a tree of proper splits can be.
use Rattle.std.specs.Prelude.{ℕ, ◌-◌, ◌*◌, ◌≤◌, max, List, [], ◌∷◌, ℤ, pos, negsuc, ◌+ℤ◌, ◌-ℤ◌}
use Rattle.ip_defs.specs.declared.programs.Parts.{Parts}
use Rattle.ip_defs.specs.Program.{box_of}
use Rattle.ip_model.specs.Sizes.{width_sum}
use Rattle.proof_tree.specs.LabelledTrees.{node_count, depth, splits_over}
use Rattle.proof_tree.specs.Trees.{PlainTree}
use Rattle.branching.specs.declared.budgets.Limits.{Limits}
use Rattle.branching.specs.declared.outcomes.Outcome.{Outcome}
use Rattle.branching.specs.declared.outcomes.Outcome.TheVariants.{Best, Empty, Budget}
use Rattle.branching.specs.Outcomes.{IsRightOutcome}
use Rattle.node_bounds.specs.Splits.{IsProper}
use Rattle.ip_defs.specs.Lists.{Each}

-- a number that is not negative, and 0 for a negative one
abbrev pub count : ℤ → ℕ
count (pos n) = n
count (negsuc n) = 0

-- how many whole numbers lie from one side to the other
abbrev pub side_points : ℤ × ℤ → ℕ
side_points s = count (s.1 +ℤ pos 1 -ℤ s.0)

-- how many whole points a box has
abbrev pub point_count : List (ℤ × ℤ) → ℕ
point_count [] = 1
point_count (s ∷ b) = side_points s * point_count b

-- the most nodes that a tree of proper splits can have
abbrev pub most_nodes : List (ℤ × ℤ) → ℕ
most_nodes b = max 1 (2 * point_count b - 1)

-- a tree of proper splits has at most that many nodes, and is at most as deep as the program's box is wide
abbrev pub TreesAreSmall : Type 0
TreesAreSmall = (m : Parts) (t : PlainTree) → Each IsProper (splits_over (box_of m) t)
    → (node_count t ≤ most_nodes (box_of m)) × (depth t ≤ width_sum m)

-- an outcome that is no stop
abbrev pub IsAnswer : Outcome → Type 0
IsAnswer (Best p whys) = Unit {0}
IsAnswer (Empty p whys) = Unit {0}
IsAnswer (Budget what grown best) = ⊥

-- the limits are as large as the box of a program asks
pub record AreAmple (m : Parts) (l : Limits) : Type 0 where
  pub nodes : most_nodes (box_of m) ≤ l.nodes
  pub depth : width_sum m ≤ l.depth

-- a right outcome is no stop, where the limits are ample
abbrev pub SearchesEnd : Type 0
SearchesEnd = (m : Parts) (l : Limits) (o : Outcome) → IsRightOutcome m l o → AreAmple m l → IsAnswer o
