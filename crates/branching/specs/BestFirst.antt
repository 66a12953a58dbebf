-- Searches that go best bound first: where a node is split by the answer of its linear program, no feasible point of the program costs
-- less than the bound of its certificate. Of a stop, the node that is stuck is not closed by the best point.
use Rattle.std.specs.Prelude.{List, Option, ℤ}
use Rattle.ip_defs.specs.declared.programs.Parts.{Parts}
use Rattle.ip_defs.specs.Certificates.{leaf_bound, IsAtMost}
use Rattle.ip_defs.specs.Lists.{Each}
use Rattle.ip_defs.specs.Program.{box_of, cost, IsFeasible}
use Rattle.node_bounds.specs.declared.reasons.Why.{Why}
use Rattle.node_bounds.specs.declared.reasons.Why.TheVariants.{Fractional, Stopped, Wide}
use Rattle.node_bounds.specs.Nodes.{own_bound}
use Rattle.proof_tree.specs.LabelledTrees.{leaf_node, split_node, splits_over, Split}
use Rattle.proof_tree.specs.Trees.{plain}
use Rattle.open_nodes.specs.OpenTrees.{pending, stuck, ended, OpenNode, OpenPlace, places, plain_open}
use Rattle.branching.specs.declared.outcomes.Outcome.{Outcome}
use Rattle.branching.specs.declared.outcomes.Outcome.TheVariants.{Best, Empty, Budget}
use Rattle.branching.specs.Outcomes.{IsClosedBy, Pairwise}

-- the certificate of a reason, where it has one, bounds in a box by at most the cost of every feasible point of the program
abbrev pub BoundsAll : Parts → List (ℤ × ℤ) → Why → Type 0
BoundsAll m b (Fractional x c) = (y : List ℤ) → IsFeasible m y → IsAtMost (leaf_bound m b c) (cost m y)
BoundsAll m b Stopped = Unit {0}
BoundsAll m b Wide = Unit {0}

-- so does that of a split
abbrev pub BoundsAllAt : Parts → Split → Why → Type 0
BoundsAllAt m s why = BoundsAll m s.box why

-- so does that of a node that is split or stuck
abbrev pub IsBestNode : Parts → List (ℤ × ℤ) → OpenNode → Type 0
IsBestNode m b (split_node col cut why) = BoundsAll m b why
IsBestNode m b (leaf_node (stuck why)) = BoundsAll m b why
IsBestNode m b (leaf_node pending) = Unit {0}
IsBestNode m b (leaf_node (ended c)) = Unit {0}

-- the best point does not close a stuck node, neither by the sum of its box nor by the certificate of its reason
abbrev pub IsStillOpen : Parts → Option (List ℤ) → List (ℤ × ℤ) → OpenNode → Type 0
IsStillOpen m best b (leaf_node (stuck why)) = IsClosedBy m best (own_bound m b why) → ⊥
IsStillOpen m best b (leaf_node pending) = Unit {0}
IsStillOpen m best b (leaf_node (ended c)) = Unit {0}
IsStillOpen m best b (split_node col cut why) = Unit {0}

-- a search that stopped, by the nodes of its tree
pub record IsBestStop (m : Parts) (ps : List OpenPlace) (best : Option (List ℤ)) : Type 0 where
  pub first : Each (λ p. IsBestNode m p.box p.node) ps
  pub still_open : Each (λ p. IsStillOpen m best p.box p.node) ps

-- the search went best bound first
abbrev pub IsBestFirst : Parts → Outcome → Type 0
IsBestFirst m (Best p whys) = Pairwise (BoundsAllAt m) (splits_over (box_of m) (plain p.tree)) whys
IsBestFirst m (Empty p whys) = Pairwise (BoundsAllAt m) (splits_over (box_of m) (plain p.tree)) whys
IsBestFirst m (Budget what grown best) = IsBestStop m (places m (plain_open grown)) best
