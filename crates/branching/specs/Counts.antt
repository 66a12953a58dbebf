-- How many nodes the tree of an outcome has, and how many of its splits were made without the answer of a linear program.
use Rattle.std.specs.Prelude.{ℕ, ◌+◌, ◌*◌, ◌≤◌}
use Rattle.std.specs.List.{count_by}
use Rattle.proof_tree.specs.LabelledTrees.{leaf, split, node_count, split_labels}
use Rattle.proof_tree.specs.Trees.{plain}
use Rattle.branching.specs.declared.budgets.Limits.{Limits}
use Rattle.branching.specs.declared.outcomes.Outcome.{Outcome}
use Rattle.branching.specs.declared.outcomes.Outcome.TheVariants.{Best, Empty, Budget}
use Rattle.node_bounds.specs.Stops.{is_skipped, is_stopped, stops}
use Rattle.open_nodes.specs.OpenTrees.{PlainOpen, stuck, plain_open}

-- how many nodes the tree of an outcome has
abbrev pub nodes_of : Outcome → ℕ
nodes_of (Best p whys) = node_count (plain p.tree)
nodes_of (Empty p whys) = node_count (plain p.tree)
nodes_of (Budget what grown best) = node_count (plain_open grown)

-- how many of its splits were skipped; a stuck node is no split
abbrev pub skipped_of : Outcome → ℕ
skipped_of (Best p whys) = count_by is_skipped whys
skipped_of (Empty p whys) = count_by is_skipped whys
skipped_of (Budget what grown best) = count_by is_skipped (split_labels (plain_open grown))

-- neither is more than the limit of nodes
pub record AreCountsWithin (l : Limits) (o : Outcome) : Type 0 where
  pub nodes : nodes_of o ≤ l.nodes
  pub skipped : skipped_of o ≤ l.nodes

-- how many nodes of a tree are split, or stuck, since their linear program was stopped
abbrev pub stopped_in : PlainOpen → ℕ
stopped_in (leaf (stuck why)) = stops why
stopped_in (leaf e) = 0
stopped_in (split col cut why left right) = stops why + (stopped_in left + stopped_in right)

abbrev pub stopped_of : Outcome → ℕ
stopped_of (Best p whys) = count_by is_stopped whys
stopped_of (Empty p whys) = count_by is_stopped whys
stopped_of (Budget what grown best) = stopped_in (plain_open grown)

-- the counter of steps rose by the allowed number for each linear program that was stopped, and by at most that number for each node of
-- the tree
pub record IsCounted (l : Limits) (stopped nodes before after : ℕ) : Type 0 where
  pub least : before + stopped * l.pivots ≤ after
  pub most : after ≤ before + nodes * l.pivots
