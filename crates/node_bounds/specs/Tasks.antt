-- What is asked of a node, and how a counter of steps rises meanwhile.
use Rattle.std.specs.Prelude.{◌≡◌, ℕ, ◌+◌, ◌≤◌, None}
use Rattle.ip_model.specs.Sizes.{first_crossed}
use Rattle.node_bounds.specs.Areas.{IsSearchArea}
use Rattle.node_bounds.specs.Nodes.{IsNodeOf}
use Rattle.node_bounds.specs.declared.nodes.Node.{Node}
use Rattle.node_bounds.specs.declared.tasks.Task.{Task}

-- the box is part of that of the program, no row of which has crossed sides
pub record IsTask (t : Task) : Type 0 where
  pub uncrossed : first_crossed t.model.now ≡ None
  pub area : IsSearchArea t.model.now t.area.now

-- what is said of the node is right
abbrev pub IsNodeFor : Task → Node → Type 0
IsNodeFor t n = IsNodeOf t.model.now t.pivots t.area.now t.cut_at n

-- a counter does not fall, and rises by at most a number of steps
pub record RisesBy (count before after : ℕ) : Type 0 where
  pub rises : before ≤ after
  pub most : after ≤ before + count
