-- The order of the nodes that wait: one rank for each of them, the least bound first.
use Rattle.std.specs.Prelude.{◌≡◌, ℕ, ◌==◌, Bool, ℤ, List, Option, None, Some}
use Rattle.std.specs.List.{Contains, count_by}
use Rattle.std.specs.BinaryHeap.{IsHeap}
use Rattle.std.specs.declared.cmp.Ordering.{Ordering}
use Rattle.std.specs.declared.cmp.Reverse.{Reverse}
use Rattle.std.specs.Ordering.{int_cmp, nat_cmp, ordering_then}
use Rattle.slab.specs.Slab.{Slab, get}
use Rattle.open_nodes.specs.declared.nodes.Node.{Node}
use Rattle.open_nodes.specs.declared.nodes.State.{State}
use Rattle.open_nodes.specs.declared.nodes.State.TheVariants.{Waiting}
use Rattle.open_nodes.specs.Nodes.{bound_of}

-- a bound, a depth and a key
abbrev pub Rank : Type 0
Rank = Reverse ℤ × ℕ × ℕ

-- the lesser bound is the greater rank; among equals the deeper node, and of these the greater key
abbrev pub rank_cmp : Rank → Rank → Ordering
rank_cmp x y = ordering_then (ordering_then (int_cmp y.0.0 x.0.0) (nat_cmp x.1 y.1)) (nat_cmp x.2 y.2)

abbrev pub is_rank_of : ℕ → Rank → Bool
is_rank_of k r = r.2 == k

-- 1 where a node waits
abbrev pub waits_by : State → ℕ
waits_by (Waiting bound solved) = 1
waits_by s = 0

abbrev pub waits : Option Node → ℕ
waits None = 0
waits (Some n) = waits_by n.state

-- each node that waits has one rank, which has its bound, and no other node has one
pub record IsOrdered (s : Slab Node) (ranks : List Rank) : Type 0 where
  pub heap : IsHeap rank_cmp ranks
  pub listed : (k : ℕ) → count_by (is_rank_of k) ranks ≡ waits (get s k)
  pub bounds : (r : Rank) (n : Node) (bound : ℤ) → Contains ranks r → get s r.2 ≡ Some n → bound_of n.state ≡ Some bound → r.0.0 ≡ bound
