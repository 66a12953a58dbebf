-- The open tree of a search as a caller sees it: what stands at each key, and what each call changes.
use Rattle.std.specs.Prelude.{◌≡◌, ◌≢◌, ℕ, ◌+◌, ℤ, ◌≤ℤ◌, List, [], Option, None, Some, option_map, sum_by}
use Rattle.std.specs.BinaryHeap.{heap_items}
use Rattle.ip_defs.specs.Lists.{Each}
use Rattle.proof_tree.specs.LabelledTrees.{places_from}
use Rattle.node_bounds.specs.declared.reasons.Why.{Why}
use Rattle.open_nodes.specs.OpenTrees.{PlainOpen, OpenNode, OpenPlace}
use Rattle.open_nodes.specs.OpenTrees.{SomeOf}
use Rattle.open_nodes.specs.declared.frontiers.Frontier.{Frontier}
use Rattle.open_nodes.specs.declared.nodes.Cut.TheVariants.{Below, Above}
use Rattle.open_nodes.specs.declared.nodes.State.{State}
use Rattle.open_nodes.specs.declared.nodes.State.TheVariants as States
use Rattle.open_nodes.specs.Nodes.{Entry, with_state, under, bound_of, node_of, place_over}
use Rattle.open_nodes.specs.Internal.Forests.{entry, sum_among, IsRooted}
use Rattle.open_nodes.specs.Internal.Orders.{IsOrdered}

-- an open tree, whose nodes lead to each other and whose waiting nodes are in order
pub record IsFrontier (f : Frontier) : Type 0 where
  pub rooted : IsRooted f.nodes f.root
  pub ordered : IsOrdered f.nodes (heap_items f.order)

-- the node at a key
unfoldable pub entry_at : Frontier → ℕ → Option Entry
entry_at f k = entry f.nodes k

-- the sum over all nodes of what a function gives for the state of each: their number for the function that is 1
unfoldable pub sum_over : (State → ℕ) → Frontier → ℕ
sum_over g f = sum_among g f.nodes

-- the node at a key is known to be so
abbrev pub HasState : Frontier → ℕ → State → Type 0
HasState f k s = option_map (λ e. e.state) (entry_at f k) ≡ Some s

-- the node at a key waits with a bound
abbrev pub WaitsAt : Frontier → ℕ → ℤ → Type 0
WaitsAt f k bound = (e : Entry) × (entry_at f k ≡ Some e) × (bound_of e.state ≡ Some bound)

-- no node waits with a lesser bound
abbrev pub IsLeast : Frontier → ℤ → Type 0
IsLeast f bound = (k : ℕ) (other : ℤ) → WaitsAt f k other → bound ≤ℤ other

-- no node waits
abbrev pub NoneWaits : Frontier → Type 0
NoneWaits f = (k : ℕ) (bound : ℤ) → WaitsAt f k bound → ⊥

-- a root alone, which waits with a bound
pub record IsNew (bound : ℤ) (f : Frontier) (root : ℕ) : Type 0 where
  pub made : entry_at f root ≡ Some (record { path = []; state = States.Waiting bound None })
  pub alone : (k : ℕ) → k ≢ root → entry_at f k ≡ None
  pub sums : (g : State → ℕ) → sum_over g f ≡ g (States.Waiting bound None)

-- nothing has changed
pub record SameNodes (old new : Frontier) : Type 0 where
  pub nodes : (k : ℕ) → entry_at new k ≡ entry_at old k
  pub sums : (g : State → ℕ) → sum_over g new ≡ sum_over g old

-- the node at a key has a new state, and nothing else has changed
pub record SetsState (old new : Frontier) (key : ℕ) (state : State) : Type 0 where
  pub changed : entry_at new key ≡ option_map (with_state state) (entry_at old key)
  pub others : (k : ℕ) → k ≢ key → entry_at new k ≡ entry_at old k
  pub sums : (g : State → ℕ) (e : Entry) → entry_at old key ≡ Some e → sum_over g new + g e.state ≡ sum_over g old + g state

-- a node that was taken is split into two new ones, which wait with a bound, and nothing else has changed
pub record SplitsNode (old new : Frontier) (key col : ℕ) (cut : ℤ) (why : Why) (bound : ℤ) (left right : ℕ) : Type 0 where
  pub parent : entry_at new key ≡ option_map (with_state (States.Split col cut why left right)) (entry_at old key)
  pub below : entry_at new left ≡ option_map (under (Below col cut) (States.Waiting bound None)) (entry_at old key)
  pub above : entry_at new right ≡ option_map (under (Above col cut) (States.Waiting bound None)) (entry_at old key)
  pub left_was : entry_at old left ≡ None
  pub right_was : entry_at old right ≡ None
  pub differ : left ≢ right
  pub others : (k : ℕ) → k ≢ key → k ≢ left → k ≢ right → entry_at new k ≡ entry_at old k
  pub sums : (g : State → ℕ) → sum_over g new + g States.Taken
      ≡ sum_over g old + g (States.Split col cut why left right) + g (States.Waiting bound None) + g (States.Waiting bound None)

-- a place is that of the node at some key
abbrev pub IsPlaceIn : Frontier → List (ℤ × ℤ) → OpenPlace → Type 0
IsPlaceIn f b p = (k : ℕ) × (e : Entry) × (entry_at f k ≡ Some e) × (p ≡ place_over b e)

-- the tree has just the nodes of the keys, each once and at its place
pub record IsTreeOf (f : Frontier) (t : PlainOpen) : Type 0 where
  pub made : (b : List (ℤ × ℤ)) → Each (IsPlaceIn f b) (places_from 0 b t)
  pub all : (b : List (ℤ × ℤ)) (k : ℕ) (e : Entry) → entry_at f k ≡ Some e → SomeOf (λ p. p ≡ place_over b e) (places_from 0 b t)
  pub sums : (b : List (ℤ × ℤ)) (g : OpenNode → ℕ) → sum_by (λ p. g p.node) (places_from 0 b t) ≡ sum_over (λ st. g (node_of st)) f
