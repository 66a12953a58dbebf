-- Nodes in a slab that lead to each other by their keys: what is true of them while they grow, and while they are taken apart.
use Rattle.std.specs.Prelude.{◌≡◌, ◌≢◌, ◌⊎◌, ℕ, zero, suc, ◌+◌, ◌^◌, ◌≤◌, ℤ, List, [], ◌∷◌, length, Option, None, Some}
use Rattle.std.specs.Prelude.{sum_by}
use Rattle.std.specs.Int.RustNames.{unsigned_abs}
use Rattle.ip_defs.specs.Lists.{Each}
use Rattle.proof_tree.specs.LabelledTrees.{places_from}
use Rattle.open_nodes.specs.OpenTrees.{OpenNode, OpenPlace, PlainOpen, SomeOf}
use Rattle.slab.specs.Slab.{Slab, get}
use Rattle.open_nodes.specs.declared.nodes.Cut.{Cut}
use Rattle.open_nodes.specs.declared.nodes.Cut.TheVariants.{Below, Above}
use Rattle.open_nodes.specs.declared.nodes.Edge.{Edge}
use Rattle.open_nodes.specs.declared.nodes.Node.{Node}
use Rattle.open_nodes.specs.declared.nodes.State.{State}
use Rattle.open_nodes.specs.declared.nodes.State.TheVariants.{Waiting, Taken, Closed, Stuck, Split}
use Rattle.open_nodes.specs.Nodes.{Entry, box_along, node_of, place_over}

-- ---- paths

-- the edge above a node, if there is a node and it has one
abbrev pub edge_of : Option Node → Option Edge
edge_of None = None
edge_of (Some n) = n.edge

-- how deep a node lies
abbrev pub depth_of : Option Node → ℕ
depth_of None = 0
depth_of (Some n) = n.depth

-- the cut of an edge before what is above its parent
abbrev pub along : Option Edge → (ℕ → List Cut) → List Cut
along None above = []
along (Some e) above = e.cut ∷ above e.parent

-- the cuts above a node, the last one first, where it lies at most so deep
abbrev pub path_up : Slab Node → ℕ → ℕ → List Cut
path_up s zero k = []
path_up s (suc d) k = along (edge_of (get s k)) (path_up s d)

-- the node at a key as a caller sees it
abbrev pub entry_of : Slab Node → ℕ → Option Node → Option Entry
entry_of s k None = None
entry_of s k (Some n) = Some (record { path = path_up s n.depth k; state = n.state })

abbrev pub entry : Slab Node → ℕ → Option Entry
entry s k = entry_of s k (get s k)

-- a node that waits with a bound, whose linear program was not solved
abbrev pub new_node : Option Edge → ℕ → ℤ → Node
new_node edge depth bound = record { edge = edge; depth = depth; state = Waiting bound None }

-- ---- counts

-- what a function gives for the state of the node in a slot; nothing where there is none
abbrev pub weigh : (State → ℕ) → Option Node → ℕ
weigh g None = 0
weigh g (Some n) = g n.state

-- the sum over all nodes
abbrev pub sum_among : (State → ℕ) → Slab Node → ℕ
sum_among g s = sum_by (weigh g) s.slots

-- ---- parents and children

-- a node in this state has a child at this key, in the half of this cut
abbrev pub IsChildBy : State → Cut → ℕ → Type 0
IsChildBy (Split col z why left right) (Below j w) k = (j ≡ col) × (w ≡ z) × (k ≡ left)
IsChildBy (Split col z why left right) (Above j w) k = (j ≡ col) × (w ≡ z) × (k ≡ right)
IsChildBy (Waiting bound solved) c k = ⊥
IsChildBy Taken c k = ⊥
IsChildBy (Closed cert) c k = ⊥
IsChildBy (Stuck why) c k = ⊥

-- the node is done with: it neither waits nor has children
abbrev pub IsFinished : State → Type 0
IsFinished (Waiting bound solved) = ⊥
IsFinished Taken = ⊥
IsFinished (Closed cert) = Unit {0}
IsFinished (Stuck why) = Unit {0}
IsFinished (Split col z why left right) = ⊥

-- the node came from its parent by a cut, and is one deeper
pub record CameFrom (n : Node) (parent : ℕ) (cut : Cut) (depth : ℕ) : Type 0 where
  pub edge : n.edge ≡ Some (record { parent = parent; cut = cut })
  pub deeper : n.depth ≡ depth + 1

-- each child is there and came from its parent, and where a node's parent is there the node is its child
pub record IsForest (s : Slab Node) : Type 0 where
  pub down : (k c : ℕ) (n : Node) (cut : Cut) → get s k ≡ Some n → IsChildBy n.state cut c
      → (m : Node) × (get s c ≡ Some m) × CameFrom m k cut n.depth
  pub up : (c : ℕ) (m p : Node) (e : Edge) → get s c ≡ Some m → m.edge ≡ Some e → get s e.parent ≡ Some p → IsChildBy p.state e.cut c

-- the cut of an edge is at a number that fits
abbrev pub IsSmallCut : Cut → Type 0
IsSmallCut (Below j z) = unsigned_abs z ≤ 2 ^ 24
IsSmallCut (Above j z) = unsigned_abs z ≤ 2 ^ 24

-- a forest of one tree, whose root is known
pub record IsRooted (s : Slab Node) (top : ℕ) : Type 0 where
  pub forest : IsForest s
  pub root : (n : Node) × (get s top ≡ Some n) × (n.edge ≡ None) × (n.depth ≡ 0)
  pub alone : (k : ℕ) (n : Node) → get s k ≡ Some n → n.edge ≡ None → k ≡ top
  pub parents : (k : ℕ) (n : Node) (e : Edge) → get s k ≡ Some n → n.edge ≡ Some e → (p : Node) × (get s e.parent ≡ Some p)
  pub small : (k : ℕ) (n : Node) (e : Edge) → get s k ≡ Some n → n.edge ≡ Some e → IsSmallCut e.cut

-- ---- trees that are taken out

-- the node of a key has no parent in the slab
abbrev pub HasNoParent : Slab Node → Node → Type 0
HasNoParent s n = (e : Edge) → n.edge ≡ Some e → get s e.parent ≡ None

-- the node at a key is there and has no parent there
abbrev pub IsTop : Slab Node → ℕ → Type 0
IsTop s k = (n : Node) × (get s k ≡ Some n) × HasNoParent s n

-- paths for keys, of which each child's is its parent's after the child's cut
abbrev pub ArePaths : Slab Node → (ℕ → List Cut) → Type 0
ArePaths s path = (k c : ℕ) (n : Node) (cut : Cut) → get s k ≡ Some n → IsChildBy n.state cut c → path c ≡ cut ∷ path k

-- the node at a key with its path
abbrev pub with_path : List Cut → Node → Entry
with_path cs n = record { path = cs; state = n.state }

-- a place is that of a node which left the slab
abbrev pub HasLeft : Slab Node → Slab Node → (ℕ → List Cut) → List (ℤ × ℤ) → OpenPlace → Type 0
HasLeft old new path b p = (k : ℕ) × (n : Node) × (get old k ≡ Some n) × (get new k ≡ None) × (p ≡ place_over b (with_path (path k) n))

-- the places of a tree that hangs at a key
abbrev pub places_at : (ℕ → List Cut) → List (ℤ × ℤ) → ℕ → PlainOpen → List OpenPlace
places_at path b k t = places_from (length (path k)) (box_along (path k) b) t

-- the tree of a key without parent is taken out of a slab: its nodes leave, each at its place, and the others stay as they were
pub record TakesTree (old new : Slab Node) (key : ℕ) (t : PlainOpen) : Type 0 where
  pub forest : IsForest new
  pub shrinks : (k : ℕ) → (get new k ≡ get old k) ⊎ (get new k ≡ None)
  pub gone : get new key ≡ None
  pub tops : (k : ℕ) → IsTop old k → k ≢ key → get new k ≡ get old k
  pub parents : (k : ℕ) (n p : Node) (e : Edge) → get new k ≡ Some n → n.edge ≡ Some e → get old e.parent ≡ Some p
      → get new e.parent ≡ Some p
  pub made : (path : ℕ → List Cut) (b : List (ℤ × ℤ)) → ArePaths old path → Each (HasLeft old new path b) (places_at path b key t)
  pub all : (path : ℕ → List Cut) (b : List (ℤ × ℤ)) → ArePaths old path → (k : ℕ) (n : Node) → get old k ≡ Some n → get new k ≡ None
      → SomeOf (λ p. p ≡ place_over b (with_path (path k) n)) (places_at path b key t)
  pub sums : (d : ℕ) (b : List (ℤ × ℤ)) (g : OpenNode → ℕ)
      → sum_by (λ p. g p.node) (places_from d b t) + sum_among (λ st. g (node_of st)) new ≡ sum_among (λ st. g (node_of st)) old
