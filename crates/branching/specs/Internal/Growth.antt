-- What a search keeps while it grows its tree best bound first.
use Rattle.std.specs.Prelude.{◌≡◌, ◌≢◌, ℕ, ◌+◌, ◌*◌, ◌≤◌, ◌<◌, List, length, Option, Some, None, ℤ, ◌≤ℤ◌, Bool, true, false, ◌⊎◌, ◌-◌}
use Rattle.std.specs.Prelude.{◌^◌}
use Rattle.std.specs.Int.{int_max}
use Rattle.std.specs.Int.RustNames.{unsigned_abs}
use Rattle.ip_defs.specs.declared.certificates.Bound.TheVariants.{At}
use Rattle.ip_defs.specs.declared.certificates.Cert.{Cert}
use Rattle.ip_defs.specs.declared.programs.Parts.{Parts}
use Rattle.ip_defs.specs.Certificates.{leaf_bound}
use Rattle.ip_defs.specs.Limits.{IsCert}
use Rattle.ip_defs.specs.Program.{box_of, cost, IsFeasible, IsIn}
use Rattle.node_bounds.specs.Areas.{IsSearchArea}
use Rattle.node_bounds.specs.Nodes.{IsSplit, own_bound}
use Rattle.node_bounds.specs.Stops.{stops}
use Rattle.node_bounds.specs.Cuts.{IsBelow}
use Rattle.node_bounds.specs.declared.reasons.Why.{Why}
use Rattle.node_bounds.specs.declared.reasons.Why.TheVariants as Reason
use Rattle.node_bounds.specs.declared.nodes.Branch.{Branch}
use Rattle.node_bounds.specs.declared.nodes.Node.{Node}
use Rattle.node_bounds.specs.declared.nodes.Node.TheVariants as Nodes
use Rattle.open_nodes.specs.declared.frontiers.Frontier.{Frontier}
use Rattle.open_nodes.specs.declared.nodes.Solved.{Solved}
use Rattle.open_nodes.specs.declared.nodes.State.{State}
use Rattle.open_nodes.specs.declared.nodes.State.TheVariants.{Waiting, Taken, Closed, Stuck, Split}
use Rattle.open_nodes.specs.Frontiers.{IsFrontier}
use Rattle.open_nodes.specs.Frontiers.{entry_at, sum_over, IsLeast, NoneWaits, SetsState, SplitsNode}
use Rattle.open_nodes.specs.Nodes.{Entry, box_along, bound_of, node_of}
use Rattle.open_nodes.specs.OpenTrees.{pending, stuck, ended, OpenNode}
use Rattle.proof_tree.specs.LabelledTrees.{leaf_node, split_node}
use Rattle.branching.specs.declared.budgets.BudgetWhat.{BudgetWhat}
use Rattle.branching.specs.declared.budgets.Limits.{Limits}
use Rattle.node_bounds.specs.Workspaces.{FitsWorkspace}
use Rattle.branching.specs.declared.search.Progress.{Progress}
use Rattle.branching.specs.declared.rounds.Step.{Step}
use Rattle.branching.specs.declared.rounds.Step.TheVariants.{Went, Ended}
use Rattle.branching.specs.BestFirst.{BoundsAll}
use Rattle.branching.specs.Outcomes.{IsClosedBy}
use Rattle.branching.specs.Internal.Search.{Found, cost_of, point_of, IsSound, MayNotSplit}

-- the box of a node in a tree over the box of a program
abbrev pub box_at : Parts → Entry → List (ℤ × ℤ)
box_at m e = box_along e.path (box_of m)

-- a split that a node keeps while it waits: one by the answer of its linear program, whose bound is at most that with which the node waits
pub record IsAsked (m : Parts) (pivots : ℕ) (b : List (ℤ × ℤ)) (bound : ℤ) (s : Solved) : Type 0 where
  pub split : IsSplit m pivots b s.col s.at s.why
  pub answered : stops s.why ≡ 0
  pub own : ℤ
  pub own_is : At own ≡ own_bound m b s.why
  pub least : own ≤ℤ bound

-- what is known of a node is right
abbrev pub IsStateOf : Parts → ℕ → Option (List ℤ) → List (ℤ × ℤ) → State → Type 0
IsStateOf m pivots best b (Waiting bound None) = Unit {0}
IsStateOf m pivots best b (Waiting bound (Some s)) = IsAsked m pivots b bound s
IsStateOf m pivots best b Taken = ⊥
IsStateOf m pivots best b (Closed c) = IsCert (length m.rows) c × IsClosedBy m best (leaf_bound m b c)
IsStateOf m pivots best b (Stuck why) = ⊥
IsStateOf m pivots best b (Split col cut why left right) = IsSplit m pivots b col cut why × BoundsAll m b why

-- so are its depth and its box
pub record IsKept (m : Parts) (l : Limits) (best : Option (List ℤ)) (e : Entry) : Type 0 where
  pub area : IsSearchArea m (box_at m e)
  pub deep : length e.path ≤ l.depth
  pub state : IsStateOf m l.pivots best (box_at m e) e.state

abbrev pub AreKept : Parts → Limits → Option (List ℤ) → Frontier → Type 0
AreKept m l best f = (k : ℕ) (e : Entry) → entry_at f k ≡ Some e → IsKept m l best e

-- the best point so far costs no more than a point
abbrev pub IsBeaten : Parts → Found → List ℤ → Type 0
IsBeaten m None x = ⊥
IsBeaten m (Some p) x = p.1 ≤ℤ cost m x

-- a point costs at least as much as the best one so far, or it lies in the box of a node that waits with a bound of at most its cost
pub data IsCovered (m : Parts) (found : Found) (f : Frontier) (x : List ℤ) : Type 0 where
  beaten : IsBeaten m found x → IsCovered m found f x
  waits : (k : ℕ) (e : Entry) (bound : ℤ) → entry_at f k ≡ Some e → bound_of e.state ≡ Some bound → IsIn (box_at m e) x
      → bound ≤ℤ cost m x → IsCovered m found f x

abbrev pub AreCovered : Parts → Found → Frontier → Type 0
AreCovered m found f = (x : List ℤ) → IsFeasible m x → IsCovered m found f x

-- how many nodes a state stands for: always one
abbrev pub one_of : State → ℕ
one_of s = 1

-- the node was not solved yet
abbrev pub unsolved : State → ℕ
unsolved (Waiting bound None) = 1
unsolved s = 0

-- how many linear programs were stopped at a node that is split or stuck
abbrev pub node_stops : OpenNode → ℕ
node_stops (split_node col cut why) = stops why
node_stops (leaf_node (stuck why)) = stops why
node_stops (leaf_node pending) = 0
node_stops (leaf_node (ended c)) = 0

abbrev pub stopped : State → ℕ
stopped s = node_stops (node_of s)

-- how often a node is worked on from now on, at most
abbrev pub visits_left : State → ℕ
visits_left (Waiting bound None) = 2
visits_left (Waiting bound (Some s)) = 1
visits_left s = 0

-- whether a node is stuck, as a number
abbrev pub node_stuck : OpenNode → ℕ
node_stuck (split_node col cut why) = 0
node_stuck (leaf_node (stuck why)) = 1
node_stuck (leaf_node pending) = 0
node_stuck (leaf_node (ended c)) = 0

abbrev pub stuck_of : State → ℕ
stuck_of s = node_stuck (node_of s)

-- the counted steps: the allowed number for each linear program that was stopped at least, and at most that for each node that was solved
pub record AreSteps (l : Limits) (f : Frontier) (before after : ℕ) : Type 0 where
  pub least : before + sum_over stopped f * l.pivots ≤ after
  pub most : after + sum_over unsolved f * l.pivots ≤ before + sum_over one_of f * l.pivots

-- what a search keeps
pub record IsGrowing (m : Parts) (l : Limits) (found : Found) (f : Frontier) (before after : ℕ) : Type 0 where
  pub frontier : IsFrontier f
  pub kept : AreKept m l (point_of found) f
  pub sound : IsSound m found
  pub covered : AreCovered m found f
  pub nodes : sum_over one_of f ≤ l.nodes
  pub none_stuck : sum_over stuck_of f ≡ 0
  pub steps : AreSteps l f before after

-- ---- one round

-- what a search asks for where it splits a box: the split that a node keeps
abbrev pub asked_of : Branch → Solved
asked_of s = record { col = s.col; at = s.at; why = s.why }

-- a node need not wait: it waited before with its own bound, or its linear program has no answer, or no other one waits with a lesser bound
pub data MayGo (f : Frontier) (solved : Bool) (why : Why) (bound : ℤ) : Type 0 where
  waited : solved ≡ true → MayGo f solved why bound
  unanswered : (why ≡ Reason.Stopped) ⊎ (why ≡ Reason.Wide) → MayGo f solved why bound
  least : IsLeast f bound → MayGo f solved why bound

-- the cut of a split is small
abbrev pub HasSmallCut : Node → Type 0
HasSmallCut (Nodes.Closed c) = Unit {0}
HasSmallCut (Nodes.Whole x w c) = Unit {0}
HasSmallCut (Nodes.Split s) = unsigned_abs s.at ≤ 2 ^ 24

-- what a search does with a node that it took, at a depth and with a bound: a right answer of the node decides
pub data IsSettled (l : Limits) (key d : ℕ) (bound : ℤ) (solved : Bool) (n : Node) (found found' : Found) (f h : Frontier) (step : Step)
    : Type 0 where
  closed : (c : Cert) → n ≡ Nodes.Closed c → found' ≡ found → SetsState f h key (Closed c) → step ≡ Went
      → IsSettled l key d bound solved n found found' f h step
  whole : (x : List ℤ) (w : ℤ) (c : Cert) → n ≡ Nodes.Whole x w c → found' ≡ Some (x, w) → SetsState f h key (Closed c) → step ≡ Went
      → IsSettled l key d bound solved n found found' f h step
  put_back : (s : Branch) → n ≡ Nodes.Split s → found' ≡ found → solved ≡ false → stops s.why ≡ 0
      → SetsState f h key (Waiting (int_max s.bound bound) (Some (asked_of s))) → step ≡ Went
      → IsSettled l key d bound solved n found found' f h step
  parted : (s : Branch) (left right : ℕ) → n ≡ Nodes.Split s → found' ≡ found → MayGo f solved s.why (int_max s.bound bound) → d < l.depth
      → sum_over one_of f + 2 ≤ l.nodes → SplitsNode f h key s.col s.at s.why (int_max s.bound bound) left right → step ≡ Went
      → IsSettled l key d bound solved n found found' f h step
  halted : (s : Branch) (what : BudgetWhat) → n ≡ Nodes.Split s → found' ≡ found → MayGo f solved s.why (int_max s.bound bound)
      → MayNotSplit l d (sum_over one_of f) what → SetsState f h key (Stuck s.why) → step ≡ Ended (Some what)
      → IsSettled l key d bound solved n found found' f h step

-- a search that stopped: one node is stuck, whose split is a right one and whose bound is below the cost of the best point
pub record IsHalted (m : Parts) (l : Limits) (found : Found) (f : Frontier) (before after : ℕ) (what : BudgetWhat) : Type 0 where
  pub key : ℕ
  pub entry : Entry
  pub why : Why
  pub here : entry_at f key ≡ Some entry
  pub is_stuck : entry.state ≡ Stuck why
  pub area : IsSearchArea m (box_at m entry)
  pub deep : length entry.path ≤ l.depth
  pub asked : (col : ℕ) × (cut : ℤ) × IsSplit m l.pivots (box_at m entry) col cut why
  pub first : BoundsAll m (box_at m entry) why
  pub own : ℤ
  pub own_is : At own ≡ own_bound m (box_at m entry) why
  pub below : IsBelow (At own) (cost_of found)
  pub cause : MayNotSplit l (length entry.path) (sum_over one_of f) what
  pub others : (k : ℕ) (e : Entry) → k ≢ key → entry_at f k ≡ Some e → IsKept m l (point_of found) e
  pub sound : IsSound m found
  pub nodes : sum_over one_of f ≤ l.nodes
  pub one : sum_over stuck_of f ≡ 1
  pub steps : AreSteps l f before after
  pub frontier : IsFrontier f

-- how many rounds are left, at most
abbrev pub rounds_left : Limits → Frontier → ℕ
rounds_left l f = 2 * (l.nodes - sum_over one_of f) + sum_over visits_left f

-- how a search ended: no node waits, or one is stuck at a limit
abbrev pub IsEnded : Parts → Limits → Found → Frontier → ℕ → ℕ → Option BudgetWhat → Type 0
IsEnded m l found h before after None = IsGrowing m l found h before after × NoneWaits h
IsEnded m l found h before after (Some what) = IsHalted m l found h before after what

-- what holds after a step: the search goes on, with fewer rounds left, or it ended
abbrev pub IsAfter : Parts → Limits → Found → Frontier → Frontier → ℕ → ℕ → Step → Type 0
IsAfter m l found f h before after Went = IsGrowing m l found h before after × (rounds_left l h < rounds_left l f)
IsAfter m l found f h before after (Ended stop) = IsEnded m l found h before after stop

-- ---- what a search takes from round to round

-- there is memory for each node of a program
pub record FitsProgress (m : Parts) (s : Progress) : Type 0 where
  pub area : length s.area ≡ length m.columns
  pub work : FitsWorkspace m s.work

-- how many linear programs are solved for a node, which may have been solved before
abbrev pub solves : Option Solved → ℕ
solves None = 1
solves (Some s) = 0
