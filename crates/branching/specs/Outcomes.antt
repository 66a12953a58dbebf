-- Right outcomes of a search: proofs that are proved, and stops that have their cause.
use Rattle.std.specs.Prelude.{◌≡◌, ℕ, ◌+◌, ◌^◌, ◌<◌, ◌≤◌, List, [], ◌∷◌, length, Option, Some, None, IfSome, ℤ}
use Rattle.std.specs.Int.RustNames.{unsigned_abs}
use Rattle.ip_defs.specs.declared.certificates.Bound.{Bound}
use Rattle.ip_defs.specs.declared.certificates.Bound.TheVariants.{Infinite}
use Rattle.ip_defs.specs.declared.programs.Parts.{Parts}
use Rattle.ip_defs.specs.Certificates.{leaf_bound}
use Rattle.ip_defs.specs.Limits.{IsCert}
use Rattle.ip_defs.specs.Program.{box_of, cost, IsFeasible, IsLeast, IsEmpty}
use Rattle.proof_tree.specs.LabelledTrees.{leaf_node, split_node, node_count, depth, split_at, splits_over}
use Rattle.proof_tree.specs.Trees.{plain, tree_limit, FitsModel}
use Rattle.proof_tree.specs.Verdicts.{IsProved, IsAtLeast, HasLength}
use Rattle.proof_tree.specs.declared.claims.Claim.{Claim}
use Rattle.proof_tree.specs.declared.claims.Claim.TheVariants as Claims
use Rattle.proof_tree.specs.declared.claims.Proof.{Proof}
use Rattle.branching.specs.declared.budgets.Limits.{Limits}
use Rattle.branching.specs.declared.budgets.BudgetWhat.{BudgetWhat}
use Rattle.branching.specs.declared.budgets.BudgetWhat.TheVariants.{Nodes, Depth}
use Rattle.branching.specs.declared.outcomes.Outcome.{Outcome}
use Rattle.branching.specs.declared.outcomes.Outcome.TheVariants.{Best, Empty, Budget}
use Rattle.node_bounds.specs.declared.reasons.Why.{Why}
use Rattle.open_nodes.specs.OpenTrees.{stuck, ended, OpenNode, OpenPlace, SomeOf, places, plain_open, stuck_count}
use Rattle.node_bounds.specs.Reasons.{IsReasoned, IsStuckFor}
use Rattle.ip_defs.specs.Lists.{Each}

-- two lists of the same length, whose elements agree pair by pair
abbrev pub Pairwise : {A B : Type 0} → (A → B → Type 0) → List A → List B → Type 0
Pairwise R [] [] = Unit {0}
Pairwise R [] (y ∷ ys) = ⊥
Pairwise R (x ∷ xs) [] = ⊥
Pairwise R (x ∷ xs) (y ∷ ys) = R x y × Pairwise R xs ys

-- ---- answers

-- a claim of a point
abbrev pub ClaimsPoint : Claim → Type 0
ClaimsPoint (Claims.Best x) = Unit {0}
ClaimsPoint Claims.Empty = ⊥

-- a proof that is proved and fits its model, within the limits of the search and of trees, whose splits are proper and have these true
-- reasons
pub record IsFinished (m : Parts) (l : Limits) (p : Proof) (whys : List Why) : Type 0 where
  pub proved : IsProved m p
  pub point : HasLength (length m.columns) p.claim
  pub fits : FitsModel m (plain p.tree)
  pub nodes : node_count (plain p.tree) ≤ l.nodes
  pub deep : depth (plain p.tree) ≤ l.depth
  pub limits : tree_limit (plain p.tree) ≡ None
  pub reasons : Pairwise (IsReasoned m l.pivots) (splits_over (box_of m) (plain p.tree)) whys

-- ---- stops

-- the split of a node is proper with a true reason, and so is the one that a stuck node asks for
abbrev pub HasReason : Parts → ℕ → List (ℤ × ℤ) → OpenNode → Type 0
HasReason m pivots b (leaf_node (stuck why)) = IsStuckFor m pivots b why
HasReason m pivots b (leaf_node e) = Unit {0}
HasReason m pivots b (split_node col cut why) = IsReasoned m pivots (split_at b col cut) why

-- a certificate of a leaf is one for the rows of the program, and a split is at one of its columns
abbrev pub FitsNode : Parts → OpenNode → Type 0
FitsNode m (leaf_node (ended c)) = IsCert (length m.rows) c
FitsNode m (leaf_node e) = Unit {0}
FitsNode m (split_node col cut why) = (col < length m.columns) × (unsigned_abs cut ≤ 2 ^ 24)

-- a node that has to be split, and may not be
abbrev pub IsStuckNode : OpenNode → Type 0
IsStuckNode (leaf_node (stuck why)) = Unit {0}
IsStuckNode n = ⊥

-- a stuck node at a depth
abbrev pub IsStuckAt : ℕ → OpenPlace → Type 0
IsStuckAt d p = IsStuckNode p.node × (p.depth ≡ d)

-- the limit that stopped the search: a stuck node stands at the greatest depth; or none does, and two more nodes would exceed the limit
abbrev pub IsCause : BudgetWhat → Limits → List OpenPlace → Type 0
IsCause Depth l ps = SomeOf (IsStuckAt l.depth) ps
IsCause Nodes l ps = Each (λ p. IsStuckAt l.depth p → ⊥) ps × (l.nodes < length ps + 2)

-- a bound is at least the cost of the best point, and infinite where there is none
abbrev pub IsClosedBy : Parts → Option (List ℤ) → Bound → Type 0
IsClosedBy m None v = v ≡ Infinite
IsClosedBy m (Some x) v = IsAtLeast v (cost m x)

-- a leaf is closed by its bound in its box
abbrev pub IsClosedNode : Parts → Option (List ℤ) → List (ℤ × ℤ) → OpenNode → Type 0
IsClosedNode m best b (leaf_node (ended c)) = IsClosedBy m best (leaf_bound m b c)
IsClosedNode m best b n = Unit {0}

-- a search that stopped, by the nodes of its tree
pub record IsStopped (m : Parts) (l : Limits) (what : BudgetWhat) (ps : List OpenPlace) (best : Option (List ℤ)) : Type 0 where
  pub reasons : Each (λ p. HasReason m l.pivots p.box p.node) ps
  pub stuck : SomeOf (λ p. IsStuckNode p.node) ps
  pub nodes : length ps ≤ l.nodes
  pub deep : Each (λ p. p.depth ≤ l.depth) ps
  pub cause : IsCause what l ps
  pub point : IfSome best (IsFeasible m)
  pub fits : Each (λ p. FitsNode m p.node) ps
  pub closed : Each (λ p. IsClosedNode m best p.box p.node) ps

-- ---- right outcomes

abbrev pub IsRightOutcome : Parts → Limits → Outcome → Type 0
IsRightOutcome m l (Best p whys) = ClaimsPoint p.claim × IsFinished m l p whys
IsRightOutcome m l (Empty p whys) = (p.claim ≡ Claims.Empty) × IsFinished m l p whys
IsRightOutcome m l (Budget what grown best) = IsStopped m l what (places m (plain_open grown)) best

-- of a stop one node alone is stuck; each other open node is pending
abbrev pub HasOneStuck : Outcome → Type 0
HasOneStuck (Best p whys) = Unit {0}
HasOneStuck (Empty p whys) = Unit {0}
HasOneStuck (Budget what grown best) = stuck_count (plain_open grown) ≡ 1

-- a claimed point is a least one
abbrev pub ClaimsLeast : Parts → Claim → Type 0
ClaimsLeast m (Claims.Best x) = IsLeast m x
ClaimsLeast m Claims.Empty = ⊥

-- what an outcome says of the program
abbrev pub IsTrueOutcome : Parts → Outcome → Type 0
IsTrueOutcome m (Best p whys) = ClaimsLeast m p.claim
IsTrueOutcome m (Empty p whys) = IsEmpty m
IsTrueOutcome m (Budget what grown best) = IfSome best (IsFeasible m)

-- a right outcome is true: the point of Best is a least one, and where it is Empty no point is feasible
abbrev pub OutcomesAreTrue : Type 0
OutcomesAreTrue = (m : Parts) (l : Limits) (o : Outcome) → IsRightOutcome m l o → IsTrueOutcome m o
