-- What a search has found, what it has grown over a box, and the answers of a tree without open nodes.
use Rattle.std.specs.Prelude.{◌≡◌, ℕ, ◌+◌, ◌<◌, ◌≤◌, List, length, Option, Some, None, option_map, ℤ, ◌≤ℤ◌}
use Rattle.ip_defs.specs.declared.certificates.Cert.{Cert}
use Rattle.ip_defs.specs.declared.programs.Parts.{Parts}
use Rattle.ip_defs.specs.Certificates.{leaf_bound}
use Rattle.ip_defs.specs.Limits.{IsCert}
use Rattle.ip_defs.specs.Program.{cost, IsFeasible}
use Rattle.proof_tree.specs.LabelledTrees.{places_from, split_labels}
use Rattle.proof_tree.specs.Trees.{plain}
use Rattle.proof_tree.specs.declared.claims.Claim.{Claim}
use Rattle.proof_tree.specs.declared.claims.Claim.TheVariants as Claims
use Rattle.proof_tree.specs.declared.claims.Proof.{Proof}
use Rattle.branching.specs.declared.budgets.Limits.{Limits}
use Rattle.branching.specs.declared.budgets.BudgetWhat.{BudgetWhat}
use Rattle.branching.specs.declared.budgets.BudgetWhat.TheVariants.{Nodes, Depth}
use Rattle.branching.specs.declared.outcomes.Outcome.{Outcome}
use Rattle.branching.specs.declared.outcomes.Outcome.TheVariants.{Best, Empty}
use Rattle.node_bounds.specs.declared.reasons.Why.{Why}
use Rattle.open_nodes.specs.OpenTrees.{PlainOpen, OpenPlace, IsDone, tree_of, stuck_count}
use Rattle.branching.specs.Outcomes.{HasReason, IsClosedBy, IsClosedNode, FitsNode, IsStuckAt, IsStuckNode}
use Rattle.open_nodes.specs.OpenTrees.{SomeOf}
use Rattle.ip_defs.specs.Lists.{Each}

-- ---- the best point so far

-- a point that was found, with what it costs
abbrev pub Found : Type 0
Found = Option (List ℤ × ℤ)

abbrev pub point_of : Found → Option (List ℤ)
point_of found = option_map (λ p. p.0) found

abbrev pub cost_of : Found → Option ℤ
cost_of found = option_map (λ p. p.1) found

-- what was found is feasible, and costs that
abbrev pub IsSound : Parts → Found → Type 0
IsSound m None = Unit {0}
IsSound m (Some p) = IsFeasible m p.0 × (cost m p.0 ≡ p.1)

-- what is found later costs no more
abbrev pub Improves : Found → Found → Type 0
Improves None now = Unit {0}
Improves (Some p) None = ⊥
Improves (Some p) (Some q) = q.1 ≤ℤ p.1

-- ---- nodes

-- a certificate for the rows of the program closes a box
pub record IsEnd (m : Parts) (b : List (ℤ × ℤ)) (found : Found) (c : Cert) : Type 0 where
  pub cert : IsCert (length m.rows) c
  pub closed : IsClosedBy m (point_of found) (leaf_bound m b c)

-- why a node at a depth may not be split, where a number of nodes were counted
abbrev pub MayNotSplit : Limits → ℕ → ℕ → BudgetWhat → Type 0
MayNotSplit l d count Depth = d ≡ l.depth
MayNotSplit l d count Nodes = (d < l.depth) × (l.nodes < count + 2)

-- ---- subtrees

-- the nodes of a subtree: its root was counted before, those below it are counted as they are made
pub record ArePlacesOf (m : Parts) (l : Limits) (ps : List OpenPlace) (before after : ℕ) (found : Found) : Type 0 where
  pub reasons : Each (λ p. HasReason m l.pivots p.box p.node) ps
  pub deep : Each (λ p. p.depth ≤ l.depth) ps
  pub closed : Each (λ p. IsClosedNode m (point_of found) p.box p.node) ps
  pub fits : Each (λ p. FitsNode m p.node) ps
  pub count : after + 1 ≡ before + length ps
  pub room : after ≤ l.nodes

-- how the search of a subtree ended: nothing is open, or it stopped
abbrev pub EndsBy : Limits → ℕ → PlainOpen → List OpenPlace → Option BudgetWhat → Type 0
EndsBy l after t ps None = IsDone t
EndsBy l after t ps (Some Depth) = SomeOf (IsStuckAt l.depth) ps
EndsBy l after t ps (Some Nodes) = SomeOf (λ p. IsStuckNode p.node) ps × Each (λ p. IsStuckAt l.depth p → ⊥) ps × (l.nodes < after + 2)

-- how many nodes a search leaves stuck
abbrev pub stuck_by : Option BudgetWhat → ℕ
stuck_by None = 0
stuck_by (Some what) = 1

-- a subtree was grown over a box, its root at a depth
pub record IsGrown (m : Parts) (l : Limits) (d : ℕ) (b : List (ℤ × ℤ)) (before after : ℕ) (earlier found : Found) (t : PlainOpen)
    (stop : Option BudgetWhat) : Type 0 where
  pub places : ArePlacesOf m l (places_from d b t) before after found
  pub ends : EndsBy l after t (places_from d b t) stop
  pub stuck : stuck_count t ≡ stuck_by stop
  pub sound : IsSound m found
  pub improves : Improves earlier found

-- ---- answers

-- a proof of a claim by a tree without open nodes, with the reasons of its splits
pub record IsMadeOf (t : PlainOpen) (claim : Claim) (p : Proof) (whys : List Why) : Type 0 where
  pub claim_is : p.claim ≡ claim
  pub tree_is : plain p.tree ≡ tree_of t
  pub reasons_are : whys ≡ split_labels t

-- the answer of a search whose tree has no open node
abbrev pub IsAnswerOf : PlainOpen → Option (List ℤ) → Outcome → Type 0
IsAnswerOf t None (Empty p whys) = IsMadeOf t Claims.Empty p whys
IsAnswerOf t (Some x) (Best p whys) = IsMadeOf t (Claims.Best x) p whys
IsAnswerOf t best o = ⊥
