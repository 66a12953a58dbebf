-- Row sweeps: their proofs within the limits, and what an exact one says of each step.
use Rattle.std.specs.Prelude.{◌≡◌, ℕ, ◌+◌, ◌^◌, ◌≤◌, List, [], ◌∷◌, length, map, sum_by, Option, Some, None, Ok, ℤ, pos, ◌≤ℤ◌, ◌<ℤ◌}
use Rattle.std.specs.Int.RustNames.{unsigned_abs}
use Rattle.ip_defs.specs.Lists.{Each}
use Rattle.ip_defs.specs.declared.programs.Parts.{Parts}
use Rattle.ip_model.specs.declared.places.Place.{Place}
use Rattle.ip_model.specs.declared.places.Place.TheVariants.{Cost, Low, High, Coef, Lower, Upper}
use Rattle.perturbation.specs.Lines.{row_at, row_line_of}
use Rattle.proof_tree.specs.LabelledTrees.{node_count}
use Rattle.proof_tree.specs.Trees.{plain, FitsModel}
use Rattle.proof_tree.specs.Verdicts.{HasLength, IsTrueClaim}
use Rattle.proof_tree.specs.Within.{IsTreeWithin}
use Rattle.proof_tree.specs.declared.claims.Claim.{Claim}
use Rattle.proof_tree.specs.declared.claims.Claim.TheVariants.{Best, Empty}
use Rattle.sweep_proof.specs.RowRules.{claimed_cost}
use Rattle.sweep_proof.specs.declared.row_sweeps.RowPiece.{RowPiece}

-- ---- limits

-- the coordinates of a claimed point are at most 2 ^ 24 in absolute value
abbrev pub HasSmallPoint : Claim → Type 0
HasSmallPoint (Best x) = Each (λ z. unsigned_abs z ≤ 2 ^ 24) x
HasSmallPoint Empty = Unit {0}

-- a piece is within the limits and fits a model
pub record FitsPiece (m : Parts) (p : RowPiece) : Type 0 where
  pub from : p.from ≤ 10 ^ 6
  pub to : p.to ≤ 10 ^ 6
  pub point : HasLength (length m.columns) p.claim
  pub small : HasSmallPoint p.claim
  pub limits : IsTreeWithin (plain p.tree)
  pub tree : FitsModel m (plain p.tree)

-- the proof of a row sweep is within the limits and fits a model: it has a piece, and the nodes of all its trees are counted together
pub record FitsPieces (m : Parts) (ps : List RowPiece) : Type 0 where
  pub some : 1 ≤ length ps
  pub few : length ps ≤ 10000
  pub each : Each (FitsPiece m) ps
  pub nodes : sum_by (λ p. node_count (plain p.tree)) ps ≤ 1000000

-- ---- directions

-- a side moves outwards, or stays: a low side down, a high side up
abbrev pub MovesOutwards : Place → ℤ → Type 0
MovesOutwards (Low i) r = r ≤ℤ pos 0
MovesOutwards (High i) r = pos 0 ≤ℤ r
MovesOutwards (Cost j) r = ⊥
MovesOutwards (Coef i j) r = ⊥
MovesOutwards (Lower j) r = ⊥
MovesOutwards (Upper j) r = ⊥

abbrev pub IsWidening : List (Place × ℤ) → Type 0
IsWidening d = Each (λ s. MovesOutwards s.0 s.1) d

-- no side exceeds its limit after t steps
abbrev pub IsWithinAt : Parts → List (Place × ℤ) → ℕ → Type 0
IsWithinAt m d t = row_line_of m d t ≡ Ok (row_at m d t)

-- ---- exact sweeps

-- pieces cover each step from one to another, once and in order
abbrev pub CoverSteps : ℕ → ℕ → List RowPiece → Type 0
CoverSteps next steps [] = next ≡ steps + 1
CoverSteps next steps (p ∷ ps) = (p.from ≡ next) × (p.from ≤ p.to) × CoverSteps (p.to + 1) steps ps

-- a value is below another; that of an infeasible program is above every number
abbrev pub IsBelow : Option ℤ → Option ℤ → Type 0
IsBelow None v = ⊥
IsBelow (Some w) None = Unit {0}
IsBelow (Some w) (Some v) = w <ℤ v

-- values fall strictly; so only the first may be that of an infeasible program
abbrev pub FallFrom : Option ℤ → List (Option ℤ) → Type 0
FallFrom v [] = Unit {0}
FallFrom v (w ∷ ws) = IsBelow w v × FallFrom w ws

abbrev pub AreFalling : List (Option ℤ) → Type 0
AreFalling [] = Unit {0}
AreFalling (v ∷ vs) = FallFrom v vs

-- the claim of a piece is true at each of its steps: its point is optimal there, or no point is feasible
abbrev pub IsTruePiece : Parts → List (Place × ℤ) → RowPiece → Type 0
IsTruePiece m d p = (t : ℕ) → p.from ≤ t → t ≤ p.to → IsTrueClaim (row_at m d t) p.claim

-- a row sweep is exact: its pieces cover the steps, their claims are true at each of their steps, and their values fall
pub record IsExactRowSweep (m : Parts) (d : List (Place × ℤ)) (steps : ℕ) (ps : List RowPiece) : Type 0 where
  pub cover : CoverSteps 0 steps ps
  pub claims : Each (IsTruePiece m d) ps
  pub falling : AreFalling (map (λ p. claimed_cost m p.claim) ps)
