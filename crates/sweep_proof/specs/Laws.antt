-- The laws of row sweeps.
use Rattle.std.specs.Prelude.{◌≡◌, ℕ, ◌≤◌, List, ℤ, slice_get, Some}
use Rattle.ip_defs.specs.Program.{IsValue}
use Rattle.ip_defs.specs.declared.programs.Parts.{Parts}
use Rattle.ip_model.specs.declared.places.Place.{Place}
use Rattle.perturbation.specs.Lines.{row_at}
use Rattle.range_laws.specs.Widening.{IsWider}
use Rattle.sweep_proof.specs.RowRules.{claimed_cost, row_rules}
use Rattle.sweep_proof.specs.RowSweeps.{FitsPieces, IsExactRowSweep, IsWidening}
use Rattle.sweep_proof.specs.declared.row_sweeps.RowPiece.{RowPiece}
use Rattle.sweep_proof.specs.declared.verdicts.SweepVerdict.TheVariants.{Proved}

-- along a direction outwards the model of a later step is the wider one
abbrev pub LaterStepsAreWider : Type 0
LaterStepsAreWider = (m : Parts) (d : List (Place × ℤ)) (s t : ℕ) → IsWidening d → s ≤ t → IsWider (row_at m d s) (row_at m d t)

-- along a direction outwards a proof that the rules call proved is of an exact sweep
abbrev pub RowRulesAreTrue : Type 0
RowRulesAreTrue = (m : Parts) (d : List (Place × ℤ)) (steps : ℕ) (ps : List RowPiece) → IsWidening d → FitsPieces m ps
    → row_rules m d steps ps ≡ Proved → IsExactRowSweep m d steps ps

-- the piece of a step, whose claim is the optimal value there
pub record IsPieceAt (m : Parts) (d : List (Place × ℤ)) (ps : List RowPiece) (t : ℕ) : Type 0 where
  pub number : ℕ
  pub piece : RowPiece
  pub is : slice_get ps number ≡ Some piece
  pub from : piece.from ≤ t
  pub to : t ≤ piece.to
  pub value : IsValue (row_at m d t) (claimed_cost m piece.claim)

-- an exact sweep has the optimal value of each step
abbrev pub ExactSweepsHaveValues : Type 0
ExactSweepsHaveValues = (m : Parts) (d : List (Place × ℤ)) (steps : ℕ) (ps : List RowPiece) → IsWidening d → IsExactRowSweep m d steps ps
    → (t : ℕ) → t ≤ steps → IsPieceAt m d ps t
