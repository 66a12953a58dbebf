-- The steps of a direction of row sides at which no side exceeds its limit.
use Rattle.std.specs.Prelude.{ℕ, ◌≤◌, List, ℤ}
use Rattle.ip_defs.specs.declared.programs.Parts.{Parts}
use Rattle.ip_model.specs.declared.places.Place.{Place}
use Rattle.sweep_proof.specs.RowSweeps.{IsWithinAt}
use Rattle.sweep_proof.specs.declared.row_sweeps.RowPiece.{RowPiece}

-- no side exceeds its limit at any step up to the last one
abbrev pub AreWithin : Parts → List (Place × ℤ) → ℕ → Type 0
AreWithin m d steps = (t : ℕ) → t ≤ steps → IsWithinAt m d t

-- a piece lies within the sweep
abbrev pub EndsWithin : ℕ → RowPiece → Type 0
EndsWithin steps p = (p.from ≤ steps) × (p.to ≤ steps)
