-- One direction: the side that it names and its move, and the numbers that are computed of them.
use Rattle.std.specs.Prelude.{◌≡◌, ℕ, Option, Some, None, Result, Ok, Err, ℤ}
use Rattle.ip_defs.specs.declared.programs.Parts.{Parts}
use Rattle.mps_defs.specs.declared.reading.Number.{Number}
use Rattle.decimals.specs.Decimals.{IsBelowLarge}
use Rattle.ip_model.specs.declared.places.Place.{Place}
use Rattle.perturbation.specs.declared.edits.EditError.{EditError}
use Rattle.perturbation.specs.declared.edits.PlaceError.{PlaceError}
use Rattle.perturbation.specs.Lines.{IsSide}
use Rattle.sweep_directions.specs.Directions.{place_fault}

-- a side that a program has, with a number as it is read
abbrev pub IsPlaced : Parts → Place × Number → Type 0
IsPlaced m s = IsSide m s.0 × IsBelowLarge s.1

-- an answer is the place of direction k, or why that has none
abbrev pub IsPlace : ℕ → Result Place PlaceError → Result Place EditError → Type 0
IsPlace k due (Ok place) = due ≡ Ok place
IsPlace k due (Err e) = place_fault k due ≡ Some e

-- an answer is the move of direction k, which is within the limits, or why it is not
abbrev pub IsMove : Option EditError → Option ℤ → Result ℤ EditError → Type 0
IsMove fault units (Ok z) = (fault ≡ None) × (units ≡ Some z)
IsMove fault units (Err e) = fault ≡ Some e
