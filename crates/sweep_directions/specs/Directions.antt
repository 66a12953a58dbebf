-- Directions of row sides in a model: the sides that they name, their numbers in units, and the first refusal.
use Rattle.std.specs.Prelude.{◌≡◌, ◌≢◌, ℕ, ◌+◌, ◌^◌, ◌≤◌, Bool, ◌||◌, if◌then◌else◌, List, [], ◌∷◌, map, flat_map}
use Rattle.std.specs.Prelude.{Option, Some, None, Result, Ok, Err, ℤ, pos, ◌+ℤ◌, ◌*ℤ◌}
use Rattle.std.specs.Int.RustNames.{unsigned_abs}
use Rattle.std.specs.Option.{option_or}
use Rattle.ip_defs.specs.Lists.{Each}
use Rattle.ip_defs.specs.Limits.{exceeds}
use Rattle.ip_defs.specs.declared.programs.Parts.{Parts}
use Rattle.mps_defs.specs.Numbers.{exact_units}
use Rattle.mps_defs.specs.declared.reading.Number.{Number}
use Rattle.mps_defs.specs.declared.reading.Number.TheVariants.{Dec, Large}
use Rattle.ip_model.specs.declared.places.Place.{Place}
use Rattle.ip_model.specs.Places.{number_of}
use Rattle.perturbation.specs.declared.edits.Datum.{Datum}
use Rattle.perturbation.specs.declared.edits.PlaceError.{PlaceError}
use Rattle.perturbation.specs.declared.edits.PlaceError.TheVariants as Lacks
use Rattle.perturbation.specs.declared.edits.EditError.{EditError}
use Rattle.perturbation.specs.declared.edits.EditError.TheVariants as Refused
use Rattle.perturbation.specs.Edits.{decimals_at, located}
use Rattle.perturbation.specs.Lines.{IsSide}
use Rattle.sweep_proof.specs.RowSweeps.{IsWidening, IsWithinAt}

-- ---- sides and their moves

-- the place of a direction with its number as written; nothing where the datum has no place
abbrev pub placed_at : Number → Result Place PlaceError → List (Place × Number)
placed_at x (Err e) = []
placed_at x (Ok place) = (place, x) ∷ []

abbrev pub placed_of : Parts → List (Datum × Number) → List (Place × Number)
placed_of m dirs = flat_map (λ d. placed_at d.1 (located m d.0)) dirs

-- the number of a place in the units there, if it is whole in them; a Large one never is
abbrev pub units_at : Parts → Place × Number → Option ℤ
units_at m s = exact_units s.1 (decimals_at m s.0)

-- the move of a place by one step
abbrev pub move_by : Place → Option ℤ → List (Place × ℤ)
move_by place None = []
move_by place (Some z) = (place, z) ∷ []

abbrev pub moves_at : Parts → List (Place × Number) → List (Place × ℤ)
moves_at m places = flat_map (λ s. move_by s.0 (units_at m s)) places

-- the moves of directions: one for each direction that has a place and is whole in the units there
abbrev pub moves_of : Parts → List (Datum × Number) → List (Place × ℤ)
moves_of m dirs = moves_at m (placed_of m dirs)

-- ---- the tests of one direction, whose number is k

-- whether the datum has a place
abbrev pub place_fault : ℕ → Result Place PlaceError → Option EditError
place_fault k (Ok place) = None
place_fault k (Err Lacks.UnknownName) = Some (Refused.UnknownName k)
place_fault k (Err Lacks.NoSide) = Some (Refused.NoSide k)

-- whether a number that is not Large is whole in the units of its place
abbrev pub grid_fault : ℕ → Number → Option ℤ → Option EditError
grid_fault k (Large negative) units = None
grid_fault k (Dec n decimals) None = Some (Refused.OffGrid k)
grid_fault k (Dec n decimals) (Some z) = None

-- whether a move, or the side after the last step, exceeds the limit of a side; at step 0 no side of a model does
abbrev pub exceeds_at : Parts → ℕ → Place → ℤ → Bool
exceeds_at m steps place z =
    exceeds (2 ^ 62) z || exceeds (2 ^ 62) (number_of m place +ℤ pos steps *ℤ z)

-- a number that is whole in no units is Large here, since one that is off the grid was refused before
abbrev pub limit_fault : Parts → ℕ → ℕ → Place → Option ℤ → Option EditError
limit_fault m steps k place None = Some (Refused.Limit k)
limit_fault m steps k place (Some z) = if exceeds_at m steps place z then Some (Refused.Limit k) else None

-- ---- the tests of all directions

-- what a test says of the first element that fails it; the elements are numbered from k on
abbrev pub first_fault : {A : Type 0} → (ℕ → A → Option EditError) → ℕ → List A → Option EditError
first_fault test k [] = None
first_fault test k (x ∷ xs) = option_or (test k x) (first_fault test (k + 1) xs)

abbrev pub no_place : Parts → List (Datum × Number) → Option EditError
no_place m dirs = first_fault (λ k d. place_fault k (located m d.0)) 1 dirs

abbrev pub off_grid : Parts → List (Place × Number) → Option EditError
off_grid m places = first_fault (λ k s. grid_fault k s.1 (units_at m s)) 1 places

abbrev pub past_limit : Parts → ℕ → List (Place × Number) → Option EditError
past_limit m steps places = first_fault (λ k s. limit_fault m steps k s.0 (units_at m s)) 1 places

-- why directions are refused: each test is made of all of them, in their order, before the next one begins
abbrev pub direction_fault : Parts → List (Datum × Number) → ℕ → Option EditError
direction_fault m dirs steps =
    option_or (no_place m dirs) (option_or (off_grid m (placed_of m dirs)) (past_limit m steps (placed_of m dirs)))

-- what is made, unless there is a fault
abbrev pub unless_fault : {A : Type 0} → Option EditError → A → Result A EditError
unless_fault None x = Ok x
unless_fault (Some e) x = Err e

-- the moves of directions, or why they are refused
abbrev pub directed : Parts → List (Datum × Number) → ℕ → Result (List (Place × ℤ)) EditError
directed m dirs steps = unless_fault (direction_fault m dirs steps) (moves_of m dirs)

-- an answer is the one that is due, unless memory ran out
abbrev pub Answers : {A : Type 0} → Result A EditError → Result A EditError → Type 0
Answers due (Ok x) = due ≡ Ok x
Answers due (Err (Refused.UnknownName k)) = due ≡ Err (Refused.UnknownName k)
Answers due (Err (Refused.OffGrid k)) = due ≡ Err (Refused.OffGrid k)
Answers due (Err (Refused.Limit k)) = due ≡ Err (Refused.Limit k)
Answers due (Err (Refused.NoSide k)) = due ≡ Err (Refused.NoSide k)
Answers due (Err Refused.Memory) = Unit {0}

-- ---- directions that a model can follow

-- no place stands twice in a list
abbrev pub AreDifferent : List Place → Type 0
AreDifferent [] = Unit {0}
AreDifferent (p ∷ ps) = Each (λ q. p ≢ q) ps × AreDifferent ps

-- a model can follow moves to the last step: they are of different sides that it has, are within the limit of a side, take no side past
-- its limit, and widen the rows
pub record IsDirection (m : Parts) (steps : ℕ) (d : List (Place × ℤ)) : Type 0 where
  pub sides : Each (λ s. IsSide m s.0) d
  pub small : Each (λ s. unsigned_abs s.1 ≤ 2 ^ 62) d
  pub different : AreDifferent (map (λ s. s.0) d)
  pub within : IsWithinAt m d steps
  pub widening : IsWidening d
