-- Where no test fails, each direction has passed each test.
use Rattle.std.specs.Prelude.{◌≡◌, ℕ, ◌+◌, Bool, true, false, cond, List, [], ◌∷◌, Option, Some, None, Result, Ok, Err, ℤ}
use Rattle.std.specs.Option.{option_or}
use Rattle.std.proofs.Common.{refl}
use Rattle.ip_defs.specs.Lists.{Each}
use Rattle.ip_defs.specs.declared.programs.Parts.{Parts}
use Rattle.mps_defs.specs.declared.reading.Number.{Number}
use Rattle.ip_model.specs.declared.places.Place.{Place}
use Rattle.perturbation.specs.declared.edits.Datum.{Datum}
use Rattle.perturbation.specs.declared.edits.EditError.{EditError}
use Rattle.perturbation.specs.declared.edits.EditError.TheVariants as Refused
use Rattle.perturbation.specs.declared.edits.PlaceError.{PlaceError}
use Rattle.perturbation.specs.declared.edits.PlaceError.TheVariants as Lacks
use Rattle.perturbation.specs.Edits.{located}
use Rattle.sweep_directions.specs.Directions.{direction_fault, exceeds_at, first_fault, limit_fault, no_place, off_grid}
use Rattle.sweep_directions.specs.Directions.{past_limit, place_fault, placed_of, units_at, unless_fault}

-- what is made has no fault
pub no_fault : {A : Type 0} (o : Option EditError) (x y : A) → unless_fault o x ≡ Ok y → (o ≡ None) × (x ≡ y)
no_fault None x y e = (refl, let same : x ≡ y = cc in same)
no_fault (Some error) x y e = absurd cc

-- neither of two answers
neither : {A : Type 0} (a b : Option A) → option_or a b ≡ None → (a ≡ None) × (b ≡ None)
neither None b e = (refl, e)
neither (Some x) b e = absurd cc

-- what follows for each element that passes a test follows for all where none fails
each_passes : {A : Type 0} (test : ℕ → A → Option EditError) (P : A → Type 0) → ((k : ℕ) (x : A) → test k x ≡ None → P x)
    → (k : ℕ) (xs : List A) → first_fault test k xs ≡ None → Each P xs
each_passes test P own k [] e = tt
each_passes test P own k (x ∷ xs) e =
    let both = neither (test k x) (first_fault test (k + 1) xs) e in
    (own k x both.0, each_passes test P own (k + 1) xs both.1)

-- a direction with a place
abbrev pub HasPlace : Parts → Datum × Number → Type 0
HasPlace m d = (place : Place) × (located m d.0 ≡ Ok place)

place_passes : (k : ℕ) (r : Result Place PlaceError) → place_fault k r ≡ None → (place : Place) × (r ≡ Ok place)
place_passes k (Ok place) e = (place, refl)
place_passes k (Err Lacks.UnknownName) e = absurd cc
place_passes k (Err Lacks.NoSide) e = absurd cc

-- a number of units that is within the limits
pub record HasMove (m : Parts) (steps : ℕ) (s : Place × Number) : Type 0 where
  pub units : ℤ
  pub is : units_at m s ≡ Some units
  pub within : exceeds_at m steps s.0 units ≡ false

limit_passes : (m : Parts) (steps k : ℕ) (s : Place × Number) → limit_fault m steps k s.0 (units_at m s) ≡ None → HasMove m steps s
limit_passes m steps k s e = by (units_at m s) refl e
  where
    here : (z : ℤ) (t : Bool) → units_at m s ≡ Some z → exceeds_at m steps s.0 z ≡ t → cond t (Some (Refused.Limit k)) None ≡ None
        → HasMove m steps s
    here z true is test e = absurd cc
    here z false is test e = record { units = z; is = is; within = test }

    by : (o : Option ℤ) → units_at m s ≡ o → limit_fault m steps k s.0 o ≡ None → HasMove m steps s
    by None is e = absurd cc
    by (Some z) is e = here z (exceeds_at m steps s.0 z) is refl e

-- what directions that pass each test have
pub record HavePassed (m : Parts) (ds : List (Datum × Number)) (steps : ℕ) : Type 0 where
  pub places : Each (HasPlace m) ds
  pub moves : Each (HasMove m steps) (placed_of m ds)

pub have_passed : (m : Parts) (ds : List (Datum × Number)) (steps : ℕ) → direction_fault m ds steps ≡ None → HavePassed m ds steps
have_passed m ds steps e =
    let first = neither (no_place m ds) (option_or (off_grid m (placed_of m ds)) (past_limit m steps (placed_of m ds))) e in
    let others = neither (off_grid m (placed_of m ds)) (past_limit m steps (placed_of m ds)) first.1 in
    record {
      places = each_passes (λ k d. place_fault k (located m d.0)) (HasPlace m) (λ k d h. place_passes k (located m d.0) h) 1 ds first.0;
      moves = each_passes (λ k s. limit_fault m steps k s.0 (units_at m s)) (HasMove m steps) (λ k s h. limit_passes m steps k s h) 1
          (placed_of m ds) others.1;
    }
