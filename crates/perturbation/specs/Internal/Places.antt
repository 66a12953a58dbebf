-- The number of a column that was found, and a column or a row with the number at a place changed.
use Rattle.std.specs.Prelude.{ℕ, Option, None, Some, Result, Ok, Err, ℤ}
use Rattle.ip_defs.specs.declared.programs.Column.{Column}
use Rattle.ip_defs.specs.declared.programs.Row.{Row}
use Rattle.ip_model.specs.declared.places.Place.{Place}
use Rattle.ip_model.specs.declared.places.Place.TheVariants.{Cost, Low, High, Coef, Lower, Upper}
use Rattle.ip_model.specs.Places.{with_cost, with_lower, with_upper, with_low, with_high, with_coef}
use Rattle.perturbation.specs.declared.edits.PlaceError.{PlaceError}
use Rattle.perturbation.specs.declared.edits.PlaceError.TheVariants as Lacks

-- the number of the column that was found
abbrev pub number_found : Option ℕ → Result ℕ PlaceError
number_found None = Err Lacks.UnknownName
number_found (Some j) = Ok j

-- the column of a place with its number there changed; at a place of a row nothing changes
abbrev pub column_changed : Place → (ℤ → ℤ) → Column → Column
column_changed (Cost j) f c = with_cost f c
column_changed (Lower j) f c = with_lower f c
column_changed (Upper j) f c = with_upper f c
column_changed (Low i) f c = c
column_changed (High i) f c = c
column_changed (Coef i j) f c = c

-- the row of a place with its number there changed; at a place of a column nothing changes
abbrev pub row_changed : Place → (ℤ → ℤ) → Row → Row
row_changed (Low i) f r = with_low f r
row_changed (High i) f r = with_high f r
row_changed (Coef i j) f r = with_coef j f r
row_changed (Cost j) f r = r
row_changed (Lower j) f r = r
row_changed (Upper j) f r = r
