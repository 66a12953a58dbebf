-- Edits: the place that a datum names, the model after an edit and after a list of edits, and the first refusal.
use Rattle.std.specs.Prelude.{◌≡◌, ℕ, ◌+◌, nat_lt, if◌then◌else◌, ◌||◌, List, [], ◌∷◌, length, sum_by, position, bytes_eq}
use Rattle.std.specs.Prelude.{Option, Some, None, option_and_then, slice_get, Result, Ok, Err, ℤ, ◌+ℤ◌}
use Rattle.ip_defs.specs.Lists.{Each}
use Rattle.ip_defs.specs.Limits.{exceeds}
use Rattle.ip_defs.specs.declared.programs.Column.{Column}
use Rattle.ip_defs.specs.declared.programs.Row.{Row}
use Rattle.ip_defs.specs.declared.programs.Parts.{Parts}
use Rattle.mps_defs.specs.Numbers.{exact_units}
use Rattle.mps_defs.specs.declared.reading.Number.{Number}
use Rattle.mps_defs.specs.declared.reading.Number.TheVariants.{Dec, Large}
use Rattle.decimals.specs.Decimals.{IsBelowLarge}
use Rattle.ip_model.specs.declared.places.Place.{Place}
use Rattle.ip_model.specs.declared.places.Place.TheVariants as At
use Rattle.ip_model.specs.Places.{changed, number_of, limit_of}
use Rattle.perturbation.specs.declared.edits.Datum.{Datum}
use Rattle.perturbation.specs.declared.edits.Datum.TheVariants.{Cost, Low, High, Coef, Lower, Upper}
use Rattle.perturbation.specs.declared.edits.Change.{Change}
use Rattle.perturbation.specs.declared.edits.Change.TheVariants.{Set, Add}
use Rattle.perturbation.specs.declared.edits.Edit.{Edit}
use Rattle.perturbation.specs.declared.edits.PlaceError.{PlaceError}
use Rattle.perturbation.specs.declared.edits.PlaceError.TheVariants as Lacks
use Rattle.perturbation.specs.declared.edits.EditError.{EditError}
use Rattle.perturbation.specs.declared.edits.EditError.TheVariants as Refused

-- ---- places by name

-- the first column and the first row of a name
abbrev pub column_named : List Column → List ℕ → Option ℕ
column_named columns name = position (λ c. bytes_eq c.name name) columns

abbrev pub row_named : List Row → List ℕ → Option ℕ
row_named rows name = position (λ r. bytes_eq r.name name) rows

-- a place of the column or row that was found
abbrev pub found : (ℕ → Place) → Option ℕ → Result Place PlaceError
found place None = Err Lacks.UnknownName
found place (Some k) = Ok (place k)

-- a place of the row and the column that were found
abbrev pub both_found : Option ℕ → Option ℕ → Result Place PlaceError
both_found None column = Err Lacks.UnknownName
both_found (Some i) column = found (At.Coef i) column

-- a place of a row, where the row has that side
abbrev pub at_side : Place → Option ℤ → Result Place PlaceError
at_side place None = Err Lacks.NoSide
at_side place (Some side) = Ok place

abbrev pub found_side : (Row → Option ℤ) → (ℕ → Place) → List Row → Option ℕ → Result Place PlaceError
found_side side place rows None = Err Lacks.UnknownName
found_side side place rows (Some i) = at_side (place i) (option_and_then side (slice_get rows i))

-- the place that a datum names, or why it has none
abbrev pub located_in : List Column → List Row → Datum → Result Place PlaceError
located_in columns rows (Cost column) = found At.Cost (column_named columns column)
located_in columns rows (Lower column) = found At.Lower (column_named columns column)
located_in columns rows (Upper column) = found At.Upper (column_named columns column)
located_in columns rows (Low row) = found_side (λ r. r.low) At.Low rows (row_named rows row)
located_in columns rows (High row) = found_side (λ r. r.high) At.High rows (row_named rows row)
located_in columns rows (Coef row column) = both_found (row_named rows row) (column_named columns column)

abbrev pub located : Parts → Datum → Result Place PlaceError
located m datum = located_in m.columns m.rows datum

-- ---- one edit

-- the decimals of the units of the number at a place: those of the costs, of the row, or none
abbrev pub row_decimals : Option Row → ℕ
row_decimals None = 0
row_decimals (Some r) = r.decimals

abbrev pub decimals_at : Parts → Place → ℕ
decimals_at m (At.Cost j) = m.cost_decimals
decimals_at m (At.Lower j) = 0
decimals_at m (At.Upper j) = 0
decimals_at m (At.Low i) = row_decimals (slice_get m.rows i)
decimals_at m (At.High i) = row_decimals (slice_get m.rows i)
decimals_at m (At.Coef i j) = row_decimals (slice_get m.rows i)

-- the count of the coefficients that are not 0
abbrev pub entries : Parts → ℕ
entries m = sum_by (λ r. length r.coefs) m.rows

-- the model with the number at a place changed by f, if the new number and the count of coefficients are within their limits
abbrev pub changed_within : Parts → ℕ → Place → (ℤ → ℤ) → Result Parts EditError
changed_within m k place f =
    if exceeds (limit_of place) (f (number_of m place)) || nat_lt 200000 (entries (changed m place f)) then Err (Refused.Limit k)
    else Ok (changed m place f)

-- the written number of a change, and what the change makes of an old number where that is z in its units
abbrev pub written : Change → Number
written (Set number) = number
written (Add number) = number

abbrev pub new_number : Change → ℤ → ℤ → ℤ
new_number (Set number) z old = z
new_number (Add number) z old = old +ℤ z

-- a Large number exceeds each limit; one that is not whole in the units of the place is off the grid
abbrev pub by_units : Parts → ℕ → Place → Change → Option ℤ → Result Parts EditError
by_units m k place change None = Err (Refused.OffGrid k)
by_units m k place change (Some z) = changed_within m k place (new_number change z)

abbrev pub by_number : Parts → ℕ → Place → Change → Number → Result Parts EditError
by_number m k place change (Large negative) = Err (Refused.Limit k)
by_number m k place change (Dec units decimals) = by_units m k place change (exact_units (Dec units decimals) (decimals_at m place))

abbrev pub by_place : Parts → ℕ → Change → Result Place PlaceError → Result Parts EditError
by_place m k change (Err Lacks.UnknownName) = Err (Refused.UnknownName k)
by_place m k change (Err Lacks.NoSide) = Err (Refused.NoSide k)
by_place m k change (Ok place) = by_number m k place change (written change)

-- the model after edit k, or why that is refused
abbrev pub edited : Parts → ℕ → Edit → Result Parts EditError
edited m k e = by_place m k e.change (located m e.datum)

-- ---- a list of edits

-- what an answer is followed by, unless it is a refusal
abbrev pub unless_refused : Result Parts EditError → (Parts → Result Parts EditError) → Result Parts EditError
unless_refused (Err e) next = Err e
unless_refused (Ok m) next = next m

-- the model after the edits of a list, in order, the first of which has the number k; or the first refusal
abbrev pub edited_from : ℕ → Parts → List Edit → Result Parts EditError
edited_from k m [] = Ok m
edited_from k m (e ∷ es) = unless_refused (edited m k e) (λ n. edited_from (k + 1) n es)

abbrev pub edited_by : Parts → List Edit → Result Parts EditError
edited_by m es = edited_from 1 m es

-- each number that is not Large is below 10^20 in absolute value, as those that are read are
abbrev pub AreBelowLarge : List Edit → Type 0
AreBelowLarge es = Each (λ e. IsBelowLarge (written e.change)) es

-- an answer is the one that is due, unless memory ran out
abbrev pub Answers : Result Parts EditError → Result Parts EditError → Type 0
Answers due (Ok m) = due ≡ Ok m
Answers due (Err (Refused.UnknownName k)) = due ≡ Err (Refused.UnknownName k)
Answers due (Err (Refused.OffGrid k)) = due ≡ Err (Refused.OffGrid k)
Answers due (Err (Refused.Limit k)) = due ≡ Err (Refused.Limit k)
Answers due (Err (Refused.NoSide k)) = due ≡ Err (Refused.NoSide k)
Answers due (Err Refused.Memory) = Unit {0}
