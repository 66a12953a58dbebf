-- A change of one number of a program, or none.
use Rattle.std.specs.Prelude.{◌≤◌, Option, Some, None, ℤ, ◌+ℤ◌}
use Rattle.std.specs.Int.RustNames.{unsigned_abs}
use Rattle.ip_defs.specs.declared.programs.Parts.{Parts}
use Rattle.ip_model.specs.declared.places.Place.{Place}
use Rattle.ip_model.specs.Places.{raised, Exists, number_of, limit_of}

-- a program with the number at a place raised, or as it is
abbrev pub changed_by : Parts → Option (Place × ℤ) → Parts
changed_by m None = m
changed_by m (Some change) = raised m change.0 change.1

-- the number at a place, raised by e, is within its limit
abbrev pub IsWithinLimit : Parts → Place → ℤ → Type 0
IsWithinLimit m place e = unsigned_abs (number_of m place +ℤ e) ≤ limit_of place

-- the place of a change exists, and its number stays within its limit
abbrev pub IsChange : Parts → Option (Place × ℤ) → Type 0
IsChange m None = Unit {0}
IsChange m (Some change) = Exists m change.0 × IsWithinLimit m change.0 change.1
