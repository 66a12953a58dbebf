-- What a change of one number of a program changes in the dual values of its leaves.
use Rattle.std.specs.Prelude.{ℕ, ◌==◌, if◌then◌else◌, List, Option, Some, None, ℤ, pos, ◌-ℤ◌, ◌*ℤ◌}
use Rattle.std.specs.Int.{int_min, int_max}
use Rattle.ip_defs.specs.Program.{coefficient}
use Rattle.ip_model.specs.declared.places.Place.{Place}
use Rattle.ip_model.specs.declared.places.Place.TheVariants.{Cost, Low, High, Coef, Lower, Upper}

-- how much more multipliers are paid: that of the row times the change, where it is paid for the side that changes
abbrev pub more_at : Place → ℤ → List (ℕ × ℤ) → ℤ
more_at (Low i) e y = int_max (coefficient y i) (pos 0) *ℤ e
more_at (High i) e y = int_min (coefficient y i) (pos 0) *ℤ e
more_at (Cost j) e y = pos 0
more_at (Coef i j) e y = pos 0
more_at (Lower j) e y = pos 0
more_at (Upper j) e y = pos 0

abbrev pub more_paid : Option (Place × ℤ) → List (ℕ × ℤ) → ℤ
more_paid None y = pos 0
more_paid (Some change) y = more_at change.0 change.1 y

-- the column whose reduced cost changes, and how much it rises
abbrev pub rise_at : Place → ℤ → ℤ → List (ℕ × ℤ) → Option (ℕ × ℤ)
rise_at (Cost j) e q y = Some (j, q *ℤ e)
rise_at (Coef i j) e q y = Some (j, pos 0 -ℤ coefficient y i *ℤ e)
rise_at (Low i) e q y = None
rise_at (High i) e q y = None
rise_at (Lower j) e q y = None
rise_at (Upper j) e q y = None

abbrev pub rise_of : Option (Place × ℤ) → ℤ → List (ℕ × ℤ) → Option (ℕ × ℤ)
rise_of None q y = None
rise_of (Some change) q y = rise_at change.0 change.1 q y

-- the rise of the reduced cost of a column
abbrev pub rise_in : Option (ℕ × ℤ) → ℕ → ℤ
rise_in None k = pos 0
rise_in (Some rise) k = if rise.0 == k then rise.1 else pos 0
