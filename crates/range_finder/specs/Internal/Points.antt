-- What a change of one number asks of a feasible point.
use Rattle.std.specs.Prelude.{◌≡◌, ℕ, List, Some, IfSome, slice_get, ℤ, ◌+ℤ◌, ◌*ℤ◌, ◌≤ℤ◌}
use Rattle.ip_defs.specs.Certificates.{coefs_of}
use Rattle.ip_defs.specs.Program.{at, row_sum}
use Rattle.ip_defs.specs.declared.programs.Row.{Row}
use Rattle.ip_defs.specs.declared.programs.Parts.{Parts}
use Rattle.ip_model.specs.declared.places.Place.{Place}
use Rattle.ip_model.specs.declared.places.Place.TheVariants.{Cost, Low, High, Coef, Lower, Upper}
use Rattle.ip_model.specs.Places.{number_of}

-- a value keeps the sides that a row has
abbrev pub KeepsSides : Row → ℤ → Type 0
KeepsSides r value = IfSome r.low (λ side. side ≤ℤ value) × IfSome r.high (λ side. value ≤ℤ side)

-- the value of a row of a program at a point
abbrev pub value_of : Parts → ℕ → List ℤ → ℤ
value_of m i x = row_sum (coefs_of (slice_get m.rows i)) x

-- a point keeps the sides of a row in which the coefficient of a column rose by e
abbrev pub KeepsRow : Parts → ℕ → ℕ → ℤ → List ℤ → Type 0
KeepsRow m i j e x = (r : Row) → slice_get m.rows i ≡ Some r → KeepsSides r (value_of m i x +ℤ e *ℤ at x j)

-- a point keeps to the number at a place after it rose by e: a bound or a side by one comparison, a coefficient by both sides of its row
abbrev pub Stays : Parts → Place → ℤ → List ℤ → Type 0
Stays m (Cost j) e x = Unit {0}
Stays m (Lower j) e x = (number_of m (Lower j) +ℤ e) ≤ℤ at x j
Stays m (Upper j) e x = at x j ≤ℤ (number_of m (Upper j) +ℤ e)
Stays m (Low i) e x = (number_of m (Low i) +ℤ e) ≤ℤ value_of m i x
Stays m (High i) e x = value_of m i x ≤ℤ (number_of m (High i) +ℤ e)
Stays m (Coef i j) e x = KeepsRow m i j e x
