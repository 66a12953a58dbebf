-- Places of a program: the number at a place, its limit, and the program in which that number alone is changed.
use Rattle.std.specs.Prelude.{ℕ, zero, suc, ◌^◌, ◌<◌, ◌≢◌, ◌==◌, nat_lt, if◌then◌else◌, List, [], ◌∷◌, length}
use Rattle.std.specs.Prelude.{Option, Some, None, slice_get, option_map, option_and_then, ℤ, pos, negsuc, ◌+ℤ◌}
use Rattle.ip_defs.specs.Program.{at, box_of, costs_of, low_at, high_at}
use Rattle.ip_defs.specs.Certificates.{coefficient_of}
use Rattle.ip_defs.specs.declared.programs.Column.{Column}
use Rattle.ip_defs.specs.declared.programs.Row.{Row}
use Rattle.ip_defs.specs.declared.programs.Parts.{Parts}
use Rattle.ip_model.specs.declared.places.Place.{Place}
use Rattle.ip_model.specs.declared.places.Place.TheVariants.{Cost, Low, High, Coef, Lower, Upper}

-- a list with one element changed, and as it was where there is no such element
abbrev pub changed_at : {A : Type 0} → (A → A) → ℕ → List A → List A
changed_at f j [] = []
changed_at f zero (x ∷ xs) = f x ∷ xs
changed_at f (suc j) (x ∷ xs) = x ∷ changed_at f j xs

-- a coefficient for a column before others; 0 is not listed
abbrev pub listed : ℕ → ℤ → List (ℕ × ℤ) → List (ℕ × ℤ)
listed j (pos zero) ps = ps
listed j (pos (suc n)) ps = (j, pos (suc n)) ∷ ps
listed j (negsuc n) ps = (j, negsuc n) ∷ ps

-- coefficients in the order of their columns, with that of one column changed; one that is not listed is 0
abbrev pub changed_coefs : ℕ → (ℤ → ℤ) → List (ℕ × ℤ) → List (ℕ × ℤ)
changed_coefs j f [] = listed j (f (pos 0)) []
changed_coefs j f (p ∷ ps) =
    if p.0 == j then listed j (f p.1) ps else if nat_lt j p.0 then listed j (f (pos 0)) (p ∷ ps) else p ∷ changed_coefs j f ps

-- a column or a row with one number changed; a side that is absent stays absent
abbrev pub with_cost : (ℤ → ℤ) → Column → Column
with_cost f c = record { name = c.name; cost = f c.cost; lo = c.lo; hi = c.hi }

abbrev pub with_lower : (ℤ → ℤ) → Column → Column
with_lower f c = record { name = c.name; cost = c.cost; lo = f c.lo; hi = c.hi }

abbrev pub with_upper : (ℤ → ℤ) → Column → Column
with_upper f c = record { name = c.name; cost = c.cost; lo = c.lo; hi = f c.hi }

abbrev pub with_low : (ℤ → ℤ) → Row → Row
with_low f r = record { name = r.name; decimals = r.decimals; coefs = r.coefs; low = option_map f r.low; high = r.high }

abbrev pub with_high : (ℤ → ℤ) → Row → Row
with_high f r = record { name = r.name; decimals = r.decimals; coefs = r.coefs; low = r.low; high = option_map f r.high }

abbrev pub with_coef : ℕ → (ℤ → ℤ) → Row → Row
with_coef j f r = record { name = r.name; decimals = r.decimals; coefs = changed_coefs j f r.coefs; low = r.low; high = r.high }

-- a program with other columns or rows
abbrev pub with_columns : Parts → List Column → Parts
with_columns m cs =
    record { objective = m.objective; cost_decimals = m.cost_decimals; constant = m.constant; columns = cs; rows = m.rows }

abbrev pub with_rows : Parts → List Row → Parts
with_rows m rs =
    record { objective = m.objective; cost_decimals = m.cost_decimals; constant = m.constant; columns = m.columns; rows = rs }

-- the program in which the number at a place is changed by f, and nothing else
abbrev pub changed : Parts → Place → (ℤ → ℤ) → Parts
changed m (Cost j) f = with_columns m (changed_at (with_cost f) j m.columns)
changed m (Lower j) f = with_columns m (changed_at (with_lower f) j m.columns)
changed m (Upper j) f = with_columns m (changed_at (with_upper f) j m.columns)
changed m (Low i) f = with_rows m (changed_at (with_low f) i m.rows)
changed m (High i) f = with_rows m (changed_at (with_high f) i m.rows)
changed m (Coef i j) f = with_rows m (changed_at (with_coef j f) i m.rows)

-- the program with the number at a place raised
abbrev pub raised : Parts → Place → ℤ → Parts
raised m place e = changed m place (λ z. z +ℤ e)

-- a place exists in a program: its column or row does, and the side of a row; the place of a coefficient that is 0 does too
abbrev pub Exists : Parts → Place → Type 0
Exists m (Cost j) = j < length m.columns
Exists m (Lower j) = j < length m.columns
Exists m (Upper j) = j < length m.columns
Exists m (Low i) = option_and_then (λ r. r.low) (slice_get m.rows i) ≢ None
Exists m (High i) = option_and_then (λ r. r.high) (slice_get m.rows i) ≢ None
Exists m (Coef i j) = (i < length m.rows) × (j < length m.columns)

-- the number of an option, and 0 of none
abbrev pub or_zero : Option ℤ → ℤ
or_zero None = pos 0
or_zero (Some z) = z

-- the number at a place
abbrev pub number_of : Parts → Place → ℤ
number_of m (Cost j) = at (costs_of m) j
number_of m (Lower j) = low_at (box_of m) j
number_of m (Upper j) = high_at (box_of m) j
number_of m (Low i) = or_zero (option_and_then (λ r. r.low) (slice_get m.rows i))
number_of m (High i) = or_zero (option_and_then (λ r. r.high) (slice_get m.rows i))
number_of m (Coef i j) = coefficient_of m.rows i j

-- the limit of the absolute value of the number at a place
abbrev pub limit_of : Place → ℕ
limit_of (Cost j) = 2 ^ 40
limit_of (Lower j) = 2 ^ 24
limit_of (Upper j) = 2 ^ 24
limit_of (Low i) = 2 ^ 62
limit_of (High i) = 2 ^ 62
limit_of (Coef i j) = 2 ^ 40
