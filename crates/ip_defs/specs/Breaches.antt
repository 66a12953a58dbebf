-- The first bound or side that a point violates: columns before rows, each by number.
use Rattle.std.specs.Prelude.{◌≡◌, ℕ, if◌then◌else◌, ◌||◌, List, length, slice_get, ℤ, Bool, false, Option, Some, None}
use Rattle.std.specs.Int.Signed.{lt_z}
use Rattle.ip_defs.specs.Lists.{first}
use Rattle.std.specs.Option.{option_or}
use Rattle.ip_defs.specs.Program.{IsFeasible, at, box_of, low_at, high_at, row_sum}
use Rattle.ip_defs.specs.declared.programs.Row.{Row}
use Rattle.ip_defs.specs.declared.programs.Parts.{Parts}
use Rattle.ip_defs.specs.declared.programs.Breach.{Breach}
use Rattle.ip_defs.specs.declared.programs.Breach.TheVariants as Broken

-- the breach of a column: its coordinate lies outside its bounds
abbrev pub column_breach : List (ℤ × ℤ) → List ℤ → ℕ → Option Breach
column_breach b x j = if lt_z (at x j) (low_at b j) || lt_z (high_at b j) (at x j) then Some (Broken.Column j) else None

-- a value is below a low side, or above a high side, that exists
abbrev pub is_below_side : ℤ → Option ℤ → Bool
is_below_side v None = false
is_below_side v (Some side) = lt_z v side

abbrev pub is_above_side : ℤ → Option ℤ → Bool
is_above_side v None = false
is_above_side v (Some side) = lt_z side v

-- the breach of a row: its value lies outside its sides
abbrev pub row_breach : List ℤ → ℕ → Option Row → Option Breach
row_breach x i None = None
row_breach x i (Some r) =
    if is_below_side (row_sum r.coefs x) r.low || is_above_side (row_sum r.coefs x) r.high then Some (Broken.Row i) else None

-- the first column with a breach, else the first row with one
abbrev pub first_breach : Parts → List ℤ → Option Breach
first_breach m x = option_or
    (first (column_breach (box_of m) x) (length m.columns))
    (first (λ i. row_breach x i (slice_get m.rows i)) (length m.rows))

-- there is no breach exactly where the point is feasible
abbrev pub BreachesAreExact : Type 0
BreachesAreExact = (m : Parts) (x : List ℤ) → length x ≡ length m.columns →
    (first_breach m x ≡ None → IsFeasible m x) × (IsFeasible m x → first_breach m x ≡ None)
