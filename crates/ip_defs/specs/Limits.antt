-- The shape of integer programs, their limits, and the limits of certificates and boxes.
use Rattle.std.specs.Prelude.{◌≡◌, ◌≢◌, ℕ, ◌^◌, ◌≤◌, ◌<◌, nat_lt, Bool, false, ◌||◌, List, ◌++◌, length, flat_map, Some, slice_get}
use Rattle.std.specs.Prelude.{slice_index_or, sum_by, ℤ, pos, ◌≤ℤ◌}
use Rattle.std.specs.Int.RustNames.{unsigned_abs}
use Rattle.std.specs.List.{enumerate_from, list_any}
use Rattle.std.specs.Option.{ForSome, option_map_or}
use Rattle.ip_defs.specs.Lists.{when}
use Rattle.ip_defs.specs.declared.programs.Column.{Column}
use Rattle.ip_defs.specs.declared.programs.Row.{Row}
use Rattle.ip_defs.specs.declared.programs.Parts.{Parts}
use Rattle.ip_defs.specs.declared.certificates.Cert.{Cert}
use Rattle.ip_defs.specs.Program.{low_at, high_at}
use Rattle.ip_defs.specs.declared.limits.Limit.{Limit}
use Rattle.ip_defs.specs.declared.limits.What.{What}
use Rattle.ip_defs.specs.declared.limits.What.TheVariants.{Columns, Rows, Entries, Name, Cost, Lower, Upper, RowName, Coef, Side}
use Rattle.ip_defs.specs.declared.limits.What.TheVariants.{Objective, Constant}

-- the absolute value of a number is above a limit
abbrev pub exceeds : ℕ → ℤ → Bool
exceeds most z = nat_lt most (unsigned_abs z)

-- a limit of the column or row with this index, if a test says that it is exceeded
abbrev pub limit_at : Bool → What → ℕ → List Limit
limit_at test what index = when test (record { what = what; index = index })

-- a name has more than 255 bytes
abbrev pub is_long : List ℕ → Bool
is_long name = nat_lt 255 (length name)

-- the limits that a column exceeds, given its number
abbrev pub column_limits : ℕ × Column → List Limit
column_limits p =
    limit_at (is_long p.1.name) Name p.0 ++ limit_at (exceeds (2 ^ 40) p.1.cost) Cost p.0
    ++ limit_at (exceeds (2 ^ 24) p.1.lo) Lower p.0 ++ limit_at (exceeds (2 ^ 24) p.1.hi) Upper p.0

-- the limits that a row exceeds, given its number
abbrev pub row_limits : ℕ × Row → List Limit
row_limits p =
    limit_at (is_long p.1.name) RowName p.0 ++ limit_at (list_any (λ c. exceeds (2 ^ 40) c.1) p.1.coefs) Coef p.0
    ++ limit_at (option_map_or (exceeds (2 ^ 62)) p.1.low false || option_map_or (exceeds (2 ^ 62)) p.1.high false) Side p.0

-- the limits that a program exceeds, in the order in which they are tested
abbrev pub limits_of : Parts → List Limit
limits_of m =
    limit_at (nat_lt 4096 (length m.columns)) Columns 0 ++ limit_at (nat_lt 1024 (length m.rows)) Rows 0
    ++ limit_at (nat_lt 200000 (sum_by (λ r. length r.coefs) m.rows)) Entries 0
    ++ flat_map column_limits (enumerate_from 0 m.columns) ++ flat_map row_limits (enumerate_from 0 m.rows)
    ++ limit_at (is_long m.objective) Objective 0 ++ limit_at (exceeds (2 ^ 62) m.constant) Constant 0

-- the number and the value of the pair at an index of a list
abbrev pub index_at : List (ℕ × ℤ) → ℕ → ℕ
index_at ps i = (slice_index_or ps i (0, pos 0)).0

abbrev pub value_at : List (ℕ × ℤ) → ℕ → ℤ
value_at ps i = (slice_index_or ps i (0, pos 0)).1

-- pairs of a number and a value: the numbers increase and are below n, and no value is 0
pub record AreOrdered (n : ℕ) (ps : List (ℕ × ℤ)) : Type 0 where
  pub rising : (i k : ℕ) → i < k → k < length ps → index_at ps i < index_at ps k
  pub within : (i : ℕ) → i < length ps → index_at ps i < n
  pub present : (i : ℕ) → i < length ps → value_at ps i ≢ pos 0

-- no value of the pairs exceeds a limit in absolute value
abbrev pub AreSmall : ℕ → List (ℕ × ℤ) → Type 0
AreSmall most ps = (i : ℕ) → i < length ps → unsigned_abs (value_at ps i) ≤ most

-- a row of a program with n columns is well shaped: its column numbers increase and are below n, no coefficient is 0, and it has
-- at most 9 decimals
pub record IsRowShaped (n : ℕ) (r : Row) : Type 0 where
  pub decimals : r.decimals ≤ 9
  pub coefs : AreOrdered n r.coefs

-- a program is well shaped: its costs have at most 9 decimals, and each row is well shaped
pub record IsWellShaped (m : Parts) : Type 0 where
  pub decimals : m.cost_decimals ≤ 9
  pub rows : (i : ℕ) (r : Row) → slice_get m.rows i ≡ Some r → IsRowShaped (length m.columns) r

-- a column within its limits
pub record IsColumn (c : Column) : Type 0 where
  pub name : length c.name ≤ 255
  pub cost : unsigned_abs c.cost ≤ 2 ^ 40
  pub lo : unsigned_abs c.lo ≤ 2 ^ 24
  pub hi : unsigned_abs c.hi ≤ 2 ^ 24

-- a row within its limits
pub record IsRow (r : Row) : Type 0 where
  pub name : length r.name ≤ 255
  pub coefs : AreSmall (2 ^ 40) r.coefs
  pub low : ForSome r.low (λ side. unsigned_abs side ≤ 2 ^ 62)
  pub high : ForSome r.high (λ side. unsigned_abs side ≤ 2 ^ 62)

-- a program within its limits
pub record IsWithinLimits (m : Parts) : Type 0 where
  pub shape : IsWellShaped m
  pub column_count : length m.columns ≤ 4096
  pub row_count : length m.rows ≤ 1024
  pub entry_count : sum_by (λ r. length r.coefs) m.rows ≤ 200000
  pub objective : length m.objective ≤ 255
  pub constant : unsigned_abs m.constant ≤ 2 ^ 62
  pub columns : (j : ℕ) (c : Column) → slice_get m.columns j ≡ Some c → IsColumn c
  pub rows : (i : ℕ) (r : Row) → slice_get m.rows i ≡ Some r → IsRow r

-- a certificate within its limits, for programs with a given number of rows
pub record IsCert (rows : ℕ) (c : Cert) : Type 0 where
  pub not_negative : pos 0 ≤ℤ c.q
  pub divisor : c.q ≤ℤ pos (2 ^ 36)
  pub ordered : AreOrdered rows c.y
  pub multipliers : AreSmall (2 ^ 36) c.y

-- a box for n columns, each bound within its limit
pub record IsArea (n : ℕ) (b : List (ℤ × ℤ)) : Type 0 where
  pub size : length b ≡ n
  pub low : (j : ℕ) → j < n → unsigned_abs (low_at b j) ≤ 2 ^ 24
  pub high : (j : ℕ) → j < n → unsigned_abs (high_at b j) ≤ 2 ^ 24
