-- Programs with every number cut to one that fits 64 bits and exceeds the same limits.
use Rattle.std.specs.Prelude.{ℕ, ◌+◌, ◌^◌, List, map, Option, option_map, ℤ, pos, neg_ℤ}
use Rattle.std.specs.Int.{int_min, int_max}
use Rattle.ip_defs.specs.declared.programs.Column.{Column}
use Rattle.ip_defs.specs.declared.programs.Row.{Row}
use Rattle.ip_defs.specs.declared.programs.Parts.{Parts}

-- the least number that exceeds each limit
abbrev pub beyond : ℤ
beyond = pos (2 ^ 62 + 1)

-- the number, or one of its sign that exceeds each limit too
abbrev pub clamped : ℤ → ℤ
clamped z = int_max (neg_ℤ beyond) (int_min z beyond)

abbrev pub clamped_column : Column → Column
clamped_column c = record c { cost = clamped c.cost; lo = clamped c.lo; hi = clamped c.hi }

abbrev pub clamped_coefs : List (ℕ × ℤ) → List (ℕ × ℤ)
clamped_coefs ps = map (λ p. (p.0, clamped p.1)) ps

abbrev pub clamped_row : Row → Row
clamped_row r = record r { coefs = clamped_coefs r.coefs; low = option_map clamped r.low; high = option_map clamped r.high }

abbrev pub clamped_parts : Parts → Parts
clamped_parts m =
    record m { constant = clamped m.constant; columns = map clamped_column m.columns; rows = map clamped_row m.rows }

abbrev pub clamped_sides : Option ℤ × Option ℤ → Option ℤ × Option ℤ
clamped_sides s = (option_map clamped s.0, option_map clamped s.1)
