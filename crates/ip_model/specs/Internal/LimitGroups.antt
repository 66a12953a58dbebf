-- The limits of a program as a whole, in the order in which they are tested.
use Rattle.std.specs.Prelude.{◌^◌, nat_lt, List, ◌++◌, length, sum_by}
use Rattle.ip_defs.specs.Limits.{exceeds, limit_at, is_long}
use Rattle.ip_defs.specs.declared.programs.Parts.{Parts}
use Rattle.ip_defs.specs.declared.limits.Limit.{Limit}
use Rattle.ip_defs.specs.declared.limits.What.TheVariants.{Columns, Rows, Entries, Objective, Constant}

-- the counts, which come before all columns and rows
abbrev pub count_limits : Parts → List Limit
count_limits m = limit_at (nat_lt 4096 (length m.columns)) Columns 0 ++ limit_at (nat_lt 1024 (length m.rows)) Rows 0
    ++ limit_at (nat_lt 200000 (sum_by (λ r. length r.coefs) m.rows)) Entries 0

-- the objective's name and the constant, which come after them
abbrev pub own_limits : Parts → List Limit
own_limits m = limit_at (is_long m.objective) Objective 0 ++ limit_at (exceeds (2 ^ 62) m.constant) Constant 0
