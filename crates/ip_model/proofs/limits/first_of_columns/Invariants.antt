use Rattle.std.proofs.Common.{◌≡◌, flat_map, drop}
use Rattle.std.specs.List.{enumerate_from}
use Rattle.ip_defs.specs.Lists.{first_of}
use Rattle.ip_defs.specs.Limits.{column_limits}
use Rattle.ip_model.proofs.limits.first_of_columns.Given as goal

abbrev pub invariant-loop-j : goal.invariant-loop-j
invariant-loop-j l = first_of (flat_map column_limits (enumerate_from 0 l.columns))
    ≡ first_of (flat_map column_limits (enumerate_from l.j (drop l.j l.columns)))
