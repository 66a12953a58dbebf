use Rattle.std.proofs.Common.{◌≡◌, flat_map, drop}
use Rattle.std.specs.List.{enumerate_from}
use Rattle.ip_defs.specs.Lists.{first_of}
use Rattle.ip_defs.specs.Limits.{row_limits}
use Rattle.ip_model.proofs.limits.first_of_rows.Given as goal

abbrev pub invariant-loop-i : goal.invariant-loop-i
invariant-loop-i l = first_of (flat_map row_limits (enumerate_from 0 l.rows))
    ≡ first_of (flat_map row_limits (enumerate_from l.i (drop l.i l.rows)))
