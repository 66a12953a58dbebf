use Rattle.std.proofs.Common.{◌≡◌, drop, map}
use Rattle.std.specs.Prelude.{string_bytes}
use Rattle.ip_defs.specs.Lists.{first_of}
use Rattle.mps_reader.specs.Internal.Drafted.{asked, column_faults}
use Rattle.mps_reader.proofs.column_rules.check_columns.Given as goal

abbrev pub invariant-loop-j : goal.invariant-loop-j
invariant-loop-j l =
    first_of (column_faults (asked l.rule l.how) (map string_bytes l.names) l.columns) ≡ first_of
    (column_faults (asked l.rule l.how) (drop l.j (map string_bytes l.names)) (drop l.j l.columns))
