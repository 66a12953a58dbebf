use Rattle.std.proofs.Common.{◌≡◌, ◌++◌, drop}
use Rattle.mps_reader.specs.Internal.Clamps.{clamped_coefs}
use Rattle.mps_reader.specs.Internal.Drafted.{drafted_coefs}
use Rattle.mps_reader.proofs.row_list.coefs_of.Given as goal

abbrev pub invariant-loop-entry : goal.invariant-loop-entry
invariant-loop-entry l =
    l.coefs.items ++ clamped_coefs (drafted_coefs l.decimals (drop l.entry-index l.entries)) ≡ clamped_coefs
    (drafted_coefs l.decimals l.entries)
