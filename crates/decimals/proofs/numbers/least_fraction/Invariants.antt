use Rattle.std.proofs.Common.{◌≡◌, ◌≤◌}
use Rattle.mps_defs.specs.Numbers.{least_decimals}
use Rattle.decimals.proofs.DecimalLaws.{least_units}
use Rattle.decimals.proofs.numbers.least_fraction.Given as goal

abbrev pub invariant-loop-places : goal.invariant-loop-places
invariant-loop-places l = record {
  units : least_units l.units l.places ≡ least_units l.absolute l.decimals;
  decimals : least_decimals l.units l.places ≡ least_decimals l.absolute l.decimals;
  small : l.units ≤ l.absolute;
}

abbrev pub decreases-loop-places : goal.decreases-loop-places
decreases-loop-places l = l.places
