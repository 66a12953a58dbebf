use Rattle.std.proofs.Common.{◌≡◌, ◌≤◌, ◌+◌, ◌*◌, ◌^◌, take}
use Rattle.mps_defs.specs.Numbers.{value_from}
use Rattle.decimals.proofs.numerals.value_from.Given as goal

abbrev pub invariant-loop-digit : goal.invariant-loop-digit
invariant-loop-digit l = record {
  value : l.value ≡ value_from l.start (take l.digit-index l.digits);
  small : l.value + 1 ≤ (l.start + 1) * 10 ^ l.digit-index;
}
