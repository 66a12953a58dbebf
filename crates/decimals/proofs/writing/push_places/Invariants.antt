use Rattle.std.proofs.Common.{◌≡◌, ◌++◌, ◌<◌, ◌^◌, string_bytes}
use Rattle.mps_defs.specs.Numbers.{places}
use Rattle.decimals.proofs.writing.push_places.Given as goal

abbrev pub invariant-loop-remaining : goal.invariant-loop-remaining
invariant-loop-remaining l = record {
  written : string_bytes l.fn.text ++ places l.fn.places l.fn.remainder ≡ string_bytes l.text ++ places l.left l.remaining;
  below : l.remaining < 10 ^ l.left;
}

abbrev pub decreases-loop-remaining : goal.decreases-loop-remaining
decreases-loop-remaining l = l.left
