use Rattle.std.proofs.Common.{◌+◌}
use Rattle.std.specs.Int.{w128}
use Rattle.frac128.proofs.BinaryGcdLaws.{IsOddPair}
use Rattle.frac128.proofs.divisors.odd_long_gcd.Given as goal

abbrev pub invariant-loop-x : goal.invariant-loop-x
invariant-loop-x l = IsOddPair w128 l.x l.y l.fn.a l.fn.b

abbrev pub decreases-loop-x : goal.decreases-loop-x
decreases-loop-x l = l.x + l.y
