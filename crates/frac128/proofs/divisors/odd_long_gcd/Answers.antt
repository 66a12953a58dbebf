use Rattle.std.proofs.Common.{rules}
use Rattle.std.specs.Int.{w128}
use Rattle.frac128.proofs.BinaryGcdLaws.{odd-pair-step, odd-pair-end}
use Rattle.frac128.proofs.divisors.odd_long_gcd.Goals as goal

pub loop-x-preserved : goal.loop-x-preserved
loop-x-preserved c = odd-pair-step w128 c.loop-x.x c.loop-x.y _ _ _ _ c.loop-x-test.true c.loop-x.invariant (search rules) (search rules)

pub returns : goal.returns
returns c = odd-pair-end w128 c.loop-x.x c.loop-x.y _ _ (search rules) c.loop-x.invariant
