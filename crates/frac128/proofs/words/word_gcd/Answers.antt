use Rattle.std.proofs.Common.{arith}
use Rattle.std.specs.Int.{w64}
use Rattle.frac128.proofs.BinaryGcdLaws.{odd_part, shifted-gcd, gcd_none_first, gcd_none_second}
use Rattle.frac128.proofs.words.word_gcd.Goals as goal

pub odd_gcd-requires-clause-first : goal.odd_gcd-requires-clause-first
odd_gcd-requires-clause-first c = odd_part w64 c.args.a (omega arith) (omega arith)

pub odd_gcd-requires-clause-second : goal.odd_gcd-requires-clause-second
odd_gcd-requires-clause-second c = odd_part w64 c.args.b (omega arith) (omega arith)

pub returns-then-a-eq0 : goal.returns-then-a-eq0
returns-then-a-eq0 c = gcd_none_first c.args.a c.args.b c.if-a-eq0.true

pub returns-then-b-eq0 : goal.returns-then-b-eq0
returns-then-b-eq0 c = gcd_none_second c.args.a c.args.b c.if-b-eq0.true

pub returns : goal.returns
returns c =
    let shifted = shifted-gcd w64 c.args.a c.args.b _ _ (omega arith) (omega arith) (omega arith) (omega arith) c.odd_gcd.ensures
    c.min.ensures in
    omega arith
