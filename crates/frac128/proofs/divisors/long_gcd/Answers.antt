use Rattle.std.proofs.Common.{arith, rules, ◌≡◌, ◌%◌, ◌∙◌}
use Rattle.std.specs.Int.{w128}
use Rattle.frac128.specs.Gcd.{gcd}
use Rattle.frac128.proofs.GcdLaws.{gcd-mod, gcd_comm}
use Rattle.frac128.proofs.BinaryGcdLaws.{odd_part, shifted-gcd, gcd_none_first, gcd_none_second}
use Rattle.frac128.proofs.divisors.long_gcd.Goals as goal

pub returns-then-a-eq0 : goal.returns-then-a-eq0
returns-then-a-eq0 c = gcd_none_first c.args.a c.args.b c.if-a-eq0.true

pub returns-then-b-eq0 : goal.returns-then-b-eq0
returns-then-b-eq0 c = gcd_none_second c.args.a c.args.b c.if-b-eq0.true

pub returns-then-b-le-WORD : goal.returns-then-b-le-WORD
returns-then-b-le-WORD c =
    let is : c.from.result ≡ gcd c.args.b (c.args.a % c.args.b) = search rules in
    is ∙ gcd-mod c.args.a c.args.b

pub returns-then-a-le-WORD : goal.returns-then-a-le-WORD
returns-then-a-le-WORD c =
    let is : c.from-then-a-le-WORD.result ≡ gcd c.args.a (c.args.b % c.args.a) = search rules in
    is ∙ gcd-mod c.args.b c.args.a ∙ gcd_comm c.args.b c.args.a

pub odd_long_gcd-requires-clause-first : goal.odd_long_gcd-requires-clause-first
odd_long_gcd-requires-clause-first c = odd_part w128 c.args.a (omega arith) (omega arith)

pub odd_long_gcd-requires-clause-second : goal.odd_long_gcd-requires-clause-second
odd_long_gcd-requires-clause-second c = odd_part w128 c.args.b (omega arith) (omega arith)

pub returns : goal.returns
returns c =
    let shifted = shifted-gcd w128 c.args.a c.args.b _ _ (omega arith) (omega arith) (omega arith) (omega arith) c.odd_long_gcd.ensures
    c.min.ensures in
    omega arith
