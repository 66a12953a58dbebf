use Rattle.std.proofs.Common.{sym, subst}
use Rattle.std.specs.Int.{IsGcd}
use Rattle.frac128.proofs.GcdLaws.{gcd-is}
use Rattle.frac128.proofs.divisors.gcd.Goals as goal

pub returns-clause-greatest : goal.returns-clause-greatest
returns-clause-greatest c = subst (IsGcd c.args.a c.args.b) (sym c.long_gcd.ensures) (gcd-is c.args.a c.args.b)
