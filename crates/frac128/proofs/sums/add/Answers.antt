use Rattle.std.proofs.Common.{sym, subst, IfOk}
use Rattle.frac128.specs.Values.{IsSum}
use Rattle.frac128.proofs.FractionLaws.{sum-exact}
use Rattle.frac128.proofs.sums.add.Goals as goal

pub returns-clause-value : goal.returns-clause-value
returns-clause-value c = subst (λ r. IfOk r (IsSum c.args.a c.args.c)) (sym c.sum.ensures.exact)
    (sum-exact c.args.a c.args.c c.sum.ensures.first c.sum.ensures.second)
