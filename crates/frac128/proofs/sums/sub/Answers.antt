use Rattle.std.proofs.Common.{IfOk, sym, subst}
use Rattle.frac128.specs.Fractions.{Fraction}
use Rattle.frac128.specs.Values.{IsSum}
use Rattle.frac128.proofs.FractionLaws.{IfOk-difference, sum-exact}
use Rattle.frac128.proofs.sums.sub.Goals as goal

pub returns-clause-value : goal.returns-clause-value
returns-clause-value c =
    let exact = subst (λ r. IfOk r (IsSum c.args.a c.negated.result)) (sym c.sum.ensures.exact)
    (sum-exact c.args.a c.negated.result c.sum.ensures.first c.sum.ensures.second) in
    IfOk-difference c.args.a c.args.c c.sum.result (subst (λ (y : Fraction). IfOk c.sum.result (IsSum c.args.a y)) c.negated.ensures.exact
    exact)
