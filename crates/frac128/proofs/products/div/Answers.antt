use Rattle.std.proofs.Common.{IfOk, sym, subst}
use Rattle.frac128.specs.Fractions.{Fraction}
use Rattle.frac128.specs.Values.{IsProduct}
use Rattle.frac128.proofs.FractionLaws.{IfOk-quotient, product-exact}
use Rattle.frac128.proofs.products.div.Goals as goal

pub returns-clause-value : goal.returns-clause-value
returns-clause-value c =
    let exact = subst (λ r. IfOk r (IsProduct c.args.a c.reciprocal.result)) (sym c.product.ensures.exact)
    (product-exact c.args.a c.reciprocal.result c.product.ensures.first c.product.ensures.second) in
    IfOk-quotient c.args.a c.args.c c.product.result c.reciprocal.ensures.fraction c.requires
    (subst (λ (y : Fraction). IfOk c.product.result (IsProduct c.args.a y)) c.reciprocal.ensures.value exact)
