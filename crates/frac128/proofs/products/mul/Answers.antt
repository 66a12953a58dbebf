use Rattle.std.proofs.Common.{sym, subst, IfOk}
use Rattle.frac128.specs.Values.{IsProduct}
use Rattle.frac128.proofs.FractionLaws.{product-exact}
use Rattle.frac128.proofs.products.mul.Goals as goal

pub returns-clause-value : goal.returns-clause-value
returns-clause-value c = subst (λ r. IfOk r (IsProduct c.args.a c.args.c)) (sym c.product.ensures.exact)
    (product-exact c.args.a c.args.c c.product.ensures.first c.product.ensures.second)
