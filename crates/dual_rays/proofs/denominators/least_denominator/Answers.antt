use Rattle.std.proofs.Common.{arith, ◌+◌, ◌<◌, ◌∙◌, sym, subst}
use Rattle.dual_rays.specs.Multiples.{lcm, common_denominator}
use Rattle.dual_rays.specs.Certificates.{values}
use Rattle.dual_rays.proofs.DenominatorLaws.{denominator-next, denominator-prefix, lcm-positive}
use Rattle.dual_rays.proofs.LimitLaws.{divisor_none, divisor_past, divisor_within}
use Rattle.dual_rays.proofs.denominators.least_denominator.Goals as goal

pub returns-in-None : goal.returns-in-None
returns-in-None c =
    let xs = c.args.prices.now in
    let i = c.loop-price.price-index in
    let next = denominator-next xs i c.price-item.result c.denominator.result c.loop-price.q c.loop-price-test.true c.price-item.is
    c.denominator.ensures c.loop-price.invariant.is in
    let past = divisor_past (lcm c.denominator.result c.loop-price.q) (sym c.common.ensures ∙ c.in-None.is) in
    let grows = denominator-prefix xs (i + 1) in
    divisor_none (common_denominator (values xs)) (omega (arith, next))

pub loop-price-preserved : goal.loop-price-preserved
loop-price-preserved c =
    let xs = c.args.prices.now in
    let i = c.loop-price.price-index in
    let q = c.loop-price.q in
    let d = c.denominator.result in
    let next = denominator-next xs i c.price-item.result d q c.loop-price-test.true c.price-item.is c.denominator.ensures
    c.loop-price.invariant.is in
    let within = divisor_within (lcm d q) c.in-Some.more (sym c.common.ensures ∙ c.in-Some.is) in
    let positive : 0 < d = subst (λ z. 0 < z) (sym c.denominator.ensures) (omega arith) in
    record {
      is = within.0 ∙ next;
      positive = subst (λ z. 0 < z) (sym within.0) (lcm-positive d q positive c.loop-price.invariant.positive);
      small = within.1;
    }
