use Rattle.std.proofs.Common.{arith, ◌<◌, ◌^◌, ◌∙◌, sym, subst, ap}
use Rattle.dual_rays.specs.Multiples.{lcm}
use Rattle.dual_rays.specs.Certificates.{divisor_of}
use Rattle.frac128.specs.LowestTerms.{gcd-positive}
use Rattle.dual_rays.proofs.DenominatorLaws.{lcm-is, lcm-first_small}
use Rattle.dual_rays.proofs.LimitLaws.{divisor_none, divisor_some}
use Rattle.dual_rays.proofs.denominators.common.Goals as goal

pub nonzero_div-b : goal.nonzero_div-b
nonzero_div-b c = subst (λ z. 0 < z) (sym c.gcd.ensures.value) (gcd-positive c.args.a c.args.b c.requires.second)

pub returns-then-a-gt-LARGEST : goal.returns-then-a-gt-LARGEST
returns-then-a-gt-LARGEST c =
    let grows = lcm-first_small c.args.a c.args.b c.requires.first c.requires.second in
    let great = c.if-a-gt-LARGEST.true in
    divisor_none (lcm c.args.a c.args.b) (omega arith)

pub returns-then-multiple-gt-LARGEST : goal.returns-then-multiple-gt-LARGEST
returns-then-multiple-gt-LARGEST c =
    let is = c.product-multiple.ensures ∙ lcm-is c.args.a c.args.b c.gcd.result c.gcd.ensures.value in
    divisor_none (lcm c.args.a c.args.b) (subst (λ z. 2 ^ 36 < z) is c.if-multiple-gt-LARGEST.true)

pub returns-else-multiple-gt-LARGEST : goal.returns-else-multiple-gt-LARGEST
returns-else-multiple-gt-LARGEST c =
    let is = c.product-multiple.ensures ∙ lcm-is c.args.a c.args.b c.gcd.result c.gcd.ensures.value in
    divisor_some c.product-multiple.result c.if-multiple-gt-LARGEST.false ∙ ap divisor_of is
