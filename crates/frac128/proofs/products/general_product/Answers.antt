use Rattle.std.proofs.Common.{rules, ◌≡◌, to_z, of_z, Some}
use Rattle.std.specs.Int.{w128}
use Rattle.frac128.specs.Fractions.{product_of, IsFraction, within, over_product, under_product}
use Rattle.frac128.proofs.FractionLaws.{IsFraction-product}
use Rattle.frac128.proofs.products.general_product.Goals as goal

pub fraction_of-requires : goal.fraction_of-requires
fraction_of-requires c =
    let first : IsFraction c.args.a.num c.args.a.den = search rules in
    let second : IsFraction c.args.c.num c.args.c.den = search rules in
    let numerator : within (over_product c.args.a c.args.c) ≡ Some (to_z w128 (of_z w128 c.in-Some-Some.num)) = search rules in
    let under : within (under_product c.args.a c.args.c) ≡ Some (to_z w128 (of_z w128 c.in-Some-Some.den)) = search rules in
    IsFraction-product c.args.a.num c.args.a.den c.args.c.num c.args.c.den first second _ _ numerator under

pub returns-in-Some-Some : goal.returns-in-Some-Some
unfolding product_of
returns-in-Some-Some c = search rules

pub returns-in_default : goal.returns-in_default
unfolding product_of
returns-in_default c = search rules
