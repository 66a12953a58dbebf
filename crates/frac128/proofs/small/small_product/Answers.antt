use Rattle.std.proofs.Common.{rules, ◌≡◌, ◌∙◌, ap, sym, to_z, of_z, Ok}
use Rattle.std.specs.Int.{w128}
use Rattle.frac128.specs.Fractions.{Fraction, IsFraction, over_product, under_product}
use Rattle.frac128.proofs.SharedLaws.{small-product-fraction, small-product-is}
use Rattle.frac128.proofs.small.small_product.Goals as goal

pub fraction_of-requires : goal.fraction_of-requires
fraction_of-requires c =
    let first : IsFraction c.args.a.num c.args.a.den = search rules in
    let second : IsFraction c.args.c.num c.args.c.den = search rules in
    let numerator : to_z w128 (of_z w128 c.word_product.result) ≡ over_product c.args.a c.args.c = search rules in
    let under : to_z w128 (of_z w128 c.word_product-2.result) ≡ under_product c.args.a c.args.c = search rules in
    small-product-fraction c.args.a c.args.c first second c.requires.first c.requires.second _ _ numerator under

pub returns : goal.returns
returns c =
    let first : IsFraction c.args.a.num c.args.a.den = search rules in
    let second : IsFraction c.args.c.num c.args.c.den = search rules in
    let numerator : to_z w128 (of_z w128 c.word_product.result) ≡ over_product c.args.a c.args.c = search rules in
    let under : to_z w128 (of_z w128 c.word_product-2.result) ≡ under_product c.args.a c.args.c = search rules in
    ap (λ (r : Fraction). Ok r) c.fraction_of.ensures.value
    ∙ sym (small-product-is c.args.a c.args.c first second c.requires.first c.requires.second _ _ numerator under)
