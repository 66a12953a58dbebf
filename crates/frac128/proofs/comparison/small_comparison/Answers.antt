use Rattle.std.proofs.Common.{rules, ◌≡◌, ◌∙◌, ap, ◌*ℤ◌, to_z, of_z}
use Rattle.std.specs.Int.{w128}
use Rattle.std.specs.Ordering.{int_cmp}
use Rattle.frac128.proofs.comparison.small_comparison.Goals as goal

pub returns : goal.returns
returns c =
    let left : to_z w128 (of_z w128 c.word_product-left.result) ≡ c.args.a.num *ℤ c.args.c.den = search rules in
    let right : to_z w128 (of_z w128 c.word_product.result) ≡ c.args.c.num *ℤ c.args.a.den = search rules in
    let is : c.cmp.result ≡ int_cmp (to_z w128 (of_z w128 c.word_product-left.result)) (to_z w128 (of_z w128 c.word_product.result)) =
    search rules in
    is ∙ ap (λ z. int_cmp z (to_z w128 (of_z w128 c.word_product.result))) left ∙ ap (int_cmp (c.args.a.num *ℤ c.args.c.den)) right
