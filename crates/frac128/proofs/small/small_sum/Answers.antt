use Rattle.std.proofs.Common.{rules, refl, ◌≡◌, ◌∙◌, ap, sym, ◌+ℤ◌, to_z, of_z, Ok}
use Rattle.std.specs.Int.{w64, w128}
use Rattle.std.proofs.lemmas.Int.{fits_signed_from_abs}
use Rattle.frac128.specs.Fractions.{Fraction, IsFraction, shared, left_of_sum, right_of_sum, under_sum}
use Rattle.frac128.proofs.SharedLaws.{small-sum-positive, small-sum-fits, small-sum-shared, small-sum-is}
use Rattle.frac128.proofs.small.small_sum.Goals as goal

pub total-sum-requires : goal.total-sum-requires
total-sum-requires c =
    let first : IsFraction c.args.a.num c.args.a.den = search rules in
    let second : IsFraction c.args.c.num c.args.c.den = search rules in
    let left : to_z w128 (of_z w128 c.word_product.result) ≡ left_of_sum c.args.a c.args.c = search rules in
    let right : to_z w128 (of_z w128 c.word_product-2.result) ≡ right_of_sum c.args.a c.args.c = search rules in
    let sum = to_z w128 (of_z w128 c.word_product.result) +ℤ to_z w128 (of_z w128 c.word_product-2.result) in
    let numerator : sum ≡ left_of_sum c.args.a c.args.c +ℤ right_of_sum c.args.a c.args.c = cc in
    fits_signed_from_abs w128 sum (small-sum-fits c.args.a c.args.c first second c.requires.first c.requires.second _ _ numerator refl)

pub divided_by_word-requires-clause-positive : goal.divided_by_word-requires-clause-positive
divided_by_word-requires-clause-positive c =
    let under : to_z w128 (of_z w128 c.word_product-3.result) ≡ under_sum c.args.a c.args.c = search rules in
    small-sum-positive c.args.a c.args.c (search rules) (search rules) c.requires.first c.requires.second _ _ refl under

pub divided_by_word-requires-clause-num_fits : goal.divided_by_word-requires-clause-num_fits
divided_by_word-requires-clause-num_fits c =
    let numerator : to_z w128 (of_z w128 c.total-sum.result) ≡ left_of_sum c.args.a c.args.c +ℤ right_of_sum c.args.a c.args.c =
    search rules in
    small-sum-fits c.args.a c.args.c (search rules) (search rules) c.requires.first c.requires.second _ _ numerator refl

pub divided_by_word-requires-clause-factor : goal.divided_by_word-requires-clause-factor
divided_by_word-requires-clause-factor c =
    let first : IsFraction c.args.a.num c.args.a.den = search rules in
    let second : IsFraction c.args.c.num c.args.c.den = search rules in
    let numerator : to_z w128 (of_z w128 c.total-sum.result) ≡ left_of_sum c.args.a c.args.c +ℤ right_of_sum c.args.a c.args.c =
    search rules in
    let under : to_z w128 (of_z w128 c.word_product-3.result) ≡ under_sum c.args.a c.args.c = search rules in
    let factor : to_z w64 (of_z w64 c.shared_factor.result)
    ≡ shared (to_z w128 (of_z w128 c.total-sum.result)) (shared c.args.a.den c.args.c.den) = search rules in
    factor ∙ small-sum-shared c.args.a c.args.c first second c.requires.first c.requires.second _ _ numerator under

pub returns : goal.returns
returns c =
    let first : IsFraction c.args.a.num c.args.a.den = search rules in
    let second : IsFraction c.args.c.num c.args.c.den = search rules in
    let numerator : to_z w128 (of_z w128 c.total-sum.result) ≡ left_of_sum c.args.a c.args.c +ℤ right_of_sum c.args.a c.args.c =
    search rules in
    let under : to_z w128 (of_z w128 c.word_product-3.result) ≡ under_sum c.args.a c.args.c = search rules in
    ap (λ (r : Fraction). Ok r) c.divided_by_word.ensures ∙ sym (small-sum-is c.args.a c.args.c first second c.requires.first
    c.requires.second _ _ numerator under)
