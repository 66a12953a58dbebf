use Rattle.std.proofs.Common.{arith, ap, ◌∙◌, length}
use Rattle.std.proofs.lemmas.Int.{ints}
use Rattle.std.specs.List.{list_all}
use Rattle.mps_defs.specs.Numbers.{is_digit, without_sign}
use Rattle.decimals.proofs.NumberLaws.{exponent_digits, tens_rise}
use Rattle.decimals.proofs.numbers.exponent_of.Goals as goal

pub value_from-requires-clause-digits : goal.value_from-requires-clause-digits
value_from-requires-clause-digits c =
    ap (list_all is_digit) (c.without_sign.ensures ∙ ap without_sign c.exponent_part-exponent.ensures)
    ∙ (exponent_digits c.args.body.now c.requires).0

pub value_from-requires-clause-fits : goal.value_from-requires-clause-fits
value_from-requires-clause-fits c =
    let same = ap length (c.without_sign.ensures ∙ ap without_sign c.exponent_part-exponent.ensures) in
    let few = (exponent_digits c.args.body.now c.requires).1 in
    let within = tens_rise (length c.without_sign.result.now) 4 (omega arith) in
    omega arith

pub signed-requires : goal.signed-requires
signed-requires c =
    let same = ap length (c.without_sign.ensures ∙ ap without_sign c.exponent_part-exponent.ensures) in
    let few = (exponent_digits c.args.body.now c.requires).1 in
    let within = tens_rise (length c.without_sign.result.now) 4 (omega arith) in
    let small = c.value_from.ensures.small in
    omega arith

pub returns-clause-small : goal.returns-clause-small
returns-clause-small c =
    let same = ap length (c.without_sign.ensures ∙ ap without_sign c.exponent_part-exponent.ensures) in
    let few = (exponent_digits c.args.body.now c.requires).1 in
    let within = tens_rise (length c.without_sign.result.now) 4 (omega arith) in
    let small = c.value_from.ensures.small in
    let absolute = c.signed.ensures.absolute in
    omega (arith, ints)
