use Rattle.std.proofs.Common.{arith, ap, sym, ◌∙◌, ◌≤◌, ◌+◌, ◌*◌, ◌^◌, length, ℕ}
use Rattle.std.proofs.Math.Nat.{mul-le-mul_right}
use Rattle.std.proofs.lemmas.Nat.{pow-add}
use Rattle.mps_defs.specs.Numbers.{whole_part, fraction_part, value_from}
use Rattle.decimals.proofs.NumberLaws.{digits_short, tens_rise, value_from-append}
use Rattle.decimals.proofs.numbers.digits_of.Goals as goal

-- digits after digits are below a power of ten
fits : (v w r : ℕ) → v + 1 ≤ 10 ^ w → w + r ≤ 32 → (v + 1) * 10 ^ r ≤ 10 ^ 32
fits v w r h short =
    let more = mul-le-mul_right {m = v + 1} {n = 10 ^ w} (10 ^ r) h in
    let sum = pow-add 10 w r in
    let within = tens_rise (w + r) 32 short in
    omega arith

pub value_from-requires-clause-fits : goal.value_from-requires-clause-fits
value_from-requires-clause-fits c =
    let short = digits_short c.args.body.now in
    let same = ap length c.whole_part.ensures in
    let most = c.requires.short in
    let within = tens_rise (length c.whole_part.result.now) 32 (omega arith) in
    omega arith

pub value_from-requires-2-clause-fits : goal.value_from-requires-2-clause-fits
value_from-requires-2-clause-fits c =
    let short = digits_short c.args.body.now in
    let same = ap length c.whole_part.ensures in
    let same' = ap length c.fraction_part.ensures in
    let most = c.requires.short in
    let small = c.value_from.ensures.small in
    let within = fits c.value_from.result (length c.whole_part.result.now) (length c.fraction_part.result.now) (omega arith)
    (omega arith) in
    omega arith

pub returns-clause-value : goal.returns-clause-value
returns-clause-value c =
    c.value_from-2.ensures.value
    ∙ ap (λ (v : ℕ). value_from v c.fraction_part.result.now) (c.value_from.ensures.value ∙ ap (value_from 0) c.whole_part.ensures)
    ∙ ap (value_from (value_from 0 (whole_part c.args.body.now))) c.fraction_part.ensures
    ∙ sym (value_from-append 0 (whole_part c.args.body.now) (fraction_part c.args.body.now))

pub returns-clause-small : goal.returns-clause-small
returns-clause-small c =
    let short = digits_short c.args.body.now in
    let same = ap length c.whole_part.ensures in
    let same' = ap length c.fraction_part.ensures in
    let most = c.requires.short in
    let small = c.value_from.ensures.small in
    let small' = c.value_from-2.ensures.small in
    let within = fits c.value_from.result (length c.whole_part.result.now) (length c.fraction_part.result.now) (omega arith)
    (omega arith) in
    omega arith
