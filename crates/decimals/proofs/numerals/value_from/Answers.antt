use Rattle.std.proofs.Common.{arith, ◌≡◌, ◌≤◌, ◌-◌, length, get_or}
use Rattle.decimals.proofs.NumberLaws.{digit_at, digit_room, value_more}
use Rattle.decimals.proofs.numerals.value_from.Goals as goal

pub overflow_mul-value : goal.overflow_mul-value
overflow_mul-value c =
    let fits =
    digit_room c.args.start c.loop-digit.value c.loop-digit.digit-index
    (length c.args.digits.now) 0 c.loop-digit.invariant.small c.loop-digit-test.true (omega arith) in
    let most = c.requires.fits in
    omega arith

pub overflow_add-value : goal.overflow_add-value
overflow_add-value c =
    let digit = digit_at c.args.digits.now c.loop-digit.digit-index c.requires.digits c.loop-digit-test.true in
    let is = c.from.ensures in
    let small : c.from.result ≤ 9 = omega arith in
    let fits =
    digit_room c.args.start c.loop-digit.value c.loop-digit.digit-index
    (length c.args.digits.now) c.from.result c.loop-digit.invariant.small c.loop-digit-test.true small in
    let most = c.requires.fits in
    omega arith

pub loop-digit-preserved : goal.loop-digit-preserved
loop-digit-preserved c =
    let ds = c.args.digits.now in
    let i = c.loop-digit.digit-index in
    let digit = digit_at ds i c.requires.digits c.loop-digit-test.true in
    let is : c.from.result ≡ get_or ds i 0 - 48 = c.from.ensures in
    let small : c.from.result ≤ 9 = omega arith in
    let fits =
    digit_room c.args.start c.loop-digit.value i (length ds) c.from.result c.loop-digit.invariant.small c.loop-digit-test.true small in
    let more = value_more c.args.start ds i c.loop-digit-test.true in
    let before = c.loop-digit.invariant.value in
    record { value = omega arith; small = fits.0 }
