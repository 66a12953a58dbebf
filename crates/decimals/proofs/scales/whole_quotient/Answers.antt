use Rattle.std.proofs.Common.{arith, ◌/◌, ◌^◌}
use Rattle.std.proofs.Math.Nat.{mul-div-le, mul-le-mul_right}
use Rattle.decimals.proofs.NumberLaws.{tens_rise}
use Rattle.decimals.proofs.scales.whole_quotient.Goals as goal

pub signed-requires : goal.signed-requires
signed-requires c =
    let dividend = c.unsigned_abs.result in
    let quotient = c.quotient_and_remainder-quotient.ensures.quotient in
    let ten = tens_rise 1 c.args.power c.requires in
    let below = mul-div-le dividend (10 ^ c.args.power) in
    let tenfold = mul-le-mul_right {m = 10} {n = 10 ^ c.args.power} (dividend / 10 ^ c.args.power) (omega (arith, ten)) in
    omega arith
