use Rattle.std.proofs.Common.{arith, ap, ◌^◌, ℕ}
use Rattle.mps_defs.proofs.NumberLaws.{ten_positive}
use Rattle.decimals.proofs.writing.decimal_text.Goals as goal

pub push_fraction-requires : goal.push_fraction-requires
push_fraction-requires c =
    let positive = ten_positive c.args.decimals in
    let below = c.quotient_and_remainder-whole.ensures.remainder in
    let same = ap (λ (n : ℕ). 10 ^ n) c.from.ensures in
    omega arith
