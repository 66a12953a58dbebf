use Rattle.std.proofs.Common.{arith}
use Rattle.mps_defs.proofs.NumberLaws.{ten_positive}
use Rattle.decimals.proofs.scales.quotient_and_remainder.Goals as goal

pub nonzero_div-result : goal.nonzero_div-result
nonzero_div-result c = let some = ten_positive c.args.power in let is = c.in-Some.ensures.1 in omega arith

pub nonzero_rem-result : goal.nonzero_rem-result
nonzero_rem-result c = let some = ten_positive c.args.power in let is = c.in-Some.ensures.1 in omega arith
