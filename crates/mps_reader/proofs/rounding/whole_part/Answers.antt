use Rattle.std.specs.Prelude.{◌<◌, ◌/◌, ◌^◌}
use Rattle.std.proofs.Common.{sym, subst}
use Rattle.mps_reader.proofs.RoundingLaws.{whole_is_small}
use Rattle.mps_defs.proofs.NumberLaws.{ten_positive}
use Rattle.mps_reader.proofs.rounding.whole_part.Goals as goal

pub nonzero_div-result : goal.nonzero_div-result
nonzero_div-result c = subst (λ n. 0 < n) (sym c.in-Some.ensures.1) (ten_positive c.args.decimals)

pub returns-in-Some-clause-small : goal.returns-in-Some-clause-small
returns-in-Some-clause-small c =
    subst (λ n. c.args.absolute / n < 10 ^ 20) (sym c.in-Some.ensures.1) (whole_is_small c.args.absolute c.args.decimals c.requires)
