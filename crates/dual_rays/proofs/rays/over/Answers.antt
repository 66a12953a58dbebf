use Rattle.std.proofs.Common.{sym, ◌∙◌}
use Rattle.dual_rays.proofs.QuotientLaws.{wide-quotient}
use Rattle.dual_rays.proofs.rays.over.Goals as goal

pub returns-in-Err : goal.returns-in-Err
returns-in-Err c = wide-quotient c.args.x c.args.divisor c.in-Err.field-0 c.num.ensures.fraction c.num-2.ensures.fraction c.requires
    (sym c.div.ensures.exact ∙ c.in-Err.is)
