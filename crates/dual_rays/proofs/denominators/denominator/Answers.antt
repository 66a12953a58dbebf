use Rattle.std.proofs.Common.{rules, ap, ◌∙◌}
use Rattle.std.specs.Prelude.{unsigned_abs}
use Rattle.std.specs.Int.{w128}
use Rattle.std.proofs.lemmas.Int.{to_z-of_z}
use Rattle.frac128.proofs.SignLaws.{value_denominator}
use Rattle.dual_rays.proofs.denominators.denominator.Goals as goal

pub returns : goal.returns
returns c =
    c.unsigned_abs.ensures.value
    ∙ ap unsigned_abs (to_z-of_z w128 c.den.result (search rules) ∙ c.den.ensures.value)
    ∙ value_denominator c.args.x c.den.ensures.fraction
