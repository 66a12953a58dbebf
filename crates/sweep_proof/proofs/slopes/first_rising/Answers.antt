use Rattle.std.specs.Prelude.{length, ◌-◌}
use Rattle.std.proofs.Common.{arith, sym, ◌∙◌}
use Rattle.ip_model.proofs.StepLaws.{first_here}
use Rattle.sweep_proof.specs.CostRules.{slope_at}
use Rattle.sweep_proof.proofs.slopes.first_rising.Goals as goal

pub returns-in-Some : goal.returns-in-Some
returns-in-Some c = sym (first_here (slope_at c.args.dir.now c.args.points.now) (length c.args.points.now - 1) c.loop-k.k
    c.in-Some.fault c.loop-k.invariant (sym c.slope_at.ensures ∙ c.in-Some.is) (omega arith))
