use Rattle.std.specs.Prelude.{length}
use Rattle.std.proofs.Common.{sym, ◌∙◌}
use Rattle.ip_model.proofs.StepLaws.{first_here}
use Rattle.sweep_proof.specs.CostRules.{breach_at}
use Rattle.sweep_proof.proofs.slopes.first_breached.Goals as goal

pub returns-in-Some : goal.returns-in-Some
returns-in-Some c = sym (first_here (breach_at c.args.model.now c.args.points.now) (length c.args.points.now) c.loop-k.k
    c.in-Some.fault c.loop-k.invariant (sym c.breach_at.ensures ∙ c.in-Some.is) c.loop-k-test.true)
