use Rattle.std.specs.Prelude.{length, ◌-◌}
use Rattle.std.proofs.Common.{arith, sym, ◌∙◌}
use Rattle.ip_model.proofs.StepLaws.{first_here, none_more}
use Rattle.sweep_proof.specs.CostRules.{rise_at}
use Rattle.sweep_proof.proofs.breaks.first_flat.Goals as goal

pub returns-in-Some : goal.returns-in-Some
returns-in-Some c = sym (first_here (rise_at c.args.breaks.now) (length c.args.breaks.now - 1) c.loop-k.k c.in-Some.fault
    c.loop-k.invariant (sym c.rise_at.ensures ∙ c.in-Some.is) (omega arith))

pub loop-k-preserved : goal.loop-k-preserved
loop-k-preserved c = none_more (rise_at c.args.breaks.now) c.loop-k.k c.loop-k.invariant (sym c.rise_at.ensures ∙ c.in_default.is)
