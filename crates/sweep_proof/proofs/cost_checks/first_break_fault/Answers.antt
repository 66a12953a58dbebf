use Rattle.std.specs.Prelude.{length}
use Rattle.std.proofs.Common.{arith, ap, sym, ◌∙◌}
use Rattle.ip_model.proofs.StepLaws.{first_here}
use Rattle.sweep_proof.specs.CostRules.{break_fault}
use Rattle.sweep_proof.proofs.cost_checks.first_break_fault.Goals as goal

pub returns-in-Ok-Some-clause-fault : goal.returns-in-Ok-Some-clause-fault
returns-in-Ok-Some-clause-fault c =
    let same = ap length c.as_slice-k-end.ensures in
    sym (first_here (break_fault c.args.model.now c.args.dir.now c.args.sweep.now) (length c.args.sweep.now.breaks) c.loop-k.k
    c.in-Ok-Some.fault c.loop-k.invariant.none (sym c.in-Ok-Some.ensures.fault ∙ c.in-Ok-Some.field-0-is) (omega arith))
