use Rattle.std.proofs.Common.{◌∙◌}
use Rattle.rhs_sweep.proofs.EndLaws.{walk_ended}
use Rattle.rhs_sweep.proofs.SolveLaws.{all_solves}
use Rattle.rhs_sweep.proofs.sweeps.answer.Goals as goal

pub row_sweep_of-requires-clause-solves : goal.row_sweep_of-requires-clause-solves
row_sweep_of-requires-clause-solves c =
    let at = c.args.course.now in
    all_solves at.model.now at.dir.now at.limits at.steps_to c.args.walk.solved.made c.requires.walking.solved.right

pub row_sweep_of-requires-clause-runs : goal.row_sweep_of-requires-clause-runs
row_sweep_of-requires-clause-runs c =
    let at = c.args.course.now in
    (walk_ended at.model.now at.dir.now at.limits at.steps_to c.args.walk c.as_slice.result.now c.requires.walking c.requires.done
    (c.as_slice.ensures.value ∙ c.in-Ok.ensures.items)).runs

pub row_sweep_of-requires-clause-ends : goal.row_sweep_of-requires-clause-ends
row_sweep_of-requires-clause-ends c =
    let at = c.args.course.now in
    (walk_ended at.model.now at.dir.now at.limits at.steps_to c.args.walk c.as_slice.result.now c.requires.walking c.requires.done
    (c.as_slice.ensures.value ∙ c.in-Ok.ensures.items)).ends
