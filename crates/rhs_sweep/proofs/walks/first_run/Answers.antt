use Rattle.std.proofs.Common.{refl, ◌∙◌}
use Rattle.rhs_sweep.proofs.BeginLaws.{first_solved}
use Rattle.rhs_sweep.proofs.walks.first_run.Goals as goal

pub returns-in-Ok-clause-begun : goal.returns-in-Ok-clause-begun
returns-in-Ok-clause-begun g c =
    let at = c.args.course.now in
    let is = first_solved at.model.now at.dir.now at.limits at.steps_to (record { made = c.from_vec.result; left = at.limits.nodes })
    c.in-Ok.solved (c.from_vec.ensures ∙ c.new.ensures.items) refl c.in-Ok.ensures.more in
    record {
      solved = is.solved;
      one = is.one;
      start = is.start;
      runs = c.new-in-Ok.ensures.items;
      run = refl;
      waiting = c.new-in-Ok-2.ensures.items;
    }
