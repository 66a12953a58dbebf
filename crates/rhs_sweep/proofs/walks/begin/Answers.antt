use Rattle.std.proofs.lemmas.Result.{IfErr-weaker}
use Rattle.rhs_sweep.proofs.BeginLaws.{at_stop, first_few, last_next, walk_of_two}
use Rattle.rhs_sweep.proofs.ResultLaws.{ok_of_both}
use Rattle.rhs_sweep.proofs.walks.begin.Goals as goal

pub returns-else-course-eq0-clause-walking : goal.returns-else-course-eq0-clause-walking
returns-else-course-eq0-clause-walking g c =
    let at = c.args.course.now in
    ok_of_both c.solved_at.result _ _ _
    (λ v more waits. walk_of_two at.model.now at.dir.now at.limits at.steps_to c.in-Ok.walk v c.requires.course.last
    c.if-course-eq0.false c.in-Ok.ensures.begun more waits) c.solved_at.ensures.more c.solved_at.ensures.waits

pub returns-else-course-eq0-clause-stop : goal.returns-else-course-eq0-clause-stop
returns-else-course-eq0-clause-stop g c =
    let at = c.args.course.now in
    IfErr-weaker c.solved_at.result _ _
    (λ stop is. at_stop at.model.now at.dir.now at.limits at.steps_to at.steps_to c.in-Ok.walk.solved stop c.in-Ok.ensures.begun.solved
    (first_few at.model.now at.dir.now at.limits at.steps_to c.in-Ok.walk c.in-Ok.ensures.begun)
    (last_next at.model.now at.dir.now at.limits at.steps_to c.in-Ok.walk c.if-course-eq0.false c.in-Ok.ensures.begun) is)
    c.solved_at.ensures.stop
