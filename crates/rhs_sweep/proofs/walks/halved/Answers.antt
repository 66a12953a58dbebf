use Rattle.rhs_sweep.proofs.ResultLaws.{ok_of_both}
use Rattle.rhs_sweep.proofs.TurnLaws.{half_step, halved_walk, halved_turns, halved_stop}
use Rattle.std.proofs.lemmas.Result.{IfErr-weaker}
use Rattle.rhs_sweep.proofs.walks.halved.Goals as goal

pub solved_at-requires-clause-t : goal.solved_at-requires-clause-t
solved_at-requires-clause-t g c =
    let at = c.args.course.now in
    half_step at.model.now at.dir.now at.limits at.steps_to c.args.t c.args.walk c.args.next c.requires.walking c.requires.gap

pub returns-in-Ok-clause-walking : goal.returns-in-Ok-clause-walking
returns-in-Ok-clause-walking g c =
    let at = c.args.course.now in
    ok_of_both c.solved_at.result _ _ _
    (λ u more waits. halved_walk at.model.now at.dir.now at.limits at.steps_to c.args.t c.args.walk c.in-Ok.walk u c.args.next
    c.requires.course.widening (record { walking = c.requires.walking; wide = c.requires.gap; more = c.in-Ok.ensures.ok }) more waits)
    c.solved_at.ensures.more c.solved_at.ensures.waits

pub returns-in-Ok-clause-fewer : goal.returns-in-Ok-clause-fewer
returns-in-Ok-clause-fewer g c =
    let at = c.args.course.now in
    ok_of_both c.solved_at.result _ _ _
    (λ u more waits. halved_turns at.model.now at.dir.now at.limits at.steps_to c.args.t c.args.walk c.in-Ok.walk u c.args.next
    (record { walking = c.requires.walking; wide = c.requires.gap; more = c.in-Ok.ensures.ok }) more waits)
    c.solved_at.ensures.more c.solved_at.ensures.waits

pub returns-in-Ok-clause-stop : goal.returns-in-Ok-clause-stop
returns-in-Ok-clause-stop g c =
    let at = c.args.course.now in
    IfErr-weaker c.solved_at.result _ _
    (λ stop is. halved_stop at.model.now at.dir.now at.limits at.steps_to c.args.t c.args.walk c.in-Ok.walk c.args.next stop
    (record { walking = c.requires.walking; wide = c.requires.gap; more = c.in-Ok.ensures.ok }) is)
    c.solved_at.ensures.stop
