use Rattle.rhs_sweep.proofs.TurnLaws.{begun_walk, last_read, next_read}
use Rattle.std.proofs.lemmas.Result.{IfOk-weaker}
use Rattle.rhs_sweep.proofs.walks.turn.Goals as goal

pub gap_to-requires-clause-last : goal.gap_to-requires-clause-last
gap_to-requires-clause-last g c =
    let at = c.args.course.now in
    last_read at.model.now at.dir.now at.limits at.steps_to c.args.walk c.args.next c.requires.course.last c.requires.walking

pub gap_to-requires-clause-next : goal.gap_to-requires-clause-next
gap_to-requires-clause-next g c =
    let at = c.args.course.now in
    next_read at.model.now at.dir.now at.limits at.steps_to c.args.walk c.args.next c.requires.course.last c.requires.walking

pub returns-in-Next-clause-walking : goal.returns-in-Next-clause-walking
returns-in-Next-clause-walking g c =
    let at = c.args.course.now in
    IfOk-weaker c.begun_at.result _ _
    (λ v is. begun_walk at.model.now at.dir.now at.limits at.steps_to c.args.walk v c.args.next c.requires.course.widening
    c.requires.walking c.in-Next.ensures.0 c.in-Next.ensures.1 is)
    c.begun_at.ensures.ok
