use Rattle.tree_checker.proofs.DescentLaws.{start_sound}
use Rattle.tree_checker.proofs.streams.start.Goals as goal

pub returns-clause-sound : goal.returns-clause-sound
returns-clause-sound c = start_sound c.args.model.now c.in_ok-box_of.field-0 c.in_ok-new-3.field-0 c.in_ok-box_of.ensures.limits
    c.in_ok-box_of.ensures.sides c.in_ok-new-3.ensures
