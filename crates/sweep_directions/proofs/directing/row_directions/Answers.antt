use Rattle.sweep_directions.proofs.MoveLaws.{answer_count, answer_direction}
use Rattle.sweep_directions.proofs.directing.row_directions.Goals as goal

pub returns-clause-count : goal.returns-clause-count
returns-clause-count c = answer_count c.args.model.now c.args.dirs.now c.args.steps c.directed.result c.directed.ensures

pub returns-clause-direction : goal.returns-clause-direction
returns-clause-direction c = answer_direction c.args.model.now c.args.dirs.now c.args.steps c.directed.result c.requires.followable.1
    c.requires.distinct c.directed.ensures
