use Rattle.sweep_directions.proofs.SideLaws.{all_placed, placed_few}
use Rattle.sweep_directions.proofs.directing.are_few.Goals as goal

pub returns-clause-few : goal.returns-clause-few
returns-clause-few c =
    placed_few c.args.model.now c.args.dirs.now c.parts-parts.ensures.limits.row_count c.requires.outwards c.requires.distinct

pub returns-clause-placed : goal.returns-clause-placed
returns-clause-placed c = all_placed c.args.model.now c.args.dirs.now c.requires.outwards
