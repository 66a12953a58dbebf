use Rattle.perturbation.proofs.EditLaws.{decimals_few}
use Rattle.sweep_directions.proofs.grids.units_of.Goals as goal

pub scaled-requires-clause-decimals : goal.scaled-requires-clause-decimals
scaled-requires-clause-decimals c = rw (c.decimals_at.ensures, c.parts.ensures.parts) (decimals_few c.args.model.now c.args.place
    c.parts.ensures.limits)
