use Rattle.sweep_proof.proofs.LineLaws.{line_within}
use Rattle.sweep_proof.proofs.steps.stays_within.Goals as goal

pub returns : goal.returns
returns c = line_within c.args.model.now c.args.dir.now c.args.last c.parts-parts.ensures.limits c.requires.sides c.requires.last
