use Rattle.simplex_laws.proofs.StepLaws.{steps_can_be_made}
use Rattle.simplex_laws.proofs.laws.steps_can_be_made.Goals as goal

pub returns : goal.returns
returns c = steps_can_be_made
