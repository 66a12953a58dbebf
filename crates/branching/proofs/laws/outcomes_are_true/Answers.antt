use Rattle.branching.proofs.OutcomeLaws.{outcomes_are_true}
use Rattle.branching.proofs.laws.outcomes_are_true.Goals as goal

pub returns : goal.returns
returns c = outcomes_are_true
