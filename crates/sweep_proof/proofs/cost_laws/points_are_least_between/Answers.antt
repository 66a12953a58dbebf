use Rattle.sweep_proof.proofs.CostLineLaws.{points_are_least_between}
use Rattle.sweep_proof.proofs.cost_laws.points_are_least_between.Goals as goal

pub returns : goal.returns
returns c = points_are_least_between
