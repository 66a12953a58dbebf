use Rattle.sweep_proof.proofs.CostPieceLaws.{exact_cost_sweeps_have_points}
use Rattle.sweep_proof.proofs.cost_laws.exact_cost_sweeps_have_points.Goals as goal

pub returns : goal.returns
returns c = exact_cost_sweeps_have_points
