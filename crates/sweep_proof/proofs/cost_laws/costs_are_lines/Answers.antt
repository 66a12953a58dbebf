use Rattle.sweep_proof.proofs.CostLineLaws.{costs_are_lines}
use Rattle.sweep_proof.proofs.cost_laws.costs_are_lines.Goals as goal

pub returns : goal.returns
returns c = costs_are_lines
