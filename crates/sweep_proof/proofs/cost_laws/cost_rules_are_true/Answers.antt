use Rattle.sweep_proof.proofs.CostRuleLaws.{cost_rules_are_true}
use Rattle.sweep_proof.proofs.cost_laws.cost_rules_are_true.Goals as goal

pub returns : goal.returns
returns c = cost_rules_are_true
