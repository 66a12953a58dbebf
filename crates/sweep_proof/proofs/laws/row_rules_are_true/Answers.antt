use Rattle.sweep_proof.proofs.RuleLaws.{row_rules_are_true}
use Rattle.sweep_proof.proofs.laws.row_rules_are_true.Goals as goal

pub returns : goal.returns
returns c = row_rules_are_true
