use Rattle.sweep_proof.proofs.RuleLaws.{exact_sweeps_have_values}
use Rattle.sweep_proof.proofs.laws.exact_sweeps_have_values.Goals as goal

pub returns : goal.returns
returns c = exact_sweeps_have_values
