use Rattle.proof_tree.proofs.WithinLaws.{limits_are_exact}
use Rattle.proof_tree.proofs.laws.limits_are_exact.Goals as goal

pub returns : goal.returns
returns c = limits_are_exact
