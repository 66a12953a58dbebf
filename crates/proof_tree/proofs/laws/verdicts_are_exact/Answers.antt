use Rattle.proof_tree.proofs.VerdictLaws.{verdicts_are_exact}
use Rattle.proof_tree.proofs.laws.verdicts_are_exact.Goals as goal

pub returns : goal.returns
returns c = verdicts_are_exact
