use Rattle.proof_tree.proofs.VerdictLaws.{proofs_are_true}
use Rattle.proof_tree.proofs.laws.proofs_are_true.Goals as goal

pub returns : goal.returns
returns c = proofs_are_true
