use Rattle.proof_tree.proofs.WithinLaws.{misfits_are_true}
use Rattle.proof_tree.proofs.laws.misfits_are_true.Goals as goal

pub returns : goal.returns
returns c = misfits_are_true
