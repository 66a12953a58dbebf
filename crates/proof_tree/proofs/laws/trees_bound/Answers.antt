use Rattle.proof_tree.proofs.TreeLaws.{trees_bound}
use Rattle.proof_tree.proofs.laws.trees_bound.Goals as goal

pub returns : goal.returns
returns c = trees_bound
