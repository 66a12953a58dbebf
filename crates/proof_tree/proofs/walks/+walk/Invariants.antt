use Rattle.proof_tree.specs.LabelledTrees.{depth}
use Rattle.proof_tree.specs.Trees.{plain}
use Rattle.proof_tree.proofs.walks.+walk.Given as goal

abbrev pub decreases-walk : goal.decreases-walk
decreases-walk l = depth (plain l.tree.now)
