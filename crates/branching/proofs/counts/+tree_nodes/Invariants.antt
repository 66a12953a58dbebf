use Rattle.proof_tree.specs.LabelledTrees.{node_count}
use Rattle.proof_tree.specs.Trees.{plain}
use Rattle.branching.proofs.counts.+tree_nodes.Given as goal

abbrev pub decreases-tree_nodes : goal.decreases-tree_nodes
decreases-tree_nodes l = node_count (plain l.tree.now)
