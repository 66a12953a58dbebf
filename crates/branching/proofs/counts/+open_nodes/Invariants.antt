use Rattle.proof_tree.specs.LabelledTrees.{node_count}
use Rattle.open_nodes.specs.OpenTrees.{plain_open}
use Rattle.branching.proofs.counts.+open_nodes.Given as goal

abbrev pub decreases-open_nodes : goal.decreases-open_nodes
decreases-open_nodes l = node_count (plain_open l.tree.now)
