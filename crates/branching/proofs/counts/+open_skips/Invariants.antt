use Rattle.proof_tree.specs.LabelledTrees.{node_count}
use Rattle.open_nodes.specs.OpenTrees.{plain_open}
use Rattle.branching.proofs.counts.+open_skips.Given as goal

abbrev pub decreases-open_skips : goal.decreases-open_skips
decreases-open_skips l = node_count (plain_open l.tree.now)
