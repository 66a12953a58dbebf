use Rattle.slab.specs.Slab.{get}
use Rattle.open_nodes.specs.Internal.Forests.{depth_of}
use Rattle.open_nodes.proofs.frontiers.Frontier.+cut_to_node.Given as goal

abbrev pub decreases-cut_to_node : goal.decreases-cut_to_node
decreases-cut_to_node l = depth_of (get l.self.now.nodes l.key)
