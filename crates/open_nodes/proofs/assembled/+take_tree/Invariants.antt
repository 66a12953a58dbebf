use Rattle.slab.specs.Slab.{slab_len}
use Rattle.open_nodes.proofs.assembled.+take_tree.Given as goal

abbrev pub decreases-take_tree : goal.decreases-take_tree
decreases-take_tree l = slab_len l.nodes.now
