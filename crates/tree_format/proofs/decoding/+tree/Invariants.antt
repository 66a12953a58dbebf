use Rattle.std.proofs.Common.{length, drop}
use Rattle.tree_format.specs.Internal.Remaining.{remaining}
use Rattle.tree_format.proofs.decoding.+tree.Given as goal

abbrev pub decreases-tree : goal.decreases-tree
decreases-tree l = length (remaining l.reader.now (drop l.at.now l.bytes.now)).parts
