use Rattle.branching.proofs.TreeSizeLaws.{trees_are_small}
use Rattle.branching.proofs.laws.trees_are_small.Goals as goal

pub returns : goal.returns
returns c = trees_are_small
