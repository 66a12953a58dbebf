use Rattle.std.proofs.Common.{arith}
use Rattle.tree_format.proofs.NumberLaws.{weight_small}
use Rattle.tree_format.proofs.numbers.weight.Goals as goal

pub pow-requires : goal.pow-requires
pow-requires c = let small = weight_small c.args.read c.requires in omega arith

pub returns-clause-small : goal.returns-clause-small
returns-clause-small c = let small = weight_small c.args.read c.requires in rw c.pow.ensures small
