use Rattle.tree_format.proofs.OrderLaws.{parts_are_in_order}
use Rattle.tree_format.proofs.laws.parts_are_in_order.Goals as goal

pub returns : goal.returns
returns c = parts_are_in_order
