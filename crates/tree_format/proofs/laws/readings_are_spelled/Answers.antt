use Rattle.tree_format.proofs.GrammarLaws.{readings_are_spelled}
use Rattle.tree_format.proofs.laws.readings_are_spelled.Goals as goal

pub returns : goal.returns
returns c = readings_are_spelled
