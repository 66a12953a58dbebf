use Rattle.tree_format.proofs.RowReadLaws.{row_readings_are_spelled}
use Rattle.tree_format.proofs.laws.row_readings_are_spelled.Goals as goal

pub returns : goal.returns
returns c = row_readings_are_spelled
