use Rattle.tree_format.proofs.RowUniqueLaws.{one_row_spelling}
use Rattle.tree_format.proofs.laws.one_row_spelling.Goals as goal

pub returns : goal.returns
returns c = one_row_spelling
