use Rattle.tree_format.proofs.UniqueLaws.{one_spelling}
use Rattle.tree_format.proofs.laws.one_spelling.Goals as goal

pub returns : goal.returns
returns c = one_spelling
