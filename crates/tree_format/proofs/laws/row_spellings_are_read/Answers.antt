use Rattle.tree_format.proofs.RowSpellingLaws.{row_spellings_are_read}
use Rattle.tree_format.proofs.laws.row_spellings_are_read.Goals as goal

pub returns : goal.returns
returns c = row_spellings_are_read
