use Rattle.tree_format.proofs.SpellingLaws.{spellings_are_read}
use Rattle.tree_format.proofs.laws.spellings_are_read.Goals as goal

pub returns : goal.returns
returns c = spellings_are_read
