use Rattle.branching.proofs.EndLaws.{searches_end}
use Rattle.branching.proofs.laws.searches_end.Goals as goal

pub returns : goal.returns
returns c = searches_end
