use Rattle.simplex_laws.proofs.EmptyLaws.{empty_is_right}
use Rattle.simplex_laws.proofs.laws.empty_is_right.Goals as goal

pub returns : goal.returns
returns c = empty_is_right
