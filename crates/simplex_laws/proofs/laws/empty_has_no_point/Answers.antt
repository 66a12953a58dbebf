use Rattle.simplex_laws.proofs.EmptyLaws.{empty_has_no_point}
use Rattle.simplex_laws.proofs.laws.empty_has_no_point.Goals as goal

pub returns : goal.returns
returns c = empty_has_no_point
