use Rattle.simplex_laws.proofs.RunLaws.{finals_stay}
use Rattle.simplex_laws.proofs.laws.finals_stay.Goals as goal

pub returns : goal.returns
returns c = finals_stay
