use Rattle.simplex_laws.proofs.BestLaws.{best_is_right}
use Rattle.simplex_laws.proofs.laws.best_is_right.Goals as goal

pub returns : goal.returns
returns c = best_is_right
