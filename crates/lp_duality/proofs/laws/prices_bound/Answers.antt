use Rattle.lp_duality.proofs.BoundLaws.{prices_bound}
use Rattle.lp_duality.proofs.laws.prices_bound.Goals as goal

pub returns : goal.returns
returns c = prices_bound
