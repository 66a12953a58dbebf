use Rattle.lp_duality.proofs.ScaleLaws.{duals_are_scaled}
use Rattle.lp_duality.proofs.laws.duals_are_scaled.Goals as goal

pub returns : goal.returns
returns c = duals_are_scaled
