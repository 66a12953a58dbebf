use Rattle.lp_duality.proofs.WeakDualityLaws.{feasible_points_are_relaxed}
use Rattle.lp_duality.proofs.laws.feasible_points_are_relaxed.Goals as goal

pub returns : goal.returns
returns c = feasible_points_are_relaxed
