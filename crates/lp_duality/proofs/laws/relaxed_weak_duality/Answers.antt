use Rattle.lp_duality.proofs.WeakDualityLaws.{relaxed_weak_duality}
use Rattle.lp_duality.proofs.laws.relaxed_weak_duality.Goals as goal

pub returns : goal.returns
returns c = relaxed_weak_duality
