use Rattle.lp_duality.proofs.BoundLaws.{rays_bound}
use Rattle.lp_duality.proofs.laws.rays_bound.Goals as goal

pub returns : goal.returns
returns c = rays_bound
