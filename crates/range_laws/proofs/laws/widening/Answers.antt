use Rattle.range_laws.proofs.WideningLaws.{widening_lowers_bounds, widening_keeps_points}
use Rattle.range_laws.proofs.laws.widening.Goals as goal

pub returns-clause-bounds : goal.returns-clause-bounds
returns-clause-bounds c = widening_lowers_bounds

pub returns-clause-points : goal.returns-clause-points
returns-clause-points c = widening_keeps_points
