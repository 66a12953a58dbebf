use Rattle.range_laws.proofs.RangeLaws.{ranges_are_unique}
use Rattle.range_laws.proofs.laws.ranges_are_unique.Goals as goal

pub returns : goal.returns
returns c = ranges_are_unique
