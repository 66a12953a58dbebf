use Rattle.range_laws.proofs.RangeLaws.{none_is_good_beyond}
use Rattle.range_laws.proofs.laws.none_is_good_beyond.Goals as goal

pub returns : goal.returns
returns c = none_is_good_beyond
