use Rattle.range_laws.proofs.RangeLaws.{good_changes_hold}
use Rattle.range_laws.proofs.laws.good_changes_hold.Goals as goal

pub returns : goal.returns
returns c = good_changes_hold
