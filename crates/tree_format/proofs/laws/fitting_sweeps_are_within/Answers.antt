use Rattle.tree_format.proofs.RowLimitLaws.{fits_within}
use Rattle.tree_format.proofs.laws.fitting_sweeps_are_within.Goals as goal

pub returns : goal.returns
returns c = fits_within
