use Rattle.std.proofs.Common.{◌+◌}
use Rattle.frac128.proofs.comparison.+compare.Given as goal

abbrev pub decreases-compare : goal.decreases-compare
decreases-compare l = l.b + l.d
