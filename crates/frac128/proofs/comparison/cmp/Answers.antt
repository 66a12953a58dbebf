use Rattle.frac128.proofs.ComparisonLaws.{cross-order}
use Rattle.frac128.proofs.comparison.cmp.Goals as goal

pub returns-clause-order : goal.returns-clause-order
returns-clause-order c = cross-order c.args.a c.args.c c.comparison.ensures.first c.comparison.ensures.second c.comparison.result
    c.comparison.ensures.exact
