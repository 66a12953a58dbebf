use Rattle.std.proofs.Common.{rules, sym}
use Rattle.frac128.proofs.WholeLaws.{zero-sum_left, zero-sum_right}
use Rattle.frac128.proofs.sums.sum.Goals as goal

pub returns-then-a-eq0-clause-exact : goal.returns-then-a-eq0-clause-exact
returns-then-a-eq0-clause-exact c = sym (zero-sum_left c.args.a c.args.c (search rules) (search rules) (search rules))

pub returns-then-c-eq0-clause-exact : goal.returns-then-c-eq0-clause-exact
returns-then-c-eq0-clause-exact c = sym (zero-sum_right c.args.a c.args.c (search rules) (search rules) (search rules))
