use Rattle.decimals.proofs.NumberLaws.{zero_number}
use Rattle.decimals.proofs.numbers.number_from.Goals as goal

pub returns-then-absolute-eq0 : goal.returns-then-absolute-eq0
returns-then-absolute-eq0 c = zero_number c.args.negative c.args.absolute c.args.power c.if-absolute-eq0.true
