use Rattle.tree_format.proofs.RowStepLaws.{zero_fails}
use Rattle.tree_format.proofs.row_decoding.read_count.Goals as goal

pub returns-in-Err-clause-fault : goal.returns-in-Err-clause-fault
returns-in-Err-clause-fault c = λ next. c.in-Err.ensures.fault _

pub returns-then-count-eq0-clause-fault : goal.returns-then-count-eq0-clause-fault
returns-then-count-eq0-clause-fault c =
    zero_fails c.args.bytes.now c.args.at.now c.read_number.new.at c.in-Ok.count c.if-count-eq0.true c.in-Ok.ensures.on.1
