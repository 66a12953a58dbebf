use Rattle.tree_format.proofs.TreeStepLaws.{cut_fails}
use Rattle.tree_format.proofs.tree_steps.read_split.Goals as goal

pub returns-in-Err-clause-fault : goal.returns-in-Err-clause-fault
returns-in-Err-clause-fault c = λ next. c.in-Err.ensures.fault _

pub returns-in-Err-read_signed-clause-fault : goal.returns-in-Err-read_signed-clause-fault
returns-in-Err-read_signed-clause-fault c =
    cut_fails c.args.bytes.now c.args.at.now c.read_number.new.at c.in-Ok.col c.in-Err-read_signed.fault c.in-Ok.ensures.on.0
    c.in-Ok.ensures.on.1 c.in-Err-read_signed.ensures.fault
