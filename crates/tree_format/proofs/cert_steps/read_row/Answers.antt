use Rattle.tree_format.proofs.CertStepLaws.{row_fails}
use Rattle.tree_format.proofs.cert_steps.read_row.Goals as goal

pub returns-in-Err-clause-fault : goal.returns-in-Err-clause-fault
returns-in-Err-clause-fault c = λ n next. c.in-Err.ensures.fault _

pub returns-then-row-least-clause-fault : goal.returns-then-row-least-clause-fault
returns-then-row-least-clause-fault c = λ n.
    row_fails c.args.bytes.now c.args.at.now c.read_number.new.at c.in-Ok.row c.args.least n c.in-Ok.ensures.on.0 c.if-row-least.true
    c.in-Ok.ensures.on.1
