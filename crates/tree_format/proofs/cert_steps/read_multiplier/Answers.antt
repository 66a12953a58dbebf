use Rattle.tree_format.proofs.CertStepLaws.{multiplier_fails}
use Rattle.tree_format.proofs.cert_steps.read_multiplier.Goals as goal

pub returns-in-Err-read_value-clause-fault : goal.returns-in-Err-read_value-clause-fault
returns-in-Err-read_value-clause-fault c = λ n.
    multiplier_fails c.args.bytes.now c.args.at.now c.read_row.new.at c.in-Ok.row c.args.least n c.in-Err-read_value.fault
    c.in-Ok.ensures.row.0 c.in-Ok.ensures.row.1 c.in-Ok.ensures.on c.in-Err-read_value.ensures.fault
