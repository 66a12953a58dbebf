use Rattle.tree_format.proofs.ClaimStepLaws.{point_fails}
use Rattle.tree_format.proofs.claim_steps.read_claim.Goals as goal

pub returns-in-Err-read_point-clause-fault : goal.returns-in-Err-read_point-clause-fault
returns-in-Err-read_point-clause-fault c =
    point_fails c.args.bytes.now c.args.at.now c.read_byte.new.at c.in-Ok.kind c.in-Err-read_point.fault c.in-Ok.ensures.on
    c.if-kind-eq66.true c.in-Err-read_point.ensures.fault
