use Rattle.tree_format.proofs.ClaimStepLaws.{coordinates_fail}
use Rattle.tree_format.proofs.claim_steps.read_point.Goals as goal

pub returns-in-Err-read_coordinates-clause-fault : goal.returns-in-Err-read_coordinates-clause-fault
returns-in-Err-read_coordinates-clause-fault c =
    coordinates_fail c.args.bytes.now c.args.at.now c.read_number.new.at c.in-Ok.count c.in-Err-read_coordinates.fault
    c.in-Ok.ensures.on.0 c.in-Ok.ensures.on.1 c.in-Err-read_coordinates.ensures.fault

pub returns-in-Err-clause-fault : goal.returns-in-Err-clause-fault
returns-in-Err-clause-fault c = λ next. c.in-Err.ensures.fault _
