use Rattle.tree_format.proofs.RowStepLaws.{AreSteps, to_fails, piece_claim_fails, piece_tree_fails}
use Rattle.tree_format.proofs.row_decoding.read_piece.Goals as goal

pub returns-in-Err-clause-fault : goal.returns-in-Err-clause-fault
returns-in-Err-clause-fault c = λ next. c.in-Err.ensures.fault _

pub returns-in-Err-read_number-clause-fault : goal.returns-in-Err-read_number-clause-fault
returns-in-Err-read_number-clause-fault c =
    to_fails c.args.bytes.now c.args.at.now c.read_number.new.at c.args.nodes.now c.in-Ok.from c.in-Err-read_number.fault
    c.in-Ok.ensures.on.0 c.in-Ok.ensures.on.1 c.in-Err-read_number.ensures.fault

pub returns-in-Err-read_claim-clause-fault : goal.returns-in-Err-read_claim-clause-fault
returns-in-Err-read_claim-clause-fault c =
    let from = c.in-Ok.ensures.on in
    let to = c.in-Ok-read_number.ensures.on in
    let steps : AreSteps c.args.bytes.now c.args.at.now c.read_number.new.at c.read_number-2.new.at c.in-Ok.from c.in-Ok-read_number.to =
    record { first = from.0; last = to.0; one = from.1; other = to.1 } in
    piece_claim_fails c.args.bytes.now c.args.at.now c.read_number.new.at c.read_number-2.new.at c.args.nodes.now c.in-Ok.from
    c.in-Ok-read_number.to c.in-Err-read_claim.fault steps c.in-Err-read_claim.ensures.fault

pub returns-in-Err-read_tree-clause-fault : goal.returns-in-Err-read_tree-clause-fault
returns-in-Err-read_tree-clause-fault c =
    let from = c.in-Ok.ensures.on in
    let to = c.in-Ok-read_number.ensures.on in
    let steps : AreSteps c.args.bytes.now c.args.at.now c.read_number.new.at c.read_number-2.new.at c.in-Ok.from c.in-Ok-read_number.to =
    record { first = from.0; last = to.0; one = from.1; other = to.1 } in
    let claim = c.in-Ok-read_claim.ensures in
    piece_tree_fails c.args.bytes.now c.args.at.now c.read_number.new.at c.read_number-2.new.at c.read_claim.new.at c.args.nodes.now
    c.in-Ok.from c.in-Ok-read_number.to c.in-Ok-read_claim.claim c.in-Err-read_tree.fault steps claim.within claim.on
    c.in-Err-read_tree.ensures.fault
