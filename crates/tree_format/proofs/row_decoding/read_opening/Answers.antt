use Rattle.tree_format.proofs.RowStepLaws.{opening_cut}
use Rattle.tree_format.proofs.row_decoding.read_opening.Goals as goal

pub returns-in-Err-clause-fault : goal.returns-in-Err-clause-fault
returns-in-Err-clause-fault c =
    opening_cut c.args.bytes.now c.args.opening.now c.args.at.now c.loop-wanted.at c.loop-wanted.wanted-index c.in-Err.fault
    c.loop-wanted-test.true c.loop-wanted.invariant c.in-Err.ensures.cut
