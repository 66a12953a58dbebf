use Rattle.std.proofs.Common.{◌∙◌, sym}
use Rattle.node_bounds.proofs.WholeLaws.{number_read}
use Rattle.node_bounds.proofs.relaxations.whole_point.Goals as goal

pub whole_number-requires-clause-whole : goal.whole_number-requires-clause-whole
whole_number-requires-clause-whole c =
    let l = c.loop-number-test.true in
    let whole = c.requires.whole c.loop-number.number-index l in
    let read = number_read c.args.point.now c.loop-number.number-index c.number-item.result l c.number-item.is in
    (whole.0, sym read ∙ whole.1)
