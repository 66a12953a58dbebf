use Rattle.std.proofs.Common.{arith, rules}
use Rattle.std.specs.Int.{w64}
use Rattle.std.proofs.lemmas.Int.{ints}
use Rattle.ip_model.proofs.WalkLaws.{walk_more, walk_small, first_sum_all}
use Rattle.ip_model.proofs.breaches.row_value.Goals as goal

pub total_of-total-requires : goal.total_of-total-requires
total_of-total-requires c =
    let so = walk_small _ c.args.coefs.now c.args.point.now c.loop-column.column-index _ c.term.result c.requires.ordered c.requires.size
    c.loop-column-test.true c.loop-column.invariant (omega (arith, c.term.ensures.small)) in
    let is = c.loop-column.total-is in
    omega (arith, ints)

pub loop-column-preserved : goal.loop-column-preserved
loop-column-preserved c =
    let is = c.total_of-total.ensures in
    walk_more w64 c.args.coefs.now c.args.point.now c.loop-column.column-index _ _ c.term.result _ c.loop-column-test.true
    (c.requires.small c.loop-column.column-index c.loop-column-test.true) (search rules) c.loop-column.invariant c.term.ensures.value
    (omega (arith, c.term.ensures.small)) (omega (arith, ints))

pub returns : goal.returns
returns c = first_sum_all c.args.coefs.now c.args.point.now _ _ _ c.loop-column-test.false c.loop-column.invariant
