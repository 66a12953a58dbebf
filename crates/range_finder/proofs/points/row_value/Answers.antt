use Rattle.std.proofs.Common.{arith, rules}
use Rattle.std.specs.Int.{w64, w128}
use Rattle.std.proofs.lemmas.Int.{ints, to_z-of_z}
use Rattle.ip_model.proofs.WalkLaws.{walk_more, walk_small, first_sum_all}
use Rattle.range_finder.proofs.points.row_value.Goals as goal

pub total_of-total-requires : goal.total_of-total-requires
total_of-total-requires c =
    let so = walk_small _ c.args.coefs.now c.args.point.now c.loop-column.column-index _ c.weighed.result c.requires.ordered c.requires.size
    c.loop-column-test.true c.loop-column.invariant.sum (omega (arith, c.weighed.ensures.small)) in
    let is = c.loop-column.total-is in
    omega (arith, ints)

pub loop-column-preserved : goal.loop-column-preserved
loop-column-preserved c =
    let so = walk_small _ c.args.coefs.now c.args.point.now c.loop-column.column-index _ c.weighed.result c.requires.ordered c.requires.size
    c.loop-column-test.true c.loop-column.invariant.sum (omega (arith, c.weighed.ensures.small)) in
    let is = c.total_of-total.ensures in
    let read = rw (to_z-of_z w128 c.from.result (search rules), c.from.ensures) at c.weighed.ensures.value in
    record {
      sum = walk_more w64 c.args.coefs.now c.args.point.now c.loop-column.column-index _ _ c.weighed.result _ c.loop-column-test.true
          (c.requires.small c.loop-column.column-index c.loop-column-test.true) (search rules) c.loop-column.invariant.sum read
          (omega (arith, c.weighed.ensures.small)) (omega (arith, ints));
      small = omega (arith, ints);
    }

pub returns-clause-value : goal.returns-clause-value
returns-clause-value c = first_sum_all c.args.coefs.now c.args.point.now _ _ _ c.loop-column-test.false c.loop-column.invariant.sum
