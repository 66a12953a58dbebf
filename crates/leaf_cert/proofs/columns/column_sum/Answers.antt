use Rattle.std.proofs.Common.{arith, rules, ◌≡◌, ◌∙◌, to_z, of_z}
use Rattle.std.specs.Int.{w128, w64}
use mir.Val.{SFits}
use Rattle.std.proofs.lemmas.Int.{ints, to_z-of_z}
use Rattle.ip_defs.specs.Program.{low_at, high_at, costs_of}
use Rattle.leaf_cert.specs.Internal.Columns.{least_part}
use Rattle.leaf_cert.proofs.Taken.{sum_step}
use Rattle.leaf_cert.proofs.columns.column_sum.Goals as goal

pub lesser_end-requires-clause-low_small : goal.lesser_end-requires-clause-low_small
lesser_end-requires-clause-low_small c =
    let low = c.requires.sides.low c.loop-j.j (omega (arith, c.requires.sides.size)) in
    omega (arith, ints)

pub lesser_end-requires-clause-high_small : goal.lesser_end-requires-clause-high_small
lesser_end-requires-clause-high_small c =
    let high = c.requires.sides.high c.loop-j.j (omega (arith, c.requires.sides.size)) in
    omega (arith, ints)

pub loop-j-preserved : goal.loop-j-preserved
loop-j-preserved c =
    let area = c.args.area.now in
    let j = c.loop-j.j in
    let back : to_z w128 (of_z w128 c.total_of-total.result) ≡ c.total_of-total.result = omega (arith, ints) in
    let back' : to_z w128 (of_z w128 c.lesser_end.result) ≡ c.lesser_end.result = omega (arith, ints) in
    let back'' : to_z w128 (of_z w128 c.reduced_at-reduced.result) ≡ c.reduced_at-reduced.result = omega (arith, ints) in
    let fits_low : SFits w64 (low_at area j) = search rules in
    let fits_high : SFits w64 (high_at area j) = search rules in
    let read_low = to_z-of_z w64 (low_at area j) fits_low in
    let read_high = to_z-of_z w64 (high_at area j) fits_high in
    let is = rw (back'', read_low, read_high, c.reduced_at-reduced.ensures.value) at c.lesser_end.ensures.lesser in
    let added = rw back' at c.total_of-total.ensures in
    record {
      sum = sum_step (least_part (costs_of c.args.parts.now) (to_z w64 (of_z w64 c.args.q)) c.args.taken.now area) j _ _ _
          c.loop-j.invariant.sum is (back ∙ added);
      small = omega (arith, ints);
    }
