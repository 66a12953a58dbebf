use Rattle.std.proofs.Common.{◌≡◌, ◌<◌, arith, length, to_z, of_z, ◌-ℤ◌}
use Rattle.std.specs.Int.{w64}
use Rattle.std.proofs.lemmas.Int.{ints}
use Rattle.ip_defs.specs.Program.{high_at, low_at}
use Rattle.node_bounds.proofs.HalvingLaws.{widest_more, widest_same}
use Rattle.node_bounds.proofs.boxes.widest_column.Goals as goal
use Rattle.node_bounds.proofs.boxes.widest_column.Goals.{then-width-most, else-width-most}

pub loop-j-preserved : goal.loop-j-preserved
loop-j-preserved c =
    let b = c.args.area.now in
    let j = c.loop-j.j in
    let within : j < length b = omega arith in
    let small_low = c.requires.area.low j within in
    let small_high = c.requires.area.high j within in
    let low : to_z w64 (of_z w64 (low_at b j)) ≡ low_at b j = omega (arith, ints) in
    let high : to_z w64 (of_z w64 (high_at b j)) ≡ high_at b j = omega (arith, ints) in
    let width = c.width_of-width.result in
    let is : width ≡ high_at b j -ℤ low_at b j = rw (high, low) at c.width_of-width.ensures in
    let back : to_z w64 (of_z w64 width) ≡ width = omega (arith, ints) in
    elim c.if-width-most.branch [
      | then-width-most w ↦ rw (w.widest-is, w.most-is, back)
          (widest_more b j c.loop-j.widest (to_z w64 c.loop-j.most-bits) width c.loop-j.invariant is
          (let t = w.if-width-most.true in omega (arith, ints)))
      | else-width-most w ↦ rw (w.widest-is, w.most-is)
          (widest_same b j c.loop-j.widest (to_z w64 c.loop-j.most-bits) width c.loop-j.invariant is
          (let t = w.if-width-most.false in omega (arith, ints)))
    ]
