use Rattle.std.specs.Prelude.{◌≡◌, ◌≤◌, ◌^◌, ◌*◌, ◌*ℤ◌, ◌+ℤ◌, pos}
use Rattle.std.specs.Int.{w64, w128}
use Rattle.std.specs.Int.RustNames.{unsigned_abs}
use mir.Val.{SFits}
use Rattle.std.proofs.Common.{rules, arith}
use Rattle.std.proofs.Math.Nat.{mul-le-mul}
use Rattle.std.proofs.lemmas.Int.{ints, to_z-of_z, unsigned_abs-mul}
use Rattle.sweep_directions.proofs.bounds.side_after.Goals as goal

pub product-requires : goal.product-requires
product-requires c =
    let few : c.args.steps ≤ 2 ^ 32 = omega (arith, c.ranges.steps.fits) in
    let size : unsigned_abs (pos c.args.steps *ℤ c.args.step) ≤ 2 ^ 32 * 2 ^ 62 =
    omega (arith, unsigned_abs-mul (pos c.args.steps) c.args.step, mul-le-mul few c.requires) in
    let wide : SFits w128 c.from-2.result = search rules in
    rw (to_z-of_z w128 c.from-2.result wide, c.from-2.ensures, to_z-of_z w128 c.args.step c.ranges.step) (search rules)

pub total_of-requires : goal.total_of-requires
total_of-requires c =
    let few : c.args.steps ≤ 2 ^ 32 = omega (arith, c.ranges.steps.fits) in
    let size : unsigned_abs (pos c.args.steps *ℤ c.args.step) ≤ 2 ^ 32 * 2 ^ 62 =
    omega (arith, unsigned_abs-mul (pos c.args.steps) c.args.step, mul-le-mul few c.requires) in
    let wide : SFits w128 c.from-2.result = search rules in
    let value : c.product.result ≡ pos c.args.steps *ℤ c.args.step =
    rw (to_z-of_z w128 c.from-2.result wide, c.from-2.ensures, to_z-of_z w128 c.args.step c.ranges.step) at c.product.ensures in
    let side : c.from.result ≡ c.args.side = rw (to_z-of_z w64 c.args.side c.ranges.side) at c.from.ensures in
    let own : SFits w128 c.from.result = search rules in
    let fits : SFits w128 c.product.result = search rules in
    let more : unsigned_abs (c.args.side +ℤ pos c.args.steps *ℤ c.args.step) ≤ 2 ^ 95 = omega (arith, ints, size, c.ranges.side.sfits) in
    rw (to_z-of_z w128 c.from.result own, to_z-of_z w128 c.product.result fits, side, value) (search rules)

pub returns : goal.returns
returns c =
    let wide : SFits w128 c.from-2.result = search rules in
    let value : c.product.result ≡ pos c.args.steps *ℤ c.args.step =
    rw (to_z-of_z w128 c.from-2.result wide, c.from-2.ensures, to_z-of_z w128 c.args.step c.ranges.step) at c.product.ensures in
    let side : c.from.result ≡ c.args.side = rw (to_z-of_z w64 c.args.side c.ranges.side) at c.from.ensures in
    let own : SFits w128 c.from.result = search rules in
    let fits : SFits w128 c.product.result = search rules in
    let all : SFits w128 c.total_of.result = search rules in
    rw (to_z-of_z w128 c.total_of.result all) (rw (to_z-of_z w128 c.from.result own, to_z-of_z w128 c.product.result fits, side, value)
    at c.total_of.ensures)
