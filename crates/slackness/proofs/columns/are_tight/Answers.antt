use Rattle.std.proofs.Common.{refl, arith, rules, ◌≡◌, to_z, of_z, below_more}
use Rattle.std.specs.Int.{w128, w64}
use mir.Val.{SFits}
use Rattle.std.proofs.lemmas.Int.{ints, to_z-of_z}
use Rattle.ip_defs.specs.Program.{at, low_at, high_at}
use Rattle.slackness.proofs.columns.are_tight.Goals as goal

pub returns-then-not-is_tight : goal.returns-then-not-is_tight
returns-then-not-is_tight c =
    let area = c.args.area.now in
    let j = c.loop-j.j in
    let low : SFits w64 (low_at area j) = search rules in
    let high : SFits w64 (high_at area j) = search rules in
    let number : SFits w128 (at c.args.point.now j) = search rules in
    let d : to_z w128 (of_z w128 c.args.denominator) ≡ c.args.denominator = omega (arith, ints) in
    let q : to_z w64 (of_z w64 c.args.q) ≡ c.args.q = omega (arith, ints) in
    let back : to_z w128 (of_z w128 c.reduced_at-reduced.result) ≡ c.reduced_at-reduced.result = omega (arith, ints) in
    let reduced = rw q at c.reduced_at-reduced.ensures.value in
    let here = rw (
      back,
      d,
      to_z-of_z w64 (low_at area j) low,
      to_z-of_z w64 (high_at area j) high,
      to_z-of_z w128 (at c.args.point.now j) number,
      reduced,
    ) at c.if-not-is_tight.ensures in
    (λ t. absurd cc, λ all. here.1 (all j c.loop-j-test.true))

pub loop-j-preserved : goal.loop-j-preserved
loop-j-preserved c =
    let area = c.args.area.now in
    let j = c.loop-j.j in
    let low = to_z-of_z w64 (low_at area j) (search rules) in
    let high = to_z-of_z w64 (high_at area j) (search rules) in
    let number = to_z-of_z w128 (at c.args.point.now j) (search rules) in
    let back : to_z w128 (of_z w128 c.reduced_at-reduced.result) ≡ c.reduced_at-reduced.result = omega (arith, ints) in
    below_more _ _ c.loop-j.invariant
    ((rw (back, low, high, number, c.reduced_at-reduced.ensures.value) at c.if-not-is_tight.ensures).0 refl)
