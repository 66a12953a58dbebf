use Rattle.std.proofs.Common.{rules, ◌≡◌, refl, arith, below_more, to_z, of_z}
use Rattle.std.specs.Int.{w64, w128}
use mir.Val.{SFits}
use Rattle.std.proofs.lemmas.Int.{ints, to_z-of_z}
use Rattle.ip_defs.specs.Limits.{value_at}
use Rattle.slackness.proofs.rows.are_paid.Goals as goal

pub returns-then-not-stands_at : goal.returns-then-not-stands_at
returns-then-not-stands_at c =
    let fits : SFits w64 (value_at c.args.y.now c.loop-row.row-index) = search rules in
    let d : to_z w128 (of_z w128 c.args.denominator) ≡ c.args.denominator = omega (arith, ints) in
    let here = rw (d, to_z-of_z w64 (value_at c.args.y.now c.loop-row.row-index) fits) at c.if-not-stands_at.ensures in
    (λ t. absurd cc, λ all. here.1 (all c.loop-row.row-index c.loop-row-test.true))

pub loop-row-preserved : goal.loop-row-preserved
loop-row-preserved c =
    let fits : SFits w64 (value_at c.args.y.now c.loop-row.row-index) = search rules in
    let here = rw (to_z-of_z w64 (value_at c.args.y.now c.loop-row.row-index) fits) at c.if-not-stands_at.ensures in
    below_more _ _ c.loop-row.invariant (here.0 refl)
