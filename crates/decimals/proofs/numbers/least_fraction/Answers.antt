use Rattle.std.proofs.Common.{arith, ap, ◌∙◌, ◌≡◌, to_z, of_z, ℤ}
use Rattle.std.specs.Int.{w128}
use Rattle.std.proofs.lemmas.Int.{ints}
use Rattle.mps_defs.specs.Numbers.{least_decimals}
use Rattle.mps_defs.specs.declared.reading.Number.TheVariants.{Dec}
use Rattle.decimals.proofs.DecimalLaws.{least_units}
use Rattle.decimals.proofs.NumberLaws.{zero_dropped, least_reached, none_reached, odd_reached}
use Rattle.decimals.proofs.numbers.least_fraction.Goals as goal
use Rattle.decimals.proofs.numbers.least_fraction.Goals.{then-loop-places-test+else-units-eq0, else-loop-places-test}

pub loop-places-preserved : goal.loop-places-preserved
loop-places-preserved c =
    let drop = zero_dropped c.loop-places.units c.loop-places.places c.if-units-eq0.true c.loop-places-test.true in
    let small = c.loop-places.invariant.small in
    record { units = drop.0 ∙ c.loop-places.invariant.units; decimals = drop.1 ∙ c.loop-places.invariant.decimals; small = omega arith }

pub returns : goal.returns
returns c =
    let units = c.loop-places.units in
    let places = c.loop-places.places in
    let reached : (least_units units places ≡ units) × (least_decimals units places ≡ places) =
    elim c.loop-places-test.branch [
      | then-loop-places-test+else-units-eq0 w ↦ odd_reached units places w.if-units-eq0.false
      | else-loop-places-test w ↦ none_reached units places (let none = w.loop-places-test.false in omega arith)
    ] in
    let back : to_z w128 (of_z w128 c.signed.result) ≡ c.signed.result = omega (arith, ints) in
    ap (λ (z : ℤ). Dec z places) (back ∙ c.signed.ensures.value)
    ∙ least_reached c.args.negative c.args.absolute c.args.decimals units places c.requires.below c.loop-places.invariant.units
    c.loop-places.invariant.decimals reached.0 reached.1
