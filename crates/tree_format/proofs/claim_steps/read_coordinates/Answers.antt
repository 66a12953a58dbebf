use Rattle.std.proofs.Common.{◌≡◌, ◌∙◌, ◌+◌, List, ℤ, sym, subst, rules, to_z, of_z}
use Rattle.std.specs.Int.{w64}
use Rattle.tree_format.proofs.ClaimStepLaws.{CoordinatesRead, no_coordinate, coordinate_read, coordinate_fails}
use Rattle.tree_format.proofs.claim_steps.read_coordinates.Goals as goal

pub loop-init : goal.loop-init
loop-init c =
    subst (λ (x : List ℤ). CoordinatesRead c.args.bytes.now c.args.at.now c.args.at.now 0 c.args.count x)
    (sym (c.from_vec-point.ensures ∙ c.new.ensures.items)) (no_coordinate c.args.bytes.now c.args.at.now c.args.count c.requires.within)

pub returns-in-Err-clause-fault : goal.returns-in-Err-clause-fault
returns-in-Err-clause-fault c =
    coordinate_fails c.args.bytes.now c.args.at.now c.loop.at c.loop.counter c.args.count c.loop.point c.in-Err.fault c.loop-test.true
    c.loop.invariant c.in-Err.ensures.fault

pub loop-preserved : goal.loop-preserved
loop-preserved c =
    let z = c.in-Ok.coordinate in
    let back : to_z w64 (of_z w64 z) ≡ z = search rules in
    let pushed = rw back at c.in_ok-push-in-Ok.ensures.ok in
    subst (λ (x : List ℤ). CoordinatesRead c.args.bytes.now c.args.at.now c.read_signed.new.at (c.loop.counter + 1) c.args.count x)
    (sym pushed)
    (coordinate_read c.args.bytes.now c.args.at.now c.loop.at c.loop.counter c.args.count c.read_signed.new.at c.loop.point z
    c.loop-test.true c.loop.invariant c.in-Ok.ensures.on.0 c.in-Ok.ensures.on.1)
