use Rattle.std.proofs.Common.{arith, ◌≡◌, to_z, of_z}
use Rattle.std.specs.Int.{w64, w128}
use Rattle.std.proofs.lemmas.Int.{ints}
use Rattle.slackness.proofs.columns.is_tight.Goals as goal

pub returns : goal.returns
returns c =
    let d : to_z w128 (of_z w128 c.args.denominator) ≡ c.args.denominator = omega (arith, ints) in
    let n : to_z w128 (of_z w128 c.args.number) ≡ c.args.number = omega (arith, ints) in
    let r : to_z w128 (of_z w128 c.args.reduced_cost) ≡ c.args.reduced_cost = omega (arith, ints) in
    let l : to_z w64 (of_z w64 c.args.low) ≡ c.args.low = omega (arith, ints) in
    let h : to_z w64 (of_z w64 c.args.high) ≡ c.args.high = omega (arith, ints) in
    let least = rw (d, l) at c.scaled-least.ensures in
    let greatest = rw (d, h) at c.scaled-greatest.ensures in
    let back : to_z w128 (of_z w128 c.scaled-least.result) ≡ c.scaled-least.result = omega (arith, ints) in
    let back' : to_z w128 (of_z w128 c.scaled-greatest.result) ≡ c.scaled-greatest.result = omega (arith, ints) in
    let is = rw (n, r, back, back', least, greatest) at c.is_paid_between.ensures in
    (λ t. record { between = (is.0 t).0; paid = (is.0 t).1 }, λ t. is.1 (t.between, t.paid))
