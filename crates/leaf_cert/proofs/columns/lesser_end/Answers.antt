use Rattle.std.proofs.Common.{arith, rules, ◌≡◌, ◌*ℤ◌, ◌^◌, to_z, of_z}
use Rattle.std.specs.Int.{w128, int_min}
use Rattle.std.proofs.lemmas.Int.{ints}
use Rattle.leaf_cert.proofs.Steps.{size_of_product, size_of_lesser}
use Rattle.leaf_cert.proofs.columns.lesser_end.Goals as goal

pub returns-clause-small : goal.returns-clause-small
returns-clause-small c =
    let is : to_z w128 (of_z w128 c.min.result) ≡ int_min (c.args.reduced *ℤ c.args.low) (c.args.reduced *ℤ c.args.high) = search rules in
    let below = size_of_product c.args.reduced c.args.low (2 ^ 87) (2 ^ 24) (omega (arith, ints)) (omega (arith, ints)) in
    let above = size_of_product c.args.reduced c.args.high (2 ^ 87) (2 ^ 24) (omega (arith, ints)) (omega (arith, ints)) in
    rw is (size_of_lesser (c.args.reduced *ℤ c.args.low) (c.args.reduced *ℤ c.args.high) (2 ^ 111) (omega arith) (omega arith))
