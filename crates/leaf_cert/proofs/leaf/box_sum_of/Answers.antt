use Rattle.std.proofs.Common.{arith, ◌≡◌, to_z, of_z}
use Rattle.std.specs.Int.{w128}
use Rattle.std.proofs.lemmas.Int.{ints}
use Rattle.leaf_cert.proofs.ChangedSums.{constant_changed}
use Rattle.leaf_cert.proofs.leaf.box_sum_of.Goals as goal

pub returns : goal.returns
returns c =
    let back : to_z w128 (of_z w128 c.total_of.result) ≡ c.total_of.result = omega (arith, ints) in
    let constant = constant_changed c.args.parts.now c.args.change in
    let is = c.changed_sum.ensures.sum in
    omega (arith, ints)
