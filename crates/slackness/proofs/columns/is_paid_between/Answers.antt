use Rattle.std.proofs.Common.{refl, arith, ◌≡◌, to_z, of_z}
use Rattle.std.specs.Int.{w128}
use Rattle.std.proofs.lemmas.Int.{ints}
use Rattle.slackness.proofs.columns.is_paid_between.Goals as goal

pub returns-then-is_between : goal.returns-then-is_between
returns-then-is_between c =
    let l : to_z w128 (of_z w128 c.args.least) ≡ c.args.least = omega (arith, ints) in
    let n : to_z w128 (of_z w128 c.args.number) ≡ c.args.number = omega (arith, ints) in
    let g : to_z w128 (of_z w128 c.args.greatest) ≡ c.args.greatest = omega (arith, ints) in
    let r : to_z w128 (of_z w128 c.args.reduced_cost) ≡ c.args.reduced_cost = omega (arith, ints) in
    let paid = rw (l, n, g, r) at c.is_paid.ensures in
    (λ t. ((rw (l, n, g) at c.if-is_between.ensures).0 refl, paid.0 t), λ t. paid.1 t.1)
