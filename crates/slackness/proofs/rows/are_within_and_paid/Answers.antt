use Rattle.std.proofs.Common.{refl, arith, ◌≡◌, to_z, of_z}
use Rattle.std.specs.Int.{w128}
use Rattle.std.proofs.lemmas.Int.{ints}
use Rattle.slackness.proofs.rows.are_within_and_paid.Goals as goal

pub returns-then-are_within : goal.returns-then-are_within
returns-then-are_within c =
    let d : to_z w128 (of_z w128 c.args.denominator) ≡ c.args.denominator = omega (arith, ints) in
    let paid = rw d at c.are_paid.ensures in
    (λ t. ((rw d at c.if-are_within.ensures).0 refl, paid.0 t), λ t. paid.1 t.1)

pub returns-else-are_within : goal.returns-else-are_within
returns-else-are_within c =
    let d : to_z w128 (of_z w128 c.args.denominator) ≡ c.args.denominator = omega (arith, ints) in
    (λ t. absurd cc, λ t. (rw d at c.are_within.ensures).1 t.0)
