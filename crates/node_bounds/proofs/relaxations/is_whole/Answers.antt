use Rattle.std.proofs.Common.{arith, ◌≡◌, of_z}
use Rattle.std.specs.Prelude.{pos}
use Rattle.std.specs.Int.{w128}
use Rattle.std.proofs.lemmas.Int.{ints}
use Rattle.node_bounds.proofs.WholeLaws.{whole_test}
use Rattle.node_bounds.proofs.relaxations.is_whole.Goals as goal

pub returns : goal.returns
returns c =
    let f = c.den.ensures.fraction in
    let positive = f.positive in
    let fits = f.den_fits in
    let is : pos (of_z w128 c.den.result) ≡ c.args.number.den = omega (arith, ints, c.den.ensures.value) in
    whole_test c.args.number (of_z w128 c.den.result) f is
