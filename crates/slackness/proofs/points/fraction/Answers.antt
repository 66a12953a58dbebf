use Rattle.std.proofs.Common.{arith, ap, ◌∙◌, ◌≡◌, to_z, of_z}
use Rattle.std.specs.Int.{w128}
use Rattle.std.proofs.lemmas.Int.{ints}
use Rattle.frac128.specs.Values.{value_of}
use Rattle.slackness.proofs.FractionLaws.{reduced_value}
use Rattle.slackness.proofs.points.fraction.Goals as goal

pub returns : goal.returns
returns c =
    let n : to_z w128 (of_z w128 c.args.numerator) ≡ c.args.numerator = omega (arith, ints) in
    let d : to_z w128 (of_z w128 c.args.denominator) ≡ c.args.denominator = omega (arith, ints) in
    let is = rw (n, d) at c.frac.ensures.value in
    ap value_of is ∙ reduced_value c.args.numerator c.args.denominator c.requires.denominator.positive
