use Rattle.std.proofs.Common.{arith, rules, ◌≡◌, ◌∙◌, int_div, to_z, of_z}
use Rattle.std.specs.Int.{w128}
use Rattle.std.proofs.lemmas.Int.{ints}
use Rattle.frac128.specs.Fractions.{shared}
use Rattle.frac128.proofs.FractionLaws.{lowest-made, lowest-parts}
use Rattle.frac128.proofs.SharedLaws.{shared-positive}
use Rattle.frac128.proofs.making.divided_by_word.Goals as goal

pub over_word-requires : goal.over_word-requires
over_word-requires c =
    let is = c.requires.factor in
    let positive = shared-positive c.args.num c.args.den c.requires.positive in
    omega (arith, ints)

pub over_word-requires-2 : goal.over_word-requires-2
over_word-requires-2 c =
    let is = c.requires.factor in
    let positive = shared-positive c.args.num c.args.den c.requires.positive in
    omega (arith, ints)

pub fraction_of-requires : goal.fraction_of-requires
fraction_of-requires c =
    let numerator : to_z w128 (of_z w128 c.over_word.result) ≡ int_div c.args.num (shared c.args.num c.args.den) = search rules in
    let under : to_z w128 (of_z w128 c.over_word-2.result) ≡ int_div c.args.den (shared c.args.num c.args.den) = search rules in
    lowest-made c.args.num c.args.den _ _ c.requires.positive c.requires.num_fits (omega (arith, ints)) numerator under

pub returns : goal.returns
returns c =
    let numerator : to_z w128 (of_z w128 c.over_word.result) ≡ int_div c.args.num (shared c.args.num c.args.den) = search rules in
    let under : to_z w128 (of_z w128 c.over_word-2.result) ≡ int_div c.args.den (shared c.args.num c.args.den) = search rules in
    c.fraction_of.ensures.value ∙ lowest-parts c.args.num c.args.den _ _ numerator under
