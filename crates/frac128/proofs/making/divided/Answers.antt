use Rattle.std.proofs.Common.{arith, rules, ◌≡◌, ◌∙◌, sym, subst, ◌*ℤ◌, int_div, to_z, of_z}
use Rattle.std.specs.Int.{w128}
use Rattle.std.proofs.lemmas.Int.{ints}
use Rattle.frac128.specs.Fractions.{Fraction, shared}
use Rattle.frac128.proofs.FractionLaws.{lowest-made, lowest-parts, lowest_of-equal}
use Rattle.frac128.proofs.SharedLaws.{shared-positive}
use Rattle.frac128.proofs.making.divided.Goals as goal

pub over-requires : goal.over-requires
over-requires c =
    let is = c.requires.factor in
    let positive = shared-positive c.args.num c.args.den c.requires.positive in
    omega (arith, ints)

pub over-requires-2 : goal.over-requires-2
over-requires-2 c =
    let is = c.requires.factor in
    let positive = shared-positive c.args.num c.args.den c.requires.positive in
    omega (arith, ints)

pub fraction_of-requires : goal.fraction_of-requires
fraction_of-requires c =
    let numerator : to_z w128 (of_z w128 c.over.result) ≡ int_div c.args.num (shared c.args.num c.args.den) = search rules in
    let under : to_z w128 (of_z w128 c.over-2.result) ≡ int_div c.args.den (shared c.args.num c.args.den) = search rules in
    lowest-made c.args.num c.args.den _ _ c.requires.positive c.requires.num_fits (omega (arith, ints)) numerator under

pub returns-clause-value : goal.returns-clause-value
returns-clause-value c =
    let numerator : to_z w128 (of_z w128 c.over.result) ≡ int_div c.args.num (shared c.args.num c.args.den) = search rules in
    let under : to_z w128 (of_z w128 c.over-2.result) ≡ int_div c.args.den (shared c.args.num c.args.den) = search rules in
    c.fraction_of.ensures.value ∙ lowest-parts c.args.num c.args.den _ _ numerator under

pub returns-clause-equal : goal.returns-clause-equal
returns-clause-equal c =
    let numerator : to_z w128 (of_z w128 c.over.result) ≡ int_div c.args.num (shared c.args.num c.args.den) = search rules in
    let under : to_z w128 (of_z w128 c.over-2.result) ≡ int_div c.args.den (shared c.args.num c.args.den) = search rules in
    let is = c.fraction_of.ensures.value ∙ lowest-parts c.args.num c.args.den _ _ numerator under in
    subst (λ (r : Fraction). r.num *ℤ c.args.den ≡ c.args.num *ℤ r.den) (sym is) (lowest_of-equal c.args.num c.args.den)
