use Rattle.std.proofs.Common.{arith, refl, ap, ◌∙◌, ◌≡◌, to_z, of_z}
use Rattle.std.proofs.lemmas.Int.{ints}
use Rattle.std.specs.Int.{w128}
use Rattle.frac128.specs.Fractions.{whole}
use Rattle.frac128.specs.Values.{value_of}
use Rattle.frac128.proofs.SignLaws.{whole-value}
use Rattle.frac128.proofs.WholeLaws.{IsFraction-whole}
use Rattle.frac128.proofs.fraction.Frac.from_whole.Goals as goal

pub fraction_of-requires : goal.fraction_of-requires
fraction_of-requires c = IsFraction-whole _ _ (omega (arith, ints)) refl

pub returns-clause-value : goal.returns-clause-value
returns-clause-value c =
    let is : to_z w128 (of_z w128 c.from.result) ≡ c.args.number = omega (arith, ints) in
    ap value_of (c.fraction_of.ensures.value ∙ ap whole is) ∙ whole-value c.args.number
