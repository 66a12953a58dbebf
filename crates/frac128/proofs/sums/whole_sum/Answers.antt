use Rattle.std.proofs.Common.{rules, refl, ◌≡◌, ◌∙◌, ap, sym, ◌+ℤ◌, Some, None, Ok, to_z, of_z}
use Rattle.std.specs.Int.{w128}
use Rattle.frac128.specs.Fractions.{Fraction, IsFraction, within}
use Rattle.frac128.proofs.FractionLaws.{within-some}
use Rattle.frac128.proofs.WholeLaws.{IsFraction-whole, whole-sum, whole-sum_wide}
use Rattle.frac128.proofs.sums.whole_sum.Goals as goal

pub fraction_of-requires : goal.fraction_of-requires
fraction_of-requires c =
    let is : within (c.args.a.num +ℤ c.args.c.num) ≡ Some (to_z w128 (of_z w128 c.in-Some.num)) = search rules in
    IsFraction-whole _ _ (within-some (c.args.a.num +ℤ c.args.c.num) _ is).1 refl

pub returns-in-Some : goal.returns-in-Some
returns-in-Some c =
    let first : IsFraction c.args.a.num c.args.a.den = search rules in
    let second : IsFraction c.args.c.num c.args.c.den = search rules in
    let is : within (c.args.a.num +ℤ c.args.c.num) ≡ Some (to_z w128 (of_z w128 c.in-Some.num)) = search rules in
    ap (λ (r : Fraction). Ok r) c.fraction_of.ensures.value
    ∙ sym (whole-sum c.args.a c.args.c first second c.requires.first c.requires.second _ is)

pub returns-in-None : goal.returns-in-None
returns-in-None c =
    let first : IsFraction c.args.a.num c.args.a.den = search rules in
    let second : IsFraction c.args.c.num c.args.c.den = search rules in
    let is : within (c.args.a.num +ℤ c.args.c.num) ≡ None = search rules in
    sym (whole-sum_wide c.args.a c.args.c first second c.requires.first c.requires.second is)
