use Rattle.std.proofs.Common.{rules, ◌≡◌, ◌∙◌, ap, sym, subst, ◌<ℤ◌, ◌+ℤ◌, pos, to_z, of_z, Some, None, Ok}
use Rattle.std.specs.Int.{w128}
use Rattle.frac128.specs.Fractions.{Fraction, sum_of, IsFraction, within, shared, left_of_sum, right_of_sum, under_sum}
use Rattle.frac128.proofs.FractionLaws.{sum_den, sum-positive, within-some, sum-made, sum-wide}
use Rattle.frac128.proofs.SharedLaws.{sum-factor_within}
use Rattle.frac128.proofs.sums.general_sum.Goals as goal

pub divided-requires-clause-positive : goal.divided-requires-clause-positive
divided-requires-clause-positive c =
    let first : IsFraction c.args.a.num c.args.a.den = search rules in
    let second : IsFraction c.args.c.num c.args.c.den = search rules in
    let is : within (sum_den c.args.a.num c.args.a.den c.args.c.num c.args.c.den first second)
    ≡ Some (to_z w128 (of_z w128 c.in-Some-Some-Some.den)) = search rules in
    subst (λ z. pos 0 <ℤ z) (sym (within-some _ _ is).0) (sum-positive c.args.a.num c.args.a.den c.args.c.num c.args.c.den first second)

pub divided-requires-clause-num_fits : goal.divided-requires-clause-num_fits
divided-requires-clause-num_fits c =
    let sum = to_z w128 (of_z w128 c.in-Some-Some-Some.left) +ℤ to_z w128 (of_z w128 c.in-Some-Some-Some.right) in
    let is : within sum ≡ Some (to_z w128 (of_z w128 c.in-Some.num)) = search rules in
    (within-some sum _ is).1

pub divided-requires-clause-factor : goal.divided-requires-clause-factor
divided-requires-clause-factor c =
    let first : IsFraction c.args.a.num c.args.a.den = search rules in
    let second : IsFraction c.args.c.num c.args.c.den = search rules in
    let left : within (left_of_sum c.args.a c.args.c) ≡ Some (to_z w128 (of_z w128 c.in-Some-Some-Some.left)) = search rules in
    let right : within (right_of_sum c.args.a c.args.c) ≡ Some (to_z w128 (of_z w128 c.in-Some-Some-Some.right)) = search rules in
    let num : within (to_z w128 (of_z w128 c.in-Some-Some-Some.left) +ℤ to_z w128 (of_z w128 c.in-Some-Some-Some.right))
    ≡ Some (to_z w128 (of_z w128 c.in-Some.num)) = search rules in
    let den : within (under_sum c.args.a c.args.c) ≡ Some (to_z w128 (of_z w128 c.in-Some-Some-Some.den)) = search rules in
    let factor : to_z w128 (of_z w128 c.shared.result) ≡ shared (to_z w128 (of_z w128 c.in-Some.num)) (shared c.args.a.den c.args.c.den) =
    search rules in
    factor ∙ sum-factor_within c.args.a c.args.c first second _ _ _ _ left right num den

pub returns-in-Some : goal.returns-in-Some
returns-in-Some c =
    let left : within (left_of_sum c.args.a c.args.c) ≡ Some (to_z w128 (of_z w128 c.in-Some-Some-Some.left)) = search rules in
    let right : within (right_of_sum c.args.a c.args.c) ≡ Some (to_z w128 (of_z w128 c.in-Some-Some-Some.right)) = search rules in
    let num : within (to_z w128 (of_z w128 c.in-Some-Some-Some.left) +ℤ to_z w128 (of_z w128 c.in-Some-Some-Some.right))
    ≡ Some (to_z w128 (of_z w128 c.in-Some.num)) = search rules in
    let den : within (under_sum c.args.a c.args.c) ≡ Some (to_z w128 (of_z w128 c.in-Some-Some-Some.den)) = search rules in
    ap (λ (r : Fraction). Ok r) c.divided.ensures.value ∙ sym (sum-made c.args.a c.args.c _ _ left right _ _ num den)

pub returns-in-None : goal.returns-in-None
returns-in-None c =
    let left : within (left_of_sum c.args.a c.args.c) ≡ Some (to_z w128 (of_z w128 c.in-Some-Some-Some.left)) = search rules in
    let right : within (right_of_sum c.args.a c.args.c) ≡ Some (to_z w128 (of_z w128 c.in-Some-Some-Some.right)) = search rules in
    let num : within (to_z w128 (of_z w128 c.in-Some-Some-Some.left) +ℤ to_z w128 (of_z w128 c.in-Some-Some-Some.right))
    ≡ None = search rules in
    sym (sum-wide c.args.a c.args.c _ _ left right num)

pub returns-in_default : goal.returns-in_default
unfolding sum_of
returns-in_default c = search rules
