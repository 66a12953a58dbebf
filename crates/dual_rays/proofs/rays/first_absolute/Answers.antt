use Rattle.std.proofs.Common.{rules, ◌≡◌, ◌≢◌, ◌∙◌, ap, sym, to_z, of_z, pos, Some}
use Rattle.std.specs.Int.{w128}
use Rattle.frac128.specs.Fractions.{Fraction}
use Rattle.frac128.specs.Values.{value_of}
use Rattle.dual_rays.proofs.FirstLaws.{first-found, first-next}
use Rattle.frac128.proofs.SignLaws.{value_numerator, absolute-nonzero}
use Rattle.dual_rays.proofs.rays.first_absolute.Goals as goal

pub returns-then-num-ne0-clause-value : goal.returns-then-num-ne0-clause-value
returns-then-num-ne0-clause-value c =
    let x = c.number-item.result in
    let nonzero : (value_of x).numerator ≢ pos 0 = λ e. c.if-num-ne0.true (ap (of_z w128) (c.num.ensures.value
    ∙ sym (value_numerator x c.num.ensures.fraction) ∙ e)) in
    ap Some c.absolute.ensures.value
    ∙ sym (first-found c.args.ray.now c.loop-number.number-index x c.loop-number-test.true c.number-item.is c.loop-number.invariant.zeros
    nonzero)

pub returns-then-num-ne0-clause-present : goal.returns-then-num-ne0-clause-present
returns-then-num-ne0-clause-present c =
    let x = c.number-item.result in
    let nonzero : x.num ≢ pos 0 = λ e. c.if-num-ne0.true (ap (of_z w128) (c.num.ensures.value ∙ e)) in
    λ e. absolute-nonzero x nonzero (ap (λ (z : Fraction). z.num) (sym c.absolute.ensures.exact) ∙ e)

pub loop-number-preserved : goal.loop-number-preserved
loop-number-preserved c =
    let x = c.number-item.result in
    let read : to_z w128 (of_z w128 c.num.result) ≡ c.num.result = search rules in
    let zero : (value_of x).numerator ≡ pos 0 = value_numerator x c.num.ensures.fraction ∙ sym c.num.ensures.value ∙ sym read
    ∙ ap (to_z w128) c.if-num-ne0.false in
    record {
      zeros = first-next c.args.ray.now c.loop-number.number-index x c.loop-number-test.true c.number-item.is
          c.loop-number.invariant.zeros zero;
    }
