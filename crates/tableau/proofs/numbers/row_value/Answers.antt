use Rattle.std.proofs.Common.{arith, ◌≡◌, ◌∙◌, sym, ap, refl, Ok, Err, ℕ, ◌+◌, length, Result, pos, Option, ℤ}
use Rattle.std.proofs.lemmas.List.{get_or_read_under}
use Rattle.frac128.specs.Fractions.{Fraction, whole}
use Rattle.frac128.specs.declared.fraction.Wide.{Wide}
use Rattle.tableau.specs.Tables.{at, position_at, variable_at}
use Rattle.frac128.specs.Rationals.{of, sub, mul}
use Rattle.frac128.specs.Values.{value_of}
use Rattle.tableau.specs.Numbers.{less_nonbasic_value, nonbasic_value, side_or_zero}
use Rattle.tableau.proofs.NumberLaws.{no_loss, value_step}
use Rattle.tableau.proofs.ListLaws.{after_steps-wide, after_steps-next, is_wide}
use Rattle.tableau.proofs.numbers.row_value.Goals as goal

pub returns-in-Err-clause-exact : goal.returns-in-Err-clause-exact
returns-in-Err-clause-exact c =
    let line = c.args.line.now in
    let v = c.loop-v.v in
    let f : ℕ → Fraction → Result Fraction Wide = λ v x. less_nonbasic_value x (at line v)
    (nonbasic_value (variable_at c.args.variables.now v) (position_at c.args.positions.now v)) in
    let read = get_or_read_under line v (length line) c.index-line-v.result (whole (pos 0)) c.index-line-v.is c.loop-v-test.true refl in
    let step : Err (record {}) ≡ f v c.loop-v.value =
    sym (is_wide c.less_nonbasic.result c.in-Err.field-0 c.in-Err.is) ∙ c.less_nonbasic.ensures.exact
    ∙ ap (λ t. less_nonbasic_value c.loop-v.value t c.nonbasic_value.result) read
    ∙ ap (λ (o : Option ℤ). less_nonbasic_value c.loop-v.value (at line v) o) c.nonbasic_value.ensures in
    let next = after_steps-next f (whole (pos 0)) c.loop-v.value v (Err (record {})) c.loop-v.invariant.exact step in
    sym (after_steps-wide f (whole (pos 0)) (v + 1) (length line) (sym next) (let l = c.loop-v-test.true in omega arith))

pub loop-v-init : goal.loop-v-init
loop-v-init c = record {
  exact = ap (λ (x : Fraction). Ok x) c.from_whole-value.ensures.exact;
  number = c.from_whole-value.ensures.value ∙ no_loss;
}

pub loop-v-preserved : goal.loop-v-preserved
loop-v-preserved c =
    let line = c.args.line.now in
    let v = c.loop-v.v in
    let rest : ℕ → Option ℤ = λ v. nonbasic_value (variable_at c.args.variables.now v) (position_at c.args.positions.now v) in
    let f : ℕ → Fraction → Result Fraction Wide = λ v x. less_nonbasic_value x (at line v) (rest v) in
    let read = get_or_read_under line v (length line) c.index-line-v.result (whole (pos 0)) c.index-line-v.is c.loop-v-test.true refl in
    let step : Ok c.in-Ok.less ≡ f v c.loop-v.value =
    sym c.in-Ok.is ∙ c.less_nonbasic.ensures.exact ∙ ap (λ t. less_nonbasic_value c.loop-v.value t c.nonbasic_value.result) read
    ∙ ap (λ (o : Option ℤ). less_nonbasic_value c.loop-v.value (at line v) o) c.nonbasic_value.ensures in
    let loss = c.in-Ok.ensures.value
    ∙ ap (λ (t : Fraction). sub (value_of c.loop-v.value) (mul (value_of t) (of (side_or_zero c.nonbasic_value.result)))) read
    ∙ ap (λ (o : Option ℤ). sub (value_of c.loop-v.value) (mul (value_of (at line v)) (of (side_or_zero o)))) c.nonbasic_value.ensures in
    record {
      exact = after_steps-next f (whole (pos 0)) c.loop-v.value v (Ok c.in-Ok.less) c.loop-v.invariant.exact step;
      number = value_step (λ v. mul (value_of (at line v)) (of (side_or_zero (rest v)))) v (value_of c.loop-v.value)
          (value_of c.in-Ok.less) c.loop-v.invariant.number loss;
    }
