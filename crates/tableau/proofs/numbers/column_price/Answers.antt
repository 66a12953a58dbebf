use Rattle.std.proofs.Common.{arith, rules, ◌≡◌, ◌∙◌, sym, ap, refl, Ok, Err, ℕ, ◌+◌, length, Result, List, [], ℤ}
use Rattle.std.proofs.lemmas.List.{get_or_read_under}
use Rattle.frac128.specs.Fractions.{Fraction, whole}
use Rattle.frac128.specs.declared.fraction.Wide.{Wide}
use Rattle.tableau.specs.Tables.{at, entry, basic_at, variable_at}
use Rattle.frac128.specs.Rationals.{Rational, of, sub, mul}
use Rattle.frac128.specs.Values.{value_of}
use Rattle.tableau.specs.Numbers.{less_product}
use Rattle.tableau.proofs.NumberLaws.{first_price, price_step}
use Rattle.tableau.proofs.ListLaws.{after_steps-wide, after_steps-next, is_wide}
use Rattle.tableau.proofs.numbers.column_price.Goals as goal

pub returns-in-Err-clause-exact : goal.returns-in-Err-clause-exact
returns-in-Err-clause-exact c =
    let rows = c.args.rows.now in
    let i = c.loop-i.i in
    let f : ℕ → Fraction → Result Fraction Wide = λ i x. less_product x (entry rows i c.args.var)
    (whole (variable_at c.args.variables.now (basic_at c.args.basics.now i)).cost) in
    let first = whole (variable_at c.args.variables.now c.args.var).cost in
    let read = get_or_read_under rows i (length rows) c.index-rows-i.result [] c.index-rows-i.is c.loop-i-test.true refl in
    let entry_is : c.at.result ≡ entry rows i c.args.var = c.at.ensures ∙ ap (λ (line : List Fraction). at line c.args.var) read in
    let cost_is : c.from_whole.result ≡ whole (variable_at c.args.variables.now (basic_at c.args.basics.now i)).cost = search rules in
    let step : Err (record {}) ≡ f i c.loop-i.price =
    sym (is_wide c.lessened.result c.in-Err.field-0 c.in-Err.is) ∙ c.lessened.ensures.exact
    ∙ ap (λ t. less_product c.loop-i.price t c.from_whole.result) entry_is
    ∙ ap (less_product c.loop-i.price (entry rows i c.args.var)) cost_is in
    let next = after_steps-next f first c.loop-i.price i (Err (record {})) c.loop-i.invariant.exact step in
    sym (after_steps-wide f first (i + 1) (length rows) (sym next) (let l = c.loop-i-test.true in omega arith))

pub loop-i-init : goal.loop-i-init
loop-i-init c =
    let cost = (variable_at c.args.variables.now c.args.var).cost in
    let cost_is : c.from_whole-price.result ≡ whole cost = search rules in
    let number_is : value_of c.from_whole-price.result ≡ of cost = search rules in
    record {
      exact = ap (λ (x : Fraction). Ok x) cost_is;
      number = number_is ∙ first_price (of cost);
    }

pub loop-i-preserved : goal.loop-i-preserved
loop-i-preserved c =
    let rows = c.args.rows.now in
    let i = c.loop-i.i in
    let cost : ℕ → ℤ = λ i. (variable_at c.args.variables.now (basic_at c.args.basics.now i)).cost in
    let f : ℕ → Fraction → Result Fraction Wide = λ i x. less_product x (entry rows i c.args.var) (whole (cost i)) in
    let first = whole (variable_at c.args.variables.now c.args.var).cost in
    let read = get_or_read_under rows i (length rows) c.index-rows-i.result [] c.index-rows-i.is c.loop-i-test.true refl in
    let entry_is : c.at.result ≡ entry rows i c.args.var = c.at.ensures ∙ ap (λ (line : List Fraction). at line c.args.var) read in
    let cost_is : c.from_whole.result ≡ whole (cost i) = search rules in
    let number_is : value_of c.from_whole.result ≡ of (cost i) = search rules in
    let step : Ok c.in-Ok.less ≡ f i c.loop-i.price =
    sym c.in-Ok.is ∙ c.lessened.ensures.exact ∙ ap (λ t. less_product c.loop-i.price t c.from_whole.result) entry_is
    ∙ ap (less_product c.loop-i.price (entry rows i c.args.var)) cost_is in
    let loss = c.in-Ok.ensures.value
    ∙ ap (λ (t : Fraction). sub (value_of c.loop-i.price) (mul (value_of t) (value_of c.from_whole.result))) entry_is
    ∙ ap (λ (z : Rational). sub (value_of c.loop-i.price) (mul (value_of (entry rows i c.args.var)) z)) number_is in
    record {
      exact = after_steps-next f first c.loop-i.price i (Ok c.in-Ok.less) c.loop-i.invariant.exact step;
      number = price_step (of (variable_at c.args.variables.now c.args.var).cost)
          (λ i. mul (value_of (entry rows i c.args.var)) (of (cost i))) i (value_of c.loop-i.price) (value_of c.in-Ok.less)
          c.loop-i.invariant.number loss;
    }
