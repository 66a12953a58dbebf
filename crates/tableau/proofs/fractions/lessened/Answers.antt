use Rattle.std.proofs.Common.{◌≡◌, ◌∙◌, sym, subst, true, Result, Ok, IfOk}
use Rattle.frac128.specs.declared.fraction.Wide.{Wide}
use Rattle.frac128.specs.Fractions.{Fraction}
use Rattle.frac128.specs.Rationals.{sub, mul}
use Rattle.frac128.specs.Values.{value_of}
use Rattle.tableau.specs.Tables.{is_zero_fraction}
use Rattle.tableau.specs.Numbers.{less_product}
use Rattle.tableau.proofs.FractionLaws.{less_zero_left, less_zero_right, less_product-value}
use Rattle.tableau.proofs.fractions.lessened.Goals as goal
use Rattle.tableau.proofs.fractions.lessened.Goals.{then-first-via-then-first, then-first-via-else-first+then-second}

pub returns-then-first-clause-value : goal.returns-then-first-clause-value
returns-then-first-clause-value c =
    let x = c.unchanged.ensures.fraction in
    let f = c.is_zero-first.ensures.fraction in
    let g = c.is_zero-second.ensures.fraction in
    let same : less_product c.args.x c.args.f c.args.g ≡ Ok c.args.x =
    elim c.then-first.branch [
      | then-first-via-then-first w ↦ less_zero_left c.args.x c.args.f c.args.g x f g (sym c.is_zero-first.ensures.zero
          ∙ w.if-first.true)
      | then-first-via-else-first+then-second w ↦ less_zero_right c.args.x c.args.f c.args.g x f g
          (sym c.is_zero-second.ensures.zero ∙ w.if-second.true)
    ] in
    let value = (less_product-value c.args.x c.args.f c.args.g c.args.x x f g same).1 in
    subst (λ (o : Result Fraction Wide). IfOk o (λ r. value_of r ≡ sub (value_of c.args.x) (mul (value_of c.args.f) (value_of c.args.g))))
    (sym c.unchanged.ensures.same) value

pub returns-then-first-clause-exact : goal.returns-then-first-clause-exact
returns-then-first-clause-exact c =
    let x = c.unchanged.ensures.fraction in
    let f = c.is_zero-first.ensures.fraction in
    let g = c.is_zero-second.ensures.fraction in
    c.unchanged.ensures.same ∙ sym (elim c.then-first.branch [
      | then-first-via-then-first w ↦ less_zero_left c.args.x c.args.f c.args.g x f g (sym c.is_zero-first.ensures.zero
          ∙ w.if-first.true)
      | then-first-via-else-first+then-second w ↦ less_zero_right c.args.x c.args.f c.args.g x f g
          (sym c.is_zero-second.ensures.zero ∙ w.if-second.true)
    ])
