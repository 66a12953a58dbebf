use Rattle.std.proofs.Common.{arith, rules, refl, ◌≡◌, ◌∙◌, ap, sym, pos, Ok, ⊎_elim}
use Rattle.frac128.specs.Fractions.{Fraction, IsFraction, product_of}
use Rattle.frac128.proofs.WholeLaws.{IsFraction-whole, zero-product_left, zero-product_right}
use Rattle.frac128.proofs.products.product.Goals as goal

pub fraction_of-requires : goal.fraction_of-requires
fraction_of-requires c = IsFraction-whole (pos 0) (pos 1) (omega arith) refl

pub returns-then-c-eq0-clause-exact : goal.returns-then-c-eq0-clause-exact
returns-then-c-eq0-clause-exact c =
    let first : IsFraction c.args.a.num c.args.a.den = search rules in
    let second : IsFraction c.args.c.num c.args.c.den = search rules in
    let is : product_of c.args.a c.args.c ≡ Ok (record { num = pos 0; den = pos 1 }) = ⊎_elim
    (λ e. let none : c.args.a.num ≡ pos 0 = search rules in zero-product_left c.args.a c.args.c first second none)
    (λ e. let read = e.1 in let none : c.args.c.num ≡ pos 0 = search rules in zero-product_right c.args.a c.args.c first second none)
    c.if-c-eq0.either in
    ap (λ (r : Fraction). Ok r) c.fraction_of.ensures.value ∙ sym is
