-- Quotients of fractions that are wide, as those of their rational numbers.
use Rattle.std.specs.Prelude.{◌≡◌, ◌≢◌, suc, ◌^◌, ◌≤◌, Bool, true, false, if◌then◌else◌, Option, Some, None, Err, ℤ, pos, ◌*ℤ◌, ◌<ℤ◌}
use Rattle.std.specs.Prelude.{int_div, unsigned_abs}
use Rattle.std.proofs.Common.{refl, ap, sym, ◌∙◌, subst, inl, inr}
use borrow.Author.Tests.{ltb-false}
use Rattle.frac128.specs.declared.fraction.Wide.{Wide}
use Rattle.frac128.specs.Fractions.{Fraction, IsFraction, in_range, within, shared, fraction_where, product_of, reciprocal_of, quotient_of}
use Rattle.frac128.specs.Rationals.{quotient, rational, mul}
use Rattle.frac128.specs.Values.{value_of}
use Rattle.frac128.proofs.Fractions.{lowest-is, product_is}
use Rattle.frac128.proofs.FractionLaws.{product-positive, product-lowest, product-equal, reciprocal-value, reciprocal-proper}
use Rattle.dual_rays.specs.Internal.Quotients.{IsWide}
use Rattle.frac128.proofs.SignLaws.{absolute_of_S}

-- ---- wide products
within-none : (z : ℤ) → within z ≡ None → 2 ^ 127 ≤ unsigned_abs z
within-none z e = by (in_range z) refl e
  where
    by : (t : Bool) → in_range z ≡ t → (if t then Some z else None) ≡ None → 2 ^ 127 ≤ unsigned_abs z
    by true f g = absurd cc
    by false f g = ltb-false (unsigned_abs z) (2 ^ 127) f

wide-lowest : (n d : ℤ) (one : (rational n d).numerator ≡ n) (two : unsigned_abs d ≡ suc (rational n d).less) (w : Wide) →
    fraction_where (within n) (within d) ≡ Err w → IsWide (rational n d)
wide-lowest n d one two w e = by (within n) (within d) refl refl e
  where
    by : (s t : Option ℤ) → within n ≡ s → within d ≡ t → fraction_where s t ≡ Err w → IsWide (rational n d)
    by (Some m) (Some k) f g h = absurd cc
    by (Some m) None f g h = inr (subst (λ z. 2 ^ 127 ≤ z) two (within-none d g))
    by None t f g h = inl (subst (λ z. 2 ^ 127 ≤ unsigned_abs z) (sym one) (within-none n f))

wide-product : (x y : Fraction) (w : Wide) → IsFraction x.num x.den → IsFraction y.num y.den → product_of x y ≡ Err w →
    IsWide (mul (value_of x) (value_of y))
unfolding product_of
wide-product x y w p q e =
    let g = shared x.num y.den in
    let h = shared y.num x.den in
    let n = int_div x.num g *ℤ int_div y.num h in
    let d = int_div x.den h *ℤ int_div y.den g in
    let positive : pos 0 <ℤ d = product-positive x.num x.den y.num y.den p q in
    let parts = lowest-is n d positive (product-lowest x.num x.den y.num y.den p q) in
    let is = product_is x.num x.den y.num y.den n d p.positive q.positive positive (product-equal x.num x.den y.num y.den p q) in
    subst IsWide is (wide-lowest n d parts.0 (sym (ap unsigned_abs parts.1) ∙ absolute_of_S (rational n d).less) w e)

pub wide-quotient : (x y : Fraction) (w : Wide) → IsFraction x.num x.den → IsFraction y.num y.den → y.num ≢ pos 0 → quotient_of x y ≡ Err w
    → IsWide (quotient (value_of x) (value_of y))
wide-quotient x y w p q n e = subst (λ z. IsWide (mul (value_of x) z)) (reciprocal-value y q n)
    (wide-product x (reciprocal_of y) w p (reciprocal-proper y.num y.den q n) e)
