-- The steps of a tableau on fractions: a factor of 0 changes nothing, the answers are fractions, and they are the exact numbers.
use Rattle.std.specs.Prelude.{◌≡◌, ◌≢◌, true, Option, Some, None, Result, Ok, Err, IfOk, ℤ, pos, neg_ℤ, ◌*ℤ◌, ◌<ℤ◌, int_div}
use Rattle.std.proofs.Common.{arith, refl, ap, sym, ◌∙◌, subst}
use Rattle.frac128.specs.declared.fraction.Wide.{Wide}
use Rattle.frac128.specs.Fractions.{Fraction, within, shared, lowest_of, sum_where, sum_of, fraction_where, product_of, negative_of}
use Rattle.frac128.specs.Fractions.{difference_of, reciprocal_of, quotient_of, whole}
use Rattle.frac128.specs.Rationals.{of, sub, mul, inverse}
use Rattle.frac128.specs.Values.{value_of, IsDifference, IsProduct, IsQuotient}
use Rattle.frac128.proofs.FractionLaws.{IsProper, reciprocal-proper, within-some, IsFraction-product, IsFraction-lowest}
use Rattle.frac128.proofs.FractionLaws.{IsFraction-negative, sum_num, sum_den, sum-positive, product-exact, sum-exact, IfOk-difference}
use Rattle.frac128.proofs.FractionLaws.{IfOk-quotient}
use Rattle.frac128.proofs.Fractions.{lowest-is}
use Rattle.frac128.proofs.Order.{nonzero}
use Rattle.frac128.proofs.WholeLaws.{IsFraction-whole, zero-product_left, zero-product_right, zero-sum_right}
use Rattle.ip_defs.proofs.OrderLaws.{zero_is}
use Rattle.tableau.specs.Tables.{is_zero_fraction}
use Rattle.tableau.specs.Numbers.{and_then, less_product}

-- ---- 0
-- less 0 is the same
less_zero : (x : Fraction) → IsProper x → difference_of x (whole (pos 0)) ≡ Ok x
less_zero x p = zero-sum_right x (whole (pos 0)) p (IsFraction-whole (pos 0) (pos 1) (omega arith) refl) refl

-- a factor of 0 leaves a number alone
pub less_zero_left : (x f g : Fraction) → IsProper x → IsProper f → IsProper g → is_zero_fraction f ≡ true → less_product x f g ≡ Ok x
less_zero_left x f g p q r e = ap (λ o. and_then o (difference_of x)) (zero-product_left f g q r (zero_is f.num e)) ∙ less_zero x p

pub less_zero_right : (x f g : Fraction) → IsProper x → IsProper f → IsProper g → is_zero_fraction g ≡ true → less_product x f g ≡ Ok x
less_zero_right x f g p q r e = ap (λ o. and_then o (difference_of x)) (zero-product_right f g q r (zero_is g.num e)) ∙ less_zero x p

-- ---- answers are fractions
pub product-proper : (x y r : Fraction) → IsProper x → IsProper y → product_of x y ≡ Ok r → IsProper r
unfolding product_of
product-proper x y r p q e =
    by (within (int_div x.num (shared x.num y.den) *ℤ int_div y.num (shared y.num x.den)))
    (within (int_div x.den (shared y.num x.den) *ℤ int_div y.den (shared x.num y.den))) refl refl e
  where
    by : (s t : Option ℤ) → within (int_div x.num (shared x.num y.den) *ℤ int_div y.num (shared y.num x.den)) ≡ s →
        within (int_div x.den (shared y.num x.den) *ℤ int_div y.den (shared x.num y.den)) ≡ t → fraction_where s t ≡ Ok r → IsProper r
    by (Some n) (Some d) f h g =
        let is : record { num = n; den = d } ≡ r = cc in
        subst IsProper is (IsFraction-product x.num x.den y.num y.den p q n d f h)
    by (Some n) None f h g = absurd cc
    by None t f h g = absurd cc

pub sum-proper : (x y r : Fraction) → IsProper x → IsProper y → sum_of x y ≡ Ok r → IsProper r
unfolding sum_of
sum-proper x y r p q e =
    by (within (x.num *ℤ int_div y.den (shared x.den y.den))) (within (y.num *ℤ int_div x.den (shared x.den y.den)))
    (within (sum_num x.num x.den y.num y.den p q)) (within (sum_den x.num x.den y.num y.den p q)) refl refl refl refl e
  where
    by : (s t v w : Option ℤ) → within (x.num *ℤ int_div y.den (shared x.den y.den)) ≡ s →
        within (y.num *ℤ int_div x.den (shared x.den y.den)) ≡ t → within (sum_num x.num x.den y.num y.den p q) ≡ v →
        within (sum_den x.num x.den y.num y.den p q) ≡ w → sum_where s t v w ≡ Ok r → IsProper r
    by (Some a) (Some b) (Some n) (Some d) f g h k is =
        let numerator = within-some (sum_num x.num x.den y.num y.den p q) n h in
        let under = within-some (sum_den x.num x.den y.num y.den p q) d k in
        let positive : pos 0 <ℤ d = subst (λ z. pos 0 <ℤ z) (sym under.0) (sum-positive x.num x.den y.num y.den p q) in
        let same : lowest_of n d ≡ r = cc in
        subst IsProper same (IsFraction-lowest n d positive numerator.1 under.1)
    by (Some a) (Some b) (Some n) None f g h k is = absurd cc
    by (Some a) (Some b) None w f g h k is = absurd cc
    by (Some a) None v w f g h k is = absurd cc
    by None t v w f g h k is = absurd cc

pub difference-proper : (x y r : Fraction) → IsProper x → IsProper y → difference_of x y ≡ Ok r → IsProper r
difference-proper x y r p q e = sum-proper x (negative_of y) r p (IsFraction-negative y.num y.den (neg_ℤ y.num) q refl) e

pub quotient-proper : (x y r : Fraction) → IsProper x → IsProper y → y.num ≢ pos 0 → quotient_of x y ≡ Ok r → IsProper r
quotient-proper x y r p q h e = product-proper x (reciprocal_of y) r p (reciprocal-proper y.num y.den q h) e

-- ---- answers are exact
pub less_product-value : (x f g r : Fraction) → IsProper x → IsProper f → IsProper g → less_product x f g ≡ Ok r → IsProper r
    × (value_of r ≡ sub (value_of x) (mul (value_of f) (value_of g)))
less_product-value x f g r p q s e = by (product_of f g) refl e
  where
    by : (o : Result Fraction Wide) → product_of f g ≡ o → and_then o (difference_of x) ≡ Ok r → IsProper r
        × (value_of r ≡ sub (value_of x) (mul (value_of f) (value_of g)))
    by (Ok y) h k =
        let proper = product-proper f g y q s h in
        let times : IsProduct f g y = subst (λ o. IfOk o (IsProduct f g)) h (product-exact f g q s) in
        let turned = IsFraction-negative y.num y.den (neg_ℤ y.num) proper refl in
        let less : IsDifference x y r = subst (λ o. IfOk o (IsDifference x y)) k
        (IfOk-difference x y (difference_of x y) (sum-exact x (negative_of y) p turned)) in
        (difference-proper x y r p proper k, less ∙ ap (sub (value_of x)) times)
    by (Err w) h k = absurd cc

pub quotient-value : (x y r : Fraction) → IsProper x → IsProper y → y.num ≢ pos 0 → quotient_of x y ≡ Ok r →
    value_of r ≡ mul (value_of x) (inverse (value_of y))
quotient-value x y r p q h e =
    let turned = reciprocal-proper y.num y.den q h in
    subst (λ o. IfOk o (IsQuotient x y)) e (IfOk-quotient x y (quotient_of x y) q h (product-exact x (reciprocal_of y) p turned))

-- a fraction that is not 0 is no rational number 0
pub nonzero-value : (y : Fraction) → IsProper y → y.num ≢ pos 0 → value_of y ≢ of (pos 0)
nonzero-value y p h = nonzero (value_of y) (λ e. h (sym (lowest-is y.num y.den p.positive p.lowest).0 ∙ e))
