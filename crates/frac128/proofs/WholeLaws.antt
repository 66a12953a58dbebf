-- Sums and products of whole numbers and with 0.
use Rattle.std.specs.Prelude.{◌≡◌, zero, suc, ◌/◌, ◌<◌, ◌^◌, Some, None, Ok, Err, ℤ, pos, negsuc, neg_ℤ, ◌+ℤ◌, ◌*ℤ◌, ◌<ℤ◌, int_div}
use Rattle.std.specs.Prelude.{unsigned_abs}
use Rattle.std.proofs.Common.{arith, refl, ap, sym, ◌∙◌}
use Rattle.std.proofs.lemmas.Int.{ints}
use Rattle.std.proofs.Math.Nat.{div_self, zero-div, dvd-one}
use Rattle.ring_laws.proofs.Rings.{whole}
use Rattle.frac128.specs.Gcd.{gcd}
use Rattle.frac128.specs.Fractions.{Fraction, IsFraction, within, shared, sum_of, fraction_where, product_of}
use Rattle.frac128.specs.Fractions.{over_product, under_product}
use Rattle.frac128.proofs.GcdLaws.{gcd-is, gcd_comm, gcd-zero}
use Rattle.frac128.proofs.FractionLaws.{sum-made, sum-wide}
use Rattle.frac128.proofs.SharedLaws.{within-fits, quotient-one, lowest-already, shared-one}

shared-swap : (a b : ℤ) → shared a b ≡ shared b a
shared-swap a b = ap pos (gcd_comm (unsigned_abs a) (unsigned_abs b))

-- the quotient by what is shared with 1
by-one : (z m n : ℤ) → n ≡ pos 1 → int_div z (shared m n) ≡ z
by-one z m n e = ap (int_div z) (shared-one m n e) ∙ quotient-one z

by-one_left : (z m n : ℤ) → m ≡ pos 1 → int_div z (shared m n) ≡ z
by-one_left z m n e = ap (int_div z) (shared-swap m n) ∙ by-one z n m e

times-one : (z m : ℤ) → m ≡ pos 1 → z *ℤ m ≡ z
times-one z m e = ap (λ n. z *ℤ n) e ∙ omega (arith, ints)

one-times : (m z : ℤ) → m ≡ pos 1 → m *ℤ z ≡ z
one-times m z e = ap (λ n. n *ℤ z) e ∙ omega (arith, ints)

zero-times : (m z : ℤ) → m ≡ pos 0 → m *ℤ z ≡ pos 0
zero-times m z e = ap (λ n. n *ℤ z) e ∙ omega (arith, ints)

times-zero : (z m : ℤ) → m ≡ pos 0 → z *ℤ m ≡ pos 0
times-zero z m e = ap (λ n. z *ℤ n) e ∙ omega (arith, ints)

within-is : (z n : ℤ) → z ≡ n → unsigned_abs n < 2 ^ 127 → within z ≡ Some n
within-is z n e h = ap within e ∙ within-fits n h

-- 0 in lowest terms is 0 / 1
zero-den : (x : Fraction) → IsFraction x.num x.den → x.num ≡ pos 0 → x.den ≡ pos 1
zero-den x p e =
    let size : unsigned_abs x.den ≡ 1 = sym (gcd-zero (unsigned_abs x.den) 0 refl) ∙ gcd_comm (unsigned_abs x.den) 0
    ∙ ap (λ z. gcd (unsigned_abs z) (unsigned_abs x.den)) (sym e) ∙ p.lowest in
    let positive = p.positive in
    omega (arith, ints)

-- a positive number over itself, as the divisor that it shares with 0
zero-shared : (n d : ℤ) → n ≡ pos 0 → pos 0 <ℤ d → int_div d (shared n d) ≡ pos 1
zero-shared n (pos zero) e p = absurd (omega (arith, ints))
zero-shared n (pos (suc k)) e p =
    let whole : gcd (unsigned_abs n) (suc k) ≡ suc k = ap (λ z. gcd (unsigned_abs z) (suc k)) e ∙ gcd_comm 0 (suc k)
    ∙ gcd-zero (suc k) 0 refl in
    ap (λ z. pos (suc k / z)) whole ∙ ap pos (div_self (omega arith))
zero-shared n (negsuc k) e p = absurd (omega (arith, ints))

zero-divided : (z g : ℤ) → z ≡ pos 0 → int_div z g ≡ pos 0
zero-divided z (pos m) e = ap (λ w. int_div w (pos m)) e ∙ ap pos (zero-div m)
zero-divided z (negsuc m) e = ap (λ w. int_div w (negsuc m)) e ∙ ap (λ w. neg_ℤ (pos w)) (zero-div (suc m))

-- ---- products
product-swap : (x y : Fraction) → product_of x y ≡ product_of y x
unfolding product_of
product-swap x y =
    ap (λ z. fraction_where (within z) (within (under_product x y)))
    (whole.mul_comm (int_div x.num (shared x.num y.den)) (int_div y.num (shared y.num x.den)))
    ∙ ap (λ z. fraction_where (within (over_product y x)) (within z))
    (whole.mul_comm (int_div x.den (shared y.num x.den)) (int_div y.den (shared x.num y.den)))

-- 0 on the left of a product
pub zero-product_left : (x y : Fraction) → IsFraction x.num x.den → IsFraction y.num y.den → x.num ≡ pos 0 →
    product_of x y ≡ Ok (record { num = pos 0; den = pos 1 })
unfolding product_of
zero-product_left x y p q none =
    let one-x = zero-den x p none in
    let numerator = zero-times (int_div x.num (shared x.num y.den)) (int_div y.num (shared y.num x.den))
    (zero-divided x.num (shared x.num y.den) none) in
    let denominator = ap (λ z. z *ℤ int_div y.den (shared x.num y.den)) (by-one x.den y.num x.den one-x)
    ∙ ap (λ z. x.den *ℤ z) (zero-shared x.num y.den none q.positive) ∙ times-one x.den (pos 1) refl ∙ one-x in
    ap (λ z. fraction_where z (within (under_product x y))) (within-is _ (pos 0) numerator (omega arith))
    ∙ ap (fraction_where (Some (pos 0))) (within-is _ (pos 1) denominator (omega arith))

module _ (x y : Fraction) (p : IsFraction x.num x.den) (q : IsFraction y.num y.den) where
  -- ---- whole numbers
  module _ (one : x.den ≡ pos 1) (one' : y.den ≡ pos 1) where
    left : within (x.num *ℤ int_div y.den (shared x.den y.den)) ≡ Some x.num
    left = within-is _ x.num (ap (λ z. x.num *ℤ z) (by-one y.den x.den y.den one') ∙ times-one x.num y.den one') p.num_fits

    right : within (y.num *ℤ int_div x.den (shared x.den y.den)) ≡ Some y.num
    right = within-is _ y.num (ap (λ z. y.num *ℤ z) (by-one x.den x.den y.den one') ∙ times-one y.num x.den one) q.num_fits

    under : within (int_div x.den (shared x.den y.den) *ℤ y.den) ≡ Some (pos 1)
    under = within-is _ (pos 1) (ap (λ z. z *ℤ y.den) (by-one x.den x.den y.den one') ∙ one-times x.den y.den one ∙ one') (omega arith)

    pub whole-sum : (n : ℤ) → within (x.num +ℤ y.num) ≡ Some n → sum_of x y ≡ Ok (record { num = n; den = pos 1 })
    whole-sum n e = sum-made x y x.num y.num left right n (pos 1) e under
        ∙ ap (λ (r : Fraction). Ok r) (lowest-already n (pos 1) n (pos 1) (shared-one n (pos 1) refl) refl refl)

    pub whole-sum_wide : within (x.num +ℤ y.num) ≡ None → sum_of x y ≡ Err (record {})
    whole-sum_wide e = sum-wide x y x.num y.num left right e

    pub whole-product : product_of x y ≡ fraction_where (within (x.num *ℤ y.num)) (Some (pos 1))
    unfolding product_of
    whole-product =
        let numerator : int_div x.num (shared x.num y.den) *ℤ int_div y.num (shared y.num x.den) ≡ x.num *ℤ y.num =
        ap (λ z. z *ℤ int_div y.num (shared y.num x.den)) (by-one x.num x.num y.den one')
        ∙ ap (λ z. x.num *ℤ z) (by-one y.num y.num x.den one) in
        let denominator : int_div x.den (shared y.num x.den) *ℤ int_div y.den (shared x.num y.den) ≡ pos 1 =
        ap (λ z. z *ℤ int_div y.den (shared x.num y.den)) (by-one x.den y.num x.den one)
        ∙ ap (λ z. x.den *ℤ z) (by-one y.den x.num y.den one') ∙ one-times x.den y.den one ∙ one' in
        ap (λ z. fraction_where (within z) (within (int_div x.den (shared y.num x.den) *ℤ int_div y.den (shared x.num y.den)))) numerator
        ∙ ap (λ z. fraction_where (within (x.num *ℤ y.num)) z) (within-is _ (pos 1) denominator (omega arith))

  -- ---- 0 on the left
  module _ (none : x.num ≡ pos 0) where
    one-x : x.den ≡ pos 1
    one-x = zero-den x p none

    pub zero-sum_left : sum_of x y ≡ Ok y
    zero-sum_left =
        sum-made x y (pos 0) y.num
        (within-is _ (pos 0) (zero-times x.num (int_div y.den (shared x.den y.den)) none) (omega arith))
        (within-is _ y.num (ap (λ z. y.num *ℤ z) (by-one_left x.den x.den y.den one-x) ∙ times-one y.num x.den one-x) q.num_fits)
        y.num y.den (within-is (pos 0 +ℤ y.num) y.num (omega (arith, ints)) q.num_fits)
        (within-is _ y.den (ap (λ z. z *ℤ y.den) (by-one_left x.den x.den y.den one-x) ∙ one-times x.den y.den one-x) q.den_fits)
        ∙ ap (λ (r : Fraction). Ok r) (lowest-already y.num y.den y.num y.den (ap pos q.lowest) refl refl)

  -- ---- 0 on the right
  module _ (none : y.num ≡ pos 0) where
    one-y : y.den ≡ pos 1
    one-y = zero-den y q none

    pub zero-sum_right : sum_of x y ≡ Ok x
    zero-sum_right =
        sum-made x y x.num (pos 0)
        (within-is _ x.num (ap (λ z. x.num *ℤ z) (by-one y.den x.den y.den one-y) ∙ times-one x.num y.den one-y) p.num_fits)
        (within-is _ (pos 0) (zero-times y.num (int_div x.den (shared x.den y.den)) none) (omega arith))
        x.num x.den (within-is (x.num +ℤ pos 0) x.num (omega (arith, ints)) p.num_fits)
        (within-is _ x.den (ap (λ z. z *ℤ y.den) (by-one x.den x.den y.den one-y) ∙ times-one x.den y.den one-y) p.den_fits)
        ∙ ap (λ (r : Fraction). Ok r) (lowest-already x.num x.den x.num x.den (ap pos p.lowest) refl refl)

    pub zero-product_right : product_of x y ≡ Ok (record { num = pos 0; den = pos 1 })
    zero-product_right = product-swap x y ∙ zero-product_left y x q p none

-- a whole number over 1 is in lowest terms
pub IsFraction-whole : (n d : ℤ) → unsigned_abs n < 2 ^ 127 → d ≡ pos 1 → IsFraction n d
IsFraction-whole n d h e = record {
  positive = omega (arith, ints);
  num_fits = h;
  den_fits = omega (arith, ints);
  lowest = ap (λ z. gcd (unsigned_abs n) (unsigned_abs z)) e ∙ dvd-one.0 (gcd-is (unsigned_abs n) 1).1;
}
