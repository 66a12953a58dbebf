-- Signs of rational numbers, tests of their order, and payments of multipliers.
use Rattle.std.specs.Prelude.{◌≡◌, ℕ, zero, suc, Bool, true, false, cond, Option, Some, option_map, ℤ, pos, negsuc, neg_ℤ, ◌+ℤ◌, ◌-ℤ◌}
use Rattle.std.specs.Prelude.{◌*ℤ◌, ◌≤ℤ◌, ◌<ℤ◌}
use Rattle.std.specs.Int.Signed.{lt_z}
use Rattle.std.proofs.Common.{arith, refl, ap, sym, ◌∙◌, subst}
use Rattle.std.proofs.lemmas.Int.{ints}
use Rattle.ring_laws.proofs.Rings.{whole, zero_mul}
use Rattle.ring_laws.proofs.Normal.{num, ◌⊕◌, ◌⊖◌, ◌⊗◌, minus}
use Rattle.ring_laws.proofs.Named.{ring2, ring3}
use Rattle.frac128.proofs.Rationals.{Rational, S, denominator, over, over-is, over_parts, same, both, of, sub, mul, neg, of_add, rationals}
use Rattle.frac128.proofs.Order.{NotNegative, AtMost, over_up, cross_at_most, at_most_antisym, mul_at_most}
use Rattle.lp_duality.specs.Duals.{is_below, lesser, paid}
use Rattle.ip_defs.proofs.OrderLaws.{less_is, not_less}

-- the three signs
pub data Sign (z : ℤ) : Type 0 where
  up : pos 0 <ℤ z → Sign z
  down : z <ℤ pos 0 → Sign z
  none : z ≡ pos 0 → Sign z

pub sign_of : (z : ℤ) → Sign z
sign_of (pos zero) = none refl
sign_of (pos (suc n)) = up (omega (arith, ints))
sign_of (negsuc n) = down (omega (arith, ints))

-- ---- signs of numerators
pub top_zero : (p : Rational) → p.numerator ≡ pos 0 → p ≡ of (pos 0)
unfolding of
top_zero p e = sym (over_parts p) ∙ same p.numerator p.less (pos 0) 0 (ap (λ z. z *ℤ S 0) e
    ∙ ring2 whole (λ a b. num (pos 0) ⊗ a) (λ a b. num (pos 0) ⊗ b) refl (S 0) (S p.less))

pub neg_up : (p : Rational) → p.numerator ≤ℤ pos 0 → NotNegative (neg p)
unfolding neg
neg_up p h = over_up (neg_ℤ p.numerator) p.less (omega (arith, ints))

strict : (x a : ℤ) (c d : ℕ) → x *ℤ S c ≡ a *ℤ S d → pos 0 <ℤ a → pos 0 <ℤ x
unfolding S
strict (pos zero) (pos zero) c d e h = absurd (omega (arith, ints))
strict (pos zero) (pos (suc m)) c d e h = absurd (omega (arith, ints))
strict (pos (suc n)) a c d e h = omega (arith, ints)
strict (pos zero) (negsuc m) c d e h = absurd (omega (arith, ints))
strict (negsuc n) (pos m) c d e h = absurd (omega (arith, ints))
strict (negsuc n) (negsuc m) c d e h = absurd (omega (arith, ints))

strict_down : (x a : ℤ) (c d : ℕ) → x *ℤ S c ≡ a *ℤ S d → a <ℤ pos 0 → x <ℤ pos 0
unfolding S
strict_down (negsuc n) a c d e h = omega (arith, ints)
strict_down (pos n) (pos k) c d e h = absurd (omega (arith, ints))
strict_down (pos n) (negsuc k) c d e h = absurd (omega (arith, ints))

pub over_positive : (a : ℤ) (c : ℕ) → pos 0 <ℤ a → pos 0 <ℤ (over a c).numerator
over_positive a c h = let r = over a c in strict r.numerator a c r.less (over-is a c) h

pub over_negative : (a : ℤ) (c : ℕ) → a <ℤ pos 0 → (over a c).numerator <ℤ pos 0
over_negative a c h = let r = over a c in strict_down r.numerator a c r.less (over-is a c) h

pub of_positive : (z : ℤ) → pos 0 <ℤ z → pos 0 <ℤ (of z).numerator
unfolding of
of_positive z h = over_positive z 0 h

pub of_negative : (z : ℤ) → z <ℤ pos 0 → (of z).numerator <ℤ pos 0
unfolding of
of_negative z h = over_negative z 0 h

pub of_up : (z : ℤ) → pos 0 ≤ℤ z → NotNegative (of z)
unfolding of
of_up z h = over_up z 0 h

positive_product : (a c : ℤ) → pos 0 <ℤ a → pos 0 <ℤ c → pos 0 <ℤ (a *ℤ c)
positive_product (pos zero) c h g = absurd (omega (arith, ints))
positive_product (pos (suc n)) (pos zero) h g = absurd (omega (arith, ints))
positive_product (pos (suc n)) (pos (suc k)) h g = omega (arith, ints)
positive_product (pos (suc n)) (negsuc k) h g = absurd (omega (arith, ints))
positive_product (negsuc n) c h g = absurd (omega (arith, ints))

negative_product : (a c : ℤ) → pos 0 <ℤ a → c <ℤ pos 0 → (a *ℤ c) <ℤ pos 0
negative_product (pos zero) c h g = absurd (omega (arith, ints))
negative_product (pos (suc n)) (pos k) h g = absurd (omega (arith, ints))
negative_product (pos (suc n)) (negsuc k) h g = omega (arith, ints)
negative_product (negsuc n) c h g = absurd (omega (arith, ints))

pub mul_positive : (a p : Rational) → pos 0 <ℤ a.numerator → pos 0 <ℤ p.numerator → pos 0 <ℤ (mul a p).numerator
unfolding mul
mul_positive a p h g = over_positive (a.numerator *ℤ p.numerator) (both a.less p.less) (positive_product a.numerator p.numerator h g)

pub mul_negative : (a p : Rational) → pos 0 <ℤ a.numerator → p.numerator <ℤ pos 0 → (mul a p).numerator <ℤ pos 0
unfolding mul
mul_negative a p h g = over_negative (a.numerator *ℤ p.numerator) (both a.less p.less) (negative_product a.numerator p.numerator h g)

-- ---- order
pub below_false : (p q : Rational) → is_below p q ≡ false → AtMost q p
below_false p q e = cross_at_most q p (not_less (p.numerator *ℤ denominator q) (q.numerator *ℤ denominator p) e)

pub below_true : (p q : Rational) → is_below p q ≡ true → AtMost p q
below_true p q e = cross_at_most p q (let l = less_is (p.numerator *ℤ denominator q) (q.numerator *ℤ denominator p) e in
    omega (arith, ints))

pub below_positive : (p q : Rational) → is_below p q ≡ true → pos 0 <ℤ (sub q p).numerator
unfolding sub
below_positive p q e = over_positive (q.numerator *ℤ denominator p -ℤ p.numerator *ℤ denominator q) (both q.less p.less)
    (let l = less_is (p.numerator *ℤ denominator q) (q.numerator *ℤ denominator p) e in omega (arith, ints))

pub of_at_most : (l h : ℤ) → l ≤ℤ h → AtMost (of l) (of h)
of_at_most l h le =
    let e : l +ℤ (h -ℤ l) ≡ h = omega (arith, ints) in
    subst NotNegative (ring2 rationals (λ a b. b) (λ a b. (a ⊕ b) ⊖ a) refl (of l) (of (h -ℤ l))
    ∙ ap (λ z. sub z (of l)) (sym (of_add l (h -ℤ l)) ∙ ap of e)) (of_up (h -ℤ l) (omega (arith, ints)))

pub at_most_self : (p : Rational) → AtMost p p
at_most_self p = subst NotNegative (ring2 rationals (λ a b. num (pos 0)) (λ a b. a ⊖ a) refl p p) (of_up (pos 0) (omega (arith, ints)))

-- a negative factor reverses the order
pub mul_at_least : (a p q : Rational) → a.numerator ≤ℤ pos 0 → AtMost p q → AtMost (mul a q) (mul a p)
mul_at_least a p q n h = subst NotNegative (ring3 rationals (λ a x y. minus a ⊗ y ⊖ minus a ⊗ x) (λ a x y. a ⊗ x ⊖ a ⊗ y) refl a p q)
    (mul_at_most (neg a) p q (neg_up a n) h)

-- ---- the lesser
pub lesser_first : (p q : Rational) → AtMost p q → lesser p q ≡ p
lesser_first p q h = by (is_below q p) refl
  where
    by : (t : Bool) → is_below q p ≡ t → cond t q p ≡ p
    by true e = at_most_antisym q p (below_true q p e) h
    by false e = refl

pub lesser_second : (p q : Rational) → AtMost q p → lesser p q ≡ q
lesser_second p q h = by (is_below q p) refl
  where
    by : (t : Bool) → is_below q p ≡ t → cond t q p ≡ q
    by true e = refl
    by false e = at_most_antisym p q (below_false q p e) h

-- ---- payments
pub paid_up : (p : Rational) (l h : Option ℤ) → pos 0 <ℤ p.numerator → paid p l h ≡ option_map (λ z. mul p (of z)) l
paid_up p l h rises = by (lt_z (pos 0) p.numerator) refl
  where
    by : (t : Bool) → lt_z (pos 0) p.numerator ≡ t → cond t (option_map (λ z. mul p (of z)) l)
        (cond (lt_z p.numerator (pos 0)) (option_map (λ z. mul p (of z)) h) (Some (of (pos 0)))) ≡ option_map (λ z. mul p (of z)) l
    by true e = refl
    by false e = absurd (let q = not_less (pos 0) p.numerator e in omega (arith, ints))

pub paid_down : (p : Rational) (l h : Option ℤ) → p.numerator <ℤ pos 0 → paid p l h ≡ option_map (λ z. mul p (of z)) h
paid_down p l h falls = by (lt_z (pos 0) p.numerator) (lt_z p.numerator (pos 0)) refl refl
  where
    by : (t u : Bool) → lt_z (pos 0) p.numerator ≡ t → lt_z p.numerator (pos 0) ≡ u →
        cond t (option_map (λ z. mul p (of z)) l) (cond u (option_map (λ z. mul p (of z)) h) (Some (of (pos 0))))
        ≡ option_map (λ z. mul p (of z)) h
    by true u e f = absurd (let q = less_is (pos 0) p.numerator e in omega (arith, ints))
    by false true e f = refl
    by false false e f = absurd (let q = not_less p.numerator (pos 0) f in omega (arith, ints))

pub paid_zero : (p : Rational) (l h : Option ℤ) → p.numerator ≡ pos 0 → paid p l h ≡ Some (of (pos 0))
paid_zero p l h is_zero = by (lt_z (pos 0) p.numerator) (lt_z p.numerator (pos 0)) refl refl
  where
    by : (t u : Bool) → lt_z (pos 0) p.numerator ≡ t → lt_z p.numerator (pos 0) ≡ u →
        cond t (option_map (λ z. mul p (of z)) l) (cond u (option_map (λ z. mul p (of z)) h) (Some (of (pos 0)))) ≡ Some (of (pos 0))
    by true u e f = absurd (let q = less_is (pos 0) p.numerator e in omega (arith, ints))
    by false true e f = absurd (let q = less_is p.numerator (pos 0) f in omega (arith, ints))
    by false false e f = refl

-- for two sides in order, the payment is the lesser product
pub paid_lesser : (p : Rational) (l h : ℤ) → l ≤ℤ h → paid p (Some l) (Some h) ≡ Some (lesser (mul p (of l)) (mul p (of h)))
paid_lesser p l h le = by (sign_of p.numerator)
  where
    by : Sign p.numerator → paid p (Some l) (Some h) ≡ Some (lesser (mul p (of l)) (mul p (of h)))
    by (up s) = paid_up p (Some l) (Some h) s ∙ ap Some (sym (lesser_first (mul p (of l)) (mul p (of h))
        (mul_at_most p (of l) (of h) (omega (arith, ints)) (of_at_most l h le))))
    by (down s) = paid_down p (Some l) (Some h) s ∙ ap Some
        (sym (lesser_second (mul p (of l)) (mul p (of h)) (mul_at_least p (of l) (of h) (omega (arith, ints)) (of_at_most l h le))))
    by (none s) =
        let z = top_zero p s in
        let x : mul p (of l) ≡ of (pos 0) = ap (λ w. mul w (of l)) z ∙ zero_mul rationals (of l) in
        let y : mul p (of h) ≡ of (pos 0) = ap (λ w. mul w (of h)) z ∙ zero_mul rationals (of h) in
        paid_zero p (Some l) (Some h) s ∙ ap Some (sym x ∙ sym (lesser_first (mul p (of l)) (mul p (of h))
        (subst (λ w. AtMost (mul p (of l)) w) (x ∙ sym y) (at_most_self (mul p (of l))))))
