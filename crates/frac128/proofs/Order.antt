-- Inverses and the order of rational numbers.
use Rattle.std.specs.Prelude.{◌≡◌, ◌≢◌, ℕ, zero, suc, [], ℤ, pos, negsuc, neg_ℤ, ◌+ℤ◌, ◌-ℤ◌, ◌*ℤ◌, ◌≤ℤ◌}
use Rattle.std.proofs.Common.{arith, refl, ap, sym, ◌∙◌, subst, ◌⊎◌, inl, inr}
use Rattle.std.proofs.lemmas.Int.{ints}
use Rattle.ring_laws.proofs.Rings.{whole}
use Rattle.ring_laws.proofs.Normal.{num, ◌⊕◌, ◌⊖◌, ◌⊗◌, minus, identity}
use Rattle.ring_laws.proofs.Named.{ring2, ring3, ring4}
pub use Rattle.frac128.specs.Rationals.{inverse_of, quotient, NotNegative, AtMost}
unfoldable pub use Rattle.frac128.specs.Rationals.{inverse}
use Rattle.frac128.proofs.Rationals.{Rational, S, denominator, over, over-is, over_parts, same, unique, both, both-is, of, add, sub, mul}
use Rattle.frac128.proofs.Rationals.{neg, mul-over, neg-over, rationals}

-- ---- inverses
inverse_of-is : (a : ℤ) (c : ℕ) → a ≢ pos 0 → mul (over a c) (inverse_of a c) ≡ of (pos 1)
unfolding of S
inverse_of-is (pos zero) c h = absurd (h refl)
inverse_of-is (pos (suc n)) c h = mul-over (pos (suc n)) c (S c) n
    ∙ same (pos (suc n) *ℤ S c) (both c n) (pos 1) 0 (ring2 whole (λ a b. (a ⊗ b) ⊗ num (pos 1)) (λ a b. num (pos 1) ⊗ (b ⊗ a)) refl (S n)
    (S c) ∙ ap (λ z. pos 1 *ℤ z) (sym (both-is c n)))
inverse_of-is (negsuc n) c h = mul-over (negsuc n) c (neg_ℤ (S c)) n
    ∙ same (negsuc n *ℤ neg_ℤ (S c)) (both c n) (pos 1) 0 (ring2 whole (λ a b. (minus a ⊗ minus b) ⊗ num (pos 1))
    (λ a b. num (pos 1) ⊗ (b ⊗ a)) refl (S n) (S c) ∙ ap (λ z. pos 1 *ℤ z) (sym (both-is c n)))

pub top_not_zero : (p : Rational) → p ≢ of (pos 0) → p.numerator ≢ pos 0
unfolding of
top_not_zero p h e = h (sym (over_parts p) ∙ same p.numerator p.less (pos 0) 0 (ap (λ z. z *ℤ S 0) e
    ∙ ring2 whole (λ a b. num (pos 0) ⊗ a) (λ a b. num (pos 0) ⊗ b) refl (S 0) (S p.less)))

-- what is not zero has an inverse
pub inverse-is : (p : Rational) → p ≢ of (pos 0) → mul p (inverse p) ≡ of (pos 1)
unfolding inverse
inverse-is p h = subst (λ z. mul z (inverse_of p.numerator p.less) ≡ of (pos 1)) (over_parts p)
    (inverse_of-is p.numerator p.less (top_not_zero p h))

-- ---- order
sign : (x a : ℤ) (c d : ℕ) → x *ℤ S c ≡ a *ℤ S d → pos 0 ≤ℤ a → pos 0 ≤ℤ x
unfolding S
sign (pos n) a c d e h = omega (arith, ints)
sign (negsuc n) (pos m) c d e h = absurd (omega (arith, ints))
sign (negsuc n) (negsuc m) c d e h = absurd (omega (arith, ints))

pub over_up : (a : ℤ) (c : ℕ) → pos 0 ≤ℤ a → NotNegative (over a c)
over_up a c h = let r = over a c in sign r.numerator a c r.less (over-is a c) h

pub over_down : (a : ℤ) (c : ℕ) → NotNegative (over a c) → pos 0 ≤ℤ a
over_down a c h = let r = over a c in sign a r.numerator r.less c (sym (over-is a c)) h

-- the order is that of the cross products
pub at_most_cross : (p q : Rational) → AtMost p q → (p.numerator *ℤ denominator q) ≤ℤ (q.numerator *ℤ denominator p)
unfolding sub
at_most_cross p q h = let z = over_down (q.numerator *ℤ denominator p -ℤ p.numerator *ℤ denominator q) (both q.less p.less) h in
    omega (arith, ints)

pub cross_at_most : (p q : Rational) → (p.numerator *ℤ denominator q) ≤ℤ (q.numerator *ℤ denominator p) → AtMost p q
unfolding sub
cross_at_most p q h = over_up (q.numerator *ℤ denominator p -ℤ p.numerator *ℤ denominator q) (both q.less p.less) (omega (arith, ints))

up_mul : (a b : ℤ) → pos 0 ≤ℤ a → pos 0 ≤ℤ b → pos 0 ≤ℤ (a *ℤ b)
up_mul (pos a) (pos b) h g = omega (arith, ints)
up_mul (pos a) (negsuc b) h g = absurd (omega (arith, ints))
up_mul (negsuc a) b h g = absurd (omega (arith, ints))

S-up : (c : ℕ) → pos 0 ≤ℤ S c
unfolding S
S-up c = omega (arith, ints)

pub not_negative_mul : (p q : Rational) → NotNegative p → NotNegative q → NotNegative (mul p q)
unfolding mul
not_negative_mul p q h g = over_up (p.numerator *ℤ q.numerator) (both p.less q.less) (up_mul p.numerator q.numerator h g)

pub not_negative_add : (p q : Rational) → NotNegative p → NotNegative q → NotNegative (add p q)
unfolding add
not_negative_add p q h g =
    let x = up_mul p.numerator (denominator q) h (S-up q.less) in
    let y = up_mul q.numerator (denominator p) g (S-up p.less) in
    over_up (p.numerator *ℤ denominator q +ℤ q.numerator *ℤ denominator p) (both p.less q.less) (omega (arith, ints))

pub at_most_antisym : (p q : Rational) → AtMost p q → AtMost q p → p ≡ q
at_most_antisym p q h g =
    let x = at_most_cross p q h in
    let y = at_most_cross q p g in
    unique p q (omega (arith, ints))

pub at_most_total : (p q : Rational) → AtMost p q ⊎ AtMost q p
at_most_total p q = by (p.numerator *ℤ denominator q) (q.numerator *ℤ denominator p) (λ h. cross_at_most p q h) (λ h. cross_at_most q p h)
  where
    by : (a b : ℤ) → (a ≤ℤ b → AtMost p q) → (b ≤ℤ a → AtMost q p) → AtMost p q ⊎ AtMost q p
    by a b f g = elim (apart (b -ℤ a)) [ inl h ↦ inl (f (omega (arith, ints))) | inr h ↦ inr (g (omega (arith, ints))) ]
      where
        apart : (z : ℤ) → (pos 0 ≤ℤ z) ⊎ (z ≤ℤ pos 0)
        apart (pos n) = inl (omega (arith, ints))
        apart (negsuc n) = inr (omega (arith, ints))

pub at_most_trans : (p q r : Rational) → AtMost p q → AtMost q r → AtMost p r
at_most_trans p q r h g = subst NotNegative (ring3 rationals (λ p q r. (q ⊖ p) ⊕ (r ⊖ q)) (λ p q r. r ⊖ p) refl p q r)
    (not_negative_add (sub q p) (sub r q) h g)

pub add_at_most : (p q r s : Rational) → AtMost p q → AtMost r s → AtMost (add p r) (add q s)
add_at_most p q r s h g = subst NotNegative (ring4 rationals (λ p q r s. (q ⊖ p) ⊕ (s ⊖ r)) (λ p q r s. (q ⊕ s) ⊖ (p ⊕ r)) refl p q r s)
    (not_negative_add (sub q p) (sub s r) h g)

pub mul_at_most : (a p q : Rational) → NotNegative a → AtMost p q → AtMost (mul a p) (mul a q)
mul_at_most a p q n h = subst NotNegative (ring3 rationals (λ a p q. a ⊗ (q ⊖ p)) (λ a p q. a ⊗ q ⊖ a ⊗ p) refl a p q)
    (not_negative_mul a (sub q p) n h)

pub zero_top : (of (pos 0)).numerator ≡ pos 0
unfolding of S
zero_top = let e = over-is (pos 0) 0 in
    let f = ring2 whole (λ a b. num (pos 0) ⊗ a) (λ a b. num (pos 0)) refl (denominator (over (pos 0) 0)) (pos 0) in omega (arith, ints)

pub nonzero : (p : Rational) → p.numerator ≢ pos 0 → p ≢ of (pos 0)
nonzero p h e = h (ap (λ z. z.numerator) e ∙ zero_top)

pub nonzero_neg : (p : Rational) → (neg p).numerator ≢ pos 0 → p ≢ of (pos 0)
nonzero_neg p h e = h (ap (λ z. (neg z).numerator) e ∙ ap (λ z. z.numerator) (identity rationals [] (minus (num (pos 0))) (num (pos 0))
    refl) ∙ zero_top)

pub of_neg : (z : ℤ) → of (neg_ℤ z) ≡ neg (of z)
unfolding of
of_neg z = sym (neg-over z 0)
