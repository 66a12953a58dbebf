-- Fractions over one denominator: their sums, multiples and order.
use Rattle.std.specs.Prelude.{◌≡◌, ℕ, zero, suc, ◌-◌, ℤ, pos, ◌+ℤ◌, ◌-ℤ◌, ◌*ℤ◌, ◌≤ℤ◌, ◌<ℤ◌}
use Rattle.std.specs.Int.RustNames.{unsigned_abs}
use Rattle.std.proofs.Common.{arith, refl, ap, sym, ◌∙◌, subst}
use Rattle.std.proofs.lemmas.Int.{ints}
use Rattle.ip_defs.specs.Sums.{sum_below}
use Rattle.ring_laws.proofs.Rings.{whole}
use Rattle.ring_laws.proofs.Normal.{num, ◌⊕◌, ◌⊖◌, ◌⊗◌}
use Rattle.ring_laws.proofs.Named.{ring2, ring3}
use Rattle.ring_laws.proofs.Sums.{sum}
use Rattle.frac128.proofs.Rationals.{of, add, sub, mul, rationals}
use Rattle.frac128.proofs.Fractions.{rational, sum_is, product_is, difference_is}
use Rattle.frac128.proofs.FractionLaws.{same-rational}
use Rattle.frac128.proofs.Order.{AtMost, NotNegative, over_up}

one_positive : pos 0 <ℤ pos 1
one_positive = omega (arith, ints)

of_rational : (z : ℤ) → of z ≡ rational z (pos 1)
unfolding of rational
of_rational z = refl

module _ (d : ℤ) (p : pos 0 <ℤ d) where
  -- a whole number over d
  pub of_scaled : (z : ℤ) → of z ≡ rational (d *ℤ z) d
  of_scaled z = of_rational z ∙ same-rational (d *ℤ z) d z (pos 1) p one_positive
      (ring2 whole (λ d z. z ⊗ d) (λ d z. (d ⊗ z) ⊗ num (pos 1)) refl d z)

  pub rational_add : (a c : ℤ) → add (rational a d) (rational c d) ≡ rational (a +ℤ c) d
  rational_add a c = sym (sum_is a d c d (a +ℤ c) d p p p
      (ring3 whole (λ a c d. (a ⊕ c) ⊗ (d ⊗ d)) (λ a c d. (a ⊗ d ⊕ c ⊗ d) ⊗ d) refl a c d))

  pub rational_sub : (a c : ℤ) → sub (rational a d) (rational c d) ≡ rational (a -ℤ c) d
  rational_sub a c = sym (difference_is a d c d (a -ℤ c) d p p p
      (ring3 whole (λ a c d. (a ⊖ c) ⊗ (d ⊗ d)) (λ a c d. (a ⊗ d ⊖ c ⊗ d) ⊗ d) refl a c d))

  pub rational_mul : (z n : ℤ) → mul (of z) (rational n d) ≡ rational (z *ℤ n) d
  rational_mul z n = ap (λ w. mul w (rational n d)) (of_rational z)
      ∙ sym (product_is z (pos 1) n d (z *ℤ n) d one_positive p p
      (ring3 whole (λ z n d. (z ⊗ n) ⊗ (num (pos 1) ⊗ d)) (λ z n d. (z ⊗ n) ⊗ d) refl z n d))

  rational_up : (n : ℤ) → pos 0 ≤ℤ n → NotNegative (rational n d)
  unfolding rational
  rational_up n h = over_up n (unsigned_abs d - 1) h

  pub rational_at_most : (a c : ℤ) → a ≤ℤ c → AtMost (rational a d) (rational c d)
  rational_at_most a c h = subst NotNegative (sym (rational_sub c a)) (rational_up (c -ℤ a) (omega (arith, ints)))

  -- a sum of whole multiples
  pub rational_sum : (a x : ℕ → ℤ) (n : ℕ) →
      sum rationals (λ j. mul (of (a j)) (rational (x j) d)) n ≡ rational (sum_below (λ j. a j *ℤ x j) n) d
  rational_sum a x zero = of_scaled (pos 0) ∙ ap (λ z. rational z d) (ring2 whole (λ d z. d ⊗ num (pos 0)) (λ d z. num (pos 0)) refl d d)
  rational_sum a x (suc n) =
      ap (λ w. add w (mul (of (a n)) (rational (x n) d))) (rational_sum a x n)
      ∙ ap (λ w. add (rational (sum_below (λ j. a j *ℤ x j) n) d) w) (rational_mul (a n) (x n))
      ∙ rational_add (sum_below (λ j. a j *ℤ x j) n) (a n *ℤ x n)
