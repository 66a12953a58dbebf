-- Fractions of whole numbers as rational numbers: the facts that code about fractions has to show.
use Rattle.std.specs.Prelude.{◌≡◌, ℕ, zero, suc, ◌-◌, [], ◌∷◌, ℤ, pos, negsuc, ◌+ℤ◌, ◌-ℤ◌, ◌*ℤ◌, ◌<ℤ◌}
use Rattle.std.specs.Int.RustNames.{unsigned_abs}
use Rattle.std.proofs.Common.{arith, refl, ap, sym, ◌∙◌}
use Rattle.std.proofs.lemmas.Int.{ints}
use Rattle.frac128.specs.Gcd.{gcd}
use Rattle.ring_laws.proofs.Rings.{whole}
use Rattle.ring_laws.proofs.Normal.{num, var, ◌⊕◌, ◌⊖◌, ◌⊗◌, minus, combine}
unfoldable pub use Rattle.frac128.specs.Rationals.{rational}
use Rattle.frac128.proofs.Rationals.{S, denominator, over, over-is, same, unique, both, both-is, made, add, sub, mul, add-over, sub-over}
use Rattle.frac128.proofs.Rationals.{mul-over, cancel}

-- a positive denominator from its less by one
pub S-of : (d : ℤ) → pos 0 <ℤ d → S (unsigned_abs d - 1) ≡ d
unfolding S
S-of (pos zero) p = absurd (omega (arith, ints))
S-of (pos (suc n)) p = omega (arith, ints)
S-of (negsuc n) p = absurd (omega (arith, ints))

module _ (a b c d n e : ℤ) (p : pos 0 <ℤ b) (q : pos 0 <ℤ d) (r : pos 0 <ℤ e) where
  abbrev x : ℕ
  x = unsigned_abs b - 1

  abbrev y : ℕ
  y = unsigned_abs d - 1

  abbrev z : ℕ
  z = unsigned_abs e - 1

  -- n/e is a/b + c/d
  pub sum_is : n *ℤ (b *ℤ d) ≡ (a *ℤ d +ℤ c *ℤ b) *ℤ e → rational n e ≡ add (rational a b) (rational c d)
  unfolding rational
  sum_is h = sym (add-over a x c y ∙ same (a *ℤ S y +ℤ c *ℤ S x) (both x y) n z
      (combine whole (a ∷ b ∷ c ∷ d ∷ n ∷ e ∷ S x ∷ S y ∷ S z ∷ S (both x y) ∷ [])
      ((num (pos 0) ⊖ num (pos 1), var 4 ⊗ (var 1 ⊗ var 3), (var 0 ⊗ var 3 ⊕ var 2 ⊗ var 1) ⊗ var 5)
      ∷ (var 0 ⊗ var 7 ⊕ var 2 ⊗ var 6, var 8, var 5) ∷ (var 0 ⊗ var 5 ⊖ var 4 ⊗ var 6, var 7, var 3) ∷ (
        var 2 ⊗ var 5 ⊖ var 4 ⊗ var 3,
        var 6,
        var 1,
      ) ∷ (minus (var 4), var 9, var 6 ⊗ var 7) ∷ [])
      ((var 0 ⊗ var 7 ⊕ var 2 ⊗ var 6) ⊗ var 8) (var 4 ⊗ var 9) refl
      (h, (S-of e r, (S-of d q, (S-of b p, (both-is x y, tt)))))))

  -- n/e is a/b * c/d
  pub product_is : n *ℤ (b *ℤ d) ≡ (a *ℤ c) *ℤ e → rational n e ≡ mul (rational a b) (rational c d)
  unfolding rational
  product_is h = sym (mul-over a x c y ∙ same (a *ℤ c) (both x y) n z
      (combine whole (a ∷ b ∷ c ∷ d ∷ n ∷ e ∷ S x ∷ S y ∷ S z ∷ S (both x y) ∷ [])
      ((num (pos 0) ⊖ num (pos 1), var 4 ⊗ (var 1 ⊗ var 3), (var 0 ⊗ var 2) ⊗ var 5)
      ∷ (var 0 ⊗ var 2, var 8, var 5) ∷ (minus (var 4 ⊗ var 6), var 7, var 3) ∷ (minus (var 4 ⊗ var 3), var 6, var 1) ∷ (
        minus (var 4),
        var 9,
        var 6 ⊗ var 7,
      ) ∷ [])
      ((var 0 ⊗ var 2) ⊗ var 8) (var 4 ⊗ var 9) refl
      (h, (S-of e r, (S-of d q, (S-of b p, (both-is x y, tt)))))))

  -- n/e is a/b - c/d
  pub difference_is : n *ℤ (b *ℤ d) ≡ (a *ℤ d -ℤ c *ℤ b) *ℤ e → rational n e ≡ sub (rational a b) (rational c d)
  unfolding rational
  difference_is h = sym (sub-over a x c y ∙ same (a *ℤ S y -ℤ c *ℤ S x) (both x y) n z
      (combine whole (a ∷ b ∷ c ∷ d ∷ n ∷ e ∷ S x ∷ S y ∷ S z ∷ S (both x y) ∷ [])
      ((num (pos 0) ⊖ num (pos 1), var 4 ⊗ (var 1 ⊗ var 3), (var 0 ⊗ var 3 ⊖ var 2 ⊗ var 1) ⊗ var 5)
      ∷ (var 0 ⊗ var 7 ⊖ var 2 ⊗ var 6, var 8, var 5) ∷ (
        var 0 ⊗ var 5 ⊖ var 4 ⊗ var 6,
        var 7,
        var 3,
      ) ∷ (minus (var 2 ⊗ var 5) ⊖ var 4 ⊗ var 3, var 6, var 1) ∷ (minus (var 4), var 9, var 6 ⊗ var 7) ∷ [])
      ((var 0 ⊗ var 7 ⊖ var 2 ⊗ var 6) ⊗ var 8) (var 4 ⊗ var 9) refl
      (h, (S-of e r, (S-of d q, (S-of b p, (both-is x y, tt)))))))

-- a fraction in lowest terms has the numerator and the denominator of its rational number
pub lowest-is : (n d : ℤ) → pos 0 <ℤ d → gcd (unsigned_abs n) (unsigned_abs d) ≡ 1 → ((rational n d).numerator ≡ n)
    × (denominator (rational n d) ≡ d)
unfolding rational
lowest-is n d p one =
    let c = unsigned_abs d - 1 in
    let e : suc c ≡ unsigned_abs d = by d p in
    let lowest : gcd (unsigned_abs n) (suc c) ≡ 1 = ap (gcd (unsigned_abs n)) e ∙ one in
    let is : over n c ≡ made n c lowest = unique (over n c) (made n c lowest) (over-is n c) in
    (ap (λ z. z.numerator) is, ap denominator is ∙ S-of d p)
  where
    by : (d : ℤ) → pos 0 <ℤ d → suc (unsigned_abs d - 1) ≡ unsigned_abs d
    by (pos zero) p = absurd (omega (arith, ints))
    by (pos (suc n)) p = omega (arith, ints)
    by (negsuc n) p = absurd (omega (arith, ints))

-- over common denominators: if r = e - f * g with e = n / D, f = m / D and g = k / E, then r = (n E - m k) / (D E)
pub pivot_entry : (en ed fn fd gn gd rn rd D E n m k : ℤ) (c : ℕ) → S c ≡ ed *ℤ (fd *ℤ gd) →
    rn *ℤ (ed *ℤ (fd *ℤ gd)) ≡ (en *ℤ (fd *ℤ gd) -ℤ (fn *ℤ gn) *ℤ ed) *ℤ rd →
    en *ℤ D ≡ n *ℤ ed → fn *ℤ D ≡ m *ℤ fd → gn *ℤ E ≡ k *ℤ gd →
    rn *ℤ (D *ℤ E) ≡ (n *ℤ E -ℤ m *ℤ k) *ℤ rd
pivot_entry en ed fn fd gn gd rn rd D E n m k c s is e f g =
    cancel c (rn *ℤ (D *ℤ E)) ((n *ℤ E -ℤ m *ℤ k) *ℤ rd)
    (combine whole (en ∷ ed ∷ fn ∷ fd ∷ gn ∷ gd ∷ rn ∷ rd ∷ D ∷ E ∷ n ∷ m ∷ k ∷ S c ∷ [])
    ((var 6 ⊗ (var 8 ⊗ var 9) ⊖ (var 10 ⊗ var 9 ⊖ var 11 ⊗ var 12) ⊗ var 7, var 13, var 1 ⊗ (var 3 ⊗ var 5))
    ∷ (var 8 ⊗ var 9, var 6 ⊗ (var 1 ⊗ (var 3 ⊗ var 5)), (var 0 ⊗ (var 3 ⊗ var 5) ⊖ (var 2 ⊗ var 4) ⊗ var 1) ⊗ var 7)
    ∷ (var 3 ⊗ var 5 ⊗ var 7 ⊗ var 9, var 0 ⊗ var 8, var 10 ⊗ var 1)
    ∷ (minus (var 1 ⊗ var 7 ⊗ var 4 ⊗ var 9), var 2 ⊗ var 8, var 11 ⊗ var 3)
    ∷ (minus (var 1 ⊗ var 7 ⊗ var 11 ⊗ var 3), var 4 ⊗ var 9, var 12 ⊗ var 5) ∷ [])
    (var 13 ⊗ (var 6 ⊗ (var 8 ⊗ var 9))) (var 13 ⊗ ((var 10 ⊗ var 9 ⊖ var 11 ⊗ var 12) ⊗ var 7)) refl
    (s, (is, (e, (f, (g, tt))))))

-- equal rational numbers are equal crosswise
pub crosswise : (a : ℤ) (c : ℕ) (b : ℤ) (d : ℕ) → over a c ≡ over b d → a *ℤ S d ≡ b *ℤ S c
crosswise a c b d e =
    let r = over a c in
    let s = over b d in
    let tops : r.numerator ≡ s.numerator = ap (λ z. z.numerator) e in
    let bottoms : denominator r ≡ denominator s = ap denominator e in
    cancel r.less (a *ℤ S d) (b *ℤ S c)
    (combine whole (r.numerator ∷ denominator r ∷ s.numerator ∷ denominator s ∷ a ∷ S c ∷ b ∷ S d ∷ [])
    ((minus (var 7), var 0 ⊗ var 5, var 4 ⊗ var 1) ∷ (var 5, var 2 ⊗ var 7, var 6 ⊗ var 3) ∷ (
      var 5 ⊗ var 7,
      var 0,
      var 2,
    ) ∷ (minus (var 6 ⊗ var 5), var 1, var 3) ∷ [])
    (var 1 ⊗ (var 4 ⊗ var 7)) (var 1 ⊗ (var 6 ⊗ var 5)) refl
    (over-is a c, (over-is b d, (tops, (bottoms, tt)))))
