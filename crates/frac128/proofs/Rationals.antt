-- Rational numbers as fractions in lowest terms: equal where their parts are.
use Rattle.std.specs.Prelude.{◌≡◌, ℕ, suc, ◌*◌, ◌/◌, ◌-◌, [], ◌∷◌, ℤ, pos, negsuc, neg_ℤ, ◌+ℤ◌, ◌-ℤ◌, ◌*ℤ◌}
use Rattle.std.specs.Int.RustNames.{unsigned_abs}
use Rattle.std.specs.Int.{◌∣◌}
use Rattle.std.proofs.Common.{arith, refl, ap, sym, ◌∙◌, subst}
use Rattle.std.proofs.lemmas.Int.{ints, unsigned_abs-mul}
use Rattle.std.proofs.Math.Nat.{ℕ_set, dvd-mul_left, mul-div_cancel'}
use Rattle.std.proofs.lemmas.Nat.Gcd.{dvd_antisymm}
use Rattle.frac128.specs.Gcd.{gcd}
pub use Rattle.frac128.specs.Rationals.{Rational, denominator, made}
unfoldable pub use Rattle.frac128.specs.Rationals.{S, over, both, of, add, sub, mul, neg}
use Rattle.frac128.proofs.GcdLaws.{euclid}
use Rattle.frac128.specs.LowestTerms.{gcd-is, divided, positive_quotient}
use Rattle.ring_laws.proofs.Products.{mul_sub}
use Rattle.ring_laws.proofs.Rings.{Ring, whole}
use Rattle.ring_laws.proofs.Normal.{num, var, ◌⊕◌, ◌⊖◌, ◌⊗◌, minus, combine}
use Rattle.ring_laws.proofs.Named.{ring2, ring3, ring4, ring5, ring6}

-- ---- lowest terms
-- a quotient by a divisor is exact
pub divided-is : (g : ℕ) (a : ℤ) → g ∣ unsigned_abs a → pos g *ℤ divided a g ≡ a
divided-is g (pos n) d = let e = mul-div_cancel' g d in omega (arith, ints)
divided-is g (negsuc n) d =
    let e : g * (suc n / g) ≡ suc n = mul-div_cancel' g d in
    let turned = ring2 whole (λ a b. a ⊗ minus b) (λ a b. minus (a ⊗ b)) refl (pos g) (pos (suc n / g)) in
    omega (arith, ints)

pub over-is : (a : ℤ) (c : ℕ) → (over a c).numerator *ℤ S c ≡ a *ℤ denominator (over a c)
unfolding over S
over-is a c =
    let g = gcd (unsigned_abs a) (suc c) in
    let both = gcd-is (unsigned_abs a) (suc c) in
    let t = divided a g in
    let first : pos g *ℤ t ≡ a = divided-is g a both.0 in
    let y : g * (suc c / g) ≡ suc c = mul-div_cancel' g both.1 in
    let q = positive_quotient (unsigned_abs a) c in
    let second : pos g *ℤ pos (suc (suc c / g - 1)) ≡ pos (suc c) = ap (λ z. pos g *ℤ pos z) q ∙ ap pos y in
    combine whole (pos g ∷ t ∷ pos (suc (suc c / g - 1)) ∷ a ∷ pos (suc c) ∷ [])
    ((var 2, var 0 ⊗ var 1, var 3) ∷ (minus (var 1), var 0 ⊗ var 2, var 4) ∷ [])
    (var 1 ⊗ var 4) (var 3 ⊗ var 2) refl (first, (second, tt))

zero_factor : (c : ℕ) (z : ℤ) → pos (suc c) *ℤ z ≡ pos 0 → z ≡ pos 0
zero_factor c (pos n) e = omega (arith, ints)
zero_factor c (negsuc n) e = absurd (omega (arith, ints))

pub cancel : (c : ℕ) (a b : ℤ) → S c *ℤ a ≡ S c *ℤ b → a ≡ b
unfolding S
cancel c a b e =
    let apart = mul_sub (pos (suc c)) a b in
    let none : pos (suc c) *ℤ (a -ℤ b) ≡ pos 0 = omega (arith, ints) in
    let z = zero_factor c (a -ℤ b) none in
    omega (arith, ints)

made-same : (a b : ℤ) (c d : ℕ) (h : gcd (unsigned_abs a) (suc c) ≡ 1) (k : gcd (unsigned_abs b) (suc d) ≡ 1) → a ≡ b → c ≡ d →
    made a c h ≡ made b d k
made-same a b c d h k e f =
    subst (λ (z : ℤ). (k : gcd (unsigned_abs z) (suc d) ≡ 1) → made a c h ≡ made z d k) e
    (subst (λ (z : ℕ). (k : gcd (unsigned_abs a) (suc z) ≡ 1) → made a c h ≡ made a z k) f
    (λ k. ap (made a c) (ℕ_set (gcd (unsigned_abs a) (suc c)) 1 h k))) k

-- equal crosswise is equal
pub unique : (p q : Rational) → p.numerator *ℤ denominator q ≡ q.numerator *ℤ denominator p → p ≡ q
unfolding S
unique p q e =
    let sizes : unsigned_abs p.numerator * suc q.less ≡ unsigned_abs q.numerator * suc p.less =
    sym (unsigned_abs-mul p.numerator (denominator q)) ∙ ap unsigned_abs e ∙ unsigned_abs-mul q.numerator (denominator p) in
    let one : suc p.less ∣ suc q.less = euclid (suc p.less) (unsigned_abs p.numerator) (suc q.less) (omega arith) p.lowest
    (subst (λ z. suc p.less ∣ z) (sym sizes) (dvd-mul_left (suc p.less) (unsigned_abs q.numerator))) in
    let two : suc q.less ∣ suc p.less = euclid (suc q.less) (unsigned_abs q.numerator) (suc p.less) (omega arith) q.lowest
    (subst (λ z. suc q.less ∣ z) sizes (dvd-mul_left (suc q.less) (unsigned_abs p.numerator))) in
    let bottoms : suc p.less ≡ suc q.less = dvd_antisymm one two in
    let less : p.less ≡ q.less = omega arith in
    let e' : p.numerator *ℤ denominator q ≡ q.numerator *ℤ denominator q = e ∙ ap (λ z. q.numerator *ℤ pos z) bottoms in
    let tops = cancel q.less p.numerator q.numerator (ring2 whole (λ a b. a ⊗ b) (λ a b. b ⊗ a) refl (denominator q) p.numerator ∙ e'
    ∙ ring2 whole (λ a b. a ⊗ b) (λ a b. b ⊗ a) refl q.numerator (denominator q)) in
    made-same p.numerator q.numerator p.less q.less p.lowest q.lowest tops less

pub both-is : (c d : ℕ) → S (both c d) ≡ S c *ℤ S d
unfolding both S
both-is c d = omega (arith, ints)

pub same : (a : ℤ) (c : ℕ) (b : ℤ) (d : ℕ) → a *ℤ S d ≡ b *ℤ S c → over a c ≡ over b d
same a c b d e =
    let r = over a c in
    let s = over b d in
    let K = both c d in
    unique r s (cancel K (r.numerator *ℤ denominator s) (s.numerator *ℤ denominator r)
    (combine whole (r.numerator ∷ denominator r ∷ s.numerator ∷ denominator s ∷ a ∷ S c ∷ b ∷ S d ∷ S K ∷ [])
    ((var 7 ⊗ var 3, var 0 ⊗ var 5, var 4 ⊗ var 1) ∷ (minus (var 5 ⊗ var 1), var 2 ⊗ var 7, var 6 ⊗ var 3) ∷ (
      var 3 ⊗ var 1,
      var 4 ⊗ var 7,
      var 6 ⊗ var 5,
    ) ∷ (var 0 ⊗ var 3 ⊖ var 2 ⊗ var 1, var 8, var 5 ⊗ var 7) ∷ [])
    (var 8 ⊗ (var 0 ⊗ var 3)) (var 8 ⊗ (var 2 ⊗ var 1)) refl
    (over-is a c, (over-is b d, (e, (both-is c d, tt))))))

pub over_parts : (p : Rational) → over p.numerator p.less ≡ p
over_parts p = unique (over p.numerator p.less) p (over-is p.numerator p.less)

-- ---- the operations on fractions not in lowest terms
module _ (a : ℤ) (c : ℕ) (b : ℤ) (d : ℕ) where
  pub add-over : add (over a c) (over b d) ≡ over (a *ℤ S d +ℤ b *ℤ S c) (both c d)
  unfolding add
  add-over =
      let r = over a c in
      let s = over b d in
      same (r.numerator *ℤ denominator s +ℤ s.numerator *ℤ denominator r) (both r.less s.less) (a *ℤ S d +ℤ b *ℤ S c) (both c d)
      (combine whole (r.numerator ∷ denominator r ∷ s.numerator ∷ denominator s ∷ a ∷ S c ∷ b ∷ S d ∷ S (both c d) ∷ S (both r.less s.less)
      ∷ [])
      ((var 3 ⊗ var 7, var 0 ⊗ var 5, var 4 ⊗ var 1) ∷ (var 1 ⊗ var 5, var 2 ⊗ var 7, var 6 ⊗ var 3) ∷ (
        var 0 ⊗ var 3 ⊕ var 2 ⊗ var 1,
        var 8,
        var 5 ⊗ var 7,
      ) ∷ (minus (var 4 ⊗ var 7 ⊕ var 6 ⊗ var 5), var 9, var 1 ⊗ var 3) ∷ [])
      ((var 0 ⊗ var 3 ⊕ var 2 ⊗ var 1) ⊗ var 8) ((var 4 ⊗ var 7 ⊕ var 6 ⊗ var 5) ⊗ var 9) refl
      (over-is a c, (over-is b d, (both-is c d, (both-is r.less s.less, tt)))))

  pub sub-over : sub (over a c) (over b d) ≡ over (a *ℤ S d -ℤ b *ℤ S c) (both c d)
  unfolding sub
  sub-over =
      let r = over a c in
      let s = over b d in
      same (r.numerator *ℤ denominator s -ℤ s.numerator *ℤ denominator r) (both r.less s.less) (a *ℤ S d -ℤ b *ℤ S c) (both c d)
      (combine whole (r.numerator ∷ denominator r ∷ s.numerator ∷ denominator s ∷ a ∷ S c ∷ b ∷ S d ∷ S (both c d) ∷ S (both r.less s.less)
      ∷ [])
      ((var 3 ⊗ var 7, var 0 ⊗ var 5, var 4 ⊗ var 1) ∷ (
        minus (var 1 ⊗ var 5),
        var 2 ⊗ var 7,
        var 6 ⊗ var 3,
      ) ∷ (var 0 ⊗ var 3 ⊖ var 2 ⊗ var 1, var 8, var 5 ⊗ var 7) ∷ (
        minus (var 4 ⊗ var 7 ⊖ var 6 ⊗ var 5),
        var 9,
        var 1 ⊗ var 3,
      ) ∷ [])
      ((var 0 ⊗ var 3 ⊖ var 2 ⊗ var 1) ⊗ var 8) ((var 4 ⊗ var 7 ⊖ var 6 ⊗ var 5) ⊗ var 9) refl
      (over-is a c, (over-is b d, (both-is c d, (both-is r.less s.less, tt)))))

  pub mul-over : mul (over a c) (over b d) ≡ over (a *ℤ b) (both c d)
  unfolding mul
  mul-over =
      let r = over a c in
      let s = over b d in
      same (r.numerator *ℤ s.numerator) (both r.less s.less) (a *ℤ b) (both c d)
      (combine whole (r.numerator ∷ denominator r ∷ s.numerator ∷ denominator s ∷ a ∷ S c ∷ b ∷ S d ∷ S (both c d) ∷ S (both r.less s.less)
      ∷ [])
      ((var 2 ⊗ var 7, var 0 ⊗ var 5, var 4 ⊗ var 1) ∷ (var 4 ⊗ var 1, var 2 ⊗ var 7, var 6 ⊗ var 3) ∷ (
        var 0 ⊗ var 2,
        var 8,
        var 5 ⊗ var 7,
      ) ∷ (minus (var 4 ⊗ var 6), var 9, var 1 ⊗ var 3) ∷ [])
      ((var 0 ⊗ var 2) ⊗ var 8) ((var 4 ⊗ var 6) ⊗ var 9) refl
      (over-is a c, (over-is b d, (both-is c d, (both-is r.less s.less, tt)))))

pub neg-over : (a : ℤ) (c : ℕ) → neg (over a c) ≡ over (neg_ℤ a) c
unfolding neg
neg-over a c =
    let r = over a c in
    same (neg_ℤ r.numerator) r.less (neg_ℤ a) c
    (combine whole (r.numerator ∷ denominator r ∷ a ∷ S c ∷ []) ((minus (num (pos 1)), var 0 ⊗ var 3, var 2 ⊗ var 1) ∷ [])
    (minus (var 0) ⊗ var 3) (minus (var 2) ⊗ var 1) refl (over-is a c, tt))

-- ---- the laws
pub each : (P : Rational → Type 0) → ((a : ℤ) (c : ℕ) → P (over a c)) → (p : Rational) → P p
each P f p = subst P (over_parts p) (f p.numerator p.less)

pub add_comm : (p q : Rational) → add p q ≡ add q p
unfolding add
add_comm p q = same (p.numerator *ℤ denominator q +ℤ q.numerator *ℤ denominator p) (both p.less q.less) (q.numerator *ℤ denominator p
    +ℤ p.numerator *ℤ denominator q) (both q.less p.less)
    (rw (both-is q.less p.less, both-is p.less q.less) (ring4 whole (λ a b c d. (a ⊗ d ⊕ c ⊗ b) ⊗ (d ⊗ b))
    (λ a b c d. (c ⊗ b ⊕ a ⊗ d) ⊗ (b ⊗ d)) refl p.numerator (denominator p) q.numerator (denominator q)))

pub mul_comm' : (p q : Rational) → mul p q ≡ mul q p
unfolding mul
mul_comm' p q = same (p.numerator *ℤ q.numerator) (both p.less q.less) (q.numerator *ℤ p.numerator) (both q.less p.less)
    (rw (both-is q.less p.less, both-is p.less q.less) (ring4 whole (λ a b c d. (a ⊗ c) ⊗ (d ⊗ b)) (λ a b c d. (c ⊗ a) ⊗ (b ⊗ d)) refl
    p.numerator (denominator p) q.numerator (denominator q)))

pub each2 : (P : Rational → Rational → Type 0) → ((a : ℤ) (c : ℕ) (b : ℤ) (d : ℕ) → P (over a c) (over b d)) → (p q : Rational) → P p q
each2 P f = each (λ p. (q : Rational) → P p q) (λ a c. each (P (over a c)) (f a c))

pub each3 : (P : Rational → Rational → Rational → Type 0) → ((a : ℤ) (c : ℕ) (b : ℤ) (d : ℕ) (e : ℤ) (f : ℕ) →
    P (over a c) (over b d) (over e f)) → (p q r : Rational) → P p q r
each3 P f = each (λ p. (q r : Rational) → P p q r) (λ a c. each2 (P (over a c)) (f a c))

pub sub_is : (p q : Rational) → sub p q ≡ add p (neg q)
sub_is = each2 (λ p q. sub p q ≡ add p (neg q)) (λ a c b d.
    sub-over a c b d ∙ same (a *ℤ S d -ℤ b *ℤ S c) (both c d) (a *ℤ S d +ℤ neg_ℤ b *ℤ S c) (both c d)
    (ring5 whole (λ x y z w v. (x ⊗ z ⊖ y ⊗ w) ⊗ v) (λ x y z w v. (x ⊗ z ⊕ minus y ⊗ w) ⊗ v) refl a b (S d) (S c) (S (both c d)))
    ∙ sym (add-over a c (neg_ℤ b) d) ∙ ap (λ z. add (over a c) z) (sym (neg-over b d)))

pub add_zero : (p : Rational) → add p (of (pos 0)) ≡ p
unfolding of S
add_zero = each (λ p. add p (over (pos 0) 0) ≡ p) (λ a c.
    add-over a c (pos 0) 0 ∙ same (a *ℤ S 0 +ℤ pos 0 *ℤ S c) (both c 0) a c (rw (both-is c 0)
    (ring2 whole (λ x y. (x ⊗ num (pos 1) ⊕ num (pos 0) ⊗ y) ⊗ y) (λ x y. x ⊗ (y ⊗ num (pos 1))) refl a (S c))))

pub add_neg : (p : Rational) → add p (neg p) ≡ of (pos 0)
unfolding of S
add_neg = each (λ p. add p (neg p) ≡ over (pos 0) 0) (λ a c.
    ap (λ z. add (over a c) z) (neg-over a c) ∙ add-over a c (neg_ℤ a) c
    ∙ same (a *ℤ S c +ℤ neg_ℤ a *ℤ S c) (both c c) (pos 0) 0 (ring3 whole (λ x y z. (x ⊗ y ⊕ minus x ⊗ y) ⊗ num (pos 1))
    (λ x y z. num (pos 0) ⊗ z) refl a (S c) (S (both c c))))

pub mul_one : (p : Rational) → mul p (of (pos 1)) ≡ p
unfolding of S
mul_one = each (λ p. mul p (over (pos 1) 0) ≡ p) (λ a c.
    mul-over a c (pos 1) 0 ∙ same (a *ℤ pos 1) (both c 0) a c (rw (both-is c 0)
    (ring2 whole (λ x y. (x ⊗ num (pos 1)) ⊗ y) (λ x y. x ⊗ (y ⊗ num (pos 1))) refl a (S c))))

pub of_add : (x y : ℤ) → of (x +ℤ y) ≡ add (of x) (of y)
unfolding of S
of_add x y = sym (add-over x 0 y 0 ∙ same (x *ℤ S 0 +ℤ y *ℤ S 0) (both 0 0) (x +ℤ y) 0
    (rw (both-is 0 0) (ring2 whole (λ x y. (x ⊗ num (pos 1) ⊕ y ⊗ num (pos 1)) ⊗ num (pos 1))
    (λ x y. (x ⊕ y) ⊗ (num (pos 1) ⊗ num (pos 1))) refl x y)))

pub of_mul : (x y : ℤ) → of (x *ℤ y) ≡ mul (of x) (of y)
unfolding of S
of_mul x y = sym (mul-over x 0 y 0 ∙ same (x *ℤ y) (both 0 0) (x *ℤ y) 0 (rw (both-is 0 0)
    (ring2 whole (λ x y. (x ⊗ y) ⊗ num (pos 1)) (λ x y. (x ⊗ y) ⊗ (num (pos 1) ⊗ num (pos 1))) refl x y)))

pub add_assoc : (p q r : Rational) → add (add p q) r ≡ add p (add q r)
add_assoc = each3 (λ p q r. add (add p q) r ≡ add p (add q r)) (λ a c b d e f.
    let left = a *ℤ S d +ℤ b *ℤ S c in
    let right = b *ℤ S f +ℤ e *ℤ S d in
    ap (λ z. add z (over e f)) (add-over a c b d) ∙ add-over left (both c d) e f
    ∙ same (left *ℤ S f +ℤ e *ℤ S (both c d)) (both (both c d) f) (a *ℤ S (both d f) +ℤ right *ℤ S c) (both c (both d f))
    (simp both-is (ring6 whole (λ a x b y e z. ((a ⊗ y ⊕ b ⊗ x) ⊗ z ⊕ e ⊗ (x ⊗ y)) ⊗ (x ⊗ (y ⊗ z)))
    (λ a x b y e z. (a ⊗ (y ⊗ z) ⊕ (b ⊗ z ⊕ e ⊗ y) ⊗ x) ⊗ ((x ⊗ y) ⊗ z)) refl a (S c) b (S d) e (S f)))
    ∙ sym (add-over a c right (both d f)) ∙ ap (λ z. add (over a c) z) (sym (add-over b d e f)))

pub mul_assoc : (p q r : Rational) → mul (mul p q) r ≡ mul p (mul q r)
mul_assoc = each3 (λ p q r. mul (mul p q) r ≡ mul p (mul q r)) (λ a c b d e f.
    ap (λ z. mul z (over e f)) (mul-over a c b d) ∙ mul-over (a *ℤ b) (both c d) e f
    ∙ same ((a *ℤ b) *ℤ e) (both (both c d) f) (a *ℤ (b *ℤ e)) (both c (both d f))
    (simp both-is (ring6 whole (λ a x b y e z. ((a ⊗ b) ⊗ e) ⊗ (x ⊗ (y ⊗ z))) (λ a x b y e z. (a ⊗ (b ⊗ e)) ⊗ ((x ⊗ y) ⊗ z)) refl a (S c) b
    (S d) e (S f)))
    ∙ sym (mul-over a c (b *ℤ e) (both d f)) ∙ ap (λ z. mul (over a c) z) (sym (mul-over b d e f)))

pub mul_add : (p q r : Rational) → mul p (add q r) ≡ add (mul p q) (mul p r)
mul_add = each3 (λ p q r. mul p (add q r) ≡ add (mul p q) (mul p r)) (λ a c b d e f.
    let right = b *ℤ S f +ℤ e *ℤ S d in
    ap (λ z. mul (over a c) z) (add-over b d e f) ∙ mul-over a c right (both d f)
    ∙ same (a *ℤ right) (both c (both d f)) ((a *ℤ b) *ℤ S (both c f) +ℤ (a *ℤ e) *ℤ S (both c d)) (both (both c d) (both c f))
    (simp both-is (ring6 whole (λ a x b y e z. (a ⊗ (b ⊗ z ⊕ e ⊗ y)) ⊗ ((x ⊗ y) ⊗ (x ⊗ z)))
    (λ a x b y e z. ((a ⊗ b) ⊗ (x ⊗ z) ⊕ (a ⊗ e) ⊗ (x ⊗ y)) ⊗ (x ⊗ (y ⊗ z))) refl a (S c) b (S d) e (S f)))
    ∙ sym (add-over (a *ℤ b) (both c d) (a *ℤ e) (both c f)) ∙ ap (λ z. add z (over (a *ℤ e) (both c f))) (sym (mul-over a c b d))
    ∙ ap (λ z. add (mul (over a c) (over b d)) z) (sym (mul-over a c e f)))

-- the rational numbers are a commutative ring
abbrev pub rationals : Ring
rationals = record {
  carrier = Rational;
  of = of;
  add = add;
  sub = sub;
  mul = mul;
  neg = neg;
  add_assoc = add_assoc;
  add_comm = add_comm;
  add_zero = add_zero;
  add_neg = add_neg;
  sub_is = sub_is;
  mul_assoc = mul_assoc;
  mul_comm = mul_comm';
  mul_one = mul_one;
  mul_add = mul_add;
  of_add = of_add;
  of_mul = of_mul;
}
