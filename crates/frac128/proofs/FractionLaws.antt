-- Laws of fractions in lowest terms: what the operations answer is in lowest terms, and is the exact value.
use Rattle.std.specs.Prelude.{◌≡◌, ◌≢◌, ℕ, zero, suc, ◌*◌, ◌-◌, ◌/◌, ◌<◌, ◌^◌, [], ◌∷◌, Bool, true, false, if◌then◌else◌, Option, Some}
use Rattle.std.specs.Prelude.{None, Result, Ok, Err, IfOk, ℤ, pos, negsuc, neg_ℤ, ◌+ℤ◌, ◌*ℤ◌, ◌<ℤ◌, int_lt, int_div, unsigned_abs}
use Rattle.std.specs.Int.{◌∣◌}
use Rattle.std.proofs.Common.{arith, refl, ap, sym, ◌∙◌, subst}
use Rattle.std.proofs.lemmas.Int.{ints, unsigned_abs-mul}
use Rattle.std.proofs.Math.Nat.{dvd-mul_left, mul-div_cancel', div-le_self}
use Rattle.ring_laws.proofs.Rings.{whole}
use Rattle.ring_laws.proofs.Normal.{var, ◌⊕◌, ◌⊖◌, ◌⊗◌, minus, combine}
use Rattle.frac128.specs.Gcd.{gcd}
use Rattle.frac128.specs.declared.fraction.Wide.{Wide}
use Rattle.frac128.specs.LowestTerms.{quotients, divided-absolute}
use Rattle.frac128.specs.Fractions.{Fraction, IsFraction, in_range, within, shared, lowest_of, sum_where, sum_of, fraction_where}
use Rattle.frac128.specs.Fractions.{product_of, negative_of, reciprocal_of}
use Rattle.frac128.specs.Values.{value_of, IsSum, IsDifference, IsProduct, IsQuotient}
use Rattle.frac128.proofs.Fractions.{product_is, sum_is, S-of, lowest-is}
use borrow.Author.Tests.{ltb-true}
use Rattle.frac128.proofs.GcdLaws.{gcd-is, gcd_comm, coprime-mul, coprime-divisors}
use Rattle.frac128.proofs.Rationals.{divided-is, same, neg-over, sub_is}
use Rattle.frac128.specs.Rationals.{S, over, add, mul, neg, inverse, inverse_of, rational}

-- a fraction whose parts are in lowest terms and in the range
abbrev pub IsProper : Fraction → Type 0
IsProper x = IsFraction x.num x.den

-- ---- divisors
-- the second number is its quotient times the shared factor, and so is the first
pub shared-first : (m n : ℤ) → shared m n *ℤ int_div m (shared m n) ≡ m
shared-first m n = divided-is (gcd (unsigned_abs m) (unsigned_abs n)) m (gcd-is (unsigned_abs m) (unsigned_abs n)).0

pub shared-second : (m n : ℤ) → shared m n *ℤ int_div n (shared m n) ≡ n
shared-second m n = divided-is (gcd (unsigned_abs m) (unsigned_abs n)) n (gcd-is (unsigned_abs m) (unsigned_abs n)).1

pub quotient-divides : (g n : ℕ) → g ∣ n → n / g ∣ n
quotient-divides g n d = subst (λ z. n / g ∣ z) (mul-div_cancel' g d) (dvd-mul_left (n / g) g)

-- ---- in lowest terms
positive_part : (g : ℕ) (q d : ℤ) → pos g *ℤ q ≡ d → pos 0 <ℤ d → pos 0 <ℤ q
positive_part g (pos zero) d e p = absurd (omega (arith, ints))
positive_part g (pos (suc n)) d e p = omega (arith, ints)
positive_part g (negsuc n) d e p = absurd (omega (arith, ints))

pub positive-quotient : (g : ℕ) (d : ℤ) → g ∣ unsigned_abs d → pos 0 <ℤ d → pos 0 <ℤ int_div d (pos g)
positive-quotient g d x p = positive_part g (int_div d (pos g)) d (divided-is g d x) p

pub smaller-quotient : (g k : ℕ) (z : ℤ) → unsigned_abs z < k → unsigned_abs (int_div z (pos g)) < k
smaller-quotient g k z h = let e = divided-absolute g z in let l = div-le_self (unsigned_abs z) g in omega (arith, e, l, h)

pub IsFraction-lowest : (n d : ℤ) → pos 0 <ℤ d → unsigned_abs n < 2 ^ 127 → unsigned_abs d < 2 ^ 127 →
    IsFraction (lowest_of n d).num (lowest_of n d).den
unfolding lowest_of
IsFraction-lowest n d p a b =
    let g = gcd (unsigned_abs n) (unsigned_abs d) in
    let positive : 0 < unsigned_abs d = omega (arith, ints) in
    record {
      positive = positive-quotient g d (gcd-is (unsigned_abs n) (unsigned_abs d)).1 p;
      num_fits = smaller-quotient g (2 ^ 127) n a;
      den_fits = smaller-quotient g (2 ^ 127) d b;
      lowest = ap (λ z. gcd z (unsigned_abs (int_div d (pos g)))) (divided-absolute g n)
          ∙ ap (λ z. gcd (unsigned_abs n / g) z) (divided-absolute g d) ∙ quotients (unsigned_abs n) (unsigned_abs d) positive;
    }

-- the same fraction, crosswise
pub lowest_of-equal : (n d : ℤ) → (lowest_of n d).num *ℤ d ≡ n *ℤ (lowest_of n d).den
unfolding lowest_of
lowest_of-equal n d =
    combine whole (shared n d ∷ int_div n (shared n d) ∷ int_div d (shared n d) ∷ n ∷ d ∷ [])
    ((minus (var 1), var 0 ⊗ var 2, var 4) ∷ (var 2, var 0 ⊗ var 1, var 3) ∷ [])
    (var 1 ⊗ var 4) (var 3 ⊗ var 2) refl (shared-second n d, (shared-first n d, tt))

-- ---- products
positive-product : (a b : ℤ) → pos 0 <ℤ a → pos 0 <ℤ b → pos 0 <ℤ (a *ℤ b)
positive-product (pos zero) b p q = absurd (omega (arith, ints))
positive-product (negsuc m) b p q = absurd (omega (arith, ints))
positive-product (pos (suc m)) (pos zero) p q = absurd (omega (arith, ints))
positive-product (pos (suc m)) (negsuc n) p q = absurd (omega (arith, ints))
positive-product (pos (suc m)) (pos (suc n)) p q = omega (arith, ints)

-- what is in the range is the number itself
pub within-some : (z n : ℤ) → within z ≡ Some n → (n ≡ z) × (unsigned_abs n < 2 ^ 127)
within-some z n e = by (in_range z) refl e
  where
    by : (t : Bool) → in_range z ≡ t → (if t then Some z else None) ≡ Some n → (n ≡ z) × (unsigned_abs n < 2 ^ 127)
    by true f g = let same : n ≡ z = cc in (same, subst (λ w. unsigned_abs w < 2 ^ 127) (sym same) (ltb-true (unsigned_abs z) (2 ^ 127) f))
    by false f g = absurd cc

module _ (a b c d : ℤ) (x : IsFraction a b) (y : IsFraction c d) where
  abbrev g : ℕ
  g = gcd (unsigned_abs a) (unsigned_abs d)

  abbrev h : ℕ
  h = gcd (unsigned_abs c) (unsigned_abs b)

  abbrev product_num : ℤ
  product_num = int_div a (pos g) *ℤ int_div c (pos h)

  abbrev product_den : ℤ
  product_den = int_div b (pos h) *ℤ int_div d (pos g)

  nonzero-b : 0 < unsigned_abs b
  nonzero-b = let p = x.positive in omega (arith, ints)

  nonzero-d : 0 < unsigned_abs d
  nonzero-d = let p = y.positive in omega (arith, ints)

  pub product-positive : pos 0 <ℤ product_den
  product-positive = positive-product (int_div b (pos h)) (int_div d (pos g))
      (positive-quotient h b (gcd-is (unsigned_abs c) (unsigned_abs b)).1 x.positive)
      (positive-quotient g d (gcd-is (unsigned_abs a) (unsigned_abs d)).1 y.positive)

  pub product-lowest : gcd (unsigned_abs product_num) (unsigned_abs product_den) ≡ 1
  product-lowest =
      let with_d = gcd-is (unsigned_abs a) (unsigned_abs d) in
      let with_b = gcd-is (unsigned_abs c) (unsigned_abs b) in
      let A = unsigned_abs a / g in
      let B = unsigned_abs b / h in
      let C = unsigned_abs c / h in
      let D = unsigned_abs d / g in
      let first : gcd A (B * D) ≡ 1 = coprime-mul A B D (coprime-divisors (unsigned_abs a) (unsigned_abs b) A B x.lowest
      (quotient-divides g (unsigned_abs a) with_d.0) (quotient-divides h (unsigned_abs b) with_b.1))
      (quotients (unsigned_abs a) (unsigned_abs d) nonzero-d) in
      let second : gcd C (B * D) ≡ 1 = coprime-mul C B D (quotients (unsigned_abs c) (unsigned_abs b) nonzero-b)
      (coprime-divisors (unsigned_abs c) (unsigned_abs d) C D y.lowest (quotient-divides h (unsigned_abs c) with_b.0)
      (quotient-divides g (unsigned_abs d) with_d.1)) in
      let all : gcd (B * D) (A * C) ≡ 1 = coprime-mul (B * D) A C (gcd_comm (B * D) A ∙ first) (gcd_comm (B * D) C ∙ second) in
      let numerator : unsigned_abs product_num ≡ A * C = unsigned_abs-mul (int_div a (pos g)) (int_div c (pos h))
      ∙ ap (λ z. z * unsigned_abs (int_div c (pos h))) (divided-absolute g a) ∙ ap (λ z. A * z) (divided-absolute h c) in
      let under : unsigned_abs product_den ≡ B * D = unsigned_abs-mul (int_div b (pos h)) (int_div d (pos g))
      ∙ ap (λ z. z * unsigned_abs (int_div d (pos g))) (divided-absolute h b) ∙ ap (λ z. B * z) (divided-absolute g d) in
      ap (λ z. gcd z (unsigned_abs product_den)) numerator ∙ ap (gcd (A * C)) under ∙ gcd_comm (A * C) (B * D) ∙ all

  pub product-equal : product_num *ℤ (b *ℤ d) ≡ (a *ℤ c) *ℤ product_den
  product-equal =
      combine whole (int_div a (pos g) ∷ int_div b (pos h) ∷ int_div c (pos h) ∷ int_div d (pos g) ∷ pos g ∷ pos h ∷ a ∷ b ∷ c ∷ d ∷ [])
      ((minus (var 0 ⊗ var 2 ⊗ var 9), var 5 ⊗ var 1, var 7) ∷ (minus (var 0 ⊗ var 2 ⊗ var 5 ⊗ var 1), var 4 ⊗ var 3, var 9)
      ∷ (var 5 ⊗ var 2 ⊗ var 1 ⊗ var 3, var 4 ⊗ var 0, var 6) ∷ (var 6 ⊗ var 1 ⊗ var 3, var 5 ⊗ var 2, var 8) ∷ [])
      ((var 0 ⊗ var 2) ⊗ (var 7 ⊗ var 9)) ((var 6 ⊗ var 8) ⊗ (var 1 ⊗ var 3)) refl
      (shared-second c b, (shared-second a d, (shared-first a d, (shared-first c b, tt))))

  -- the answer of a product is a fraction in lowest terms
  pub IsFraction-product : (n e : ℤ) → within product_num ≡ Some n → within product_den ≡ Some e → IsFraction n e
  IsFraction-product n e p q =
      let numerator = within-some product_num n p in
      let under = within-some product_den e q in
      record {
        positive = subst (λ z. pos 0 <ℤ z) (sym under.0) product-positive;
        num_fits = numerator.1;
        den_fits = under.1;
        lowest = ap (λ z. gcd (unsigned_abs z) (unsigned_abs e)) numerator.0
            ∙ ap (λ z. gcd (unsigned_abs product_num) (unsigned_abs z)) under.0 ∙ product-lowest;
      }

-- the answer of a product is the product of the values
pub product-exact : (x y : Fraction) → IsFraction x.num x.den → IsFraction y.num y.den → IfOk (product_of x y) (IsProduct x y)
unfolding product_of
product-exact x y p q =
    by (within (product_num x.num x.den y.num y.den p q)) (within (product_den x.num x.den y.num y.den p q)) refl refl
  where
    by : (s t : Option ℤ) → within (product_num x.num x.den y.num y.den p q) ≡ s → within (product_den x.num x.den y.num y.den p q) ≡ t →
        IfOk (fraction_where s t) (IsProduct x y)
    by (Some n) (Some e) f h =
        let numerator = within-some (product_num x.num x.den y.num y.den p q) n f in
        let under = within-some (product_den x.num x.den y.num y.den p q) e h in
        let positive = subst (λ z. pos 0 <ℤ z) (sym under.0) (product-positive x.num x.den y.num y.den p q) in
        product_is x.num x.den y.num y.den n e p.positive q.positive positive
        (ap (λ z. z *ℤ (x.den *ℤ y.den)) numerator.0 ∙ product-equal x.num x.den y.num y.den p q
        ∙ ap (λ z. (x.num *ℤ y.num) *ℤ z) (sym under.0))
    by (Some n) None f h = tt
    by None t f h = tt

-- the quotients by the shared factor are the fraction in lowest terms
pub lowest-made : (n d t u : ℤ) → pos 0 <ℤ d → unsigned_abs n < 2 ^ 127 → unsigned_abs d < 2 ^ 127 → t ≡ int_div n (shared n d) →
    u ≡ int_div d (shared n d) → IsFraction t u
unfolding lowest_of
lowest-made n d t u p a b e f = subst (λ z. IsFraction z u) (sym e) (subst (λ z. IsFraction (lowest_of n d).num z) (sym f)
    (IsFraction-lowest n d p a b))

pub lowest-parts : (n d t u : ℤ) → t ≡ int_div n (shared n d) → u ≡ int_div d (shared n d) → record { num = t; den = u } ≡ lowest_of n d
unfolding lowest_of
lowest-parts n d t u e f = cc

-- ---- sums
module _ (a b c d : ℤ) (x : IsFraction a b) (y : IsFraction c d) where
  abbrev f : ℕ
  f = gcd (unsigned_abs b) (unsigned_abs d)

  abbrev pub sum_num : ℤ
  sum_num = a *ℤ int_div d (pos f) +ℤ c *ℤ int_div b (pos f)

  abbrev pub sum_den : ℤ
  sum_den = int_div b (pos f) *ℤ d

  pub sum-positive : pos 0 <ℤ sum_den
  sum-positive = positive-product (int_div b (pos f)) d (positive-quotient f b (gcd-is (unsigned_abs b) (unsigned_abs d)).0 x.positive)
      y.positive

  pub sum-equal : sum_num *ℤ (b *ℤ d) ≡ (a *ℤ d +ℤ c *ℤ b) *ℤ sum_den
  sum-equal =
      combine whole (a ∷ b ∷ c ∷ d ∷ int_div b (pos f) ∷ int_div d (pos f) ∷ pos f ∷ [])
      ((var 2 ⊗ var 4 ⊗ var 3 ⊖ (var 0 ⊗ var 5 ⊕ var 2 ⊗ var 4) ⊗ var 3, var 6 ⊗ var 4, var 1) ∷ (
        var 0 ⊗ var 4 ⊗ var 3,
        var 6 ⊗ var 5,
        var 3,
      ) ∷ [])
      ((var 0 ⊗ var 5 ⊕ var 2 ⊗ var 4) ⊗ (var 1 ⊗ var 3)) ((var 0 ⊗ var 3 ⊕ var 2 ⊗ var 1) ⊗ (var 4 ⊗ var 3)) refl
      (shared-first b d, (shared-second b d, tt))

-- equal crosswise is equal
pub same-rational : (n d t u : ℤ) → pos 0 <ℤ d → pos 0 <ℤ u → t *ℤ d ≡ n *ℤ u → rational t u ≡ rational n d
unfolding rational
same-rational n d t u p q e = same t (unsigned_abs u - 1) n (unsigned_abs d - 1) (ap (λ z. t *ℤ z) (S-of d p) ∙ e
    ∙ ap (λ z. n *ℤ z) (sym (S-of u q)))

-- a fraction in lowest terms has the same value
pub lowest-value : (n d : ℤ) → pos 0 <ℤ d → value_of (lowest_of n d) ≡ rational n d
unfolding lowest_of
lowest-value n d p = same-rational n d (int_div n (shared n d)) (int_div d (shared n d)) p
    (positive-quotient (gcd (unsigned_abs n) (unsigned_abs d)) d (gcd-is (unsigned_abs n) (unsigned_abs d)).1 p) (lowest_of-equal n d)

-- the answer of a sum is the sum of the values
pub sum-exact : (x y : Fraction) → IsFraction x.num x.den → IsFraction y.num y.den → IfOk (sum_of x y) (IsSum x y)
unfolding sum_of
sum-exact x y p q =
    by (within (x.num *ℤ int_div y.den (shared x.den y.den))) (within (y.num *ℤ int_div x.den (shared x.den y.den)))
    (within (sum_num x.num x.den y.num y.den p q)) (within (sum_den x.num x.den y.num y.den p q)) refl refl
  where
    by : (s t v w : Option ℤ) → within (sum_num x.num x.den y.num y.den p q) ≡ v → within (sum_den x.num x.den y.num y.den p q) ≡ w →
        IfOk (sum_where s t v w) (IsSum x y)
    by (Some l) (Some r) (Some n) (Some e) f h =
        let numerator = within-some (sum_num x.num x.den y.num y.den p q) n f in
        let under = within-some (sum_den x.num x.den y.num y.den p q) e h in
        let positive : pos 0 <ℤ e = subst (λ z. pos 0 <ℤ z) (sym under.0) (sum-positive x.num x.den y.num y.den p q) in
        lowest-value n e positive ∙ sum_is x.num x.den y.num y.den n e p.positive q.positive positive
        (ap (λ z. z *ℤ (x.den *ℤ y.den)) numerator.0 ∙ sum-equal x.num x.den y.num y.den p q
        ∙ ap (λ z. (x.num *ℤ y.den +ℤ y.num *ℤ x.den) *ℤ z) (sym under.0))
    by (Some l) (Some r) (Some n) None f h = tt
    by (Some l) (Some r) None w f h = tt
    by (Some l) None v w f h = tt
    by None t v w f h = tt

-- ---- negatives and reciprocals
pub IsFraction-negative : (n d t : ℤ) → IsFraction n d → t ≡ neg_ℤ n → IsFraction t d
IsFraction-negative n d t x e =
    let size : unsigned_abs t ≡ unsigned_abs n = omega (arith, ints) in
    record {
      positive = x.positive;
      num_fits = subst (λ z. z < 2 ^ 127) (sym size) x.num_fits;
      den_fits = x.den_fits;
      lowest = ap (λ z. gcd z (unsigned_abs d)) size ∙ x.lowest;
    }

pub negative-value : (x : Fraction) → value_of (negative_of x) ≡ neg (value_of x)
unfolding rational
negative-value x = sym (neg-over x.num (unsigned_abs x.den - 1))

-- a difference is the sum with the negative
pub IsDifference-negative : (x y r : Fraction) → IsSum x (negative_of y) r → IsDifference x y r
IsDifference-negative x y r h = h ∙ ap (add (value_of x)) (negative-value y) ∙ sym (sub_is (value_of x) (value_of y))

pub IsFraction-turned : (n d t u : ℤ) → IsFraction n d → pos 0 <ℤ u → unsigned_abs t ≡ unsigned_abs d → unsigned_abs u ≡ unsigned_abs n →
    IsFraction t u
IsFraction-turned n d t u x p e f = record {
  positive = p;
  num_fits = subst (λ z. z < 2 ^ 127) (sym e) x.den_fits;
  den_fits = subst (λ z. z < 2 ^ 127) (sym f) x.num_fits;
  lowest = ap (λ z. gcd z (unsigned_abs u)) e ∙ ap (gcd (unsigned_abs d)) f ∙ gcd_comm (unsigned_abs d) (unsigned_abs n) ∙ x.lowest;
}

pub reciprocal-proper : (n d : ℤ) → IsFraction n d → n ≢ pos 0 → IsProper (reciprocal_of (record { num = n; den = d }))
reciprocal-proper (pos zero) d p h = absurd (h refl)
reciprocal-proper (pos (suc k)) d p h =
    let up : int_lt (pos (suc k)) (pos 0) ≡ false = grind (arith, ints) in
    subst (λ t. IsProper (if t then record { num = neg_ℤ d; den = neg_ℤ (pos (suc k)) } else record { num = d; den = pos (suc k) }))
    (sym up)
    (IsFraction-turned (pos (suc k)) d d (pos (suc k)) p (omega (arith, ints)) refl refl)
reciprocal-proper (negsuc k) d p h = IsFraction-turned (negsuc k) d (neg_ℤ d) (pos (suc k)) p (omega (arith, ints)) (omega (arith, ints))
    (omega (arith, ints))

inverse-parts : (n : ℤ) (less : ℕ) (d : ℤ) → S less ≡ d → n ≢ pos 0 → value_of (reciprocal_of (record { num = n; den = d }))
    ≡ inverse_of n less
unfolding rational
inverse-parts (pos zero) less d e h = absurd (h refl)
inverse-parts (pos (suc k)) less d e h =
    let up : int_lt (pos (suc k)) (pos 0) ≡ false = grind (arith, ints) in
    ap (λ t. value_of (if t then record { num = neg_ℤ d; den = neg_ℤ (pos (suc k)) } else record { num = d; den = pos (suc k) })) up
    ∙ ap (λ z. over z (suc k - 1)) (sym e) ∙ ap (over (S less)) (omega arith)
inverse-parts (negsuc k) less d e h = ap (λ z. over (neg_ℤ z) (suc k - 1)) (sym e) ∙ ap (over (neg_ℤ (S less))) (omega arith)

pub reciprocal-value : (x : Fraction) → IsFraction x.num x.den → x.num ≢ pos 0 → value_of (reciprocal_of x) ≡ inverse (value_of x)
unfolding inverse
reciprocal-value x p h =
    let parts = lowest-is x.num x.den p.positive p.lowest in
    inverse-parts x.num (value_of x).less x.den parts.1 h ∙ ap (λ z. inverse_of z (value_of x).less) (sym parts.0)

-- a quotient is the product with the reciprocal
pub IsQuotient-reciprocal : (x y r : Fraction) → IsFraction y.num y.den → y.num ≢ pos 0 → IsProduct x (reciprocal_of y) r →
    IsQuotient x y r
IsQuotient-reciprocal x y r p n h = h ∙ ap (mul (value_of x)) (reciprocal-value y p n)

-- the steps of a sum
module _ (x y : Fraction) (l r : ℤ) (p : within (x.num *ℤ int_div y.den (shared x.den y.den))
    ≡ Some l) (q : within (y.num *ℤ int_div x.den (shared x.den y.den)) ≡ Some r) where
  sum-steps : within (x.num *ℤ int_div y.den (shared x.den y.den) +ℤ y.num *ℤ int_div x.den (shared x.den y.den)) ≡ within (l +ℤ r)
  sum-steps = ap (λ z. within (z +ℤ y.num *ℤ int_div x.den (shared x.den y.den))) (sym (within-some _ l p).0)
      ∙ ap (λ z. within (l +ℤ z)) (sym (within-some _ r q).0)

  pub sum-made : (n e : ℤ) → within (l +ℤ r) ≡ Some n → within (int_div x.den (shared x.den y.den) *ℤ y.den) ≡ Some e →
      sum_of x y ≡ Ok (lowest_of n e)
  unfolding sum_of
  sum-made n e f h = rw (sum-steps, f, p, q, h) refl

  pub sum-wide : within (l +ℤ r) ≡ None → sum_of x y ≡ Err (record {})
  unfolding sum_of
  sum-wide f = rw (sum-steps, f, p, q) refl

pub IfOk-difference : (x y : Fraction) (r : Result Fraction Wide) → IfOk r (IsSum x (negative_of y)) → IfOk r (IsDifference x y)
IfOk-difference x y (Ok r) h = IsDifference-negative x y r h
IfOk-difference x y (Err e) h = tt

pub IfOk-quotient : (x y : Fraction) (r : Result Fraction Wide) → IsFraction y.num y.den → y.num ≢ pos 0 →
    IfOk r (IsProduct x (reciprocal_of y)) → IfOk r (IsQuotient x y)
IfOk-quotient x y (Ok r) p n h = IsQuotient-reciprocal x y r p n h
IfOk-quotient x y (Err e) p n h = tt
