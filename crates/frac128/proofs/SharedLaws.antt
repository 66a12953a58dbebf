-- What a sum of fractions can have in common with its denominator divides the common part of the denominators.
use Rattle.std.specs.Prelude.{◌≡◌, ℕ, suc, ◌*◌, ◌/◌, ◌%◌, ◌<◌, ◌≤◌, ◌^◌, Bool, true, false, if◌then◌else◌, Some, None, Ok, ℤ, pos}
use Rattle.std.specs.Prelude.{negsuc, neg_ℤ, ◌+ℤ◌, ◌-ℤ◌, ◌*ℤ◌, ◌<ℤ◌, int_div, int_rem, unsigned_abs}
use Rattle.std.specs.Int.{◌∣◌}
use Rattle.std.proofs.Common.{arith, refl, ap, sym, ◌∙◌, subst}
use borrow.Author.Tests.{lt-ltb}
use Rattle.std.proofs.lemmas.Int.{ints, unsigned_abs-mul}
use Rattle.std.proofs.Math.Nat.{dvd-mul_right, dvd-mul_left_of_dvd, mul-div_cancel', mul-le-mul, div-le_self, div-one, dvd-one}
use Rattle.std.proofs.lemmas.Nat.Gcd.{dvd_refl}
use Rattle.ring_laws.proofs.Products.{mul_sub}
use Rattle.frac128.specs.Gcd.{gcd}
use Rattle.frac128.specs.LowestTerms.{quotients, divided-absolute}
use Rattle.frac128.specs.Fractions.{Fraction, IsFraction, IsSmall, in_range, within, shared, lowest_of, sum_of, product_of}
use Rattle.frac128.proofs.GcdLaws.{gcd-is, gcd-mod, gcd-small, gcd-positive, gcd_comm, coprime-mul, coprime-divisors, gcd-skip}
use Rattle.frac128.proofs.BinaryGcdLaws.{gcd-same}
use Rattle.frac128.proofs.Rationals.{divided-is}
use Rattle.frac128.proofs.FractionLaws.{quotient-divides, sum_num, sum_den, sum-positive, within-some, IsFraction-product}

-- a divisor of a sum and of one summand divides the other
dvd-summand : (k : ℕ) (p q : ℤ) → k ∣ unsigned_abs (p +ℤ q) → k ∣ unsigned_abs q → k ∣ unsigned_abs p
dvd-summand k p q h g =
    let all = divided-is k (p +ℤ q) h in
    let one = divided-is k q g in
    let apart = mul_sub (pos k) (int_div (p +ℤ q) (pos k)) (int_div q (pos k)) in
    let is : p ≡ pos k *ℤ (int_div (p +ℤ q) (pos k) -ℤ int_div q (pos k)) = omega (arith, ints) in
    let size : unsigned_abs p ≡ k * unsigned_abs (int_div (p +ℤ q) (pos k) -ℤ int_div q (pos k)) = ap unsigned_abs is
    ∙ unsigned_abs-mul (pos k) (int_div (p +ℤ q) (pos k) -ℤ int_div q (pos k)) in
    subst (λ z. k ∣ z) (sym size) (dvd-mul_right k (unsigned_abs (int_div (p +ℤ q) (pos k) -ℤ int_div q (pos k))))

-- m is coprime to a * n + c * m where it is coprime to a and n
coprime-sum : (a c : ℤ) (m n : ℤ) → gcd (unsigned_abs a) (unsigned_abs m) ≡ 1 → gcd (unsigned_abs n) (unsigned_abs m) ≡ 1 →
    gcd (unsigned_abs (a *ℤ n +ℤ c *ℤ m)) (unsigned_abs m) ≡ 1
coprime-sum a c m n first second =
    let S = unsigned_abs (a *ℤ n +ℤ c *ℤ m) in
    let M = unsigned_abs m in
    let k = gcd S M in
    let both = gcd-is S M in
    let in_second : k ∣ unsigned_abs (c *ℤ m) = subst (λ z. k ∣ z) (sym (unsigned_abs-mul c m))
    (dvd-mul_left_of_dvd k both.1 (unsigned_abs c)) in
    let in_first : k ∣ unsigned_abs a * unsigned_abs n = subst (λ z. k ∣ z) (unsigned_abs-mul a n)
    (dvd-summand k (a *ℤ n) (c *ℤ m) both.0 in_second) in
    let with_a : gcd k (unsigned_abs a) ≡ 1 = gcd_comm k (unsigned_abs a)
    ∙ coprime-divisors (unsigned_abs a) M (unsigned_abs a) k first (dvd_refl (unsigned_abs a)) both.1 in
    let with_n : gcd k (unsigned_abs n) ≡ 1 = gcd_comm k (unsigned_abs n)
    ∙ coprime-divisors (unsigned_abs n) M (unsigned_abs n) k second (dvd_refl (unsigned_abs n)) both.1 in
    let one = coprime-mul k (unsigned_abs a) (unsigned_abs n) with_a with_n in
    dvd-one.0 (subst (λ z. k ∣ z) one ((gcd-is k (unsigned_abs a * unsigned_abs n)).2 k (dvd_refl k) in_first))

-- a divisor of the one denominator is coprime to the sum of a and c over the common denominator
coprime-part : (a c b n m : ℤ) (other own : ℕ) → gcd (unsigned_abs a) (unsigned_abs b) ≡ 1 → own ∣ unsigned_abs b →
    unsigned_abs n ≡ other → unsigned_abs m ≡ own → gcd other own ≡ 1 → gcd (unsigned_abs (a *ℤ n +ℤ c *ℤ m)) own ≡ 1
coprime-part a c b n m other own lowest divides is_other is_own apart =
    let first : gcd (unsigned_abs a) own ≡ 1 = coprime-divisors (unsigned_abs a) (unsigned_abs b) (unsigned_abs a) own lowest
    (dvd_refl (unsigned_abs a)) divides in
    ap (gcd (unsigned_abs (a *ℤ n +ℤ c *ℤ m))) (sym is_own) ∙ coprime-sum a c m n (ap (gcd (unsigned_abs a)) is_own ∙ first)
    (ap (λ z. gcd z (unsigned_abs m)) is_other ∙ ap (gcd other) is_own ∙ apart)

module _ (a b c d : ℤ) (x : IsFraction a b) (y : IsFraction c d) where
  abbrev f : ℕ
  f = gcd (unsigned_abs b) (unsigned_abs d)

  abbrev B : ℕ
  B = unsigned_abs b / f

  abbrev D : ℕ
  D = unsigned_abs d / f

  abbrev N : ℕ
  N = unsigned_abs (sum_num a b c d x y)

  positive-d : 0 < unsigned_abs d
  positive-d = let p = y.positive in omega (arith, ints)

  apart : gcd B D ≡ 1
  apart = quotients (unsigned_abs b) (unsigned_abs d) positive-d

  coprime-left : gcd N B ≡ 1
  coprime-left = coprime-part a c b (int_div d (pos f)) (int_div b (pos f)) D B x.lowest
      (quotient-divides f (unsigned_abs b) (gcd-is (unsigned_abs b) (unsigned_abs d)).0) (divided-absolute f d) (divided-absolute f b)
      (gcd_comm D B ∙ apart)

  coprime-right : gcd N D ≡ 1
  coprime-right =
      let swap : sum_num a b c d x y ≡ c *ℤ int_div b (pos f) +ℤ a *ℤ int_div d (pos f) = omega (arith, ints) in
      ap (λ z. gcd (unsigned_abs z) D) swap ∙ coprime-part c a d (int_div b (pos f)) (int_div d (pos f)) B D y.lowest
      (quotient-divides f (unsigned_abs d) (gcd-is (unsigned_abs b) (unsigned_abs d)).1) (divided-absolute f b) (divided-absolute f d)
      apart

  -- a sum is reduced by what it has in common with the common part of the denominators
  pub sum-shared : shared (sum_num a b c d x y) (sum_den a b c d x y) ≡ shared (sum_num a b c d x y) (pos f)
  sum-shared =
      let both = gcd-is (unsigned_abs b) (unsigned_abs d) in
      let size : unsigned_abs (sum_den a b c d x y) ≡ B * unsigned_abs d = unsigned_abs-mul (int_div b (pos f)) d
      ∙ ap (λ z. z * unsigned_abs d) (divided-absolute f b) in
      let whole : unsigned_abs d ≡ D * f = sym (mul-div_cancel' f both.1) ∙ omega arith in
      ap pos (ap (gcd N) (size ∙ ap (λ z. B * z) whole) ∙ gcd-skip N B (D * f) coprime-left ∙ gcd-skip N D f coprime-right)

-- ---- a remainder in place of a number
rest-size : (n : ℤ) (m : ℕ) → unsigned_abs (int_rem n (pos m)) ≡ unsigned_abs n % m
rest-size (pos n) m = refl
rest-size (negsuc n) m = omega (arith, ints)

pub shared-rest : (n : ℤ) (m : ℕ) → shared (int_rem n (pos m)) (pos m) ≡ shared n (pos m)
shared-rest n m = ap pos (ap (λ z. gcd z m) (rest-size n m) ∙ gcd_comm (unsigned_abs n % m) m ∙ gcd-mod (unsigned_abs n) m)

-- ---- small numbers
pub within-fits : (z : ℤ) → unsigned_abs z < 2 ^ 127 → within z ≡ Some z
within-fits z h = by (in_range z) (lt-ltb (unsigned_abs z) (2 ^ 127) h)
  where
    by : (t : Bool) → t ≡ true → (if t then Some z else None) ≡ Some z
    by true e = refl
    by false e = absurd cc

pub small-product : (p q : ℤ) → unsigned_abs p < 2 ^ 63 → unsigned_abs q < 2 ^ 63 → unsigned_abs (p *ℤ q) < 2 ^ 126
small-product p q h g =
    let size = unsigned_abs-mul p q in
    let first : unsigned_abs p ≤ 9223372036854775807 = omega arith in
    let second : unsigned_abs q ≤ 9223372036854775807 = omega arith in
    let bound : unsigned_abs p * unsigned_abs q ≤ 9223372036854775807 * 9223372036854775807 = mul-le-mul first second in
    omega arith

pub small-quotient : (f : ℕ) (z : ℤ) → unsigned_abs z < 2 ^ 63 → unsigned_abs (int_div z (pos f)) < 2 ^ 63
small-quotient f z h = let e = divided-absolute f z in let l = div-le_self (unsigned_abs z) f in omega arith

pub small-sum : (p q : ℤ) → unsigned_abs p < 2 ^ 126 → unsigned_abs q < 2 ^ 126 → unsigned_abs (p +ℤ q) < 2 ^ 127
small-sum p q h g = omega (arith, ints)

-- the sum of small fractions is in the range
pub sum-small : (x y : Fraction) (p : IsFraction x.num x.den) (q : IsFraction y.num y.den) → unsigned_abs x.num < 2 ^ 63 →
    unsigned_abs x.den < 2 ^ 63 → unsigned_abs y.num < 2 ^ 63 → unsigned_abs y.den < 2 ^ 63
    → sum_of x y ≡ Ok (lowest_of (sum_num x.num x.den y.num y.den p q) (sum_den x.num x.den y.num y.den p q))
unfolding sum_of
sum-small x y p q xn xd yn yd =
    let f = gcd (unsigned_abs x.den) (unsigned_abs y.den) in
    let left = small-product x.num (int_div y.den (pos f)) xn (small-quotient f y.den yd) in
    let right = small-product y.num (int_div x.den (pos f)) yn (small-quotient f x.den xd) in
    let under = small-product (int_div x.den (pos f)) y.den (small-quotient f x.den xd) yd in
    rw (
      within-fits (x.num *ℤ int_div y.den (pos f)) (omega arith),
      within-fits (y.num *ℤ int_div x.den (pos f)) (omega arith),
      within-fits (x.num *ℤ int_div y.den (pos f) +ℤ y.num *ℤ int_div x.den (pos f))
          (small-sum (x.num *ℤ int_div y.den (pos f)) (y.num *ℤ int_div x.den (pos f)) left right),
      within-fits (int_div x.den (pos f) *ℤ y.den) (omega arith),
    ) refl

-- the product of small fractions is in the range
pub product-small : (x y : Fraction) → unsigned_abs x.num < 2 ^ 63 → unsigned_abs x.den < 2 ^ 63 → unsigned_abs y.num < 2 ^ 63 →
    unsigned_abs y.den < 2 ^ 63
    → (n e : ℤ) → n ≡ int_div x.num (shared x.num y.den) *ℤ int_div y.num (shared y.num x.den) →
    e ≡ int_div x.den (shared y.num x.den) *ℤ int_div y.den (shared x.num y.den)
    → product_of x y ≡ Ok (record { num = n; den = e })
unfolding product_of
product-small x y xn xd yn yd n e numerator under =
    let g = gcd (unsigned_abs x.num) (unsigned_abs y.den) in
    let h = gcd (unsigned_abs y.num) (unsigned_abs x.den) in
    let first = small-product (int_div x.num (pos g)) (int_div y.num (pos h)) (small-quotient g x.num xn) (small-quotient h y.num yn) in
    let second = small-product (int_div x.den (pos h)) (int_div y.den (pos g)) (small-quotient h x.den xd) (small-quotient g y.den yd) in
    rw (
      within-fits (int_div x.num (pos g) *ℤ int_div y.num (pos h)) (omega arith),
      within-fits (int_div x.den (pos h) *ℤ int_div y.den (pos g)) (omega arith),
      sym numerator,
      sym under,
    ) refl

-- ---- fast paths
pub quotient-one : (z : ℤ) → int_div z (pos 1) ≡ z
quotient-one (pos n) = ap pos (div-one n)
quotient-one (negsuc n) = ap (λ m. neg_ℤ (pos m)) (div-one (suc n))

abbrev fraction_with : ℤ → ℤ → Fraction
fraction_with n d = record { num = n; den = d }

-- what is in lowest terms stays
pub lowest-already : (n d t u : ℤ) → shared n d ≡ pos 1 → t ≡ n → u ≡ d → lowest_of n d ≡ record { num = t; den = u }
unfolding lowest_of
lowest-already n d t u one e f = ap (λ (z : ℤ). fraction_with (int_div n z) (int_div d z)) one
    ∙ ap (λ (z : ℤ). fraction_with z (int_div d (pos 1))) (quotient-one n ∙ sym e)
    ∙ ap (λ (z : ℤ). fraction_with t z) (quotient-one d ∙ sym f)

pub shared-one : (a b : ℤ) → b ≡ pos 1 → shared a b ≡ pos 1
shared-one a b e = ap (shared a) e ∙ ap pos (dvd-one.0 (gcd-is (unsigned_abs a) 1).1)

pub shared-positive : (a b : ℤ) → pos 0 <ℤ b → pos 0 <ℤ shared a b
shared-positive a b p =
    let positive = gcd-positive (unsigned_abs a) (unsigned_abs b) (omega (arith, ints)) in
    omega (arith, ints)

-- the greatest common divisor of absolute values, as a number with a sign
pub shared-is : (a b : ℤ) (x y g : ℕ) → pos 0 <ℤ b → x ≡ unsigned_abs a → y ≡ unsigned_abs b → g ≡ gcd x y →
    (pos g ≡ shared a b) × (0 < g) × (g ≤ unsigned_abs b)
shared-is a b x y g p first second is =
    let nonzero : 0 < unsigned_abs b = omega (arith, ints) in
    let all : g ≡ gcd (unsigned_abs a) (unsigned_abs b) = is ∙ ap (λ n. gcd n y) first ∙ ap (gcd (unsigned_abs a)) second in
    let small = gcd-small (unsigned_abs a) (unsigned_abs b) nonzero in
    let positive = gcd-positive (unsigned_abs a) (unsigned_abs b) nonzero in
    (ap pos all, omega arith, omega arith)

pub shared-same : (a b : ℤ) → pos 0 <ℤ b → a ≡ b → b ≡ shared a b
shared-same a b p e = size ∙ ap pos (sym (gcd-same (unsigned_abs b))) ∙ ap (λ z. shared z b) (sym e)
  where
    size : b ≡ pos (unsigned_abs b)
    size = omega (arith, ints)

pub shared-rest_of : (n d : ℤ) → pos 0 <ℤ d → shared (int_rem n d) d ≡ shared n d
shared-rest_of n (pos m) p = shared-rest n m
shared-rest_of n (negsuc m) p = absurd (omega (arith, ints))

pub sum-factor : (x y : Fraction) (p : IsFraction x.num x.den) (q : IsFraction y.num y.den) (n e : ℤ) →
    n ≡ x.num *ℤ int_div y.den (shared x.den y.den) +ℤ y.num *ℤ int_div x.den (shared x.den y.den)
    → e ≡ int_div x.den (shared x.den y.den) *ℤ y.den → shared n (shared x.den y.den) ≡ shared n e
sum-factor x y p q n e numerator under = ap (λ z. shared z (shared x.den y.den)) numerator ∙ sym (sum-shared x.num x.den y.num y.den p q)
    ∙ ap (λ z. shared z (sum_den x.num x.den y.num y.den p q)) (sym numerator) ∙ ap (shared n) (sym under)

-- the same from the steps of a sum
pub sum-factor_within : (x y : Fraction) (p : IsFraction x.num x.den) (q : IsFraction y.num y.den) (l r n e : ℤ)
    → within (x.num *ℤ int_div y.den (shared x.den y.den)) ≡ Some l → within (y.num *ℤ int_div x.den (shared x.den y.den)) ≡ Some r →
    within (l +ℤ r) ≡ Some n → within (int_div x.den (shared x.den y.den) *ℤ y.den) ≡ Some e
    → shared n (shared x.den y.den) ≡ shared n e
sum-factor_within x y p q l r n e f g h k =
    let left = within-some (x.num *ℤ int_div y.den (shared x.den y.den)) l f in
    let right = within-some (y.num *ℤ int_div x.den (shared x.den y.den)) r g in
    let sum = within-some (l +ℤ r) n h in
    let under = within-some (int_div x.den (shared x.den y.den) *ℤ y.den) e k in
    sum-factor x y p q n e (sum.0 ∙ ap (λ z. z +ℤ r) left.0 ∙ ap (λ z. x.num *ℤ int_div y.den (shared x.den y.den) +ℤ z) right.0) under.0

-- ---- sums and products of small fractions
module _ (x y : Fraction) (p : IsFraction x.num x.den)
    (q : IsFraction y.num y.den) (small : IsSmall x) (small' : IsSmall y) (n e : ℤ) where
  module _ (numerator : n ≡ int_div x.num (shared x.num y.den) *ℤ int_div y.num (shared y.num x.den)) (under : e
      ≡ int_div x.den (shared y.num x.den) *ℤ int_div y.den (shared x.num y.den)) where
    pub small-product-fraction : IsFraction n e
    small-product-fraction =
        let g = gcd (unsigned_abs x.num) (unsigned_abs y.den) in
        let h = gcd (unsigned_abs y.num) (unsigned_abs x.den) in
        let first = small-product (int_div x.num (pos g)) (int_div y.num (pos h)) (small-quotient g x.num small.num)
        (small-quotient h y.num small'.num) in
        let second = small-product (int_div x.den (pos h)) (int_div y.den (pos g)) (small-quotient h x.den small.den)
        (small-quotient g y.den small'.den) in
        IsFraction-product x.num x.den y.num y.den p q n e
        (within-fits (int_div x.num (pos g) *ℤ int_div y.num (pos h)) (omega arith) ∙ ap (λ (z : ℤ). Some z) (sym numerator))
        (within-fits (int_div x.den (pos h) *ℤ int_div y.den (pos g)) (omega arith) ∙ ap (λ (z : ℤ). Some z) (sym under))

    pub small-product-is : product_of x y ≡ Ok (record { num = n; den = e })
    small-product-is = product-small x y small.num small.den small'.num small'.den n e numerator under

  module _ (numerator : n ≡ x.num *ℤ int_div y.den (shared x.den y.den) +ℤ y.num *ℤ int_div x.den (shared x.den y.den)) (under : e
      ≡ int_div x.den (shared x.den y.den) *ℤ y.den) where
    pub small-sum-positive : pos 0 <ℤ e
    small-sum-positive = subst (λ z. pos 0 <ℤ z) (sym under) (sum-positive x.num x.den y.num y.den p q)

    pub small-sum-fits : unsigned_abs n < 2 ^ 127
    small-sum-fits =
        let f = gcd (unsigned_abs x.den) (unsigned_abs y.den) in
        let left = small-product x.num (int_div y.den (pos f)) small.num (small-quotient f y.den small'.den) in
        let right = small-product y.num (int_div x.den (pos f)) small'.num (small-quotient f x.den small.den) in
        subst (λ z. unsigned_abs z < 2 ^ 127) (sym numerator) (small-sum (x.num *ℤ int_div y.den (pos f)) (y.num *ℤ int_div x.den (pos f))
        left right)

    pub small-sum-shared : shared n (shared x.den y.den) ≡ shared n e
    small-sum-shared = sum-factor x y p q n e numerator under

    pub small-sum-is : sum_of x y ≡ Ok (lowest_of n e)
    small-sum-is = sum-small x y p q small.num small.den small'.num small'.den
        ∙ ap (λ z. Ok (lowest_of z (sum_den x.num x.den y.num y.den p q))) (sym numerator) ∙ ap (λ z. Ok (lowest_of n z)) (sym under)
