-- The quotients of two numbers by their greatest common divisor are coprime: fractions can be put in lowest terms.
use Rattle.std.specs.Prelude.{◌≡◌, ℕ, zero, suc, ◌*◌, ◌/◌, ◌-◌, ◌%◌, ◌<◌, ◌≤◌, ◌==◌, Bool, true, false, cond, ℤ, pos, negsuc, int_div}
use Rattle.std.specs.Prelude.{unsigned_abs}
use Rattle.std.specs.Int.{◌∣◌, IsGcd}
use Rattle.std.proofs.Common.{arith, refl, ap, sym, ◌∙◌, subst}
use Rattle.std.proofs.lemmas.Bool.{eqb-true, eqb-false}
use Rattle.std.proofs.lemmas.Int.{ints}
use Rattle.std.proofs.Math.Nat.{mod-lt, dvd-mul_right, mul-dvd-mul_left, dvd_of_mul-dvd-mul_left, mul-div_cancel', mul-div_cancel_left}
use Rattle.std.proofs.Math.Nat.{pos_of_dvd_of_pos}
use Rattle.std.proofs.lemmas.Nat.Gcd.{dvd_antisymm, IsGcd-from_mod, IsGcd-from_zero}
use Rattle.frac128.specs.Gcd.{gcd, gcd_within}

-- enough steps give the greatest common divisor
pub gcd_within-is : (k a b : ℕ) → b ≤ k → IsGcd a b (gcd_within k a b)
gcd_within-is zero a b l = IsGcd-from_zero a b (omega arith)
gcd_within-is (suc k) a b l = by (b == 0) refl
    (λ p. gcd_within-is k b (a % b) (let small = mod-lt a p in omega arith))
  where
    by : (t : Bool) → (b == 0) ≡ t → (0 < b → IsGcd b (a % b) (gcd_within k b (a % b))) → IsGcd a b (cond t a (gcd_within k b (a % b)))
    by true e f = IsGcd-from_zero a b (eqb-true b 0 e)
    by false e f = let apart = eqb-false b 0 e in IsGcd-from_mod a b (gcd_within k b (a % b)) (f (omega arith))

pub gcd-is : (a b : ℕ) → IsGcd a b (gcd a b)
unfolding gcd
gcd-is a b = gcd_within-is b a b (omega arith)

-- a common factor comes out of the greatest common divisor
pub gcd-mul : (k a b : ℕ) → 0 < k → gcd (k * a) (k * b) ≡ k * gcd a b
gcd-mul k a b p =
    let small = gcd-is a b in
    let large = gcd-is (k * a) (k * b) in
    let g = gcd (k * a) (k * b) in
    let out : k ∣ g = large.2 k (dvd-mul_right k a) (dvd-mul_right k b) in
    let m = g / k in
    let is : k * m ≡ g = mul-div_cancel' k out in
    let left : m ∣ a = dvd_of_mul-dvd-mul_left m p (subst (λ z. z ∣ k * a) (sym is) large.0) in
    let right : m ∣ b = dvd_of_mul-dvd-mul_left m p (subst (λ z. z ∣ k * b) (sym is) large.1) in
    let up : g ∣ k * gcd a b = subst (λ z. z ∣ k * gcd a b) is (mul-dvd-mul_left m k (small.2 m left right)) in
    let down : k * gcd a b ∣ g = large.2 (k * gcd a b) (mul-dvd-mul_left (gcd a b) k small.0) (mul-dvd-mul_left (gcd a b) k small.1) in
    dvd_antisymm up down

-- a divisor of a positive number is positive
pub gcd-positive : (a b : ℕ) → 0 < b → 0 < gcd a b
gcd-positive a b p = pos_of_dvd_of_pos (gcd-is a b).1 p

abbrev pub divided : ℤ → ℕ → ℤ
divided a g = int_div a (pos g)

pub divided-absolute : (g : ℕ) (a : ℤ) → unsigned_abs (divided a g) ≡ unsigned_abs a / g
divided-absolute g (pos n) = refl
divided-absolute g (negsuc n) = omega (arith, ints)

pub quotients : (m n : ℕ) → 0 < n → gcd (m / gcd m n) (n / gcd m n) ≡ 1
quotients m n p =
    let g = gcd m n in
    let both = gcd-is m n in
    let positive : 0 < g = gcd-positive m n p in
    let x : g * (m / g) ≡ m = mul-div_cancel' g both.0 in
    let y : g * (n / g) ≡ n = mul-div_cancel' g both.1 in
    let X = gcd (m / g) (n / g) in
    let e : g * X ≡ g * 1 = sym (gcd-mul g (m / g) (n / g) positive) ∙ ap (λ z. gcd z (g * (n / g))) x ∙ ap (λ z. gcd m z) y
    ∙ omega arith in
    sym (mul-div_cancel_left X positive) ∙ ap (λ z. z / g) e ∙ mul-div_cancel_left 1 positive

pub positive_quotient : (m n : ℕ) → suc (suc n / gcd m (suc n) - 1) ≡ suc n / gcd m (suc n)
positive_quotient m n =
    let g = gcd m (suc n) in
    let y : g * (suc n / g) ≡ suc n = mul-div_cancel' g (gcd-is m (suc n)).1 in
    by (suc n / g) y
  where
    by : (q : ℕ) → gcd m (suc n) * q ≡ suc n → suc (q - 1) ≡ q
    by zero e = absurd (omega arith)
    by (suc q) e = omega arith

pub over-lowest : (a : ℤ) (c : ℕ) → gcd (unsigned_abs (divided a (gcd (unsigned_abs a) (suc c))))
    (suc (suc c / gcd (unsigned_abs a) (suc c) - 1)) ≡ 1
over-lowest a c =
    let g = gcd (unsigned_abs a) (suc c) in
    ap (λ z. gcd (unsigned_abs (divided a g)) z) (positive_quotient (unsigned_abs a) c)
    ∙ ap (λ z. gcd z (suc c / g)) (divided-absolute g a)
    ∙ quotients (unsigned_abs a) (suc c) (omega arith)
