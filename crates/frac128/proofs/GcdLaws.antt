-- Laws of the greatest common divisor.
use Rattle.std.specs.Prelude.{◌≡◌, ℕ, zero, suc, ◌*◌, ◌%◌, ◌<◌, ◌≤◌}
use Rattle.std.proofs.Common.{arith, ap, ◌∙◌, subst}
use Rattle.std.specs.Int.{◌∣◌}
use Rattle.std.proofs.Math.Nat.{dvd-mul_left, dvd-mul_left_of_dvd, dvd-one, le_of_dvd, mul_comm}
use Rattle.std.proofs.lemmas.Nat.Gcd.{dvd_refl, dvd_trans, dvd_antisymm, IsGcd-swap, IsGcd-from_mod, IsGcd-from_zero, same_from_IsGcd}
use Rattle.frac128.specs.Gcd.{gcd}
pub use Rattle.frac128.specs.LowestTerms.{gcd-is, gcd-mul, gcd-positive}

pub gcd-zero : (a b : ℕ) → b ≡ 0 → gcd a b ≡ a
gcd-zero a b e = same_from_IsGcd a b (gcd a b) a (gcd-is a b) (IsGcd-from_zero a b e)

pub gcd-mod : (a b : ℕ) → gcd b (a % b) ≡ gcd a b
gcd-mod a b = same_from_IsGcd a b (gcd b (a % b)) (gcd a b) (IsGcd-from_mod a b (gcd b (a % b)) (gcd-is b (a % b))) (gcd-is a b)

-- what has no factor in common with the one factor divides the other
pub euclid : (a b k : ℕ) → 0 < k → gcd b a ≡ 1 → a ∣ b * k → a ∣ k
euclid a b k p one d =
    let all : gcd (k * b) (k * a) ≡ k = gcd-mul k b a p ∙ ap (λ z. k * z) one ∙ omega arith in
    subst (λ z. a ∣ z) all ((gcd-is (k * b) (k * a)).2 a (subst (λ z. a ∣ z) (mul_comm b k) d) (dvd-mul_left a k))

-- what has no factor in common with two numbers has none with their product
coprime-mul_positive : (a b c : ℕ) → 0 < c → gcd a b ≡ 1 → gcd a c ≡ 1 → gcd a (b * c) ≡ 1
coprime-mul_positive a b c p one other =
    let all = gcd-is a (b * c) in
    let d = gcd a (b * c) in
    let times : gcd (c * a) (c * b) ≡ c * 1 = gcd-mul c a b p ∙ ap (λ z. c * z) one in
    let in_first : d ∣ c * a = dvd-mul_left_of_dvd d all.0 c in
    let in_second : d ∣ c * b = subst (λ z. d ∣ z) (mul_comm b c) all.1 in
    let in_c : d ∣ c = subst (λ z. d ∣ z) (times ∙ omega arith) ((gcd-is (c * a) (c * b)).2 d in_first in_second) in
    let in_one : d ∣ 1 = subst (λ z. d ∣ z) other ((gcd-is a c).2 d all.0 in_c) in
    dvd-one.0 in_one

pub coprime-mul : (a b c : ℕ) → gcd a b ≡ 1 → gcd a c ≡ 1 → gcd a (b * c) ≡ 1
coprime-mul a b zero one other = ap (gcd a) (omega arith) ∙ other
coprime-mul a b (suc c) one other = coprime-mul_positive a b (suc c) (omega arith) one other

pub gcd-small : (a b : ℕ) → 0 < b → gcd a b ≤ b
gcd-small a b p = le_of_dvd p (gcd-is a b).1

pub gcd_comm : (a b : ℕ) → gcd a b ≡ gcd b a
gcd_comm a b = same_from_IsGcd b a (gcd a b) (gcd b a) (IsGcd-swap a b (gcd a b) (gcd-is a b)) (gcd-is b a)

-- divisors of coprime numbers are coprime
pub coprime-divisors : (a b m n : ℕ) → gcd a b ≡ 1 → m ∣ a → n ∣ b → gcd m n ≡ 1
coprime-divisors a b m n one x y =
    let both = gcd-is m n in
    dvd-one.0 (subst (λ z. gcd m n ∣ z) one ((gcd-is a b).2 (gcd m n) (dvd_trans (gcd m n) both.0 x) (dvd_trans (gcd m n) both.1 y)))

-- what has no factor in common with a number may be left out beside it
gcd-skip_positive : (y m k : ℕ) → 0 < k → gcd y m ≡ 1 → gcd y (m * k) ≡ gcd y k
gcd-skip_positive y m k p one =
    let all = gcd-is y (m * k) in
    let d = gcd y (m * k) in
    let apart : gcd m d ≡ 1 = gcd_comm m d ∙ coprime-divisors y m d m one all.0 (dvd_refl m) in
    dvd_antisymm ((gcd-is y k).2 d all.0 (euclid d m k p apart all.1)) (all.2 (gcd y k) (gcd-is y k).0
    (dvd-mul_left_of_dvd (gcd y k) (gcd-is y k).1 m))

pub gcd-skip : (y m k : ℕ) → gcd y m ≡ 1 → gcd y (m * k) ≡ gcd y k
gcd-skip y m zero one = ap (gcd y) (omega arith)
gcd-skip y m (suc k) one = gcd-skip_positive y m (suc k) (omega arith) one
