-- The binary algorithm for the greatest common divisor: factors of 2 are shifted out, and a difference takes the place of a remainder.
use Rattle.std.specs.Prelude.{◌≡◌, ◌≢◌, ℕ, zero, suc, ◌+◌, ◌-◌, ◌*◌, ◌/◌, ◌%◌, ◌^◌, ◌<◌, ◌≤◌, min}
use Rattle.std.specs.Int.{trailing_zeros, bit_at, abs_diff, Width}
use mir.Val.{bits}
use Rattle.std.proofs.Common.{arith, ap, sym, ◌∙◌, ⊎_elim}
use Rattle.std.proofs.lemmas.Bool.{cases_lt}
use Rattle.std.proofs.Math.Nat.{dvd-one, mul_comm, pow-suc}
use Rattle.std.proofs.lemmas.Nat.{pow-add, mod-pow-add, pow_pos, shr_split, shr_le}
use Rattle.std.proofs.lemmas.Nat.Bits.{bit_at-trailing_zeros}
use Rattle.std.proofs.lemmas.Nat.Gcd.{dvd_refl, IsGcd-from_sub, same_from_IsGcd}
use Rattle.frac128.specs.Gcd.{gcd}
use Rattle.frac128.proofs.GcdLaws.{gcd-is, gcd-mul, gcd-mod, gcd_comm, gcd-zero, gcd-small, coprime-mul, gcd-skip}

-- ---- the odd part of a number
low-zero : (n k : ℕ) → ((i : ℕ) → i < k → bit_at n i ≡ 0) → n % 2 ^ k ≡ 0
low-zero n zero h = omega arith
low-zero n (suc k) h =
    let here : n / 2 ^ k % 2 ≡ 0 = h k (omega arith) in
    let below : n % 2 ^ k ≡ 0 = low-zero n k (λ i l. h i (omega arith)) in
    ap (λ z. n % 2 ^ z) (omega arith) ∙ mod-pow-add n 1 k ∙ ap (λ z. z * 2 ^ k + n % 2 ^ k) here ∙ ap (λ z. 0 * 2 ^ k + z) below
    ∙ omega arith

-- all factors of 2 are shifted out
pub odd-times : (w : Width) (n : ℕ) → 0 < n → n < 2 ^ bits w → (n / 2 ^ trailing_zeros w n) * 2 ^ trailing_zeros w n ≡ n
odd-times w n p l =
    let k = trailing_zeros w n in
    let none = low-zero n k (bit_at-trailing_zeros w n p l).2 in
    let split = shr_split n k in
    omega arith

pub odd_part : (w : Width) (n : ℕ) → 0 < n → n < 2 ^ bits w → (n / 2 ^ trailing_zeros w n) % 2 ≡ 1
odd_part w n p l = (bit_at-trailing_zeros w n p l).1

-- ---- twos beside an odd number
gcd-two : (y : ℕ) → y % 2 ≡ 1 → gcd y 2 ≡ 1
unfolding gcd
gcd-two y odd = sym (gcd-mod y 2) ∙ ap (gcd 2) odd

coprime-pow : (k y : ℕ) → y % 2 ≡ 1 → gcd y (2 ^ k) ≡ 1
coprime-pow zero y odd = dvd-one.0 (gcd-is y 1).1
coprime-pow (suc k) y odd = ap (gcd y) (pow-suc 2 k) ∙ coprime-mul y (2 ^ k) 2 (coprime-pow k y odd) (gcd-two y odd)

pub gcd-odd : (k m y : ℕ) → y % 2 ≡ 1 → gcd (m * 2 ^ k) y ≡ gcd m y
gcd-odd k m y odd = gcd_comm (m * 2 ^ k) y ∙ ap (gcd y) (mul_comm m (2 ^ k)) ∙ gcd-skip y (2 ^ k) m (coprime-pow k y odd) ∙ gcd_comm y m

-- ---- a step: the odd part of the difference, and the lesser number
gcd-sub : (x y : ℕ) → y ≤ x → gcd (x - y) y ≡ gcd x y
gcd-sub x y l = same_from_IsGcd x y (gcd (x - y) y) (gcd x y) (IsGcd-from_sub x y (gcd (x - y) y) l (gcd-is (x - y) y)) (gcd-is x y)

pub gcd-gap : (x y : ℕ) → gcd (abs_diff x y) (min x y) ≡ gcd x y
gcd-gap x y = ⊎_elim
    (λ l. let first : abs_diff x y ≡ y - x = omega arith in let second : min x y ≡ x = omega arith in
    ap (λ z. gcd z (min x y)) first ∙ ap (gcd (y - x)) second ∙ gcd-sub y x (omega arith) ∙ gcd_comm y x)
    (λ l. let first : abs_diff x y ≡ x - y = omega arith in let second : min x y ≡ y = omega arith in
    ap (λ z. gcd z (min x y)) first ∙ ap (gcd (x - y)) second ∙ gcd-sub x y (omega arith)) (cases_lt x y)

pub min-odd : (x y : ℕ) → x % 2 ≡ 1 → y % 2 ≡ 1 → min x y % 2 ≡ 1
min-odd x y p q = ⊎_elim
    (λ l. let is : min x y ≡ x = omega arith in ap (λ z. z % 2) is ∙ p)
    (λ l. let is : min x y ≡ y = omega arith in ap (λ z. z % 2) is ∙ q) (cases_lt x y)

-- one step keeps the greatest common divisor of odd numbers
pub gcd-step : (w : Width) (x y : ℕ) → x ≢ y → x < 2 ^ bits w → y < 2 ^ bits w → x % 2 ≡ 1 → y % 2 ≡ 1 →
    gcd (abs_diff x y / 2 ^ trailing_zeros w (abs_diff x y)) (min x y) ≡ gcd x y
gcd-step w x y h a b p q =
    let gap = abs_diff x y in
    let k = trailing_zeros w gap in
    let positive : 0 < gap = omega arith in
    let small : gap < 2 ^ bits w = omega arith in
    sym (gcd-odd k (gap / 2 ^ k) (min x y) (min-odd x y p q)) ∙ ap (λ z. gcd z (min x y)) (odd-times w gap positive small) ∙ gcd-gap x y

pub gcd-same : (x : ℕ) → gcd x x ≡ x
gcd-same x = same_from_IsGcd x x (gcd x x) x (gcd-is x x) (dvd_refl x, dvd_refl x, λ d p q. p)

-- two odd numbers of a width, whose greatest common divisor is that of two others
pub record IsOddPair (w : Width) (x y a b : ℕ) : Type 0 where
  pub first : x % 2 ≡ 1
  pub second : y % 2 ≡ 1
  pub first_fits : x < 2 ^ bits w
  pub second_fits : y < 2 ^ bits w
  pub same : gcd x y ≡ gcd a b

-- a step of the binary algorithm
pub odd-pair-step : (w : Width) (x y a b gap lesser : ℕ) → x ≢ y → IsOddPair w x y a b → gap ≡ abs_diff x y → lesser ≡ min x y →
    IsOddPair w (gap / 2 ^ trailing_zeros w gap) lesser a b
odd-pair-step w x y a b gap lesser apart pair is least =
    let small = pair.first_fits in
    let other_small = pair.second_fits in
    let positive : 0 < gap = omega arith in
    let fits : gap < 2 ^ bits w = omega arith in
    let shifted = shr_le gap (trailing_zeros w gap) in
    record {
      first = odd_part w gap positive fits;
      second = ap (λ n. n % 2) least ∙ min-odd x y pair.first pair.second;
      first_fits = omega arith;
      second_fits = omega arith;
      same = ap (λ n. gcd (n / 2 ^ trailing_zeros w n) lesser) is
          ∙ ap (gcd (abs_diff x y / 2 ^ trailing_zeros w (abs_diff x y))) least
          ∙ gcd-step w x y apart small other_small pair.first pair.second ∙ pair.same;
    }

-- the end of the binary algorithm
pub odd-pair-end : (w : Width) (x y a b : ℕ) → x ≡ y → IsOddPair w x y a b → x ≡ gcd a b
odd-pair-end w x y a b same pair = sym (gcd-same x) ∙ ap (gcd x) same ∙ pair.same

-- ---- the twos that both numbers have
common-twos : (i j m n : ℕ) → i ≤ j → m % 2 ≡ 1 → gcd (m * 2 ^ i) (n * 2 ^ j) ≡ gcd m n * 2 ^ i
common-twos i j m n l odd =
    let split : 2 ^ j ≡ 2 ^ i * 2 ^ (j - i) = ap (λ z. 2 ^ z) (omega arith) ∙ pow-add 2 i (j - i) in
    let first : m * 2 ^ i ≡ 2 ^ i * m = mul_comm m (2 ^ i) in
    let second : n * 2 ^ j ≡ 2 ^ i * (n * 2 ^ (j - i)) = ap (λ z. n * z) split ∙ omega arith in
    let positive : 0 < 2 ^ i = pow_pos i in
    ap (λ z. gcd z (n * 2 ^ j)) first ∙ ap (gcd (2 ^ i * m)) second ∙ gcd-mul (2 ^ i) m (n * 2 ^ (j - i)) positive
    ∙ ap (λ z. 2 ^ i * z) (gcd_comm m (n * 2 ^ (j - i)) ∙ gcd-odd (j - i) n m odd ∙ gcd_comm n m) ∙ mul_comm (2 ^ i) (gcd m n)

pub gcd-twos : (i j m n : ℕ) → m % 2 ≡ 1 → n % 2 ≡ 1 → gcd (m * 2 ^ i) (n * 2 ^ j) ≡ gcd m n * 2 ^ min i j
gcd-twos i j m n p q = ⊎_elim
    (λ l. let is : i ≡ min i j = omega arith in common-twos i j m n (omega arith) p ∙ ap (λ z. gcd m n * 2 ^ z) is)
    (λ l. let is : j ≡ min i j = omega arith in gcd_comm (m * 2 ^ i) (n * 2 ^ j) ∙ common-twos j i n m (omega arith) q
    ∙ ap (λ z. z * 2 ^ j) (gcd_comm n m) ∙ ap (λ z. gcd m n * 2 ^ z) is) (cases_lt i j)

-- for two numbers: that of their odd parts, times their common power of 2
pub shifted-twos : (w : Width) (a b : ℕ) → 0 < a → 0 < b → a < 2 ^ bits w → b < 2 ^ bits w →
    gcd (a / 2 ^ trailing_zeros w a) (b / 2 ^ trailing_zeros w b) * 2 ^ min (trailing_zeros w a) (trailing_zeros w b) ≡ gcd a b
shifted-twos w a b p q l m =
    let i = trailing_zeros w a in
    let j = trailing_zeros w b in
    sym (gcd-twos i j (a / 2 ^ i) (b / 2 ^ j) (odd_part w a p l) (odd_part w b q m))
    ∙ ap (λ z. gcd z (b / 2 ^ j * 2 ^ j)) (odd-times w a p l) ∙ ap (gcd a) (odd-times w b q m)

-- the same for the greatest common divisor of the odd parts, with its shift
pub shifted-gcd : (w : Width) (a b odd twos : ℕ) → 0 < a → 0 < b → a < 2 ^ bits w → b < 2 ^ bits w →
    odd ≡ gcd (a / 2 ^ trailing_zeros w a) (b / 2 ^ trailing_zeros w b) → twos ≡ min (trailing_zeros w a) (trailing_zeros w b) →
    (odd * 2 ^ twos ≡ gcd a b) × (gcd a b ≤ b)
shifted-gcd w a b odd twos p q l m is shift = (
  ap (λ n. n * 2 ^ twos) is ∙ ap (λ n. gcd (a / 2 ^ trailing_zeros w a) (b / 2 ^ trailing_zeros w b) * 2 ^ n) shift
      ∙ shifted-twos w a b p q l m,
  gcd-small a b q,
)

-- the greatest common divisor with 0
pub gcd_none_first : (a b : ℕ) → a ≡ 0 → b ≡ gcd a b
gcd_none_first a b none = sym (gcd_comm a b ∙ gcd-zero b a none)

pub gcd_none_second : (a b : ℕ) → b ≡ 0 → a ≡ gcd a b
gcd_none_second a b none = sym (gcd-zero a b none)
