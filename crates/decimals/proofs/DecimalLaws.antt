-- The least decimals of n / 10^k, against a loop that drops one zero at the end of n at a time.
use Rattle.std.specs.Prelude.{◌≡◌, ℕ, zero, suc, ◌+◌, ◌-◌, ◌*◌, ◌/◌, ◌%◌, ◌^◌, ◌<◌, ◌==◌, Bool, true, false, if◌then◌else◌, refl}
use Rattle.std.proofs.Common.{sym, ◌∙◌, ap, arith}
use Rattle.std.proofs.Math.Nat.{mul-mod_left, mul-div_left, mul-div-mul_right, mul-div_cancel, mul_assoc, mul_comm, mul-pos, pow-suc}
use Rattle.std.proofs.Math.Arith.{mod-mul}
use Rattle.std.proofs.lemmas.Nat.{pow-add}
use Rattle.std.proofs.lemmas.Bool.{ne_eqb}
use Rattle.mps_defs.specs.Lists.{least_from}
use Rattle.mps_defs.specs.Numbers.{has_decimals, least_decimals}
use Rattle.mps_defs.proofs.NumberLaws.{ten_positive}

-- x c in units of m c
pub mod_scaled : (x m c : ℕ) → 0 < m → 0 < c → (x * c) % (m * c) ≡ (x % m) * c
mod_scaled x m c p q =
    let whole = mod-mul (x * c) p q in
    let back = mul-div_left x q in
    let rest = mul-mod_left x c in
    whole ∙ ap (λ y. (y % m) * c + (x * c) % c) back ∙ ap (λ y. (x % m) * c + y) rest ∙ add_zero_right ((x % m) * c)
  where
    add_zero_right : (n : ℕ) → n + 0 ≡ n
    add_zero_right n = omega arith

-- ten times y is 0 just where y is
pub test_scaled : (y : ℕ) → (y * 10 == 0) ≡ (y == 0)
test_scaled zero = refl
test_scaled (suc y) = ne_eqb (suc y * 10) 0 (λ e. omega arith) ∙ sym (ne_eqb (suc y) 0 (λ e. omega arith))

-- ten times n over ten times the denominator
pub has_decimals-ten : (m k d : ℕ) → has_decimals (m * 10) (suc k) d ≡ has_decimals m k d
has_decimals-ten m k d =
    let order : m * 10 * 10 ^ d ≡ m * 10 ^ d * 10 =
    mul_assoc m 10 (10 ^ d) ∙ ap (λ y. m * y) (mul_comm 10 (10 ^ d)) ∙ sym (mul_assoc m (10 ^ d) 10) in
    let step = mod_scaled (m * 10 ^ d) (10 ^ k) 10 (ten_positive k) (omega arith) in
    ap (λ y. y % 10 ^ suc k == 0) order
    ∙ ap (λ y. (m * 10 ^ d * 10) % y == 0) (pow-suc 10 k)
    ∙ ap (λ y. y == 0) step
    ∙ test_scaled ((m * 10 ^ d) % 10 ^ k)

-- the same test, the same least place
pub least-same : (f g : ℕ → Bool) (i n : ℕ) → ((d : ℕ) → f d ≡ g d) → least_from f i n ≡ least_from g i n
least-same f g i zero h = refl
least-same f g i (suc n) h =
    ap (λ b. if b then i else least_from f (suc i) n) (h i) ∙ ap (λ y. if g i then i else y) (least-same f g (suc i) n h)

-- the last place need not be tried twice
pub least-more : (g : ℕ → Bool) (i n : ℕ) → g (n + i) ≡ true → least_from g i (suc n) ≡ least_from g i n
least-more g i zero h = ap (λ b. if b then i else suc i) (let e : 0 + i ≡ i = omega arith in ap g (sym e) ∙ h)
least-more g i (suc n) h =
    let e : suc n + i ≡ n + suc i = omega arith in
    let rest = least-more g (suc i) n (ap g (sym e) ∙ h) in
    ap (λ y. if g i then i else y) rest

-- k places are enough for n / 10^k
pub passes_at_k : (m k : ℕ) → has_decimals m k (k + 0) ≡ true
passes_at_k m k = let e : k + 0 ≡ k = omega arith in ap (λ d. (m * 10 ^ d) % 10 ^ k == 0) e ∙ ap (λ y. y == 0) (mul-mod_left m (10 ^ k))

-- a zero at the end is dropped
pub least-drop : (m k : ℕ) → least_decimals (m * 10) (suc k) ≡ least_decimals m k
least-drop m k =
    least-same (has_decimals (m * 10) (suc k)) (has_decimals m k) 0 (suc k) (has_decimals-ten m k)
    ∙ least-more (has_decimals m k) 0 k (passes_at_k m k)

-- where no place before it will do, the last one is the least
pub least-none : (g : ℕ → Bool) (i n : ℕ) → ((d : ℕ) → d < n → g (d + i) ≡ false) → least_from g i n ≡ n + i
least-none g i zero h = omega arith
least-none g i (suc n) h =
    let here : g i ≡ false = let e : 0 + i ≡ i = omega arith in ap g (sym e) ∙ h 0 (omega arith) in
    let later : (d : ℕ) → d < n → g (d + suc i) ≡ false =
    λ d p. let e : suc d + i ≡ d + suc i = omega arith in ap g (sym e) ∙ h (suc d) (omega arith) in
    let rest = least-none g (suc i) n later in
    let sum : n + suc i ≡ suc n + i = omega arith in
    ap (λ b. if b then i else least_from g (suc i) n) here ∙ rest ∙ sum

-- a number that does not end with a zero leaves a remainder by each power of ten
pub low_digit : (n j : ℕ) → (n % 10 ≡ 0 → ⊥) → 0 < n % 10 ^ suc j
low_digit n j odd =
    let parts = mod-mul n (ten_positive j) (ten_above) in
    let all : n % 10 ^ suc j ≡ (n / 10 % 10 ^ j) * 10 + n % 10 = ap (λ y. n % y) (pow-suc 10 j) ∙ parts in
    let some : 0 < n % 10 = not_zero (n % 10) odd in
    omega arith
  where
    ten_above : 0 < 10
    ten_above = omega arith

    not_zero : (y : ℕ) → (y ≡ 0 → ⊥) → 0 < y
    not_zero zero h = absurd (h refl)
    not_zero (suc y) h = omega arith

-- such a number needs all its places
pub not_before : (n k d : ℕ) → (n % 10 ≡ 0 → ⊥) → d < suc k → has_decimals n (suc k) d ≡ false
not_before n k d odd inside =
    let more : suc k ≡ suc (k - d) + d = omega arith in
    let split : 10 ^ suc k ≡ 10 ^ suc (k - d) * 10 ^ d = ap (λ y. 10 ^ y) more ∙ pow-add 10 (suc (k - d)) d in
    let step = mod_scaled n (10 ^ suc (k - d)) (10 ^ d) (ten_positive (suc (k - d))) (ten_positive d) in
    let above = mul-pos (low_digit n (k - d) odd) (ten_positive d) in
    ap (λ y. (n * 10 ^ d) % y == 0) split ∙ ap (λ y. y == 0) step ∙ ne_eqb ((n % 10 ^ suc (k - d)) * 10 ^ d) 0 (λ e. omega arith)

-- so none of its places is dropped
pub least-keep : (n k : ℕ) → (n % 10 ≡ 0 → ⊥) → least_decimals n (suc k) ≡ suc k
least-keep n k odd =
    let none =
    least-none (has_decimals n (suc k)) 0 (suc k)
    (λ d p. let e : d + 0 ≡ d = omega arith in ap (has_decimals n (suc k)) e ∙ not_before n k d odd p) in
    let e : suc k + 0 ≡ suc k = omega arith in
    none ∙ e

-- the units and the decimals of n / 10^k in the least decimals
abbrev pub least_units : ℕ → ℕ → ℕ
least_units n k = n * 10 ^ least_decimals n k / 10 ^ k

-- a zero at the end is dropped from the units
pub units-drop : (m k : ℕ) → least_units (m * 10) (suc k) ≡ least_units m k
units-drop m k =
    let d = least_decimals m k in
    let order : m * 10 * 10 ^ d ≡ m * 10 ^ d * 10 =
    mul_assoc m 10 (10 ^ d) ∙ ap (λ y. m * y) (mul_comm 10 (10 ^ d)) ∙ sym (mul_assoc m (10 ^ d) 10) in
    ap (λ y. m * 10 * 10 ^ y / 10 ^ suc k) (least-drop m k)
    ∙ ap (λ y. y / 10 ^ suc k) order
    ∙ ap (λ y. m * 10 ^ d * 10 / y) (pow-suc 10 k)
    ∙ mul-div-mul_right (m * 10 ^ d) (10 ^ k) (ten_positive 1)

-- units that do not end with a zero stay
pub units-keep : (n k : ℕ) → (n % 10 ≡ 0 → ⊥) → least_units n (suc k) ≡ n
units-keep n k odd = ap (λ y. n * 10 ^ y / 10 ^ suc k) (least-keep n k odd) ∙ mul-div_cancel n (ten_positive (suc k))

-- without decimals the units are the number
pub units-none : (n : ℕ) → least_units n 0 ≡ n
units-none n = omega arith
