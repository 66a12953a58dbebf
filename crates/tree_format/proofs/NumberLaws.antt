-- Numbers as bytes: what their bytes weigh, and that what was written is read.
use Rattle.std.specs.Prelude.{◌&&◌, ◌==◌, ◌-◌, Bool, true, false, nat_lt, length, ◌≡◌, ℕ, zero, suc, ◌+◌, ◌*◌, ◌/◌, ◌%◌, ◌^◌, ◌<◌, ◌≤◌}
use Rattle.std.specs.Prelude.{List, [], ◌∷◌, ◌++◌}
use Rattle.std.proofs.Common.{arith, mod-lt, lit<, refl, ap, ◌∙◌, sym}
use Rattle.std.proofs.Math.Nat.{pow-le-pow_right, mul_assoc, mul_comm, add-mul, pow-suc, div-lt_iff_lt-mul}
use Rattle.std.proofs.lemmas.Nat.{div-add-mod'}
use Rattle.std.proofs.lemmas.Grind.{pow_more}
use Rattle.std.proofs.lemmas.Bool.{eqb-true}
use Rattle.ip_defs.proofs.OrderLaws.{lt_false, lt_true, lt_is}
use Rattle.tree_format.specs.Numbers.{number_bytes, number_from, next_digit}
use Rattle.tree_format.specs.Readings.{Reading, stopped}
use Rattle.tree_format.specs.declared.errors.TreeError.{TreeError}
use Rattle.tree_format.specs.declared.numbers.Digit.TheVariants.{GoesOn, Ends, Fails}

pub weight_small : (k : ℕ) → k < 6 → 128 ^ k ≤ 2 ^ 35
weight_small k l = pow-le-pow_right {n = 128} (lit< tt) {i = k} {j = 5} (omega arith)

-- the first byte of a number of several bytes, and the number of the others
pub record IsLonger (j n : ℕ) : Type 0 where
  pub less : ℕ
  pub small : n / 128 < 128 ^ suc less
  pub bytes : number_bytes (suc j) n ≡ (128 + n % 128) ∷ number_bytes (suc less) (n / 128)

pub longer_at : (i n : ℕ) → 128 ≤ n → n < 128 ^ suc (suc i)
    → (n / 128 < 128 ^ suc i) × (number_bytes (suc (suc i)) n ≡ (128 + n % 128) ∷ number_bytes (suc i) (n / 128))
unfolding number_bytes
longer_at i n l small = (
  (div-lt_iff_lt-mul {k = 128} {x = n} {y = 128 ^ suc i} (lit< tt)).1 (rw (pow-suc 128 (suc i)) at small),
  rw (lt_false n 128 l) refl,
)

pub longer : (j n : ℕ) → 128 ≤ n → n < 128 ^ suc j → IsLonger j n
longer zero n l small = absurd (omega (arith, small))
longer (suc i) n l small = let p = longer_at i n l small in record { less = i; small = p.0; bytes = p.1 }

pub last_byte : (j n : ℕ) → n < 128 → number_bytes (suc j) n ≡ n ∷ []
unfolding number_bytes
last_byte j n l = rw (lt_true n 128 l) refl

pub not_lt : (a b : ℕ) → nat_lt a b ≡ false → b ≤ a
not_lt a b e = grind arith

-- ---- one byte

pub from_ends : {A : Type 0} (most g read low start b v : ℕ) (bytes : List ℕ) (next : ℕ → ℕ → List ℕ → Reading A)
    → next_digit most g read low start b ≡ Ends v
    → number_from most g read low start (b ∷ bytes) next ≡ next v (start + (read + 1)) bytes
from_ends most g read low start b v bytes next e = rw (number_from, e) refl

pub from_on : {A : Type 0} (most g read low start b v : ℕ) (bytes : List ℕ) (next : ℕ → ℕ → List ℕ → Reading A)
    → next_digit most g read low start b ≡ GoesOn v
    → number_from most g read low start (b ∷ bytes) next ≡ number_from most g (read + 1) v start bytes next
from_on most g read low start b v bytes next e = rw (number_from, e) refl

pub from_fails : {A : Type 0} (most g read low start b : ℕ) (f : TreeError) (bytes : List ℕ) (next : ℕ → ℕ → List ℕ → Reading A)
    → next_digit most g read low start b ≡ Fails f → number_from most g read low start (b ∷ bytes) next ≡ stopped f
from_fails most g read low start b f bytes next e = rw (number_from, e) refl

shortest_test : (read b : ℕ) → (0 < read → 0 < b) → (nat_lt 0 read && b == 0) ≡ false
shortest_test read b h = by (nat_lt 0 read) (b == 0) refl refl
  where
    by : (t u : Bool) → nat_lt 0 read ≡ t → (b == 0) ≡ u → (t && u) ≡ false
    by false u e f = refl
    by true false e f = refl
    by true true e f = let l = h (lt_is 0 read e) in let z = eqb-true b 0 f in absurd (omega arith)

pub digit_last : (most g read low start b : ℕ) → b < 128 → (0 < read → 0 < b) → low + b * 128 ^ read ≤ g
    → next_digit most g read low start b ≡ Ends (low + b * 128 ^ read)
digit_last most g read low start b l shortest fits =
    rw (lt_true b 128 l, shortest_test read b shortest, lt_false g (low + b * 128 ^ read) fits) refl

pub digit_on : (most g read low start b : ℕ) → 128 ≤ b → read + 1 < most
    → next_digit most g read low start b ≡ GoesOn (low + (b - 128) * 128 ^ read)
digit_on most g read low start b l more = rw (lt_false b 128 l, lt_true (read + 1) most more) refl

-- ---- reading a number

-- the low bits and the high bits of a number, with the weight of its first byte
joined : (n p : ℕ) → (n % 128) * p + n / 128 * (p * 128) ≡ n * p
joined n p =
    let whole = ap (λ (k : ℕ). k * p) (div-add-mod' n 128) in
    let split = add-mul (n / 128 * 128) (n % 128) p in
    let turned : n / 128 * (p * 128) ≡ n / 128 * 128 * p = ap (λ (k : ℕ). n / 128 * k) (mul_comm p 128)
    ∙ sym (mul_assoc (n / 128) 128 p) in
    omega arith

joined_on : (read low n : ℕ) → (low + (128 + n % 128 - 128) * 128 ^ read) + n / 128 * 128 ^ (read + 1) ≡ low + n * 128 ^ read
joined_on read low n =
    let all = joined n (128 ^ read) in
    let same : 128 + n % 128 - 128 ≡ n % 128 = omega arith in
    rw (same, pow_more 128 read) (omega arith)

some_high : (n : ℕ) → 128 ≤ n → 0 < n / 128
some_high n l = let whole = div-add-mod' n 128 in let low = mod-lt n {m = 128} (lit< tt) in omega arith

-- a number that was written is read, whatever follows it
pub number_read : {A : Type 0} (most j g read low start n : ℕ) (bytes : List ℕ) (next : ℕ → ℕ → List ℕ → Reading A)
    → read + suc j ≤ most → n < 128 ^ suc j → (0 < read → 0 < n) → low + n * 128 ^ read ≤ g
    → number_from most g read low start (number_bytes (suc j) n ++ bytes) next
    ≡ next (low + n * 128 ^ read) (start + (read + length (number_bytes (suc j) n))) bytes
number_read most zero g read low start n bytes next fuel small shortest fits =
    rw (last_byte zero n small) (from_ends most g read low start n _ bytes next (digit_last most g read low start n small shortest fits))
number_read most (suc i) g read low start n bytes next fuel small shortest fits =
    by (nat_lt n 128) refl (number_read most i g (read + 1) (low + (128 + n % 128 - 128) * 128 ^ read) start (n / 128) bytes next)
  where
    by : (t : Bool) → nat_lt n 128 ≡ t
        → (read + 1 + suc i ≤ most → n / 128 < 128 ^ suc i → (0 < read + 1 → 0 < n / 128)
        → (low + (128 + n % 128 - 128) * 128 ^ read) + n / 128 * 128 ^ (read + 1) ≤ g
        → number_from most g (read + 1) (low + (128 + n % 128 - 128) * 128 ^ read) start (number_bytes (suc i) (n / 128) ++ bytes) next
        ≡ next ((low + (128 + n % 128 - 128) * 128 ^ read) + n / 128 * 128 ^ (read + 1))
        (start + (read + 1 + length (number_bytes (suc i) (n / 128)))) bytes)
        → number_from most g read low start (number_bytes (suc (suc i)) n ++ bytes) next
        ≡ next (low + n * 128 ^ read) (start + (read + length (number_bytes (suc (suc i)) n))) bytes
    by true e others =
        let l = lt_is n 128 e in
        rw (last_byte (suc i) n l) (from_ends most g read low start n _ bytes next (digit_last most g read low start n l shortest fits))
    by false e others =
        let l = not_lt n 128 e in
        let p = longer_at i n l small in
        let first = digit_on most g read low start (128 + n % 128) (omega arith) (omega arith) in
        let value = joined_on read low n in
        let rest = others (omega arith) p.0 (λ h. some_high n l) (rw value fits) in
        let bytes' = number_bytes (suc i) (n / 128) ++ bytes in
        let place : start + (read + 1 + length (number_bytes (suc i) (n / 128)))
        ≡ start + (read + length ((128 + n % 128) ∷ number_bytes (suc i) (n / 128))) = omega arith in
        let end = start + (read + 1 + length (number_bytes (suc i) (n / 128))) in
        rw p.1 (from_on most g read low start (128 + n % 128) _ bytes' next first ∙ rest ∙ ap (λ (v : ℕ). next v end bytes) value
        ∙ ap (λ (q : ℕ). next (low + n * 128 ^ read) q bytes) place)
