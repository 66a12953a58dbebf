-- A number that is read has the least decimals that write it, in each unit that is fine enough; and the decimals of a difference.
use Rattle.std.specs.Prelude.{◌≡◌, ℕ, zero, suc, ◌+◌, ◌-◌, ◌*◌, ◌/◌, ◌%◌, ◌^◌, ◌≤◌, ◌==◌, nat_le, max, Bool, true, false, if◌then◌else◌}
use Rattle.std.specs.Prelude.{List, [], ◌∷◌, unwrap_or, ℤ, pos, ◌-ℤ◌, ◌*ℤ◌}
use Rattle.std.specs.Int.RustNames.{unsigned_abs}
use Rattle.std.proofs.Common.{refl, arith, ap, sym, ◌∙◌, subst, leb-false}
use Rattle.std.proofs.Math.Nat.{mul_assoc, mul_comm, mul-mod_left, mul-sub, add-mul}
use Rattle.std.proofs.lemmas.Bool.{eqb-true, eqb-false, eq-eqb, leb-true}
use Rattle.std.proofs.lemmas.Int.{ints, unsigned_abs-mul}
use Rattle.std.proofs.lemmas.Nat.{pow-add}
use Rattle.decimals.proofs.DecimalLaws.{least_units, passes_at_k}
use Rattle.decimals.proofs.NumberLaws.{zero_reached}
use Rattle.mps_defs.specs.Lists.{least_from, where_true}
use Rattle.mps_defs.specs.Numbers.{without_sign, is_minus, is_number, is_infinity, fraction_of, signed, has_decimals, least_decimals}
use Rattle.mps_defs.specs.Numbers.{number_from, decimals_of}
use Rattle.mps_defs.specs.TextModels.{units, no_number, largest, number_or_zero}
use Rattle.mps_defs.specs.declared.reading.Number.{Number}
use Rattle.mps_defs.specs.declared.reading.Number.TheVariants.{Dec, Large}
use Rattle.text_laws.specs.ReadBack.{needed_decimals}
use Rattle.text_laws.proofs.ScaleLaws.{zeros_dropped, least_passes, decimals_within, units_back}
use Rattle.ip_defs.specs.Lists.{Each}
use Rattle.mps_defs.proofs.NumberLaws.{signed_size}

-- in units that are fine enough it needs its own decimals
abbrev IsLeast : Number → Type 0
IsLeast n = (k : ℕ) → decimals_of n ≤ k → needed_decimals k (units k n) ≡ decimals_of n

large_least : (negative : Bool) → IsLeast (Large negative)
large_least negative k h =
    let split : 10 ^ (20 + k) ≡ 10 ^ 20 * 10 ^ k = pow-add 10 20 k in
    let whole : 0 + k ≡ k = omega arith in
    ap (λ (m : ℕ). least_decimals m k) (signed_size negative (10 ^ (20 + k)) ∙ split)
    ∙ ap (λ (j : ℕ). least_decimals (10 ^ 20 * 10 ^ k) j) (sym whole) ∙ (zeros_dropped (10 ^ 20) 0 k).1

exact_least : (negative : Bool) (n k : ℕ) → IsLeast (Dec (signed negative (least_units n k)) (least_decimals n k))
exact_least negative n k w h =
    let d = least_decimals n k in
    let u = least_units n k in
    let within = decimals_within n k in
    let here : d + (k - d) ≡ k = omega arith in
    let there : d + (w - d) ≡ w = omega arith in
    let size : unsigned_abs (signed negative u *ℤ pos (10 ^ (w - d))) ≡ u * 10 ^ (w - d) =
    unsigned_abs-mul (signed negative u) (pos (10 ^ (w - d))) ∙ ap (λ (m : ℕ). m * 10 ^ (w - d)) (signed_size negative u) in
    ap (λ (m : ℕ). least_decimals m w) size
    ∙ ap (λ (j : ℕ). least_decimals (u * 10 ^ (w - d)) j) (sym there)
    ∙ (zeros_dropped u d (w - d)).1
    ∙ sym (zeros_dropped u d (k - d)).1
    ∙ ap (λ (j : ℕ). least_decimals (u * 10 ^ (k - d)) j) here
    ∙ ap (λ (m : ℕ). least_decimals m k) (units_back n k)

from_least : (negative : Bool) (n k : ℕ) → IsLeast (number_from negative n k)
from_least negative n k = by (nat_le (10 ^ (20 + k)) n)
  where
    by : (t : Bool) → IsLeast (if t then Large negative else Dec (signed negative (least_units n k)) (least_decimals n k))
    by true = large_least negative
    by false = exact_least negative n k

none_least : IsLeast no_number
none_least k h =
    let none : 0 * 10 ^ (k - 0) ≡ 0 = omega arith in ap (λ (n : ℕ). least_decimals n k)
    (unsigned_abs-mul (pos 0) (pos (10 ^ (k - 0))) ∙ none)
    ∙ (zero_reached k).1

pub number_least : (text : List ℕ) (k : ℕ) → decimals_of (number_or_zero text) ≤ k
    → needed_decimals k (units k (number_or_zero text)) ≡ decimals_of (number_or_zero text)
number_least text = by (is_number text) (is_infinity (without_sign text))
  where
    finite : Number
    finite = number_from (is_minus text) (fraction_of (without_sign text)).0 (fraction_of (without_sign text)).1

    by : (t u : Bool) → IsLeast (unwrap_or (where_true t (if u then Large (is_minus text) else finite)) no_number)
    by true true = large_least (is_minus text)
    by true false = from_least (is_minus text) (fraction_of (without_sign text)).0 (fraction_of (without_sign text)).1
    by false u = none_least

-- ---- differences

-- the least place is no later than one that will do
least_before : (g : ℕ → Bool) (i n m : ℕ) → i ≤ m → g m ≡ true → least_from g i n ≤ m
least_before g i zero m l e = l
least_before g i (suc n) m l e = by (g i) refl (λ later. least_before g (suc i) n m later e)
  where
    by : (t : Bool) → g i ≡ t → (suc i ≤ m → least_from g (suc i) n ≤ m) → (if t then i else least_from g (suc i) n) ≤ m
    by true f rest = l
    by false f rest = rest (let differs : i ≡ m → ⊥ = λ same. (let yes : g i ≡ true = ap g same ∙ e in cc) in later i m l differs)
      where
        later : (a b : ℕ) → a ≤ b → (a ≡ b → ⊥) → suc a ≤ b
        later a b h f = omega arith

-- m places after the point write z units of 10^-k
abbrev Writes : ℕ → ℕ → ℕ → Type 0
Writes k m n = (n * 10 ^ m) % 10 ^ k ≡ 0

divides : (a b : ℕ) → a % b ≡ 0 → a ≡ a / b * b
divides a b e = omega arith

-- if the least decimals are no more than m, m places write the number
writes_from : (k m n : ℕ) → least_decimals n k ≤ m → Writes k m n
writes_from k m n l =
    let d = least_decimals n k in
    let exact : (n * 10 ^ d) % 10 ^ k ≡ 0 = eqb-true ((n * 10 ^ d) % 10 ^ k) 0 (least_passes (has_decimals n k) 0 k (passes_at_k n k)) in
    let whole : n * 10 ^ d ≡ n * 10 ^ d / 10 ^ k * 10 ^ k = divides (n * 10 ^ d) (10 ^ k) exact in
    let more : d + (m - d) ≡ m = omega arith in
    let grown : n * 10 ^ m ≡ n * 10 ^ d * 10 ^ (m - d) =
    ap (λ (j : ℕ). n * 10 ^ j) (sym more) ∙ ap (λ y. n * y) (pow-add 10 d (m - d)) ∙ sym (mul_assoc n (10 ^ d) (10 ^ (m - d))) in
    ap (λ y. y % 10 ^ k) (grown ∙ ap (λ y. y * 10 ^ (m - d)) whole ∙ turned (n * 10 ^ d / 10 ^ k) (10 ^ k) (10 ^ (m - d)))
    ∙ mul-mod_left (n * 10 ^ d / 10 ^ k * 10 ^ (m - d)) (10 ^ k)
  where
    turned : (a b c : ℕ) → a * b * c ≡ a * c * b
    turned a b c = mul_assoc a b c ∙ ap (λ y. a * y) (mul_comm b c) ∙ sym (mul_assoc a c b)

-- what m places write needs no more
writes_needs : (k m n : ℕ) → Writes k m n → least_decimals n k ≤ m
writes_needs k m n w = least_before (has_decimals n k) 0 k m (omega arith) (eq-eqb ((n * 10 ^ m) % 10 ^ k) 0 w)

sub_mul : (a b c : ℕ) → (a - b) * c ≡ a * c - b * c
sub_mul a b c = mul_comm (a - b) c ∙ mul-sub c a b ∙ ap (λ y. y - c * b) (mul_comm c a) ∙ ap (λ y. a * c - y) (mul_comm c b)

divisible : (a b c : ℕ) → a % c ≡ 0 → b % c ≡ 0 → ((a + b) % c ≡ 0) × ((a - b) % c ≡ 0)
divisible a b c h k =
    let one : a ≡ a / c * c = divides a c h in
    let two : b ≡ b / c * c = divides b c k in (
      ap (λ y. y % c) (ap (λ y. y + b) one ∙ ap (λ y. a / c * c + y) two ∙ sym (add-mul (a / c) (b / c) c))
          ∙ mul-mod_left (a / c + b / c) c,
      ap (λ y. y % c) (ap (λ y. y - b) one ∙ ap (λ y. a / c * c - y) two ∙ sym (sub_mul (a / c) (b / c) c))
          ∙ mul-mod_left (a / c - b / c) c,
    )

writes_sum : (k m a b : ℕ) → Writes k m a → Writes k m b → Writes k m (a + b) × Writes k m (a - b)
writes_sum k m a b h g =
    let parts = divisible (a * 10 ^ m) (b * 10 ^ m) (10 ^ k) h g in
    (ap (λ y. y % 10 ^ k) (add-mul a b (10 ^ m)) ∙ parts.0, ap (λ y. y % 10 ^ k) (sub_mul a b (10 ^ m)) ∙ parts.1)

-- the absolute value of a difference is a sum or a difference of absolute values
size_of_difference : (P : ℕ → Type 0) (x y : ℤ) → P (unsigned_abs x + unsigned_abs y) → P (unsigned_abs x - unsigned_abs y)
    → P (unsigned_abs y - unsigned_abs x) → P (unsigned_abs (x -ℤ y))
size_of_difference P x y sum down up =
    by (unsigned_abs (x -ℤ y) == unsigned_abs x + unsigned_abs y) refl (nat_le (unsigned_abs x) (unsigned_abs y)) refl
  where
    by : (t : Bool) → (unsigned_abs (x -ℤ y) == unsigned_abs x + unsigned_abs y) ≡ t → (u : Bool)
        → nat_le (unsigned_abs x) (unsigned_abs y) ≡ u → P (unsigned_abs (x -ℤ y))
    by true e u f = subst P (sym (eqb-true (unsigned_abs (x -ℤ y)) (unsigned_abs x + unsigned_abs y) e)) sum
    by false e true f =
        let less = leb-true (unsigned_abs x) (unsigned_abs y) f in
        let other = eqb-false (unsigned_abs (x -ℤ y)) (unsigned_abs x + unsigned_abs y) e in
        let same : unsigned_abs y - unsigned_abs x ≡ unsigned_abs (x -ℤ y) = omega (arith, ints) in subst P same up
    by false e false f =
        let more = leb-false (unsigned_abs x) (unsigned_abs y) f in
        let other = eqb-false (unsigned_abs (x -ℤ y)) (unsigned_abs x + unsigned_abs y) e in
        let same : unsigned_abs x - unsigned_abs y ≡ unsigned_abs (x -ℤ y) = omega (arith, ints) in subst P same down

-- a difference needs no more decimals than the two numbers
pub difference_needs : (k m : ℕ) (x y : ℤ) → needed_decimals k x ≤ m → needed_decimals k y ≤ m → needed_decimals k (x -ℤ y) ≤ m
difference_needs k m x y h g =
    let a = writes_from k m (unsigned_abs x) h in
    let b = writes_from k m (unsigned_abs y) g in
    let up = writes_sum k m (unsigned_abs x) (unsigned_abs y) a b in
    let down = writes_sum k m (unsigned_abs y) (unsigned_abs x) b a in
    writes_needs k m (unsigned_abs (x -ℤ y)) (size_of_difference (Writes k m) x y up.0 up.1 down.1)

-- 0 needs none
pub nothing_needs : (k : ℕ) (z : ℤ) → unsigned_abs z ≡ 0 → needed_decimals k z ≡ 0
nothing_needs k z e = ap (λ (n : ℕ). least_decimals n k) e ∙ (zero_reached k).1

-- ---- the largest of some numbers

pub largest_start : (n : ℕ) (ns : List ℕ) → n ≤ largest n ns
largest_start n [] = omega arith
largest_start n (m ∷ ns) = let h = largest_start (max n m) ns in omega arith

pub largest_each : (n : ℕ) (ns : List ℕ) → Each (λ m. m ≤ largest n ns) ns
largest_each n [] = tt
largest_each n (m ∷ ns) = (let h = largest_start (max n m) ns in omega arith, largest_each (max n m) ns)

pub largest_most : (n most : ℕ) (ns : List ℕ) → n ≤ most → Each (λ m. m ≤ most) ns → largest n ns ≤ most
largest_most n most [] h all = h
largest_most n most (m ∷ ns) h all = let first = all.0 in largest_most (max n m) most ns (omega arith) all.1
