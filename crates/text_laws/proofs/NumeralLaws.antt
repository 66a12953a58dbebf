-- The parts of a numeral that is digits, and a point with digits after them where there are some.
use Rattle.std.specs.Prelude.{◌≡◌, ℕ, zero, suc, ◌+◌, ◌-◌, ◌*◌, ◌/◌, ◌%◌, ◌^◌, ◌<◌, ◌≤◌, ◌==◌, nat_le, Bool, true, false, ◌||◌, not, cond}
use Rattle.std.specs.Prelude.{if◌then◌else◌, List, [], ◌∷◌, ◌++◌, length, take, drop, decimal}
use Rattle.std.specs.List.{list_all, list_any, before_first, after_first, position_or_len}
use Rattle.std.specs.Str.Parse.{AllDigits, digits_value_after}
use Rattle.std.specs.Char.{digit_value}
use Rattle.std.proofs.Common.{refl, arith, ap, ◌∙◌, le-leb}
use Rattle.std.proofs.lemmas.Bool.{leb-true, and_from, ne_eqb}
use Rattle.std.proofs.lemmas.Str.{digit_value_digit}
use Rattle.std.proofs.lemmas.Str.Parse.{digit_from_value}
use Rattle.std.proofs.lemmas.Fmt.{decimal_is_IsNumeral}
use Rattle.decimals.proofs.NumberLaws.{digit_below}
use Rattle.mps_defs.specs.Numbers.{is_digit, is_point, is_sign, is_exponent_mark, value_from, places}
use Rattle.ip_defs.proofs.BoolLaws.{both_true}
use Rattle.mps_defs.proofs.NumberLaws.{ten_positive}

-- ---- digits

pub digit_is : (b : ℕ) → 48 ≤ b → b ≤ 57 → is_digit b ≡ true
digit_is b low high = and_from (nat_le 48 b) (nat_le b 57) (le-leb 48 b low) (le-leb b 57 high)

pub digit_range : (b : ℕ) → is_digit b ≡ true → (48 ≤ b) × (b ≤ 57)
digit_range b e = let parts = both_true (nat_le 48 b) (nat_le b 57) e in (leb-true 48 b parts.0, leb-true b 57 parts.1)

all_digits : (ds : List ℕ) → AllDigits 10 ds → list_all is_digit ds ≡ true
all_digits [] h = refl
all_digits (d ∷ ds) h =
    let k = digit_from_value d h.0 in and_from (is_digit d) (list_all is_digit ds) (digit_is d k.0 k.1) (all_digits ds h.1)

same_value : (n : ℕ) (ds : List ℕ) → AllDigits 10 ds → value_from n ds ≡ digits_value_after 10 n ds
same_value n [] h = refl
same_value n (d ∷ ds) h =
    let k = digit_from_value d h.0 in
    let e : 10 * n + (d - 48) ≡ n * 10 + digit_value d = omega (arith, digit_value_digit d k) in
    ap (λ (m : ℕ). value_from m ds) e ∙ same_value (n * 10 + digit_value d) ds h.1

-- what is written of a number below 2^64
pub decimal_digits : (n : ℕ) → n < 2 ^ 64 → list_all is_digit (decimal n) ≡ true
decimal_digits n h = all_digits (decimal n) (decimal_is_IsNumeral n h).0.1

pub decimal_value : (n : ℕ) → n < 2 ^ 64 → value_from 0 (decimal n) ≡ n
decimal_value n h = let e = decimal_is_IsNumeral n h in same_value 0 (decimal n) e.0.1 ∙ e.1

pub decimal_some : (n : ℕ) → n < 2 ^ 64 → 1 ≤ length (decimal n)
decimal_some n h = (decimal_is_IsNumeral n h).0.0

-- ---- the digits of a fraction

pub places_none : (k : ℕ) → places k 0 ≡ []
places_none zero = refl
places_none (suc k) = refl

pub places_digits : (k rest : ℕ) → rest < 10 ^ k → list_all is_digit (places k rest) ≡ true
places_digits zero rest h = refl
places_digits (suc k) rest h = by (rest == 0) refl (places_digits k (rest % 10 ^ k) (let p = ten_positive k in omega arith))
  where
    by : (t : Bool) → (rest == 0) ≡ t → list_all is_digit (places k (rest % 10 ^ k)) ≡ true
        → list_all is_digit (if t then [] else (48 + rest / 10 ^ k) ∷ places k (rest % 10 ^ k)) ≡ true
    by true e rec = refl
    by false e rec =
        let small : rest < 10 ^ (k + 1) = let s : suc k ≡ k + 1 = omega arith in let t = ap (λ (y : ℕ). 10 ^ y) s in omega arith in
        let below = digit_below k rest small in
        and_from (is_digit (48 + rest / 10 ^ k)) (list_all is_digit (places k (rest % 10 ^ k)))
        (digit_is (48 + rest / 10 ^ k) (omega arith) (omega arith)) rec

-- their number, and what they stand for after a whole part
pub places_short : (k rest : ℕ) → length (places k rest) ≤ k
places_short zero rest = omega arith
places_short (suc k) rest = by (rest == 0) (places_short k (rest % 10 ^ k))
  where
    by : (t : Bool) → length (places k (rest % 10 ^ k)) ≤ k
        → length (if t then [] else (48 + rest / 10 ^ k) ∷ places k (rest % 10 ^ k)) ≤ suc k
    by true rec = omega arith
    by false rec = omega arith

-- ---- what digits are not

pub none_among : (p : ℕ → Bool) (xs : List ℕ) → ((b : ℕ) → is_digit b ≡ true → p b ≡ false) → list_all is_digit xs ≡ true
    → list_any p xs ≡ false
none_among p [] h all = refl
none_among p (x ∷ xs) h all =
    let parts = both_true (is_digit x) (list_all is_digit xs) all in
    ap (λ t. t || list_any p xs) (h x parts.0) ∙ none_among p xs h parts.1

pub no_point : (b : ℕ) → is_digit b ≡ true → is_point b ≡ false
no_point b e = let r = digit_range b e in ne_eqb b 46 (λ s. omega (arith, r))

pub no_mark : (b : ℕ) → is_digit b ≡ true → is_exponent_mark b ≡ false
no_mark b e =
    let r = digit_range b e in ap (λ t. t || (b == 69)) (ne_eqb b 101 (λ s. omega (arith, r))) ∙ ne_eqb b 69 (λ s. omega (arith, r))

pub no_sign : (b : ℕ) → is_digit b ≡ true → is_sign b ≡ false
no_sign b e =
    let r = digit_range b e in ap (λ t. t || (b == 45)) (ne_eqb b 43 (λ s. omega (arith, r))) ∙ ne_eqb b 45 (λ s. omega (arith, r))

-- ---- before and after a first place

pub all_before : (p : ℕ → Bool) (xs : List ℕ) → list_any p xs ≡ false → before_first p xs ≡ xs
all_before p [] e = refl
all_before p (x ∷ xs) e = by (p x) refl e (all_before p xs)
  where
    by : (t : Bool) → p x ≡ t → (t || list_any p xs) ≡ false → (list_any p xs ≡ false → before_first p xs ≡ xs)
        → before_first p (x ∷ xs) ≡ x ∷ xs
    by true g h rest = absurd cc
    by false g h rest =
        let next : 1 + position_or_len p xs ≡ suc (position_or_len p xs) = omega arith in
        ap (λ t. take (cond (not t) (1 + position_or_len p xs) 0) (x ∷ xs)) g
        ∙ ap (λ (k : ℕ). take k (x ∷ xs)) next
        ∙ ap (λ l. x ∷ l) (rest h)

pub before_it : (p : ℕ → Bool) (xs : List ℕ) (y : ℕ) (ys : List ℕ) → list_any p xs ≡ false → p y ≡ true → before_first p (xs ++ y ∷ ys) ≡ xs
before_it p [] y ys e here = ap (λ t. take (cond (not t) (1 + position_or_len p ys) 0) (y ∷ ys)) here
before_it p (x ∷ xs) y ys e here = by (p x) refl e (before_it p xs y ys)
  where
    by : (t : Bool) → p x ≡ t → (t || list_any p xs) ≡ false → (list_any p xs ≡ false → p y ≡ true → before_first p (xs ++ y ∷ ys) ≡ xs)
        → before_first p (x ∷ xs ++ y ∷ ys) ≡ x ∷ xs
    by true g h rest = absurd cc
    by false g h rest =
        let next : 1 + position_or_len p (xs ++ y ∷ ys) ≡ suc (position_or_len p (xs ++ y ∷ ys)) = omega arith in
        ap (λ t. take (cond (not t) (1 + position_or_len p (xs ++ y ∷ ys)) 0) (x ∷ xs ++ y ∷ ys)) g
        ∙ ap (λ (k : ℕ). take k (x ∷ xs ++ y ∷ ys)) next ∙ ap (λ l. x ∷ l) (rest h here)

pub after_it : (p : ℕ → Bool) (xs : List ℕ) (y : ℕ) (ys : List ℕ) → list_any p xs ≡ false → p y ≡ true → after_first p (xs ++ y ∷ ys) ≡ ys
after_it p [] y ys e here = ap (λ t. drop (cond (not t) (1 + position_or_len p ys) 0 + 1) (y ∷ ys)) here
after_it p (x ∷ xs) y ys e here = by (p x) refl e (after_it p xs y ys)
  where
    by : (t : Bool) → p x ≡ t → (t || list_any p xs) ≡ false → (list_any p xs ≡ false → p y ≡ true → after_first p (xs ++ y ∷ ys) ≡ ys)
        → after_first p (x ∷ xs ++ y ∷ ys) ≡ ys
    by true g h rest = absurd cc
    by false g h rest =
        let next : 1 + position_or_len p (xs ++ y ∷ ys) + 1 ≡ suc (position_or_len p (xs ++ y ∷ ys) + 1) = omega arith in
        ap (λ t. drop (cond (not t) (1 + position_or_len p (xs ++ y ∷ ys)) 0 + 1) (x ∷ xs ++ y ∷ ys)) g
        ∙ ap (λ (k : ℕ). drop k (x ∷ xs ++ y ∷ ys)) next ∙ rest h here
