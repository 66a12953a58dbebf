-- Digits as numbers, one more at a time; the digits of a remainder; and the number of a fraction in its fewest decimals.
use Rattle.std.specs.Prelude.{◌≡◌, ℕ, zero, suc, ◌+◌, ◌-◌, ◌*◌, ◌^◌, ◌<◌, ◌≤◌, Bool, true, false, ◌&&◌, ◌||◌, not, ◌==◌, ◌/◌, ◌%◌}
use Rattle.std.specs.Prelude.{if◌then◌else◌, nat_le, List, [], ◌∷◌, ◌++◌, length, take, drop, cond, ℤ, pos, negsuc, IfSome, ◌*ℤ◌}
use Rattle.std.specs.List.{list_all, list_any, before_first, after_first, position_or_len}
use Rattle.std.specs.Int.{w128}
use Rattle.std.specs.Int.RustNames.{unsigned_abs, FitsSigned}
use Rattle.std.proofs.Common.{refl, arith, ap, sym, ◌∙◌, get_or, add-one, append_assoc, leb-false}
use Rattle.std.proofs.Math.Nat.{pow-suc, mul_assoc, mul_comm, mul-le-mul_left, mul-lt-mul_of_pos_right, pow-le-pow_right}
use Rattle.std.proofs.lemmas.Nat.{div_below, pow-add}
use Rattle.std.proofs.lemmas.Bool.{leb-true, eqb-true}
use Rattle.std.proofs.lemmas.List.{take_more, length-take, length-drop}
use Rattle.std.proofs.lemmas.Int.{unsigned_abs-mul, ints}
use Rattle.decimals.proofs.DecimalLaws.{least_units, units-none, units-keep, units-drop, least-keep, least-drop}
use Rattle.mps_defs.specs.Lists.{where_true}
use Rattle.mps_defs.specs.Numbers.{is_number, is_infinity, is_minus, number_of, fraction_of, is_digit, is_point, is_exponent_mark}
use Rattle.mps_defs.specs.Numbers.{is_exponent, is_numeral, without_sign, whole_part, fraction_part, exponent_part, value_from, places}
use Rattle.mps_defs.specs.Numbers.{signed, number_from, least_decimals, over_tens}
use Rattle.decimals.specs.Decimals.{IsBelowLarge}
use Rattle.mps_defs.specs.declared.reading.Number.TheVariants.{Dec, Large}
use Rattle.ip_defs.proofs.BoolLaws.{both_true}
use Rattle.mps_defs.proofs.NumberLaws.{ten_positive, signed_size}

-- a digit by its place
pub digit_at : (ds : List ℕ) (i : ℕ) → list_all is_digit ds ≡ true → i < length ds → (48 ≤ get_or ds i 0) × (get_or ds i 0 ≤ 57)
digit_at [] i e l = absurd (omega arith)
digit_at (d ∷ ds) zero e l =
    let here = both_true (nat_le 48 d) (nat_le d 57) (both_true (is_digit d) (list_all is_digit ds) e).0 in
    (leb-true 48 d here.0, leb-true d 57 here.1)
digit_at (d ∷ ds) (suc i) e l = digit_at ds i (both_true (is_digit d) (list_all is_digit ds) e).1 (omega arith)

-- digits after digits
pub value_from-append : (n : ℕ) (xs ys : List ℕ) → value_from n (xs ++ ys) ≡ value_from (value_from n xs) ys
value_from-append n [] ys = refl
value_from-append n (x ∷ xs) ys = value_from-append (10 * n + (x - 48)) xs ys

-- one more digit
pub value_more : (n : ℕ) (ds : List ℕ) (i : ℕ) → i < length ds
    → value_from n (take (i + 1) ds) ≡ 10 * value_from n (take i ds) + (get_or ds i 0 - 48)
value_more n ds i l = ap (value_from n) (take_more ds i 0 l) ∙ value_from-append n (take i ds) (get_or ds i 0 ∷ [])

-- one more power of ten
pub ten_more : (i : ℕ) → 10 ^ (i + 1) ≡ 10 ^ i * 10
ten_more i = rw add-one (pow-suc 10 i)

-- powers of ten rise
pub tens_rise : (i k : ℕ) → i ≤ k → 10 ^ i ≤ 10 ^ k
tens_rise i k l = pow-le-pow_right (omega arith) l

-- one more digit fits
pub digit_room : (s v i n d : ℕ) → v + 1 ≤ (s + 1) * 10 ^ i → i < n → d ≤ 9
    → (10 * v + d + 1 ≤ (s + 1) * 10 ^ (i + 1)) × ((s + 1) * 10 ^ (i + 1) ≤ (s + 1) * 10 ^ n)
digit_room s v i n d h l small =
    let more : (s + 1) * 10 ^ (i + 1) ≡ (s + 1) * 10 ^ i * 10 = ap (λ y. (s + 1) * y) (ten_more i) ∙ sym (mul_assoc (s + 1) (10 ^ i) 10) in
    (omega arith, mul-le-mul_left (s + 1) (tens_rise (i + 1) n (omega arith)))

-- the digits of a remainder, one place at a time
pub places_step : (k remainder : ℕ) → (remainder ≡ 0 → ⊥)
    → places (suc k) remainder ≡ (48 + remainder / 10 ^ k) ∷ places k (remainder % 10 ^ k)
places_step k remainder some = by (remainder == 0) refl
  where
    by : (t : Bool) → (remainder == 0) ≡ t
        → (if t then [] else (48 + remainder / 10 ^ k) ∷ places k (remainder % 10 ^ k))
        ≡ (48 + remainder / 10 ^ k) ∷ places k (remainder % 10 ^ k)
    by true e = absurd (some (eqb-true remainder 0 e))
    by false e = refl

-- a digit is below ten
pub digit_below : (k remainder : ℕ) → remainder < 10 ^ (k + 1) → remainder / 10 ^ k < 10
digit_below k remainder l =
    div_below remainder (10 ^ k) 10 (ten_positive k) (let e = ten_more k in let s = mul_comm (10 ^ k) 10 in omega arith)

-- a number below 10^left that is not 0 has a place left
pub left_positive : (left remainder : ℕ) → (remainder ≡ 0 → ⊥) → remainder < 10 ^ left → left ≡ suc (left - 1)
left_positive zero remainder some l = absurd (some (omega arith))
left_positive (suc k) remainder some l = omega arith

-- what stands before and after a first place is no longer than all
pub parts_short : (p : ℕ → Bool) (xs : List ℕ) → length (before_first p xs) + length (after_first p xs) ≤ length xs
parts_short p xs =
    let n = position_or_len p xs in
    let before = length-take n xs in
    let after = length-drop (n + 1) xs in
    omega arith

-- the digits of a numeral are no more than its characters
pub digits_short : (body : List ℕ) → length (whole_part body) + length (fraction_part body) ≤ length body
digits_short body =
    let number = parts_short is_point (before_first is_exponent_mark body) in
    let all = parts_short is_exponent_mark body in
    omega arith

-- nothing stands after a place that is not there
pub none_after : (p : ℕ → Bool) (xs : List ℕ) → list_any p xs ≡ false → after_first p xs ≡ []
none_after p [] e = refl
none_after p (x ∷ xs) e = by (p x) refl e (none_after p xs)
  where
    by : (t : Bool) → p x ≡ t → (t || list_any p xs) ≡ false → (list_any p xs ≡ false → after_first p xs ≡ []) → after_first p (x ∷ xs) ≡ []
    by true g h rest = absurd cc
    by false g h rest =
        let next : 1 + position_or_len p xs + 1 ≡ suc (position_or_len p xs + 1) = omega arith in
        ap (λ t. drop (cond (not t) (1 + position_or_len p xs) 0 + 1) (x ∷ xs)) g ∙ ap (λ k. drop k (x ∷ xs)) next ∙ rest h

-- an exponent is at most four digits, or not there
pub exponent_digits : (body : List ℕ) → is_numeral body ≡ true
    → (list_all is_digit (without_sign (exponent_part body)) ≡ true) × (length (without_sign (exponent_part body)) ≤ 4)
exponent_digits body e =
    by (list_any is_exponent_mark body) refl
    (both_true (list_all is_digit (whole_part body) && list_all is_digit (fraction_part body) && nat_le 1
    (length (whole_part body ++ fraction_part body))) (not (list_any is_exponent_mark body) || is_exponent (exponent_part body)) e).1
  where
    by : (t : Bool) → list_any is_exponent_mark body ≡ t → (not t || is_exponent (exponent_part body)) ≡ true
        → (list_all is_digit (without_sign (exponent_part body)) ≡ true) × (length (without_sign (exponent_part body)) ≤ 4)
    by true g h =
        let ds = without_sign (exponent_part body) in
        let all = both_true (nat_le 1 (length ds) && nat_le (length ds) 4) (list_all is_digit ds) h in
        (all.1, leb-true (length ds) 4 (both_true (nat_le 1 (length ds)) (nat_le (length ds) 4) all.0).1)
    by false g h = rw (none_after is_exponent_mark body g) (refl, omega arith)

-- the least fraction, where it is reached
pub least_reached : (negative : Bool) (n k units places : ℕ) → n < 10 ^ (20 + k) → least_units units places ≡ least_units n k
    → least_decimals units places ≡ least_decimals n k → least_units units places ≡ units → least_decimals units places ≡ places
    → Dec (signed negative units) places ≡ number_from negative n k
least_reached negative n k units places l same same' here here' =
    ap (λ y. Dec (signed negative y) places) (sym here ∙ same)
    ∙ ap (λ y. Dec (signed negative (least_units n k)) y) (sym here' ∙ same')
    ∙ by (nat_le (10 ^ (20 + k)) n) refl
  where
    by : (t : Bool) → nat_le (10 ^ (20 + k)) n ≡ t
        → Dec (signed negative (least_units n k)) (least_decimals n k)
        ≡ (if t then Large negative else Dec (signed negative (least_units n k)) (least_decimals n k))
    by true e = absurd (let above = leb-true (10 ^ (20 + k)) n e in omega arith)
    by false e = refl

-- a fraction without places
pub none_reached : (n k : ℕ) → k ≡ 0 → (least_units n k ≡ n) × (least_decimals n k ≡ k)
none_reached n zero e = (units-none n, refl)
none_reached n (suc k) e = absurd (omega arith)

-- a fraction that does not end with a zero
pub odd_reached : (n k : ℕ) → (n % 10 ≡ 0 → ⊥) → (least_units n k ≡ n) × (least_decimals n k ≡ k)
odd_reached n zero odd = (units-none n, refl)
odd_reached n (suc k) odd = (units-keep n k odd, least-keep n k odd)

-- one zero less
pub zero_dropped : (n k : ℕ) → n % 10 ≡ 0 → 0 < k
    → (least_units (n / 10) (k - 1) ≡ least_units n k) × (least_decimals (n / 10) (k - 1) ≡ least_decimals n k)
zero_dropped n zero e l = absurd (omega arith)
zero_dropped n (suc k) e l =
    let less : suc k - 1 ≡ k = omega arith in
    let ten : n / 10 * 10 ≡ n = omega arith in (
      ap (least_units (n / 10)) less ∙ sym (units-drop (n / 10) k) ∙ ap (λ y. least_units y (suc k)) ten,
      ap (least_decimals (n / 10)) less ∙ sym (least-drop (n / 10) k) ∙ ap (λ y. least_decimals y (suc k)) ten,
    )

-- how large a product with a power of ten can be
pub scaled_size : (units : ℤ) (written wanted : ℕ) → unsigned_abs units < 10 ^ (20 + written) → written ≤ wanted → wanted ≤ 9
    → unsigned_abs (units *ℤ pos (10 ^ (wanted - written))) < 10 ^ 29
scaled_size units written wanted h l most =
    let size = unsigned_abs-mul units (pos (10 ^ (wanted - written))) in
    let more : unsigned_abs units * 10 ^ (wanted - written) < 10 ^ (20 + written) * 10 ^ (wanted - written) =
    mul-lt-mul_of_pos_right h (ten_positive (wanted - written)) in
    let all = pow-add 10 (20 + written) (wanted - written) in
    let sum : 20 + written + (wanted - written) ≡ 20 + wanted = omega arith in
    let joined = ap (λ y. 10 ^ y) sum in
    let within = tens_rise (20 + wanted) 29 (omega arith) in
    omega arith

-- units of more decimals fit, and so do those of fewer, which stay as they are
pub more_units_fit : (units : ℤ) (written wanted more : ℕ) → unsigned_abs units < 10 ^ (20 + written) → FitsSigned w128 units → wanted ≤ 9
    → more ≡ wanted - written → FitsSigned w128 (units *ℤ pos (10 ^ more))
more_units_fit units written wanted more below fits most is = by (nat_le written wanted) refl
  where
    one : units *ℤ pos 1 ≡ units
    one = omega (arith, ints)

    by : (t : Bool) → nat_le written wanted ≡ t → FitsSigned w128 (units *ℤ pos (10 ^ more))
    by true e = let size = scaled_size units written wanted below (leb-true written wanted e) most in rw is (omega (arith, ints))
    by false e =
        let less = leb-false written wanted e in
        let none : more ≡ 0 = omega arith in
        rw (none, one) fits

-- one more digit of a remainder is written
pub place_written : (all before now encoded : List ℕ) (left remainder place whole below letter : ℕ) → all ≡ before ++ places left remainder
    → (remainder ≡ 0 → ⊥) → remainder < 10 ^ left → place ≡ left - 1 → whole ≡ remainder / 10 ^ place
    → below ≡ remainder % 10 ^ place → letter ≡ 48 + whole
    → (letter < 128 → encoded ≡ letter ∷ []) → now ≡ before ++ encoded → (all ≡ now ++ places (left - 1) below) × (below < 10 ^ (left - 1))
place_written
    all before now encoded left remainder place whole below letter is some small at-place is-whole is-below is-letter ascii pushed =
    let k = left - 1 in
    let positive = left_positive left remainder some small in
    let step : places left remainder ≡ (48 + remainder / 10 ^ k) ∷ places k (remainder % 10 ^ k) =
    ap (λ (n : ℕ). places n remainder) positive ∙ places_step k remainder some in
    let tens = ap (λ (n : ℕ). 10 ^ n) at-place in
    let whole' : whole ≡ remainder / 10 ^ k = is-whole ∙ ap (λ (n : ℕ). remainder / n) tens in
    let below' : below ≡ remainder % 10 ^ k = is-below ∙ ap (λ (n : ℕ). remainder % n) tens in
    let size : 10 ^ left ≡ 10 ^ (k + 1) = let e : left ≡ k + 1 = omega arith in ap (λ (n : ℕ). 10 ^ n) e in
    let digit = digit_below k remainder (omega arith) in
    let letter' : letter ≡ 48 + remainder / 10 ^ k = omega arith in
    let code = ascii (omega arith) in
    let tail : places left remainder ≡ letter ∷ places k below =
    step ∙ ap (λ (b : ℕ). b ∷ places k (remainder % 10 ^ k)) (sym letter') ∙ ap (λ (r : ℕ). letter ∷ places k r) (sym below') in
    let here : before ++ (letter ∷ places k below) ≡ now ++ places k below =
    sym (append_assoc before (letter ∷ []) (places k below))
    ∙ ap (λ (e : List ℕ). (before ++ e) ++ places k below) (sym code)
    ∙ ap (λ (e : List ℕ). e ++ places k below) (sym pushed) in
    let positive = ten_positive k in
    (is ∙ ap (λ (e : List ℕ). before ++ e) tail ∙ here, omega arith)

-- a fraction below 10^20 in its least decimals
pub least_units_below : (n k : ℕ) → n < 10 ^ (20 + k) → least_units n k < 10 ^ (20 + least_decimals n k)
least_units_below n k small =
    let d = least_decimals n k in
    let more : n * 10 ^ d < 10 ^ (20 + k) * 10 ^ d = mul-lt-mul_of_pos_right small (ten_positive d) in
    let whole = pow-add 10 (20 + k) d in
    let parts = pow-add 10 (20 + d) k in
    let sum : 20 + k + d ≡ 20 + d + k = omega arith in
    let joined = ap (λ (y : ℕ). 10 ^ y) sum in
    div_below (n * 10 ^ d) (10 ^ k) (10 ^ (20 + d)) (ten_positive k) (omega arith)

-- a number that is not Large has an absolute value below 10^20
pub number_below : (negative : Bool) (n k : ℕ) → IsBelowLarge (number_from negative n k)
number_below negative n k = by (nat_le (10 ^ (20 + k)) n) refl
  where
    by : (t : Bool) → nat_le (10 ^ (20 + k)) n ≡ t
        → IsBelowLarge (if t then Large negative else Dec (signed negative (least_units n k)) (least_decimals n k))
    by true e = tt
    by false e =
        let small : n < 10 ^ (20 + k) = leb-false (10 ^ (20 + k)) n e in
        let size = signed_size negative (least_units n k) in
        let below = least_units_below n k small in
        omega arith

-- so has a number of a text that is not Large
pub read_below : (text : List ℕ) → IfSome (number_of text) IsBelowLarge
read_below text = by (is_number text) (is_infinity (without_sign text))
  where
    by : (t u : Bool)
        → IfSome (where_true t (if u then Large (is_minus text)
        else number_from (is_minus text) (fraction_of (without_sign text)).0 (fraction_of (without_sign text)).1)) IsBelowLarge
    by false u = tt
    by true true = tt
    by true false = number_below (is_minus text) (fraction_of (without_sign text)).0 (fraction_of (without_sign text)).1

-- 0 has no decimals
pub zero_reached : (k : ℕ) → (least_units 0 k ≡ 0) × (least_decimals 0 k ≡ 0)
zero_reached zero = (units-none 0, refl)
zero_reached (suc k) =
    let less : suc k - 1 ≡ k = omega arith in
    let drop = zero_dropped 0 (suc k) (omega arith) (omega arith) in
    let before = zero_reached k in
    (sym drop.0 ∙ ap (least_units 0) less ∙ before.0, sym drop.1 ∙ ap (least_decimals 0) less ∙ before.1)

-- 0 with any sign and any decimals
pub zero_fraction : (negative : Bool) (n k : ℕ) → n ≡ 0 → Dec (pos 0) 0 ≡ number_from negative n k
zero_fraction negative n k e =
    let nothing = zero_reached k in
    let positive = ten_positive (20 + k) in
    let none = zero_reached 0 in
    unsigned negative
    ∙ least_reached negative 0 k 0 0 positive (none.0 ∙ sym nothing.0) (none.1 ∙ sym nothing.1) none.0 none.1
    ∙ ap (λ (m : ℕ). number_from negative m k) (sym e)
  where
    unsigned : (b : Bool) → Dec (pos 0) 0 ≡ Dec (signed b 0) 0
    unsigned true = refl
    unsigned false = refl

-- 0 times any power of ten
pub zero_number : (negative : Bool) (n : ℕ) (power : ℤ) → n ≡ 0
    → Dec (pos 0) 0 ≡ number_from negative (over_tens n power).0 (over_tens n power).1
zero_number negative n (pos p) e =
    let nothing : 0 * 10 ^ p ≡ 0 = omega arith in
    zero_fraction negative (n * 10 ^ p) 0 (ap (λ (m : ℕ). m * 10 ^ p) e ∙ nothing)
zero_number negative n (negsuc p) e = zero_fraction negative n (suc p) e
