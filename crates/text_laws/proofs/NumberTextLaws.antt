-- Decimal texts are numbers: what is read of a decimal text is what it writes, in the least decimals.
use Rattle.std.specs.Prelude.{◌≡◌, ℕ, zero, suc, ◌+◌, ◌-◌, ◌*◌, ◌/◌, ◌%◌, ◌^◌, ◌<◌, ◌≤◌, ◌==◌, nat_le, nat_lt, cond, Bool, true, false}
use Rattle.std.specs.Prelude.{◌&&◌, ◌||◌, not, if◌then◌else◌, List, [], ◌∷◌, ◌++◌, length, map, Some, unwrap_or, decimal, ℤ, pos, negsuc}
use Rattle.std.specs.Prelude.{neg_ℤ, ◌*ℤ◌, ◌-ℤ◌}
use Rattle.std.specs.Fmt.{signed_decimal}
use Rattle.std.specs.Int.RustNames.{unsigned_abs}
use Rattle.std.specs.List.{list_all, list_any, before_first, after_first}
use Rattle.std.specs.Str.{bytes_eq}
use Rattle.std.specs.Char.{to_ascii_lowercase}
use Rattle.std.proofs.Common.{refl, rules, arith, ap, sym, ◌∙◌, le-leb, lt-ltb, length-append, append-nil, subst}
use Rattle.std.proofs.lemmas.Bool.{leb-true, and_from, eqb-true, ne_eqb}
use Rattle.std.proofs.lemmas.Fmt.{length-decimal-le}
use Rattle.std.proofs.lemmas.List.Folds.{list_any-append}
use Rattle.std.proofs.Math.Nat.{div-le_self, mul-le-mul_left}
use Rattle.std.proofs.lemmas.Int.{ints}
use Rattle.decimals.proofs.DecimalLaws.{least_units, units-none}
use Rattle.decimals.proofs.NumberLaws.{value_from-append, none_after, tens_rise}
use Rattle.text_laws.proofs.NumeralLaws.{digit_range, decimal_digits, decimal_value, decimal_some, places_digits, places_short}
use Rattle.text_laws.proofs.NumeralLaws.{places_none}
use Rattle.text_laws.proofs.NumeralLaws.{none_among, no_point, no_mark, no_sign, all_before, before_it, after_it}
use Rattle.text_laws.proofs.ScaleLaws.{places_value, zeros_dropped, units_back}
use Rattle.mps_defs.specs.Numbers.{is_digit, is_point, is_exponent_mark, is_numeral, is_number, is_infinity, is_minus, without_sign}
use Rattle.mps_defs.specs.Numbers.{whole_part, fraction_part, exponent_part, is_exponent, value_from, digits_value, places, unsigned_text}
use Rattle.mps_defs.specs.Numbers.{decimal_text, power_of, over_tens, fraction_of, number_from, number_of, signed, least_decimals}
use Rattle.mps_defs.specs.Numbers.{decimals_of, is_large}
use Rattle.mps_defs.specs.Lists.{where_true}
use Rattle.mps_defs.specs.TextModels.{units, number_or_zero}
use Rattle.mps_defs.specs.declared.reading.Number.{Number}
use Rattle.mps_defs.specs.declared.reading.Number.TheVariants.{Dec, Large}
use Rattle.ip_defs.proofs.BoolLaws.{both_true}
use Rattle.mps_defs.proofs.NumberLaws.{ten_positive}

-- digits, then a point and digits where there are some
abbrev pub joined : List ℕ → List ℕ → List ℕ
joined ds [] = ds
joined ds (p ∷ ps) = ds ++ 46 ∷ p ∷ ps

-- such a body of a number, with its parts
record IsBody (ds ps body : List ℕ) : Type 0 where
  whole : whole_part body ≡ ds
  rest : fraction_part body ≡ ps
  exponent : exponent_part body ≡ []
  unmarked : list_any is_exponent_mark body ≡ false

joined_parts : (ds ps : List ℕ) → list_all is_digit ds ≡ true → list_all is_digit ps ≡ true → IsBody ds ps (joined ds ps)
joined_parts ds [] d e =
    let plain = none_among is_exponent_mark ds no_mark d in
    let same = all_before is_exponent_mark ds plain in
    let pointless = none_among is_point ds no_point d in
    record {
      whole = ap (before_first is_point) same ∙ all_before is_point ds pointless;
      rest = ap (after_first is_point) same ∙ none_after is_point ds pointless;
      exponent = none_after is_exponent_mark ds plain;
      unmarked = plain;
    }
joined_parts ds (p ∷ ps) d e =
    let plain =
    list_any-append is_exponent_mark ds (46 ∷ p ∷ ps)
    ∙ ap (λ t. t || list_any is_exponent_mark (p ∷ ps)) (none_among is_exponent_mark ds no_mark d)
    ∙ none_among is_exponent_mark (p ∷ ps) no_mark e in
    let same = all_before is_exponent_mark (ds ++ 46 ∷ p ∷ ps) plain in
    let pointless = none_among is_point ds no_point d in
    record {
      whole = ap (before_first is_point) same ∙ before_it is_point ds 46 (p ∷ ps) pointless refl;
      rest = ap (after_first is_point) same ∙ after_it is_point ds 46 (p ∷ ps) pointless refl;
      exponent = none_after is_exponent_mark (ds ++ 46 ∷ p ∷ ps) plain;
      unmarked = plain;
    }

-- it is a numeral
numeral_is : (ds ps body : List ℕ) → IsBody ds ps body → list_all is_digit ds ≡ true → list_all is_digit ps ≡ true → 1 ≤ length ds
    → is_numeral body ≡ true
numeral_is ds ps body b d e some =
    let size = length-append ds ps in
    and_from (list_all is_digit (whole_part body) && list_all is_digit (fraction_part body) && nat_le 1
    (length (whole_part body ++ fraction_part body))) (not (list_any is_exponent_mark body) || is_exponent (exponent_part body))
    (and_from (list_all is_digit (whole_part body) && list_all is_digit (fraction_part body))
    (nat_le 1 (length (whole_part body ++ fraction_part body)))
    (and_from (list_all is_digit (whole_part body)) (list_all is_digit (fraction_part body)) (ap (list_all is_digit) b.whole
    ∙ d) (ap (list_all is_digit) b.rest
    ∙ e))
    (ap (λ l. nat_le 1 (length (l ++ fraction_part body))) b.whole
    ∙ ap (λ l. nat_le 1 (length (ds ++ l))) b.rest
    ∙ le-leb 1 (length (ds ++ ps)) (omega arith)))
    (ap (λ t. not t || is_exponent (exponent_part body)) b.unmarked)

-- the decimals of a number are those after the point
over_places : (negative : Bool) (n l : ℕ)
    → number_from negative (over_tens n (pos 0 -ℤ pos l)).0 (over_tens n (pos 0 -ℤ pos l)).1 ≡ number_from negative n l
over_places negative n zero = let one : n * 10 ^ 0 ≡ n = omega arith in ap (λ (m : ℕ). number_from negative m 0) one
over_places negative n (suc l) =
    let below : pos 0 -ℤ pos (suc l) ≡ negsuc l = omega (arith, ints) in ap
    (λ z. number_from negative (over_tens n z).0 (over_tens n z).1) below

fraction_is : (negative : Bool) (ds ps body : List ℕ) → IsBody ds ps body
    → number_from negative (fraction_of body).0 (fraction_of body).1 ≡ number_from negative (value_from 0 (ds ++ ps)) (length ps)
fraction_is negative ds ps body b =
    ap (λ l. number_from negative (over_tens (digits_value (l ++ fraction_part body)) (power_of body)).0
    (over_tens (digits_value (l ++ fraction_part body)) (power_of body)).1) b.whole
    ∙ ap (λ l. number_from negative
    (over_tens (digits_value (ds ++ l))
    (signed (is_minus (exponent_part body)) (digits_value (without_sign (exponent_part body))) -ℤ pos (length l))).0 (over_tens
    (digits_value (ds ++ l))
    (signed (is_minus (exponent_part body)) (digits_value (without_sign (exponent_part body))) -ℤ pos (length l))).1) b.rest
    ∙ ap (λ l. number_from negative
    (over_tens (digits_value (ds ++ ps)) (signed (is_minus l) (digits_value (without_sign l)) -ℤ pos (length ps))).0
    (over_tens (digits_value (ds ++ ps)) (signed (is_minus l) (digits_value (without_sign l)) -ℤ pos (length ps))).1) b.exponent
    ∙ over_places negative (digits_value (ds ++ ps)) (length ps)

-- what begins with a digit is no word of infinity and has no sign
begins_low : (d : ℕ) (ds : List ℕ) → is_digit d ≡ true → is_infinity (d ∷ ds) ≡ false
begins_low d ds e =
    let r = digit_range d e in
    let same : to_ascii_lowercase d ≡ d = lower d (omega (arith, r)) in
    ap (λ t. (t && bytes_eq (map to_ascii_lowercase ds) (110 ∷ 102 ∷ []))
    || (t && bytes_eq (map to_ascii_lowercase ds) (110 ∷ 102 ∷ 105 ∷ 110 ∷ 105 ∷ 116 ∷ 121 ∷ []))) (ap (λ c. c == 105) same
    ∙ ne_eqb d 105 (λ s. omega (arith, r)))
  where
    lower : (c : ℕ) → c < 65 → to_ascii_lowercase c ≡ c
    lower c h = ap (λ t. cond t c (cond (nat_lt c 91) (c + 32) c)) (lt-ltb c 65 h)

-- ---- the text of an absolute value

size_is : (n k : ℕ) → unsigned_text n k ≡ joined (decimal (n / 10 ^ k)) (places k (n % 10 ^ k))
size_is n k = by (n % 10 ^ k == 0) refl
  where
    ds : List ℕ
    ds = decimal (n / 10 ^ k)

    tail_is : (j rest : ℕ) → (rest == 0) ≡ false → rest < 10 ^ j → ds ++ 46 ∷ places j rest ≡ joined ds (places j rest)
    tail_is zero rest e h = absurd (let none : rest ≡ 0 = omega arith in let s = ap (λ m. m == 0) none in cc)
    tail_is (suc j) rest e h =
        ap (λ t. ds ++ 46 ∷ (if t then [] else (48 + rest / 10 ^ j) ∷ places j (rest % 10 ^ j))) e
        ∙ sym (ap (λ t. joined ds (if t then [] else (48 + rest / 10 ^ j) ∷ places j (rest % 10 ^ j))) e)

    by : (t : Bool) → (n % 10 ^ k == 0) ≡ t → ds ++ (if t then [] else 46 ∷ places k (n % 10 ^ k)) ≡ joined ds (places k (n % 10 ^ k))
    by true e = append-nil ds ∙ sym (ap (λ (r : ℕ). joined ds (places k r)) (eqb-true (n % 10 ^ k) 0 e) ∙ ap (joined ds) (places_none k))
    by false e = tail_is k (n % 10 ^ k) e (let p = ten_positive k in omega arith)

rest_below : (n k : ℕ) → n % 10 ^ k < 10 ^ k
rest_below n k = let p = ten_positive k in omega arith

whole_below : (n k : ℕ) → n < 2 ^ 64 → n / 10 ^ k < 2 ^ 64
whole_below n k h = let e = div-le_self n (10 ^ k) in omega arith

body_of : (n k : ℕ) → n < 2 ^ 64 → IsBody (decimal (n / 10 ^ k)) (places k (n % 10 ^ k)) (unsigned_text n k)
body_of n k h =
    subst (IsBody (decimal (n / 10 ^ k)) (places k (n % 10 ^ k))) (sym (size_is n k))
    (joined_parts (decimal (n / 10 ^ k)) (places k (n % 10 ^ k)) (decimal_digits (n / 10 ^ k) (whole_below n k h))
    (places_digits k (n % 10 ^ k) (rest_below n k)))

-- at most thirty characters
pub size_short : (n k : ℕ) → n < 2 ^ 64 → k ≤ 9 → length (unsigned_text n k) ≤ 30
size_short n k h most = by (n % 10 ^ k == 0)
  where
    ds : List ℕ
    ds = decimal (n / 10 ^ k)

    by : (t : Bool) → length (ds ++ (if t then [] else 46 ∷ places k (n % 10 ^ k))) ≤ 30
    by true =
        let w = whole_below n k h in let s = length-decimal-le 20 (n / 10 ^ k) (omega arith)
        (omega arith) w in let a = length-append ds [] in omega arith
    by false =
        let w = whole_below n k h in let s = length-decimal-le 20 (n / 10 ^ k) (omega arith) (omega arith) w in let a = length-append ds
        (46 ∷ places k (n % 10 ^ k)) in let p = places_short k (n % 10 ^ k) in omega arith

-- it begins with a digit
record BeginsPlain (text : List ℕ) : Type 0 where
  unsigned : without_sign text ≡ text
  positive : is_minus text ≡ false
  finite : is_infinity text ≡ false

begins_plain : (ds rest : List ℕ) → list_all is_digit ds ≡ true → 1 ≤ length ds → BeginsPlain (ds ++ rest)
begins_plain [] rest all some = absurd (omega arith)
begins_plain (d ∷ ds) rest all some =
    let here = (both_true (is_digit d) (list_all is_digit ds) all).0 in
    let r = digit_range d here in
    record {
      unsigned = ap (λ t. if t then ds ++ rest else d ∷ ds ++ rest) (no_sign d here);
      positive = ne_eqb d 45 (λ s. omega (arith, r));
      finite = begins_low d (ds ++ rest) here;
    }

-- the number that a decimal text writes, in the least decimals
abbrev pub least_number : Bool → ℕ → ℕ → Number
least_number negative n k = Dec (signed negative (least_units n k)) (least_decimals n k)

small_number : (negative : Bool) (n k : ℕ) → n < 10 ^ (20 + k) → number_from negative n k ≡ least_number negative n k
small_number negative n k l = by (nat_le (10 ^ (20 + k)) n) refl
  where
    by : (t : Bool) → nat_le (10 ^ (20 + k)) n ≡ t → (if t then Large negative else least_number negative n k) ≡ least_number negative n k
    by true e = absurd (let above = leb-true (10 ^ (20 + k)) n e in omega arith)
    by false e = refl

-- the digits of an absolute value write it
size_number : (negative : Bool) (n k : ℕ) → n < 2 ^ 64
    → number_from negative (value_from 0 (decimal (n / 10 ^ k) ++ places k (n % 10 ^ k))) (length (places k (n % 10 ^ k)))
    ≡ least_number negative n k
size_number negative n k h =
    ap (λ (m : ℕ). number_from negative m size) digits
    ∙ small_number negative value size small
    ∙ ap (λ (u : ℕ). Dec (signed negative u) (least_decimals value size)) (sym back.0)
    ∙ ap (λ (d : ℕ). Dec (signed negative (least_units n k)) d) (sym back.1)
  where
    size : ℕ
    size = length (places k (n % 10 ^ k))

    value : ℕ
    value = value_from (n / 10 ^ k) (places k (n % 10 ^ k))

    digits : value_from 0 (decimal (n / 10 ^ k) ++ places k (n % 10 ^ k)) ≡ value
    digits =
        value_from-append 0 (decimal (n / 10 ^ k)) (places k (n % 10 ^ k))
        ∙ ap (λ (m : ℕ). value_from m (places k (n % 10 ^ k))) (decimal_value (n / 10 ^ k) (whole_below n k h))

    parts : (t : ℕ) → n / t * t + n % t ≡ n
    parts t = omega arith

    scaled : value * 10 ^ (k - size) ≡ n
    scaled = places_value k (n % 10 ^ k) (n / 10 ^ k) (rest_below n k) ∙ parts (10 ^ k)

    sum : size + (k - size) ≡ k
    sum = let p = places_short k (n % 10 ^ k) in omega arith

    back : (least_units n k ≡ least_units value size) × (least_decimals n k ≡ least_decimals value size)
    back = let e = zeros_dropped value size (k - size) in (
      ap (λ (m : ℕ). least_units m k) (sym scaled) ∙ ap (least_units (value * 10 ^ (k - size))) (sym sum) ∙ e.0,
      ap (λ (m : ℕ). least_decimals m k) (sym scaled) ∙ ap (least_decimals (value * 10 ^ (k - size))) (sym sum) ∙ e.1,
    )

    small : value < 10 ^ (20 + size)
    small =
        let p = ten_positive (k - size) in
        let up = mul-le-mul_left value p in
        let room = tens_rise 20 (20 + size) (omega arith) in
        omega (arith, scaled)

-- a text with a body that is a numeral is a number
read_body : (negative : Bool) (text body : List ℕ) → without_sign text ≡ body → is_minus text ≡ negative → length text ≤ 32
    → is_infinity body ≡ false → is_numeral body ≡ true
    → (is_number text ≡ true) × (number_of text ≡ Some (number_from negative (fraction_of body).0 (fraction_of body).1))
read_body negative text body without minus short finite numeral =
    let infinite = ap is_infinity without ∙ finite in
    let number : is_number text ≡ true = and_from (nat_le (length text) 32)
    (is_infinity (without_sign text) || is_numeral (without_sign text)) (le-leb (length text) 32 short)
    (ap (λ t. t || is_numeral (without_sign text)) infinite ∙ ap is_numeral without ∙ numeral) in (
      number,
      ap (λ t. where_true t (if is_infinity (without_sign text) then Large (is_minus text) else number_from (is_minus text)
          (fraction_of (without_sign text)).0 (fraction_of (without_sign text)).1)) number
          ∙ ap (λ t. Some (if t then Large (is_minus text) else number_from (is_minus text) (fraction_of (without_sign text)).0
          (fraction_of (without_sign text)).1)) infinite
          ∙ ap (λ m. Some (number_from m (fraction_of (without_sign text)).0 (fraction_of (without_sign text)).1)) minus
          ∙ ap (λ b. Some (number_from negative (fraction_of b).0 (fraction_of b).1)) without,
    )

signed_size : (negative : Bool) (text : List ℕ) (n k : ℕ) → n < 2 ^ 64 → k ≤ 9 → without_sign text ≡ unsigned_text n k
    → is_minus text ≡ negative → length text ≤ 32
    → (is_number text ≡ true) × (number_of text ≡ Some (least_number negative n k))
signed_size negative text n k h most without minus short =
    let b = body_of n k h in
    let w = whole_below n k h in
    let d = decimal_digits (n / 10 ^ k) w in
    let e = places_digits k (n % 10 ^ k) (rest_below n k) in
    let some = decimal_some (n / 10 ^ k) w in
    let plain = begins_plain (decimal (n / 10 ^ k)) (if n % 10 ^ k == 0 then [] else 46 ∷ places k (n % 10 ^ k)) d some in
    let numeral = numeral_is (decimal (n / 10 ^ k)) (places k (n % 10 ^ k)) (unsigned_text n k) b d e some in
    let read = read_body negative text (unsigned_text n k) without minus short plain.finite numeral in (
      read.0,
      read.1
          ∙ ap Some (fraction_is negative (decimal (n / 10 ^ k)) (places k (n % 10 ^ k)) (unsigned_text n k) b
          ∙ size_number negative n k h),
    )

abbrev pub is_below_zero : ℤ → Bool
is_below_zero (pos n) = false
is_below_zero (negsuc n) = true

-- what is read of a decimal text
pub decimal_text_read : (z : ℤ) (k : ℕ) → unsigned_abs z < 2 ^ 64 → k ≤ 9
    → (is_number (decimal_text z k) ≡ true) × (number_of (decimal_text z k) ≡ Some (least_number (is_below_zero z) (unsigned_abs z) k))
decimal_text_read (pos n) k h most =
    let w = whole_below n k h in
    let plain =
    begins_plain (decimal (n / 10 ^ k)) (if n % 10 ^ k == 0 then [] else 46 ∷ places k (n % 10 ^ k)) (decimal_digits (n / 10 ^ k) w)
    (decimal_some (n / 10 ^ k) w) in
    let short = size_short n k h most in
    signed_size false (unsigned_text n k) n k h most plain.unsigned plain.positive (omega arith)
decimal_text_read (negsuc n) k h most =
    let short = size_short (suc n) k h most in signed_size true (45 ∷ unsigned_text (suc n) k) (suc n) k h most refl refl (omega arith)

-- its number, in the units that were written, and its decimals
pub decimal_text_units : (z : ℤ) (k : ℕ) → unsigned_abs z < 2 ^ 64 → k ≤ 9 → units k (number_or_zero (decimal_text z k)) ≡ z
decimal_text_units z k h most = ap (λ o. units k (unwrap_or o (Dec (pos 0) 0))) (decimal_text_read z k h most).1 ∙ back z
  where
    times : (n : ℕ) (t : ℕ) → neg_ℤ (pos n) *ℤ pos t ≡ neg_ℤ (pos (n * t))
    times n t = search rules

    back : (y : ℤ) → signed (is_below_zero y) (least_units (unsigned_abs y) k) *ℤ pos (10 ^ (k - least_decimals (unsigned_abs y) k)) ≡ y
    back (pos n) = ap pos (units_back n k)
    back (negsuc n) =
        times (least_units (suc n) k) (10 ^ (k - least_decimals (suc n) k)) ∙ ap (λ (m : ℕ). neg_ℤ (pos m)) (units_back (suc n) k)

pub decimal_text_decimals : (z : ℤ) (k : ℕ) → unsigned_abs z < 2 ^ 64 → k ≤ 9
    → decimals_of (number_or_zero (decimal_text z k)) ≡ least_decimals (unsigned_abs z) k
decimal_text_decimals z k h most = ap (λ o. decimals_of (unwrap_or o (Dec (pos 0) 0))) (decimal_text_read z k h most).1

pub decimal_text_finite : (z : ℤ) (k : ℕ) → unsigned_abs z < 2 ^ 64 → k ≤ 9 → is_large (number_or_zero (decimal_text z k)) ≡ false
decimal_text_finite z k h most = ap (λ o. is_large (unwrap_or o (Dec (pos 0) 0))) (decimal_text_read z k h most).1

-- a whole number is a decimal text without decimals
plain_size : (m : ℕ) → decimal m ≡ unsigned_text m 0
plain_size m =
    let w : m / 10 ^ 0 ≡ m = omega arith in let r : m % 10 ^ 0 ≡ 0 = omega arith in sym
    (ap (λ (y : ℕ). decimal y ++ (if m % 10 ^ 0 == 0 then [] else 46 ∷ [])) w
    ∙ ap (λ (y : ℕ). decimal m ++ (if y == 0 then [] else 46 ∷ [])) r
    ∙ append-nil (decimal m))

pub signed_decimal_is : (z : ℤ) → signed_decimal z ≡ decimal_text z 0
signed_decimal_is (pos n) = plain_size n
signed_decimal_is (negsuc n) = ap (λ l. 45 ∷ l) (plain_size (suc n))

-- what is read of it
pub signed_decimal_read : (z : ℤ) → unsigned_abs z < 2 ^ 64
    → (is_number (signed_decimal z) ≡ true) × (number_or_zero (signed_decimal z) ≡ Dec z 0)
signed_decimal_read z h =
    let read = decimal_text_read z 0 h (omega arith) in (
      ap is_number (signed_decimal_is z) ∙ read.0,
      ap number_or_zero (signed_decimal_is z) ∙ ap (λ o. unwrap_or o (Dec (pos 0) 0)) read.1 ∙ ap (λ y. Dec y 0) (whole z),
    )
  where
    whole : (y : ℤ) → signed (is_below_zero y) (least_units (unsigned_abs y) 0) ≡ y
    whole (pos n) = ap pos (units-none n)
    whole (negsuc n) = ap (λ (m : ℕ). neg_ℤ (pos m)) (units-none (suc n))
