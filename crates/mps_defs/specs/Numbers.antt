-- The numbers of a text, and the decimal texts that are printed. A number is an optional sign, then a numeral (digits with an
-- optional point, and an optional exponent of one to four digits) or a word for infinity; it has at most 32 characters.
use Rattle.std.specs.Prelude.{ℕ, zero, suc, ◌+◌, ◌-◌, ◌*◌, ◌/◌, ◌%◌, ◌^◌, ◌==◌, nat_le, Bool, true, false, ◌&&◌, ◌||◌, not, if◌then◌else◌}
use Rattle.std.specs.Prelude.{List, [], ◌∷◌, ◌++◌, length, Option, None, Some, ℤ, pos, negsuc, neg_ℤ, ◌-ℤ◌, ◌*ℤ◌, decimal, codes}
use Rattle.std.specs.List.{list_any, list_all, before_first, after_first}
use Rattle.std.specs.Str.{str_eq_ignore_ascii_case}
use Rattle.std.specs.Prelude.{int_div}
use Rattle.std.specs.Int.RustNames.{unsigned_abs}
use Rattle.mps_defs.specs.Lists.{where_true, least_from}
use Rattle.mps_defs.specs.declared.reading.Number.{Number}
use Rattle.mps_defs.specs.declared.reading.Number.TheVariants.{Dec, Large}

abbrev pub is_digit : ℕ → Bool
is_digit b = nat_le 48 b && nat_le b 57

abbrev pub is_sign : ℕ → Bool
is_sign b = (b == 43) || (b == 45)

abbrev pub is_point : ℕ → Bool
is_point b = b == 46

-- `e` or `E`
abbrev pub is_exponent_mark : ℕ → Bool
is_exponent_mark b = (b == 101) || (b == 69)

-- the text begins with a minus
abbrev pub is_minus : List ℕ → Bool
is_minus [] = false
is_minus (b ∷ bs) = b == 45

-- the text without one sign at its start
abbrev pub without_sign : List ℕ → List ℕ
without_sign [] = []
without_sign (b ∷ bs) = if is_sign b then bs else b ∷ bs

-- the natural number that digits write, after those of n
abbrev pub value_from : ℕ → List ℕ → ℕ
value_from n [] = n
value_from n (d ∷ ds) = value_from (10 * n + (d - 48)) ds

abbrev pub digits_value : List ℕ → ℕ
digits_value ds = value_from 0 ds

abbrev pub signed : Bool → ℕ → ℤ
signed negative n = if negative then neg_ℤ (pos n) else pos n

-- the parts of a numeral without its sign, WHOLE or WHOLE.FRACTION and then perhaps eEXPONENT
abbrev pub whole_part : List ℕ → List ℕ
whole_part body = before_first is_point (before_first is_exponent_mark body)

abbrev pub fraction_part : List ℕ → List ℕ
fraction_part body = after_first is_point (before_first is_exponent_mark body)

abbrev pub exponent_part : List ℕ → List ℕ
exponent_part body = after_first is_exponent_mark body

-- one to four digits after an optional sign
abbrev pub is_exponent : List ℕ → Bool
is_exponent part = let ds = without_sign part in nat_le 1 (length ds) && nat_le (length ds) 4 && list_all is_digit ds

-- digits with an optional point, then an exponent where a mark stands
abbrev pub is_numeral : List ℕ → Bool
is_numeral body =
    list_all is_digit (whole_part body) && list_all is_digit (fraction_part body)
    && nat_le 1 (length (whole_part body ++ fraction_part body))
    && (not (list_any is_exponent_mark body) || is_exponent (exponent_part body))

abbrev pub is_infinity : List ℕ → Bool
is_infinity body = str_eq_ignore_ascii_case body (codes "inf") || str_eq_ignore_ascii_case body (codes "infinity")

-- the text is a number
abbrev pub is_number : List ℕ → Bool
is_number text = nat_le (length text) 32 && (is_infinity (without_sign text) || is_numeral (without_sign text))

-- a numeral is its digits times ten to this power
abbrev pub power_of : List ℕ → ℤ
power_of body =
    signed (is_minus (exponent_part body)) (digits_value (without_sign (exponent_part body))) -ℤ pos (length (fraction_part body))

-- the value of n times ten to a power, as a fraction: the numerator, and the power of ten that is the denominator
abbrev pub over_tens : ℕ → ℤ → ℕ × ℕ
over_tens n (pos p) = (n * 10 ^ p, 0)
over_tens n (negsuc p) = (n, suc p)

-- a numeral without its sign, as such a fraction
abbrev pub fraction_of : List ℕ → ℕ × ℕ
fraction_of body = over_tens (digits_value (whole_part body ++ fraction_part body)) (power_of body)

-- n / 10^k has d decimals at most
abbrev pub has_decimals : ℕ → ℕ → ℕ → Bool
has_decimals n k d = (n * 10 ^ d) % 10 ^ k == 0

-- the least decimals that write n / 10^k exactly
abbrev pub least_decimals : ℕ → ℕ → ℕ
least_decimals n k = least_from (has_decimals n k) 0 k

-- the number n / 10^k with a sign: Large from 10^20 on
abbrev pub number_from : Bool → ℕ → ℕ → Number
number_from negative n k =
    let exact = Dec (signed negative (n * 10 ^ least_decimals n k / 10 ^ k)) (least_decimals n k) in
    if nat_le (10 ^ (20 + k)) n then Large negative else exact

-- the number that a text is, where it is one
abbrev pub number_of : List ℕ → Option Number
number_of text =
    let body = without_sign text in
    let finite = number_from (is_minus text) (fraction_of body).0 (fraction_of body).1 in
    where_true (is_number text) (if is_infinity body then Large (is_minus text) else finite)

-- the decimals of a number, none of a Large one
abbrev pub decimals_of : Number → ℕ
decimals_of (Dec units decimals) = decimals
decimals_of (Large negative) = 0

abbrev pub is_large : Number → Bool
is_large (Dec units decimals) = false
is_large (Large negative) = true

-- z / n, where it is whole
abbrev pub whole_quotient : ℤ → ℕ → Option ℤ
whole_quotient z n = where_true (unsigned_abs z % n == 0) (int_div z (pos n))

-- the value times 10^k, where that is whole and the number is not Large
abbrev pub exact_units : Number → ℕ → Option ℤ
exact_units (Dec units decimals) k =
    if nat_le decimals k then Some (units *ℤ pos (10 ^ (k - decimals))) else whole_quotient units (10 ^ (decimals - k))
exact_units (Large negative) k = None

-- the digits of the remainder in k places, without the zeros at their end
abbrev pub places : ℕ → ℕ → List ℕ
places zero remainder = []
places (suc k) remainder = if remainder == 0 then [] else (48 + remainder / 10 ^ k) ∷ places k (remainder % 10 ^ k)

-- n units with k decimals, written
abbrev pub unsigned_text : ℕ → ℕ → List ℕ
unsigned_text n k = decimal (n / 10 ^ k) ++ (if n % 10 ^ k == 0 then [] else 46 ∷ places k (n % 10 ^ k))

abbrev pub decimal_text : ℤ → ℕ → List ℕ
decimal_text (pos n) k = unsigned_text n k
decimal_text (negsuc n) k = 45 ∷ unsigned_text (suc n) k
