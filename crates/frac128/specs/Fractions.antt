-- Fractions in lowest terms whose numerators and denominators are in the range, and the results of operations on them.
use Rattle.std.specs.Prelude.{◌≡◌, ◌<◌, ◌^◌, Bool, if◌then◌else◌, Option, Some, None, Result, Ok, Err, ℤ, pos, neg_ℤ, ◌+ℤ◌, ◌*ℤ◌, ◌<ℤ◌}
use Rattle.std.specs.Prelude.{int_lt, int_div, nat_lt, unsigned_abs}
use Rattle.std.specs.Int.Signed.{lt_z}
use Rattle.frac128.specs.Gcd.{gcd}
use Rattle.frac128.specs.declared.fraction.Wide.{Wide}

-- the fraction num / den
pub record Fraction : Type 0 where
  pub num : ℤ
  pub den : ℤ

-- a fraction in lowest terms: numerator and denominator are in the range, the denominator is positive, and no number above 1 divides
-- both
pub record IsFraction (num den : ℤ) : Type 0 where
  pub positive : pos 0 <ℤ den
  pub num_fits : unsigned_abs num < 2 ^ 127
  pub den_fits : unsigned_abs den < 2 ^ 127
  pub lowest : gcd (unsigned_abs num) (unsigned_abs den) ≡ 1

-- a whole number as a fraction
abbrev pub whole : ℤ → Fraction
whole z = record { num = z; den = pos 1 }

-- numerator and denominator have at most 63 bits
pub record IsSmall (x : Fraction) : Type 0 where
  pub num : unsigned_abs x.num < 2 ^ 63
  pub den : unsigned_abs x.den < 2 ^ 63

-- the number lies between -(2^127 - 1) and 2^127 - 1
abbrev pub in_range : ℤ → Bool
in_range z = nat_lt (unsigned_abs z) (2 ^ 127)

-- the number, none where it is not in the range
abbrev pub within : ℤ → Option ℤ
within z = if in_range z then Some z else None

-- the greatest common divisor of the absolute values of two whole numbers
abbrev pub shared : ℤ → ℤ → ℤ
shared m n = pos (gcd (unsigned_abs m) (unsigned_abs n))

-- the fraction n / d in lowest terms, for a positive d
unfoldable pub lowest_of : ℤ → ℤ → Fraction
lowest_of n d = record { num = int_div n (shared n d); den = int_div d (shared n d) }

-- the fraction n / d in lowest terms, with its sign in the numerator
abbrev pub reduced_of : ℤ → ℤ → Fraction
reduced_of n d = if int_lt d (pos 0) then lowest_of (neg_ℤ n) (neg_ℤ d) else lowest_of n d

-- num / den in lowest terms where all four numbers are in the range, else wide
abbrev pub sum_where : Option ℤ → Option ℤ → Option ℤ → Option ℤ → Result Fraction Wide
sum_where (Some left) (Some right) (Some num) (Some den) = Ok (lowest_of num den)
sum_where (Some left) (Some right) (Some num) None = Err (record {})
sum_where (Some left) (Some right) None den = Err (record {})
sum_where (Some left) None num den = Err (record {})
sum_where None right num den = Err (record {})

-- a/b + c/d over the least common denominator, with g = gcd(b, d): the numerators a * (d/g) and c * (b/g), the denominator (b/g) * d
abbrev pub left_of_sum : Fraction → Fraction → ℤ
left_of_sum x y = x.num *ℤ int_div y.den (shared x.den y.den)

abbrev pub right_of_sum : Fraction → Fraction → ℤ
right_of_sum x y = y.num *ℤ int_div x.den (shared x.den y.den)

abbrev pub under_sum : Fraction → Fraction → ℤ
under_sum x y = int_div x.den (shared x.den y.den) *ℤ y.den

-- the sum, where the numerators, their sum and the denominator are in the range
unfoldable pub sum_of : Fraction → Fraction → Result Fraction Wide
sum_of x y = sum_where (within (left_of_sum x y)) (within (right_of_sum x y)) (within (left_of_sum x y +ℤ right_of_sum x y))
    (within (under_sum x y))

-- num / den where both numbers are in the range, else wide
abbrev pub fraction_where : Option ℤ → Option ℤ → Result Fraction Wide
fraction_where (Some num) (Some den) = Ok (record { num = num; den = den })
fraction_where (Some num) None = Err (record {})
fraction_where None den = Err (record {})

-- a/b * c/d in lowest terms, with g = gcd(a, d) and h = gcd(c, b): the numerator (a/g) * (c/h) and the denominator (b/h) * (d/g)
abbrev pub over_product : Fraction → Fraction → ℤ
over_product x y = int_div x.num (shared x.num y.den) *ℤ int_div y.num (shared y.num x.den)

abbrev pub under_product : Fraction → Fraction → ℤ
under_product x y = int_div x.den (shared y.num x.den) *ℤ int_div y.den (shared x.num y.den)

-- the product, where numerator and denominator are in the range
unfoldable pub product_of : Fraction → Fraction → Result Fraction Wide
product_of x y = fraction_where (within (over_product x y)) (within (under_product x y))

-- the negative of a fraction
abbrev pub negative_of : Fraction → Fraction
negative_of x = record { num = neg_ℤ x.num; den = x.den }

-- the absolute value of a fraction
abbrev pub absolute_of : Fraction → Fraction
absolute_of x = if lt_z x.num (pos 0) then negative_of x else x

-- a difference is the sum with the negative
abbrev pub difference_of : Fraction → Fraction → Result Fraction Wide
difference_of x y = sum_of x (negative_of y)

-- d/n for n/d, with its sign in the numerator
abbrev pub reciprocal_of : Fraction → Fraction
reciprocal_of x = if int_lt x.num (pos 0) then record { num = neg_ℤ x.den; den = neg_ℤ x.num } else record { num = x.den; den = x.num }

-- a quotient is the product with the reciprocal
abbrev pub quotient_of : Fraction → Fraction → Result Fraction Wide
quotient_of x y = product_of x (reciprocal_of y)
