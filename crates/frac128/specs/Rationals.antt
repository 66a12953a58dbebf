-- Rational numbers as fractions in lowest terms, so that equal numbers have equal numerators and denominators, with their operations.
use Rattle.std.specs.Prelude.{◌≡◌, ◌≢◌, ℕ, zero, suc, ◌+◌, ◌*◌, ◌/◌, ◌-◌, if◌then◌else◌, ℤ, pos, negsuc, neg_ℤ, ◌+ℤ◌, ◌-ℤ◌, ◌*ℤ◌, ◌≤ℤ◌}
use Rattle.std.specs.Prelude.{unsigned_abs}
use Rattle.std.specs.Int.Signed.{lt_z}
use Rattle.ring_laws.specs.Sums.{sum_with}
use Rattle.frac128.specs.Gcd.{gcd}
use Rattle.frac128.specs.LowestTerms.{divided, over-lowest}

-- the fraction numerator / (less + 1) in lowest terms
pub record Rational : Type 0 where
  pub numerator : ℤ
  pub less : ℕ
  pub lowest : gcd (unsigned_abs numerator) (suc less) ≡ 1

-- the denominator, given one less than it; opaque, so that goals keep a product of denominators as a product
unfoldable pub S : ℕ → ℤ
S c = pos (suc c)

-- the denominator
abbrev pub denominator : Rational → ℤ
denominator p = S p.less

-- the rational number of a numerator and a denominator
abbrev pub made : (a : ℤ) (c : ℕ) → gcd (unsigned_abs a) (suc c) ≡ 1 → Rational
made a c h = record { numerator = a; less = c; lowest = h }

-- the fraction a / (c + 1) in lowest terms
unfoldable pub over : ℤ → ℕ → Rational
over a c =
    let g = gcd (unsigned_abs a) (suc c) in
    made (divided a g) (suc c / g - 1) (over-lowest a c)

-- a product of denominators, each given by one less than it
unfoldable pub both : ℕ → ℕ → ℕ
both c d = c + d + c * d

-- ---- operations
-- a whole number
unfoldable pub of : ℤ → Rational
of z = over z 0

unfoldable pub add : Rational → Rational → Rational
add p q = over (p.numerator *ℤ denominator q +ℤ q.numerator *ℤ denominator p) (both p.less q.less)

unfoldable pub sub : Rational → Rational → Rational
sub p q = over (p.numerator *ℤ denominator q -ℤ q.numerator *ℤ denominator p) (both p.less q.less)

unfoldable pub mul : Rational → Rational → Rational
mul p q = over (p.numerator *ℤ q.numerator) (both p.less q.less)

unfoldable pub neg : Rational → Rational
neg p = over (neg_ℤ p.numerator) p.less

-- the absolute value
abbrev pub absolute : Rational → Rational
absolute p = if lt_z p.numerator (pos 0) then neg p else p

-- f 0 + .. + f (n - 1)
abbrev pub sum : (ℕ → Rational) → ℕ → Rational
sum f n = sum_with add (of (pos 0)) f n

-- the reciprocal of a / (c + 1), and 0 for 0
abbrev pub inverse_of : ℤ → ℕ → Rational
inverse_of (pos zero) c = of (pos 0)
inverse_of (pos (suc n)) c = over (S c) n
inverse_of (negsuc n) c = over (neg_ℤ (S c)) n

unfoldable pub inverse : Rational → Rational
inverse p = inverse_of p.numerator p.less

abbrev pub quotient : Rational → Rational → Rational
quotient p q = mul p (inverse q)

-- a fraction with a positive denominator as a rational number
unfoldable pub rational : ℤ → ℤ → Rational
rational n d = over n (unsigned_abs d - 1)

-- ---- order
abbrev pub NotNegative : Rational → Type 0
NotNegative p = pos 0 ≤ℤ p.numerator

abbrev pub AtMost : Rational → Rational → Type 0
AtMost p q = NotNegative (sub q p)

abbrev pub IsBelow : Rational → Rational → Type 0
IsBelow p q = AtMost p q × (p ≢ q)
