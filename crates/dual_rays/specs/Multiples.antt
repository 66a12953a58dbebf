-- Whole multiples of rational numbers: over their least common denominator, and with no common divisor.
use Rattle.std.specs.Prelude.{ℕ, suc, ◌*◌, ◌/◌, List, [], ◌∷◌, map, ℤ, pos, ◌*ℤ◌, int_div, unsigned_abs}
use Rattle.frac128.specs.Gcd.{gcd}
use Rattle.frac128.specs.Rationals.{Rational}

-- the least common multiple of two positive numbers
unfoldable pub lcm : ℕ → ℕ → ℕ
lcm a b = a * (b / gcd a b)

-- the least common denominator of numbers
abbrev pub common_denominator : List Rational → ℕ
common_denominator [] = 1
common_denominator (p ∷ ps) = lcm (suc p.less) (common_denominator ps)

-- q times a number, where q is a multiple of its denominator
abbrev pub multiple : ℕ → Rational → ℤ
multiple q p = p.numerator *ℤ pos (q / suc p.less)

-- the numbers times their least common denominator
abbrev pub multiples : List Rational → List ℤ
multiples ps = map (multiple (common_denominator ps)) ps

-- the greatest common divisor of whole numbers, 0 where all of them are 0
abbrev pub common_divisor : List ℤ → ℕ
common_divisor [] = 0
common_divisor (z ∷ zs) = gcd (unsigned_abs z) (common_divisor zs)

-- whole numbers divided by their greatest common divisor
abbrev pub primitive : List ℤ → List ℤ
primitive zs = map (λ z. int_div z (pos (common_divisor zs))) zs
