-- The greatest common divisor, by Euclid's algorithm.
use Rattle.std.specs.Prelude.{ℕ, zero, suc, ◌%◌, ◌==◌, if◌then◌else◌}

-- within a number of steps
abbrev pub gcd_within : ℕ → ℕ → ℕ → ℕ
gcd_within zero a b = a
gcd_within (suc k) a b = if b == 0 then a else gcd_within k b (a % b)

-- the greatest common divisor of two numbers; for a number and 0 it is the number
unfoldable pub gcd : ℕ → ℕ → ℕ
gcd a b = gcd_within b a b
