-- Dual values over the rational numbers, for one multiplier of each row. The dual value of a certificate, which is over the whole
-- numbers, is that of its multipliers.
use Rattle.std.specs.Prelude.{ℕ, zero, suc, if◌then◌else◌, List, length, Option, Some, option_map, option_and_then, ℤ, pos, ◌*ℤ◌, Bool}
use Rattle.std.specs.Int.Signed.{lt_z}
use Rattle.ip_defs.specs.Program.{low_at, high_at}
use Rattle.ip_defs.specs.Certificates.{coefficient_of}
use Rattle.ip_defs.specs.declared.programs.Parts.{Parts}
use Rattle.frac128.specs.Rationals.{Rational, denominator, of, add, sub, mul, sum}
use Rattle.lp_duality.specs.Relaxations.{row_low, row_high, cost_of}

-- a number is below another one, by their cross products
abbrev pub is_below : Rational → Rational → Bool
is_below p q = lt_z (p.numerator *ℤ denominator q) (q.numerator *ℤ denominator p)

abbrev pub lesser : Rational → Rational → Rational
lesser p q = if is_below q p then q else p

-- the payment of a multiplier: multiplier times the low side for a positive one, times the high side for a negative one, and 0 for 0
abbrev pub paid : Rational → Option ℤ → Option ℤ → Option Rational
paid y low high =
    if lt_z (pos 0) y.numerator then option_map (λ side. mul y (of side)) low
    else if lt_z y.numerator (pos 0) then option_map (λ side. mul y (of side)) high else Some (of (pos 0))

-- f 0 + .. + f (n - 1), none where one of them is none
abbrev pub sum_of_all : (ℕ → Option Rational) → ℕ → Option Rational
sum_of_all f zero = Some (of (pos 0))
sum_of_all f (suc n) = option_and_then (λ a. option_map (λ c. add a c) (f n)) (sum_of_all f n)

-- the reduced cost of a column, times q: q times its cost, less the sum over the rows of multiplier times coefficient
abbrev pub left_of : Parts → Rational → (ℕ → Rational) → ℕ → Rational
left_of m q y j = sub (mul q (cost_of m j)) (sum (λ k. mul (y k) (of (coefficient_of m.rows k j))) (length m.rows))

-- the dual value of q and multipliers over a box, none where a payment is none
abbrev pub dual : Parts → List (ℤ × ℤ) → Rational → (ℕ → Rational) → Option Rational
dual m b q y =
    option_map (λ pay. add (add pay (mul q (of m.constant)))
    (sum (λ j. lesser (mul (left_of m q y j) (of (low_at b j))) (mul (left_of m q y j) (of (high_at b j)))) (length m.columns)))
    (sum_of_all (λ k. paid (y k) (row_low m k) (row_high m k)) (length m.rows))
