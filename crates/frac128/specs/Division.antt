-- Quotients of whole numbers, rounded down and up.
use Rattle.std.specs.Prelude.{ℤ, neg_ℤ}
use Rattle.std.specs.Int.{int_div_euclid}

-- a / b rounded down, for a positive b
abbrev pub floor_of : ℤ → ℤ → ℤ
floor_of a b = int_div_euclid a b

-- a / b rounded up
abbrev pub ceiling_of : ℤ → ℤ → ℤ
ceiling_of a b = neg_ℤ (floor_of (neg_ℤ a) b)
