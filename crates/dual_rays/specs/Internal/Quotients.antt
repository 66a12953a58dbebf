-- A ray divided by the absolute value of its first number that is not 0.
use Rattle.std.specs.Prelude.{◌≡◌, ℕ, suc, ◌^◌, ◌<◌, ◌≤◌, ◌==◌, if◌then◌else◌, List, [], ◌∷◌, length, map, Option, None, Some}
use Rattle.std.specs.Prelude.{slice_index_or, pos, unsigned_abs}
use Rattle.std.proofs.Common.{◌⊎◌}
use Rattle.frac128.specs.Fractions.{Fraction}
use Rattle.frac128.specs.Rationals.{Rational, of, absolute, quotient}
use Rattle.dual_rays.specs.Certificates.{values}

-- the absolute value of the first number that is not 0
abbrev pub first_absolute : List Rational → Option Rational
first_absolute [] = None
first_absolute (p ∷ ps) = if unsigned_abs p.numerator == 0 then first_absolute ps else Some (absolute p)

-- the numerator or the denominator has more than 127 bits
abbrev pub IsWide : Rational → Type 0
IsWide p = (2 ^ 127 ≤ unsigned_abs p.numerator) ⊎ (2 ^ 127 ≤ suc p.less)

-- the number at an index
abbrev pub number_at : List Rational → ℕ → Rational
number_at ps k = slice_index_or ps k (of (pos 0))

-- the quotients of numbers by one divisor, none where one of them is wide
abbrev pub AreQuotients : List Rational → Rational → Option (List Fraction) → Type 0
AreQuotients ps s None = (k : ℕ) × (k < length ps) × IsWide (quotient (number_at ps k) s)
AreQuotients ps s (Some xs) = values xs ≡ map (λ p. quotient p s) ps
