-- The certificates of dual prices and of dual rays; none where a number exceeds the limit of certificates.
use Rattle.std.specs.Prelude.{ℕ, ◌^◌, ◌==◌, nat_lt, Bool, not, if◌then◌else◌, List, map, filter, Option, None, Some, option_map, ℤ, pos}
use Rattle.std.specs.Prelude.{unsigned_abs}
use Rattle.std.specs.List.{enumerate_from, list_any}
use Rattle.ip_defs.specs.Limits.{exceeds}
use Rattle.ip_defs.specs.declared.certificates.Cert.{Cert}
use Rattle.frac128.specs.Fractions.{Fraction}
use Rattle.frac128.specs.Rationals.{Rational}
use Rattle.frac128.specs.Values.{value_of}
use Rattle.dual_rays.specs.Multiples.{common_denominator, multiples, primitive}

-- the divisor of a certificate: none where it exceeds 2^36
abbrev pub divisor_of : ℕ → Option ℕ
divisor_of q = if nat_lt (2 ^ 36) q then None else Some q

-- a multiplier of a certificate: none where it exceeds 2^36 in absolute value
abbrev pub multiplier_of : ℤ → Option ℤ
multiplier_of z = if exceeds (2 ^ 36) z then None else Some z

-- the multiplier of a row is not 0
abbrev pub is_present : ℕ × ℤ → Bool
is_present p = not (unsigned_abs p.1 == 0)

-- the rows with their multipliers, without zeros
abbrev pub present : List ℤ → List (ℕ × ℤ)
present zs = filter is_present (enumerate_from 0 zs)

-- the multipliers of a certificate, given one number for each row: none where one exceeds 2^36 in absolute value
abbrev pub multipliers_of : List ℤ → Option (List (ℕ × ℤ))
multipliers_of zs = if list_any (exceeds (2 ^ 36)) zs then None else Some (present zs)

-- a certificate: none where the divisor or a multiplier exceeds 2^36 in absolute value
abbrev pub certificate_of : ℕ → List ℤ → Option Cert
certificate_of q zs = if nat_lt (2 ^ 36) q then None else option_map (λ y. record { q = pos q; y = y }) (multipliers_of zs)

-- the fractions as rational numbers
abbrev pub values : List Fraction → List Rational
values xs = map value_of xs

-- the certificate of prices: their least common denominator, and the prices times it
abbrev pub certificate_of_prices : List Fraction → Option Cert
certificate_of_prices xs = certificate_of (common_denominator (values xs)) (multiples (values xs))

-- the certificate of a ray: 0, and the least multiple of the ray in whole numbers
abbrev pub certificate_of_ray : List Fraction → Option Cert
certificate_of_ray xs = certificate_of 0 (primitive (multiples (values xs)))
