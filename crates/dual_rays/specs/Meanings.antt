-- What the certificates of dual prices and of dual rays mean, in terms of the prices and the ray.
use Rattle.std.specs.Prelude.{◌≡◌, ◌≢◌, ℕ, ◌<◌, List, length, Some, ℤ, pos, ◌≤ℤ◌, ◌<ℤ◌, unsigned_abs}
use Rattle.std.specs.Int.{◌∣◌}
use Rattle.ip_defs.specs.Boxes.{IsOpen}
use Rattle.ip_defs.specs.Program.{coefficient}
use Rattle.ip_defs.specs.Certificates.{leaf_bound}
use Rattle.ip_defs.specs.Limits.{IsCert}
use Rattle.ip_defs.specs.declared.programs.Parts.{Parts}
use Rattle.ip_defs.specs.declared.certificates.Cert.{Cert}
use Rattle.ip_defs.specs.declared.certificates.Bound.TheVariants.{At, Infinite}
use Rattle.frac128.specs.Fractions.{Fraction}
use Rattle.frac128.specs.Rationals.{Rational, of, mul}
use Rattle.lp_duality.specs.Relaxations.{numbers_of}
use Rattle.lp_duality.specs.Duals.{dual}
use Rattle.lp_duality.specs.CertificateDuals.{AreMultiples, rounded_up}

-- a rational number is whole
abbrev pub IsWhole : Rational → Type 0
IsWhole p = (z : ℤ) × (p ≡ of z)

-- n times each number is whole
abbrev pub MakesWhole : List Fraction → ℤ → Type 0
MakesWhole xs n = (k : ℕ) → k < length xs → IsWhole (mul (of n) (numbers_of xs k))

-- a certificate of prices: its multipliers are q times the prices, for the least positive q for which these are whole
pub record IsOfPrices (xs : List Fraction) (c : Cert) : Type 0 where
  pub certificate : IsCert (length xs) c
  pub positive : pos 0 <ℤ c.q
  pub multipliers : AreMultiples c (length xs) (of c.q) (numbers_of xs)
  pub least : (n : ℤ) → pos 0 <ℤ n → MakesWhole xs n → c.q ≤ℤ n

-- some number is not 0
abbrev pub IsPresent : List Fraction → Type 0
IsPresent xs = (k : ℕ) × (k < length xs) × (numbers_of xs k ≢ of (pos 0))

-- a certificate of a ray: q is 0, and its multipliers are a positive multiple of the ray's numbers, whole and with no common divisor
pub record IsOfRay (xs : List Fraction) (c : Cert) : Type 0 where
  pub certificate : IsCert (length xs) c
  pub zero : c.q ≡ pos 0
  pub multipliers : (a : Rational) × (pos 0 <ℤ a.numerator) × AreMultiples c (length xs) a (numbers_of xs)
  pub lowest : (n : ℕ) → IsPresent xs → ((k : ℕ) → k < length xs → n ∣ unsigned_abs (coefficient c.y k)) → n ≡ 1

-- over a box without an empty column, the leaf bound of the certificate is the dual value of the prices, rounded up
abbrev pub BoundsByPrices : List Fraction → Cert → Type 0
BoundsByPrices xs c = (m : Parts) (b : List (ℤ × ℤ)) (g : Rational) → length m.rows ≡ length xs → length b ≡ length m.columns → IsOpen b →
    dual m b (of (pos 1)) (numbers_of xs) ≡ Some g → leaf_bound m b c ≡ At (rounded_up g)

-- over a box where the dual value of the ray is positive, the leaf bound of the certificate is infinite
abbrev pub BoundsByRay : List Fraction → Cert → Type 0
BoundsByRay xs c = (m : Parts) (b : List (ℤ × ℤ)) (g : Rational) → length m.rows ≡ length xs → length b ≡ length m.columns →
    dual m b (of (pos 0)) (numbers_of xs) ≡ Some g → pos 0 <ℤ g.numerator → leaf_bound m b c ≡ Infinite

-- no certificate within the limits has a positive q and as multipliers q times the prices
abbrev pub HasNoCertificate : List Fraction → Type 0
HasNoCertificate xs = (c : Cert) → IsCert (length xs) c → pos 0 <ℤ c.q → ¬ AreMultiples c (length xs) (of c.q) (numbers_of xs)

-- no certificate within the limits has as multipliers a positive multiple of the ray
abbrev pub HasNoRay : List Fraction → Type 0
HasNoRay xs = (c : Cert) (a : Rational) → IsCert (length xs) c → pos 0 <ℤ a.numerator → ¬ AreMultiples c (length xs) a (numbers_of xs)
