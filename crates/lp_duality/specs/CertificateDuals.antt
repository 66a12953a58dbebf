-- The multipliers of a certificate as rational numbers, one for each row.
use Rattle.std.specs.Prelude.{◌≡◌, ℕ, suc, ◌<◌, ℤ}
use Rattle.ip_defs.specs.Program.{coefficient}
use Rattle.ip_defs.specs.Certificates.{ceiling}
use Rattle.ip_defs.specs.declared.certificates.Cert.{Cert}
use Rattle.frac128.specs.Rationals.{Rational, of, mul}

-- the multiplier of a row, 0 where the certificate has none
abbrev pub multiplier : Cert → ℕ → Rational
multiplier c k = of (coefficient c.y k)

-- the multipliers of a certificate, for a number of rows, are a times other multipliers
abbrev pub AreMultiples : Cert → ℕ → Rational → (ℕ → Rational) → Type 0
AreMultiples c rows a y = (k : ℕ) → k < rows → multiplier c k ≡ mul a (y k)

-- a rational number rounded up
abbrev pub rounded_up : Rational → ℤ
rounded_up g = ceiling g.numerator (suc g.less)
