-- An optimal point of a node: a point of its relaxation, and a certificate that bounds by just its cost.
use Rattle.std.specs.Prelude.{◌≡◌, ℕ, List, Some, option_map, ℤ, pos, ◌<ℤ◌}
use Rattle.ip_defs.specs.Program.{at}
use Rattle.ip_defs.specs.Certificates.{dual_value}
use Rattle.ip_defs.specs.declared.certificates.Cert.{Cert}
use Rattle.ip_defs.specs.declared.programs.Parts.{Parts}
use Rattle.frac128.specs.Rationals.{Rational, of, mul, rational}
use Rattle.lp_duality.specs.Relaxations.{total_cost, IsRelaxed}

-- whole numbers over one denominator, as rational ones
abbrev pub point_of : ℤ → List ℤ → ℕ → Rational
point_of d n j = rational (at n j) d

-- a point of the relaxation of a box, and a certificate with a positive divisor that bounds there by just its cost
pub record IsOptimal (m : Parts) (b : List (ℤ × ℤ)) (x : ℕ → Rational) (c : Cert) : Type 0 where
  pub relaxed : IsRelaxed m b x
  pub positive : pos 0 <ℤ c.q
  pub dual : option_map of (dual_value m b c.q c.y) ≡ Some (mul (of c.q) (total_cost m x))
