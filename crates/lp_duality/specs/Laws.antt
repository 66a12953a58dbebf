-- Laws of dual values: multiples, certificates, and weak duality over relaxations.
use Rattle.std.specs.Prelude.{◌≡◌, ℕ, List, length, Some, option_map, ℤ, pos, ◌<ℤ◌}
use Rattle.ip_defs.specs.Boxes.{IsOpen}
use Rattle.ip_defs.specs.Program.{at, IsIn, IsFeasible, cost}
use Rattle.ip_defs.specs.Certificates.{dual_value, leaf_bound}
use Rattle.ip_defs.specs.Limits.{AreOrdered}
use Rattle.ip_defs.specs.declared.programs.Parts.{Parts}
use Rattle.ip_defs.specs.declared.certificates.Cert.{Cert}
use Rattle.ip_defs.specs.declared.certificates.Bound.TheVariants.{At, Infinite}
use Rattle.frac128.specs.Rationals.{Rational, of, mul, AtMost}
use Rattle.lp_duality.specs.Relaxations.{total_cost, IsRelaxed}
use Rattle.lp_duality.specs.Duals.{dual}
use Rattle.lp_duality.specs.CertificateDuals.{multiplier, AreMultiples, rounded_up}

-- a positive multiple of q and the multipliers has that multiple of the dual value
abbrev pub DualsAreScaled : Type 0
DualsAreScaled = (m : Parts) (b : List (ℤ × ℤ)) (a q : Rational) (y : ℕ → Rational) → pos 0 <ℤ a.numerator →
    dual m b (mul a q) (λ k. mul a (y k)) ≡ option_map (mul a) (dual m b q y)

-- the dual value of a certificate is that of its multipliers
abbrev pub CertificatesHaveTheirDuals : Type 0
CertificatesHaveTheirDuals = (m : Parts) (b : List (ℤ × ℤ)) (c : Cert) → AreOrdered (length m.rows) c.y → length b ≡ length m.columns →
    dual m b (of c.q) (multiplier c) ≡ option_map of (dual_value m b c.q c.y)

-- the leaf bound of a certificate whose multipliers are its positive q times y is the dual value of y, rounded up
abbrev pub PricesBound : Type 0
PricesBound = (m : Parts) (b : List (ℤ × ℤ)) (c : Cert) (y : ℕ → Rational) (g : Rational) → AreOrdered (length m.rows) c.y →
    length b ≡ length m.columns → IsOpen b → pos 0 <ℤ c.q → AreMultiples c (length m.rows) (of c.q) y → dual m b (of (pos 1)) y ≡ Some g →
    leaf_bound m b c ≡ At (rounded_up g)

-- the leaf bound of a certificate with q = 0 whose multipliers are a positive multiple of y is infinite, where the dual value of y is
-- positive
abbrev pub RaysBound : Type 0
RaysBound = (m : Parts) (b : List (ℤ × ℤ)) (c : Cert) (a : Rational) (y : ℕ → Rational) (g : Rational) → AreOrdered (length m.rows) c.y →
    length b ≡ length m.columns → c.q ≡ pos 0 → pos 0 <ℤ a.numerator → AreMultiples c (length m.rows) a y →
    dual m b (of (pos 0)) y ≡ Some g → pos 0 <ℤ g.numerator → leaf_bound m b c ≡ Infinite

-- weak duality over relaxations: a dual value is at most q times the cost of each point of the relaxation
abbrev pub RelaxedWeakDuality : Type 0
RelaxedWeakDuality = (m : Parts) (b : List (ℤ × ℤ)) (q : Rational) (y x : ℕ → Rational) (g : Rational) → IsRelaxed m b x →
    dual m b q y ≡ Some g → AtMost g (mul q (total_cost m x))

-- a feasible point in a box is a point of the relaxation there, and costs the same
abbrev pub FeasiblePointsAreRelaxed : Type 0
FeasiblePointsAreRelaxed = (m : Parts) (b : List (ℤ × ℤ)) (x : List ℤ) → length b ≡ length m.columns → IsFeasible m x → IsIn b x →
    IsRelaxed m b (λ j. of (at x j)) × (total_cost m (λ j. of (at x j)) ≡ of (cost m x))
