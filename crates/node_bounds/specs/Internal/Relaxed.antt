-- What the linear program of a node says of its box.
use Rattle.std.specs.Prelude.{◌≡◌, ℕ, ◌^◌, List, length, Option, Some, option_map, ℤ, pos, neg_ℤ, ◌<ℤ◌}
use Rattle.frac128.specs.Fractions.{Fraction}
use Rattle.frac128.specs.Rationals.{Rational, of, mul, AtMost}
use Rattle.ip_defs.specs.Certificates.{dual_value}
use Rattle.ip_defs.specs.Limits.{IsCert}
use Rattle.ip_defs.specs.declared.certificates.Cert.{Cert}
use Rattle.ip_defs.specs.declared.programs.Parts.{Parts}
use Rattle.lp_duality.specs.Relaxations.{numbers_of, total_cost, IsRelaxed}
use Rattle.simplex_laws.specs.Runs.{IsNotFinal}
use Rattle.node_bounds.specs.declared.reasons.Why.{Why}
use Rattle.node_bounds.specs.declared.reasons.Why.TheVariants.{Fractional, Stopped, Wide}
use Rattle.node_bounds.specs.declared.relaxations.Relaxed.{Relaxed}
use Rattle.node_bounds.specs.declared.relaxations.Relaxed.TheVariants.{Closed, Whole, Between, Unanswered}
use Rattle.node_bounds.specs.declared.tasks.Task.{Task}
use Rattle.node_bounds.specs.Stops.{stops}
use Rattle.node_bounds.specs.Reasons.{IsWideAt}
use Rattle.node_bounds.specs.Nodes.{IsEnd, IsSplit, IsWholeEnd}

-- a rational number is whole
abbrev pub IsWholeNumber : Rational → Type 0
IsWholeNumber p = (z : ℤ) × (p ≡ of z)

-- it lies between -2^24 and 2^24
pub record IsSmallNumber (p : Rational) : Type 0 where
  pub low : AtMost (of (neg_ℤ (pos (2 ^ 24)))) p
  pub high : AtMost p (of (pos (2 ^ 24)))

-- a point of a box's relaxation, and a certificate that bounds by just its cost
pub record IsBounded (m : Parts) (b : List (ℤ × ℤ)) (x : List Fraction) (c : Cert) : Type 0 where
  pub size : length x ≡ length m.columns
  pub relaxed : IsRelaxed m b (numbers_of x)
  pub certificate : IsCert (length m.rows) c
  pub positive : pos 0 <ℤ c.q
  pub dual : option_map of (dual_value m b c.q c.y) ≡ Some (mul (of c.q) (total_cost m (numbers_of x)))

-- a reason without an answer is true of a box
abbrev pub IsUnanswered : Parts → ℕ → List (ℤ × ℤ) → Why → Type 0
IsUnanswered m pivots b (Fractional x c) = ⊥
IsUnanswered m pivots b Stopped = IsNotFinal m b pivots
IsUnanswered m pivots b Wide = IsWideAt m b pivots

-- what is said of a box holds
abbrev pub IsRelaxedNode : Parts → ℕ → List (ℤ × ℤ) → Option ℤ → Relaxed → Type 0
IsRelaxedNode m pivots b cut_at (Closed c) = IsEnd m b cut_at c
IsRelaxedNode m pivots b cut_at (Whole x w c) = IsWholeEnd m b cut_at x w c
IsRelaxedNode m pivots b cut_at (Between col cut why) = IsSplit m pivots b col cut why
IsRelaxedNode m pivots b cut_at (Unanswered why) = IsUnanswered m pivots b why

-- so for a task
abbrev pub IsRelaxedFor : Task → Relaxed → Type 0
IsRelaxedFor t r = IsRelaxedNode t.model.now t.pivots t.area.now t.cut_at r

-- how often the linear program was stopped
abbrev pub stops_by : Relaxed → ℕ
stops_by (Closed c) = 0
stops_by (Whole x w c) = 0
stops_by (Between col cut why) = stops why
stops_by (Unanswered why) = stops why
