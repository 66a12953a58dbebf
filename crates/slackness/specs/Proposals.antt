-- Which proposals the check accepts.
use Rattle.std.specs.Prelude.{ℕ, ◌^◌, List, length, ℤ, pos, ◌≤ℤ◌, ◌<ℤ◌}
use Rattle.ip_defs.specs.Limits.{IsCert}
use Rattle.ip_defs.specs.declared.programs.Parts.{Parts}
use Rattle.frac128.specs.Rationals.{Rational}
use Rattle.slackness.specs.Points.{point_of}
use Rattle.slackness.specs.Tight.{IsTight}
use Rattle.slackness.specs.declared.proposals.Proposal.{Proposal}

-- the point of a proposal
abbrev pub point_of_proposal : Proposal → ℕ → Rational
point_of_proposal p = point_of p.denominator p.numerators

-- a denominator is positive, and so small that each number of the check has at most 127 bits
pub record HasSmallDenominator (d : ℤ) : Type 0 where
  pub positive : pos 0 <ℤ d
  pub small : d ≤ℤ pos (2 ^ 50)

-- a proposal with a small denominator and a certificate within its limits, of which point and certificate are tight
pub record IsRight (m : Parts) (b : List (ℤ × ℤ)) (p : Proposal) : Type 0 where
  pub denominator : HasSmallDenominator p.denominator
  pub cert : IsCert (length m.rows) p.cert
  pub tight : IsTight m b p.denominator p.numerators p.cert
