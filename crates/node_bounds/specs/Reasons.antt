-- Why a node is split: its relaxation has a point between two whole numbers, or its linear program was stopped, or met a number that is
-- too wide.
use Rattle.std.specs.Prelude.{◌≡◌, ℕ, ◌≤◌, List, length, None, Some, option_map, ℤ, pos, ◌+ℤ◌, ◌<ℤ◌}
use Rattle.frac128.specs.Fractions.{Fraction}
use Rattle.frac128.specs.Rationals.{of, mul, IsBelow}
use Rattle.ip_defs.specs.Certificates.{dual_value}
use Rattle.ip_defs.specs.Limits.{IsCert}
use Rattle.ip_defs.specs.declared.certificates.Cert.{Cert}
use Rattle.ip_defs.specs.declared.programs.Parts.{Parts}
use Rattle.lp_duality.specs.Relaxations.{numbers_of, total_cost, IsRelaxed}
use Rattle.dual_rays.specs.Certificates.{certificate_of_prices, certificate_of_ray}
use Rattle.simplex_laws.specs.Runs.{IsNotFinal}
use Rattle.simplex_laws.specs.Wides.{IsWideAfter}
use Rattle.simplex_exact.specs.Answers.{IsBest, IsInfeasible}
use Rattle.node_bounds.specs.declared.reasons.Why.{Why}
use Rattle.node_bounds.specs.declared.reasons.Why.TheVariants.{Fractional, Stopped, Wide}
use Rattle.proof_tree.specs.LabelledTrees.{Split, split_at}
use Rattle.node_bounds.specs.Splits.{IsProper, IsHalving}

-- a point of the relaxation of a split's box lies between the two halves, and the certificate there bounds by just its cost
pub record IsFractional (m : Parts) (s : Split) (x : List Fraction) (c : Cert) : Type 0 where
  pub size : length x ≡ length m.columns
  pub relaxed : IsRelaxed m s.box (numbers_of x)
  pub certificate : IsCert (length m.rows) c
  pub positive : pos 0 <ℤ c.q
  pub dual : option_map of (dual_value m s.box c.q c.y) ≡ Some (mul (of c.q) (total_cost m (numbers_of x)))
  pub more_than_cut : IsBelow (of s.cut) (numbers_of x s.col)
  pub less_than_next : IsBelow (numbers_of x s.col) (of (s.cut +ℤ pos 1))

-- within a number of steps the linear program of a box leaves the range of fractions, or ends with prices or a ray that no certificate
-- holds
pub data IsWideAt (m : Parts) (b : List (ℤ × ℤ)) (pivots : ℕ) : Type 0 where
  wide_run : (n : ℕ) → n ≤ pivots → IsWideAfter m b n → IsWideAt m b pivots
  long_prices : (n : ℕ) (x y : List Fraction) → n ≤ pivots → IsBest m b n x y → certificate_of_prices y ≡ None → IsWideAt m b pivots
  long_ray : (n : ℕ) (y : List Fraction) → n ≤ pivots → IsInfeasible m b n y → certificate_of_ray y ≡ None → IsWideAt m b pivots

-- a reason for a split of a box of a program is true, where linear programs may take a number of steps
abbrev pub IsTrueReason : Parts → ℕ → Split → Why → Type 0
IsTrueReason m pivots s (Fractional x c) = IsFractional m s x c
IsTrueReason m pivots s Stopped = IsHalving s × IsNotFinal m s.box pivots
IsTrueReason m pivots s Wide = IsHalving s × IsWideAt m s.box pivots

-- a proper split with a true reason
abbrev pub IsReasoned : Parts → ℕ → Split → Why → Type 0
IsReasoned m pivots s why = IsProper s × IsTrueReason m pivots s why

-- a reason is true of some proper split of a box
pub record IsStuckFor (m : Parts) (pivots : ℕ) (b : List (ℤ × ℤ)) (why : Why) : Type 0 where
  pub col : ℕ
  pub cut : ℤ
  pub reasoned : IsReasoned m pivots (split_at b col cut) why
