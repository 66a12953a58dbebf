-- The laws of cost sweeps.
use Rattle.std.specs.Prelude.{◌≡◌, ℕ, ◌+◌, ◌<◌, List, length, ℤ, pos, ◌+ℤ◌, ◌*ℤ◌, ◌≤ℤ◌, ◌<ℤ◌}
use Rattle.ip_defs.specs.Program.{costs_of, cost, IsLeast}
use Rattle.ip_defs.specs.declared.programs.Parts.{Parts}
use Rattle.perturbation.specs.Lines.{program_at}
use Rattle.frac128.specs.Fractions.{Fraction}
use Rattle.sweep_proof.specs.CostRules.{cost_rules}
use Rattle.sweep_proof.specs.CostSweeps.{break_at, point_at, total, FitsCostSweep, IsBetween, IsDirection, IsExactCostSweep}
use Rattle.sweep_proof.specs.CostSweeps.{IsLeastBetween}
use Rattle.sweep_proof.specs.declared.cost_sweeps.CostSweep.{CostSweep}
use Rattle.sweep_proof.specs.declared.verdicts.SweepVerdict.TheVariants.{Proved}

-- in the model at p/q a point costs q times its sum of costs, without the constant, and p times its slope
abbrev pub CostsAreLines : Type 0
CostsAreLines = (m : Parts) (d : List ℤ) (p q : ℤ) (x : List ℤ) → length d ≡ length m.columns
    → cost (program_at m d p q) x ≡ q *ℤ total (costs_of m) x +ℤ p *ℤ total d x

-- a point that is optimal at two parameters is optimal at each one between
abbrev pub PointsAreLeastBetween : Type 0
PointsAreLeastBetween = (m : Parts) (d : List ℤ) (a b : Fraction) (x : List ℤ) → length d ≡ length m.columns
    → pos 0 <ℤ a.den → pos 0 <ℤ b.den → IsLeast (program_at m d a.num a.den) x → IsLeast (program_at m d b.num b.den) x
    → IsLeastBetween m d a b x

-- a proof that the rules call proved is of an exact sweep
abbrev pub CostRulesAreTrue : Type 0
CostRulesAreTrue = (m : Parts) (d : List ℤ) (from to : ℤ) (s : CostSweep) → FitsCostSweep m s → IsDirection m d
    → cost_rules m d from to s ≡ Proved → IsExactCostSweep m d from to s.breaks s.points

-- the piece of a parameter, whose point is optimal there
pub record IsPieceOf (m : Parts) (d : List ℤ) (bs : List Fraction) (xs : List (List ℤ)) (p q : ℤ) : Type 0 where
  pub number : ℕ
  pub inside : number < length xs
  pub between : IsBetween (break_at bs number) (break_at bs (number + 1)) p q
  pub least : IsLeast (program_at m d p q) (point_at xs number)

-- an exact sweep with a point has an optimal point of each rational parameter from its first to its last one
abbrev pub ExactCostSweepsHavePoints : Type 0
ExactCostSweepsHavePoints = (m : Parts) (d : List ℤ) (from to : ℤ) (bs : List Fraction) (xs : List (List ℤ)) → 0 < length xs
    → IsExactCostSweep m d from to bs xs → (p q : ℤ) → pos 0 <ℤ q → (from *ℤ q) ≤ℤ p → p ≤ℤ (to *ℤ q) → IsPieceOf m d bs xs p q
