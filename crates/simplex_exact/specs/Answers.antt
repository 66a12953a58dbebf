-- What the answer of the linear program of a node says.
use Rattle.std.specs.Prelude.{◌≡◌, ℕ, ◌<◌, Bool, List, length, Some, ℤ, pos, ◌<ℤ◌}
use Rattle.frac128.specs.Fractions.{Fraction}
use Rattle.frac128.specs.Rationals.{Rational, of}
use Rattle.ip_defs.specs.declared.programs.Parts.{Parts}
use Rattle.lp_duality.specs.Relaxations.{numbers_of, IsRelaxed, total_cost}
use Rattle.lp_duality.specs.Duals.{dual}
use Rattle.tableau.specs.Tables.{Table}
use Rattle.simplex_laws.specs.declared.next.Next.TheVariants.{FinalRow, FinalPoint}
use Rattle.simplex_laws.specs.Steps.{next}
use Rattle.simplex_laws.specs.Runs.{IsNotFinal, IsReached}
use Rattle.simplex_laws.specs.Wides.{IsWideAfter}
use Rattle.simplex_laws.specs.Finals.{point_of, slack_prices, slack_ray}
use Rattle.simplex_exact.specs.declared.answers.LpAnswer.{LpAnswer}
use Rattle.simplex_exact.specs.declared.answers.LpAnswer.TheVariants.{Best, Empty, Stopped, Wide}

-- a list holds n numbers
pub record AreNumbers (n : ℕ) (f : ℕ → Rational) (xs : List Fraction) : Type 0 where
  pub size : length xs ≡ n
  pub numbers : (k : ℕ) → k < n → numbers_of xs k ≡ f k

-- the tableau after just n steps is final with a point: it is a point of the relaxation, and the dual value of the prices is its cost
pub record IsBest (m : Parts) (b : List (ℤ × ℤ)) (n : ℕ) (x y : List Fraction) : Type 0 where
  pub tableau : Table
  pub reached : IsReached m b n tableau
  pub final : next tableau ≡ FinalPoint
  pub point : AreNumbers (length m.columns) (point_of tableau) x
  pub prices : AreNumbers (length m.rows) (slack_prices m tableau) y
  pub relaxed : IsRelaxed m b (numbers_of x)
  pub dual : dual m b (of (pos 1)) (numbers_of y) ≡ Some (total_cost m (numbers_of x))

-- the tableau after just n steps is final by a row, and the dual value of its multipliers without the cost is positive
pub record IsInfeasible (m : Parts) (b : List (ℤ × ℤ)) (n : ℕ) (y : List Fraction) : Type 0 where
  pub tableau : Table
  pub row : ℕ
  pub up : Bool
  pub reached : IsReached m b n tableau
  pub final : next tableau ≡ FinalRow row up
  pub ray : AreNumbers (length m.rows) (slack_ray m tableau row up) y
  pub gain : Rational
  pub dual : dual m b (of (pos 0)) (numbers_of y) ≡ Some gain
  pub positive : pos 0 <ℤ gain.numerator

-- what an answer after n steps says of a node
abbrev pub IsLpAnswer : Parts → List (ℤ × ℤ) → ℕ → LpAnswer → Type 0
IsLpAnswer m b n (Best point prices) = IsBest m b n point prices
IsLpAnswer m b n (Empty ray) = IsInfeasible m b n ray
IsLpAnswer m b n Stopped = IsNotFinal m b n
IsLpAnswer m b n Wide = IsWideAfter m b n
