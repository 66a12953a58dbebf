-- The laws of the simplex: each step can be made, and what final tableaus prove.
use Rattle.std.specs.Prelude.{◌≡◌, ◌≢◌, ℕ, ◌<◌, ◌≤◌, Bool, true, List, length, Some, None, Ok, ℤ, pos, ◌<ℤ◌}
use Rattle.frac128.specs.Rationals.{Rational, of, AtMost}
use Rattle.ip_defs.specs.Limits.{IsWithinLimits}
use Rattle.ip_defs.specs.declared.programs.Parts.{Parts}
use Rattle.lp_duality.specs.Relaxations.{total_cost, IsRelaxed, IsUncrossed}
use Rattle.lp_duality.specs.Duals.{dual}
use Rattle.tableau.specs.declared.positions.Rest.{Rest}
use Rattle.tableau.specs.declared.positions.Rest.TheVariants.{Basic}
use Rattle.tableau.specs.Tables.{Table, entry, basic_at, position_at, variable_at, CanRest, IsTable}
use Rattle.tableau.specs.Nodes.{StandsFor, HasItsPoints}
use Rattle.simplex_laws.specs.declared.next.Next.{Next}
use Rattle.simplex_laws.specs.declared.next.Next.TheVariants.{Pivot, Flip, FinalRow, FinalPoint}
use Rattle.simplex_laws.specs.Steps.{next, is_final}
use Rattle.simplex_laws.specs.Runs.{after}
use Rattle.simplex_laws.specs.Finals.{point_of, slack_prices, slack_ray}

-- ---- steps can be made
-- a variable that is not basic can enter in a row where its entry is not 0, and the row's basic variable can have the position to which it
-- leaves
pub record CanPivot (T : Table) (r v : ℕ) (leaving : Rest) : Type 0 where
  pub row : r < length T.rows
  pub variable : v < length T.variables
  pub pivot : (entry T.rows r v).num ≢ pos 0
  pub enters : position_at T.positions v ≢ Basic
  pub leaves : CanRest (variable_at T.variables (basic_at T.basics r)) leaving

-- a variable that is not basic has both sides
pub record CanFlip (T : Table) (v : ℕ) : Type 0 where
  pub variable : v < length T.variables
  pub position : CanRest (variable_at T.variables v) (position_at T.positions v)
  pub low : (variable_at T.variables v).low ≢ None
  pub high : (variable_at T.variables v).high ≢ None

-- a step can be made at a tableau; a final row is one of its rows
abbrev pub CanStep : Table → Next → Type 0
CanStep T (Pivot r v leaving) = CanPivot T r v leaving
CanStep T (Flip v) = CanFlip T v
CanStep T (FinalRow i up) = i < length T.rows
CanStep T FinalPoint = Unit {0}

-- the next step can be made
abbrev pub StepsCanBeMade : Type 0
StepsCanBeMade = (m : Parts) (b : List (ℤ × ℤ)) (T : Table) → IsTable T → StandsFor m b T → CanStep T (next T)

-- ---- final tableaus
-- where a tableau is final with a point, the point lies in the relaxation, and the dual value of the slacks' prices is what it costs
abbrev pub BestIsRight : Type 0
BestIsRight = (m : Parts) (b : List (ℤ × ℤ)) (T : Table) → IsTable T → StandsFor m b T → HasItsPoints m T → IsUncrossed m b →
    next T ≡ FinalPoint
    → IsRelaxed m b (point_of T) × (dual m b (of (pos 1)) (slack_prices m T) ≡ Some (total_cost m (point_of T)))

-- and no point of the relaxation costs less
abbrev pub BestIsLeast : Type 0
BestIsLeast = (m : Parts) (b : List (ℤ × ℤ)) (T : Table) → IsTable T → StandsFor m b T → HasItsPoints m T → IsUncrossed m b →
    next T ≡ FinalPoint
    → (x : ℕ → Rational) → IsRelaxed m b x → AtMost (total_cost m (point_of T)) (total_cost m x)

-- where it is final by a row, the row's slack entries, or their negations, have a positive dual value without a cost
abbrev pub EmptyIsRight : Type 0
EmptyIsRight = (m : Parts) (b : List (ℤ × ℤ)) (T : Table) (i : ℕ) (up : Bool) → IsTable T → StandsFor m b T → IsUncrossed m b →
    next T ≡ FinalRow i up
    → (gain : Rational) × (dual m b (of (pos 0)) (slack_ray m T i up) ≡ Some gain) × (pos 0 <ℤ gain.numerator)

-- and the relaxation has no point
abbrev pub EmptyHasNoPoint : Type 0
EmptyHasNoPoint = (m : Parts) (b : List (ℤ × ℤ)) (T : Table) (i : ℕ) (up : Bool) → IsTable T → StandsFor m b T → IsUncrossed m b →
    next T ≡ FinalRow i up
    → (x : ℕ → Rational) → ¬ IsRelaxed m b x

-- ---- runs
-- a tableau of a node: its lists fit together, it stands for the node, and only points of the node make its rows 0
pub record IsTableOf (m : Parts) (b : List (ℤ × ℤ)) (T : Table) : Type 0 where
  pub table : IsTable T
  pub stands : StandsFor m b T
  pub points : HasItsPoints m T

-- each tableau that the steps reach is one of the node
abbrev pub RunsStand : Type 0
RunsStand = (m : Parts) (b : List (ℤ × ℤ)) (n : ℕ) (T : Table) → IsWithinLimits m → length b ≡ length m.columns → after m b n ≡ Ok T →
    IsTableOf m b T

-- a final tableau stays
abbrev pub FinalsStay : Type 0
FinalsStay = (m : Parts) (b : List (ℤ × ℤ)) (k n : ℕ) (T : Table) → after m b k ≡ Ok T → is_final (next T) ≡ true → k ≤ n →
    after m b n ≡ Ok T

-- where there is a tableau after n steps, there is one after fewer
abbrev pub RunsHaveBegun : Type 0
RunsHaveBegun = (m : Parts) (b : List (ℤ × ℤ)) (k n : ℕ) (T : Table) → k ≤ n → after m b n ≡ Ok T → (U : Table) × (after m b k ≡ Ok U)
