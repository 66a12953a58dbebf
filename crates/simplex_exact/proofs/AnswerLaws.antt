-- What is read off a final tableau of a node, as an answer.
use Rattle.std.specs.Prelude.{◌≡◌, ℕ, Bool, List, length, ℤ}
use Rattle.std.proofs.Common.{sym}
use Rattle.frac128.specs.Fractions.{Fraction}
use Rattle.ip_defs.specs.Limits.{IsWithinLimits}
use Rattle.ip_defs.specs.declared.programs.Parts.{Parts}
use Rattle.lp_duality.specs.Relaxations.{numbers_of, IsUncrossed}
use Rattle.tableau.specs.Tables.{Table}
use Rattle.simplex_laws.specs.declared.next.Next.{Next}
use Rattle.simplex_laws.specs.declared.next.Next.TheVariants.{Pivot, Flip, FinalRow, FinalPoint}
use Rattle.simplex_laws.specs.Steps.{next}
use Rattle.simplex_laws.specs.Runs.{IsReached}
use Rattle.simplex_laws.specs.Wides.{wide_number}
use Rattle.simplex_laws.specs.Finals.{point_of, slack_prices, slack_ray}
use Rattle.simplex_laws.specs.Laws.{IsTableOf}
use Rattle.simplex_laws.proofs.ReadLaws.{best_as_read, empty_as_read}
use Rattle.simplex_laws.proofs.RunLaws.{runs_stand}
use Rattle.simplex_exact.specs.declared.answers.LpAnswer.{LpAnswer}
use Rattle.simplex_exact.specs.declared.answers.LpAnswer.TheVariants.{Best, Empty, Stopped, Wide}
use Rattle.simplex_exact.specs.Answers.{IsLpAnswer, IsBest, IsInfeasible, AreNumbers}
use Rattle.simplex_exact.specs.Internal.Reads.{IsRead}

module _ (m : Parts) (b : List (ℤ × ℤ)) (n : ℕ) (T : Table) (limits : IsWithinLimits m) (size : length b ≡ length m.columns)
    (uncrossed : IsUncrossed m b) (reached : IsReached m b n T) where
  of_node : IsTableOf m b T
  of_node = runs_stand m b n T limits size reached.after

  best_is : (x y : List Fraction) → next T ≡ FinalPoint → AreNumbers (length m.columns) (point_of T) x →
      AreNumbers (length m.rows) (slack_prices m T) y → IsBest m b n x y
  best_is x y final point prices =
      let right = best_as_read m b T of_node uncrossed final (numbers_of x) (numbers_of y) point.numbers prices.numbers in
      record { tableau = T; reached = reached; final = final; point = point; prices = prices; relaxed = right.0; dual = right.1 }

  empty_is : (i : ℕ) (up : Bool) (y : List Fraction) → next T ≡ FinalRow i up → AreNumbers (length m.rows) (slack_ray m T i up) y →
      IsInfeasible m b n y
  empty_is i up y final ray =
      let is = empty_as_read m b T of_node uncrossed i up final (numbers_of y) ray.numbers in
      record { tableau = T; row = i; up = up; reached = reached; final = final; ray = ray; gain = is.0; dual = is.1; positive = is.2 }

  -- what is read off a final tableau is an answer
  pub read_is : (s : Next) (answer : LpAnswer) → s ≡ next T → IsRead T (length m.columns) (length m.rows) s answer
      → IsLpAnswer m b n answer
  read_is (Pivot r v leaving) answer e h = absurd h
  read_is (Flip v) answer e h = absurd h
  read_is (FinalRow i up) (Best x y) e h = absurd h
  read_is (FinalRow i up) (Empty y) e h = empty_is i up y (sym e) h
  read_is (FinalRow i up) Stopped e h = absurd h
  read_is (FinalRow i up) Wide e h = absurd h
  read_is FinalPoint (Best x y) e h = best_is x y (sym e) h.0 h.1
  read_is FinalPoint (Empty y) e h = absurd h
  read_is FinalPoint Stopped e h = absurd h
  read_is FinalPoint Wide e h = wide_number T reached h
