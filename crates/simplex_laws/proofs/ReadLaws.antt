-- Numbers that are those of a final tableau have its laws: for a point whose columns are the tableau's, and multipliers that are its
-- prices or its ray.
use Rattle.std.specs.Prelude.{◌≡◌, ℕ, ◌<◌, Bool, List, length, Some, ℤ, pos, ◌<ℤ◌}
use Rattle.std.proofs.Common.{ap, sym, ◌∙◌, subst}
use Rattle.ring_laws.proofs.Sums.{sum_same}
use Rattle.frac128.specs.Rationals.{Rational, of, add, mul, AtMost}
use Rattle.frac128.proofs.Rationals.{rationals}
use Rattle.ip_defs.specs.Program.{low_at, high_at}
use Rattle.ip_defs.specs.Certificates.{coefficient_of}
use Rattle.ip_defs.specs.declared.programs.Parts.{Parts}
use Rattle.lp_duality.specs.Relaxations.{row_low, row_high, cost_of, row_total, total_cost, IsBetween, IsRelaxed, IsUncrossed}
use Rattle.lp_duality.specs.Duals.{dual}
use Rattle.lp_duality.proofs.ScaleLaws.{dual_same}
use Rattle.tableau.specs.Tables.{Table}
use Rattle.simplex_laws.specs.declared.next.Next.TheVariants.{FinalRow, FinalPoint}
use Rattle.simplex_laws.specs.Steps.{next}
use Rattle.simplex_laws.specs.Finals.{point_of, slack_prices, slack_ray}
use Rattle.simplex_laws.specs.Laws.{IsTableOf}
use Rattle.simplex_laws.proofs.BestLaws.{best_is_right}
use Rattle.simplex_laws.proofs.EmptyLaws.{empty_is_right}

-- ---- points with the same columns
module _ (m : Parts) (x z : ℕ → Rational) (same : (j : ℕ) → j < length m.columns → x j ≡ z j) where
  row_total_same : (k : ℕ) → row_total m z k ≡ row_total m x k
  row_total_same k = sum_same rationals (λ j. mul (of (coefficient_of m.rows k j)) (z j)) (λ j. mul (of (coefficient_of m.rows k j)) (x j))
      (length m.columns) (λ j l. ap (mul (of (coefficient_of m.rows k j))) (sym (same j l)))

  pub total_cost_same : total_cost m z ≡ total_cost m x
  total_cost_same = ap (add (of m.constant)) (sum_same rationals (λ j. mul (cost_of m j) (z j)) (λ j. mul (cost_of m j) (x j))
      (length m.columns) (λ j l. ap (mul (cost_of m j)) (sym (same j l))))

  pub relaxed_same : (b : List (ℤ × ℤ)) → IsRelaxed m b z → IsRelaxed m b x
  relaxed_same b r = record {
    low = λ j l. subst (AtMost (of (low_at b j))) (sym (same j l)) (r.low j l);
    high = λ j l. subst (λ (p : Rational). AtMost p (of (high_at b j))) (sym (same j l)) (r.high j l);
    rows = λ k l. subst (IsBetween (row_low m k) (row_high m k)) (row_total_same k) (r.rows k l);
  }

-- ---- what is read off a final tableau
module _ (m : Parts) (b : List (ℤ × ℤ)) (T : Table) (of_node : IsTableOf m b T) (ok : IsUncrossed m b) where
  -- a point and prices that are the tableau's
  pub best_as_read : next T ≡ FinalPoint → (x y : ℕ → Rational) → ((j : ℕ) → j < length m.columns → x j ≡ point_of T j) →
      ((k : ℕ) → k < length m.rows → y k ≡ slack_prices m T k)
      → IsRelaxed m b x × (dual m b (of (pos 1)) y ≡ Some (total_cost m x))
  best_as_read e x y point prices =
      let r = best_is_right m b T of_node.table of_node.stands of_node.points ok e in (
        relaxed_same m x (point_of T) point b r.0,
        dual_same m b (of (pos 1)) y (slack_prices m T) prices ∙ r.1
            ∙ ap Some (total_cost_same m x (point_of T) point),
      )

  -- multipliers that are the tableau's ray
  pub empty_as_read : (i : ℕ) (up : Bool) → next T ≡ FinalRow i up → (y : ℕ → Rational) →
      ((k : ℕ) → k < length m.rows → y k ≡ slack_ray m T i up k)
      → (gain : Rational) × (dual m b (of (pos 0)) y ≡ Some gain) × (pos 0 <ℤ gain.numerator)
  empty_as_read i up e y ray =
      let r = empty_is_right m b T i up of_node.table of_node.stands ok e in
      (r.0, dual_same m b (of (pos 0)) y (slack_ray m T i up) ray ∙ r.1, r.2)
