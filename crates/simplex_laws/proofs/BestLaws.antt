-- A tableau that is final with a point: the point lies in the relaxation, and the dual value of its prices is what the point costs.
use Rattle.std.specs.Prelude.{◌≡◌, ℕ, ◌+◌, ◌<◌, List, length, Some, ℤ, pos}
use Rattle.std.proofs.Common.{arith, refl, ap, sym, ◌∙◌, subst}
use Rattle.ring_laws.proofs.Rings.{zero_mul, one_mul}
use Rattle.ring_laws.proofs.Normal.{num, ◌⊕◌, ◌⊗◌}
use Rattle.ring_laws.proofs.Named.{ring2}
use Rattle.ring_laws.proofs.Sums.{sum, sum_same, sum_zero}
use Rattle.frac128.specs.Rationals.{Rational, of, add, sub, mul, AtMost}
use Rattle.frac128.proofs.Rationals.{rationals}
use Rattle.ip_defs.specs.Program.{low_at, high_at}
use Rattle.ip_defs.specs.Certificates.{coefficient_of}
use Rattle.ip_defs.specs.declared.programs.Parts.{Parts}
use Rattle.lp_duality.specs.Relaxations.{cost_of, row_total, total_cost, IsBetween, IsRelaxed, IsUncrossed}
use Rattle.lp_duality.specs.Duals.{left_of, dual}
use Rattle.lp_duality.proofs.WeakDualityLaws.{relaxed_weak_duality}
use Rattle.tableau.specs.Tables.{Table, basic_at, position_at, variable_at, IsTable}
use Rattle.tableau.specs.Nodes.{number, StandsFor, AreRowsZero, HasItsPoints}
use Rattle.tableau.specs.Meanings.{cost_number, price_number}
use Rattle.tableau.proofs.PointLaws.{sum_split}
use Rattle.tableau.proofs.TableLaws.{system_of}
use Rattle.simplex_laws.specs.Finals.{point_of, slack_prices}
use Rattle.simplex_laws.specs.Laws.{BestIsRight, BestIsLeast}
use Rattle.simplex_laws.proofs.PriceLaws.{price, cost_by_prices, column_price, basic_price}
use Rattle.simplex_laws.proofs.SideLaws.{column_low, column_high, column_cost, slack_low, slack_high, slack_cost}
use Rattle.simplex_laws.proofs.NonbasicLaws.{SignFits, sign_fits}
use Rattle.simplex_laws.proofs.PointLaws.{point_zero, point_between, pays_at}
use Rattle.simplex_laws.proofs.AnswerLaws.{IsSettled, final_point_is}
use Rattle.simplex_laws.proofs.DualLaws.{dual_is}

module _ (m : Parts) (b : List (ℤ × ℤ)) (T : Table) (table : IsTable T) (stands : StandsFor m b T) where
  -- a point that makes up for its rows and lies between the sides of the variables is one of the relaxation
  relaxed : HasItsPoints m T → ((v : ℕ) → v < length m.columns + length m.rows →
      IsBetween (variable_at T.variables v).low (variable_at T.variables v).high (point_of T v)) → IsRelaxed m b (point_of T)
  relaxed has between = record {
    low = λ j l. (between j (omega arith)).low (low_at b j) (column_low m b T stands j l);
    high = λ j l. (between j (omega arith)).high (high_at b j) (column_high m b T stands j l);
    rows = λ k l.
        let e : point_of T (length m.columns + k) ≡ row_total m (point_of T) k = has (point_of T) (point_zero m b T table stands) k l in
        let x = between (length m.columns + k) (omega arith) in
        record {
          low = λ z q. subst (AtMost (of z)) e (x.low z (slack_low m b T stands k ∙ q));
          high = λ z q. subst (λ (w : Rational). AtMost w (of z)) e (x.high z (slack_high m b T stands k ∙ q));
        };
  }

  abbrev P : ℕ → Rational
  P = price rationals (length m.rows) (number T) (basic_at T.basics) (cost_number T)

  price_is : (v : ℕ) → price_number T v ≡ P v
  price_is v = ap (λ n. sub (cost_number T v)
      (sum rationals (λ i. mul (number T i v) (cost_number T (basic_at T.basics i))) n)) stands.rows

  -- the price of a column is what is left of its cost after the slacks' prices
  price_left : (j : ℕ) → j < length m.columns → left_of m (of (pos 1)) (slack_prices m T) j ≡ price_number T j
  price_left j l =
      let c = length m.columns in
      let f : ℕ → Rational = λ k. mul (price_number T (c + k)) (of (coefficient_of m.rows k j)) in
      ap (λ z. sub z (sum rationals f (length m.rows))) (one_mul rationals (cost_of m j) ∙ sym (column_cost m b T stands j l))
      ∙ ap (sub (cost_number T j)) (sum_same rationals f (λ k. mul (P (c + k)) (of (coefficient_of m.rows k j))) (length m.rows)
      (λ k o. ap (λ z. mul z (of (coefficient_of m.rows k j))) (price_is (c + k))))
      ∙ sym (column_price rationals (length m.rows) c (coefficient_of m.rows) (number T) (basic_at T.basics) (system_of m b T stands)
      (cost_number T) (λ k o. slack_cost m b T stands k) j l)
      ∙ sym (price_is j)

  price_flat : (v i : ℕ) → i < length m.rows → basic_at T.basics i ≡ v → price_number T v ≡ of (pos 0)
  price_flat v i l e = price_is v ∙ ap P (sym e) ∙ basic_price rationals (length m.rows) (length m.columns) (coefficient_of m.rows)
      (number T) (basic_at T.basics) (system_of m b T stands) (cost_number T) i l

  -- the sum of the prices at a point at which the rows are 0 is what its columns cost
  cost_is : (x : ℕ → Rational) → AreRowsZero m T x → sum rationals (λ v. mul (price_number T v) (x v)) (length m.columns + length m.rows)
      ≡ sum rationals (λ j. mul (cost_of m j) (x j)) (length m.columns)
  cost_is x hold =
      let c = length m.columns in
      let n = length m.rows in
      sum_same rationals (λ v. mul (price_number T v) (x v)) (λ v. mul (P v) (x v)) (c + n) (λ v l. ap (λ z. mul z (x v)) (price_is v))
      ∙ sym (cost_by_prices rationals n c (coefficient_of m.rows) (number T) (basic_at T.basics) (cost_number T) x hold)
      ∙ sum_split rationals (λ v. mul (cost_number T v) (x v)) c n
      ∙ ap (λ z. add z (sum rationals (λ k. mul (cost_number T (c + k)) (x (c + k))) n))
      (sum_same rationals (λ j. mul (cost_number T j) (x j)) (λ j. mul (cost_of m j) (x j)) c
      (λ j l. ap (λ z. mul z (x j)) (column_cost m b T stands j l)))
      ∙ ap (add (sum rationals (λ j. mul (cost_of m j) (x j)) c)) (sum_same rationals (λ k. mul (cost_number T (c + k)) (x (c + k)))
      (λ k. of (pos 0)) n (λ k l. ap (λ z. mul z (x (c + k))) (slack_cost m b T stands k) ∙ zero_mul rationals (x (c + k)))
      ∙ sum_zero rationals n)
      ∙ rationals.add_zero (sum rationals (λ j. mul (cost_of m j) (x j)) c)

  -- where the sign of each reduced cost fits the position of its variable, the dual value of the prices is what the point costs
  prices_reach : IsUncrossed m b → ((v : ℕ) → v < length m.columns + length m.rows →
      SignFits (price_number T v) (variable_at T.variables v).low (variable_at T.variables v).high (position_at T.positions v)) →
      dual m b (of (pos 1)) (slack_prices m T) ≡ Some (total_cost m (point_of T))
  prices_reach ok fit =
      let x = point_of T in
      let total = sum rationals (λ j. mul (cost_of m j) (x j)) (length m.columns) in
      dual_is m b T stands ok (of (pos 1)) (price_number T) (λ v. mul (price_number T v) (x v)) price_left
      (λ v l. pays_at m b T table stands (price_number T v) v l (λ i k e. price_flat v i k e) (fit v l))
      ∙ ap (λ z. Some (add z (mul (of (pos 1)) (of m.constant)))) (cost_is x (point_zero m b T table stands))
      ∙ ap Some (ring2 rationals (λ s t. s ⊕ num (pos 1) ⊗ t) (λ s t. t ⊕ s) refl total (of m.constant))

  settled : HasItsPoints m T → IsUncrossed m b → IsSettled T → IsRelaxed m b (point_of T)
      × (dual m b (of (pos 1)) (slack_prices m T) ≡ Some (total_cost m (point_of T)))
  settled has ok s =
      let size = stands.size in (
        relaxed has (point_between m b T table stands ok (λ v l. s.within v (omega arith))),
        prices_reach ok (λ v l. sign_fits (price_number T v) (variable_at T.variables v).low (variable_at T.variables v).high
            (position_at T.positions v) (s.directions v (omega arith))),
      )

pub best_is_right : BestIsRight
best_is_right m b T table stands has ok e = settled m b T table stands has ok (final_point_is m b T table stands has e)

pub best_is_least : BestIsLeast
best_is_least m b T table stands has ok e x relaxed =
    let r = best_is_right m b T table stands has ok e in
    subst (AtMost (total_cost m (point_of T))) (one_mul rationals (total_cost m x))
    (relaxed_weak_duality m b (of (pos 1)) (slack_prices m T) x (total_cost m (point_of T)) relaxed r.1)
