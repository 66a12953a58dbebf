-- Weak duality over relaxations, and feasible points as points of relaxations.
use Rattle.std.specs.Prelude.{◌≡◌, ℕ, zero, suc, ◌<◌, List, [], ◌∷◌, length, Option, Some, None, IfSome, slice_get, option_map}
use Rattle.std.specs.Prelude.{option_and_then, ℤ, pos, ◌≤ℤ◌, ◌<ℤ◌}
use Rattle.std.proofs.Common.{arith, refl, ap, sym, ◌∙◌, subst, ◌⊎◌, inl, inr}
use Rattle.std.proofs.lemmas.Int.{ints}
use Rattle.ip_defs.specs.Program.{at, low_at, high_at, row_sum, Meets, IsIn, IsFeasible, cost}
use Rattle.ip_defs.specs.Certificates.{coefficient_of}
use Rattle.ip_defs.specs.declared.programs.Parts.{Parts}
use Rattle.ip_defs.specs.declared.programs.Row.{Row}
use Rattle.ring_laws.proofs.Rings.{zero_mul}
use Rattle.ring_laws.proofs.Normal.{num, var, ◌⊕◌, ◌⊖◌, ◌⊗◌, identity}
use Rattle.ring_laws.proofs.Named.{ring4}
use Rattle.ring_laws.proofs.Sums.{sum, sum_same, sum_scale, exchange}
use Rattle.frac128.proofs.Rationals.{Rational, of, add, sub, mul, rationals}
use Rattle.frac128.proofs.Order.{AtMost, NotNegative, at_most_total, at_most_trans, add_at_most, mul_at_most, not_negative_add}
use Rattle.lp_duality.specs.Relaxations.{row_low, row_high, cost_of, row_total, total_cost, IsBetween, IsRelaxed}
use Rattle.lp_duality.specs.Duals.{paid, sum_of_all, lesser, left_of, dual}
use Rattle.lp_duality.specs.Laws.{RelaxedWeakDuality, FeasiblePointsAreRelaxed}
use Rattle.lp_duality.proofs.SignLaws.{Sign, up, down, none, sign_of, top_zero, of_at_most, at_most_self, mul_at_least, paid_up}
use Rattle.lp_duality.proofs.SignLaws.{paid_down, paid_zero, lesser_first, lesser_second}
use Rattle.lp_duality.proofs.OptionSumLaws.{plus}
use Rattle.lp_duality.proofs.ScaleLaws.{column_sum, paid_sum, dual_of}
use Rattle.lp_duality.proofs.PointLaws.{row_whole, whole_cost}
use Rattle.ip_defs.proofs.DualityLaws.{meets_at}

-- ---- sums
sum_at_most : (f g : ℕ → Rational) (n : ℕ) → ((k : ℕ) → k < n → AtMost (f k) (g k)) → AtMost (sum rationals f n) (sum rationals g n)
sum_at_most f g zero h = at_most_self (of (pos 0))
sum_at_most f g (suc n) h = add_at_most (sum rationals f n) (sum rationals g n) (f n) (g n) (sum_at_most f g n (λ k l. h k (omega arith)))
    (h n (omega arith))

sum_sub : (f g : ℕ → Rational) (n : ℕ) → sum rationals (λ k. sub (f k) (g k)) n ≡ sub (sum rationals f n) (sum rationals g n)
sum_sub f g zero = identity rationals [] (num (pos 0)) (num (pos 0) ⊖ num (pos 0)) refl
sum_sub f g (suc n) = ap (λ z. add z (sub (f n) (g n))) (sum_sub f g n)
    ∙ ring4 rationals (λ a b c d. (a ⊖ b) ⊕ (c ⊖ d))
    (λ a b c d. (a ⊕ c) ⊖ (b ⊕ d)) refl (sum rationals f n) (sum rationals g n) (f n) (g n)

sum_times : (f : ℕ → Rational) (a : Rational) (n : ℕ) → mul (sum rationals f n) a ≡ sum rationals (λ k. mul (f k) a) n
sum_times f a n = rationals.mul_comm (sum rationals f n) a ∙ sym (sum_scale rationals a f n)
    ∙ sum_same rationals (λ k. mul a (f k)) (λ k. mul (f k) a) n (λ k l. rationals.mul_comm a (f k))

sum_of_all_at_most : (f : ℕ → Option Rational) (g : ℕ → Rational) (n : ℕ) → ((k : ℕ) (v : Rational) → k < n → f k ≡ Some v →
    AtMost v (g k)) → (v : Rational) → sum_of_all f n ≡ Some v → AtMost v (sum rationals g n)
sum_of_all_at_most f g zero h v e = let is : of (pos 0) ≡ v = cc in subst (λ w. AtMost w (of (pos 0))) is (at_most_self (of (pos 0)))
sum_of_all_at_most f g (suc n) h v e = by (sum_of_all f n) (f n) refl (sum_of_all_at_most f g n (λ k w l. h k w (omega arith))) e
  where
    by : (o p : Option Rational) → f n ≡ p → ((w : Rational) → o ≡ Some w → AtMost w (sum rationals g n)) → plus o p ≡ Some v →
        AtMost v (add (sum rationals g n) (g n))
    by None p i before d = absurd cc
    by (Some x) None i before d = absurd cc
    by (Some x) (Some y) i before d = let is : add x y ≡ v = cc in
        subst (λ w. AtMost w (add (sum rationals g n) (g n))) is (add_at_most x (sum rationals g n) y (g n) (before x refl)
        (h n y (omega arith) i))

-- ---- one multiplier and one column
-- a payment is at most multiplier times a value between the sides
paid_at_most : (y : Rational) (l h : Option ℤ) (t v : Rational) → IsBetween l h t → paid y l h ≡ Some v → AtMost v (mul y t)
paid_at_most y l h t v between e = by (sign_of y.numerator)
  where
    rises : (o : Option ℤ) → pos 0 <ℤ y.numerator → ((side : ℤ) → o ≡ Some side → AtMost (of side) t) →
        option_map (λ z. mul y (of z)) o ≡ Some v → AtMost v (mul y t)
    rises None s low d = absurd cc
    rises (Some side) s low d = let is : mul y (of side) ≡ v = cc in
        subst (λ w. AtMost w (mul y t)) is (mul_at_most y (of side) t (omega (arith, ints)) (low side refl))

    falls : (o : Option ℤ) → y.numerator <ℤ pos 0 → ((side : ℤ) → o ≡ Some side → AtMost t (of side)) →
        option_map (λ z. mul y (of z)) o ≡ Some v → AtMost v (mul y t)
    falls None s high d = absurd cc
    falls (Some side) s high d = let is : mul y (of side) ≡ v = cc in
        subst (λ w. AtMost w (mul y t)) is (mul_at_least y t (of side) (omega (arith, ints)) (high side refl))

    by : Sign y.numerator → AtMost v (mul y t)
    by (up s) = rises l s between.low (sym (paid_up y l h s) ∙ e)
    by (down s) = falls h s between.high (sym (paid_down y l h s) ∙ e)
    by (none s) =
        let zero : Some (of (pos 0)) ≡ Some v = sym (paid_zero y l h s) ∙ e in
        let is : of (pos 0) ≡ v = cc in
        let product : mul y t ≡ of (pos 0) = ap (λ w. mul w t) (top_zero y s) ∙ zero_mul rationals t in
        subst (λ w. AtMost w (mul y t)) is (subst (AtMost (of (pos 0))) (sym product) (at_most_self (of (pos 0))))

-- the lesser of reduced cost times the two bounds is at most reduced cost times the coordinate
lesser_at_most : (d l h x : Rational) → AtMost l x → AtMost x h → AtMost (lesser (mul d l) (mul d h)) (mul d x)
lesser_at_most d l h x low high = by (sign_of d.numerator) (at_most_total (mul d l) (mul d h))
  where
    lows : AtMost (mul d l) (mul d x) → (AtMost (mul d l) (mul d h)) ⊎ (AtMost (mul d h) (mul d l)) →
        AtMost (lesser (mul d l) (mul d h)) (mul d x)
    lows g (inl i) = subst (λ w. AtMost w (mul d x)) (sym (lesser_first (mul d l) (mul d h) i)) g
    lows g (inr i) = subst (λ w. AtMost w (mul d x)) (sym (lesser_second (mul d l) (mul d h) i))
        (at_most_trans (mul d h) (mul d l) (mul d x) i g)

    highs : AtMost (mul d h) (mul d x) → (AtMost (mul d l) (mul d h)) ⊎ (AtMost (mul d h) (mul d l)) →
        AtMost (lesser (mul d l) (mul d h)) (mul d x)
    highs g (inl i) = subst (λ w. AtMost w (mul d x)) (sym (lesser_first (mul d l) (mul d h) i))
        (at_most_trans (mul d l) (mul d h) (mul d x) i g)
    highs g (inr i) = subst (λ w. AtMost w (mul d x)) (sym (lesser_second (mul d l) (mul d h) i)) g

    by : Sign d.numerator → (AtMost (mul d l) (mul d h)) ⊎ (AtMost (mul d h) (mul d l)) → AtMost (lesser (mul d l) (mul d h)) (mul d x)
    by (up s) t = lows (mul_at_most d l x (omega (arith, ints)) low) t
    by (none s) t = lows (mul_at_most d l x (omega (arith, ints)) low) t
    by (down s) t = highs (mul_at_least d x h (omega (arith, ints)) high) t

module _ (m : Parts) (b : List (ℤ × ℤ)) (q : Rational) (y x : ℕ → Rational) where
  -- the multipliers times the values of the rows
  abbrev row_part : Rational
  row_part = sum rationals (λ k. mul (y k) (row_total m x k)) (length m.rows)

  abbrev column_part : Rational
  column_part = sum rationals (λ j. mul (cost_of m j) (x j)) (length m.columns)

  -- the reduced costs at a point: q times the costs, less the multipliers times the values of the rows
  left_part : sum rationals (λ j. mul (left_of m q y j) (x j)) (length m.columns) ≡ sub (mul q column_part) row_part
  left_part =
      let n = length m.columns in
      let r = length m.rows in
      let F : ℕ → ℕ → Rational = λ k j. mul (y k) (mul (of (coefficient_of m.rows k j)) (x j)) in
      let each : (j : ℕ) → mul (left_of m q y j) (x j) ≡ sub (mul q (mul (cost_of m j) (x j))) (sum rationals (λ k. F k j) r) = λ j.
      let taken = sum rationals (λ k. mul (y k) (of (coefficient_of m.rows k j))) r in
      ring4 rationals (λ q c s x. (q ⊗ c ⊖ s) ⊗ x) (λ q c s x. q ⊗ (c ⊗ x) ⊖ s ⊗ x) refl q (cost_of m j) taken (x j)
      ∙ ap (λ z. sub (mul q (mul (cost_of m j) (x j))) z) (sum_times (λ k. mul (y k) (of (coefficient_of m.rows k j))) (x j) r
      ∙ sum_same rationals (λ k. mul (mul (y k) (of (coefficient_of m.rows k j))) (x j)) (λ k. F k j) r
      (λ k l. rationals.mul_assoc (y k) (of (coefficient_of m.rows k j)) (x j))) in
      sum_same rationals (λ j. mul (left_of m q y j) (x j)) (λ j. sub (mul q (mul (cost_of m j) (x j))) (sum rationals (λ k. F k j) r)) n
      (λ j l. each j)
      ∙ sum_sub (λ j. mul q (mul (cost_of m j) (x j))) (λ j. sum rationals (λ k. F k j) r) n
      ∙ ap (λ z. sub z (sum rationals (λ j. sum rationals (λ k. F k j) r) n)) (sum_scale rationals q (λ j. mul (cost_of m j) (x j)) n)
      ∙ ap (λ z. sub (mul q column_part) z) (exchange rationals F r n
      ∙ sum_same rationals (λ k. sum rationals (F k) n) (λ k. mul (y k) (row_total m x k)) r
      (λ k l. sum_scale rationals (y k) (λ j. mul (of (coefficient_of m.rows k j)) (x j)) n))

  at_most : (g : Rational) → IsRelaxed m b x → dual m b q y ≡ Some g → AtMost g (mul q (total_cost m x))
  at_most g relaxed e = by (paid_sum m y) (sum_of_all_at_most (λ k. paid (y k) (row_low m k) (row_high m k))
      (λ k. mul (y k) (row_total m x k)) (length m.rows) (λ k v l d. paid_at_most (y k) (row_low m k) (row_high m k) (row_total m x k) v
      (relaxed.rows k l) d)) e
    where
      n : ℕ
      n = length m.columns

      columns : AtMost (column_sum (left_of m q y) b (length m.columns)) (sub (mul q column_part) row_part)
      columns = subst (AtMost (column_sum (left_of m q y) b (length m.columns))) left_part
          (sum_at_most (λ j. lesser (mul (left_of m q y j) (of (low_at b j))) (mul (left_of m q y j) (of (high_at b j))))
          (λ j. mul (left_of m q y j) (x j)) (length m.columns)
          (λ j l. lesser_at_most (left_of m q y j) (of (low_at b j)) (of (high_at b j)) (x j) (relaxed.low j l) (relaxed.high j l)))

      by : (o : Option Rational) → ((v : Rational) → o ≡ Some v → AtMost v row_part) →
          dual_of m q (column_sum (left_of m q y) b (length m.columns)) o ≡ Some g → AtMost g (mul q (total_cost m x))
      by None rows d = absurd cc
      by (Some pay) rows d =
          let c = column_sum (left_of m q y) b (length m.columns) in
          let is : add (add pay (mul q (of m.constant))) c ≡ g = cc in
          subst (λ w. AtMost w (mul q (total_cost m x))) is
          (subst NotNegative (identity rationals (q ∷ of m.constant ∷ column_part ∷ row_part ∷ pay ∷ c ∷ [])
          ((var 3 ⊖ var 4) ⊕ ((var 0 ⊗ var 2 ⊖ var 3) ⊖ var 5)) (var 0 ⊗ (var 1 ⊕ var 2) ⊖ ((var 4 ⊕ var 0 ⊗ var 1) ⊕ var 5)) refl)
          (not_negative_add (sub row_part pay) (sub (sub (mul q column_part) row_part) c) (rows pay refl) columns))

pub relaxed_weak_duality : RelaxedWeakDuality
relaxed_weak_duality m b q y x g relaxed e = at_most m b q y x g relaxed e

-- ---- feasible points
module _ (m : Parts) (b : List (ℤ × ℤ)) (x : List ℤ) (size : length b ≡ length m.columns) (feasible : IsFeasible m x) (inside : IsIn b x)
  where
    row_is : (k : ℕ) (r : Row) → slice_get m.rows k ≡ Some r → row_total m (λ j. of (at x j)) k ≡ of (row_sum r.coefs x)
    row_is = row_whole m (λ j. of (at x j)) x (inside.size ∙ size) (λ j l. refl)

    meets : (k : ℕ) (r : Row) → slice_get m.rows k ≡ Some r → Meets x r
    meets k r e = subst (λ o. IfSome o (Meets x)) e (meets_at m.rows x k feasible.rows)

    low_holds : (k : ℕ) (o : Option Row) → slice_get m.rows k ≡ o → (side : ℤ) → option_and_then (λ r. r.low) o ≡ Some side →
        AtMost (of side) (row_total m (λ j. of (at x j)) k)
    low_holds k None e side d = absurd cc
    low_holds k (Some r) e side d =
        let holds : side ≤ℤ row_sum r.coefs x = subst (λ o. IfSome o (λ side. side ≤ℤ row_sum r.coefs x)) d (meets k r e).low in
        subst (AtMost (of side)) (sym (row_is k r e)) (of_at_most side (row_sum r.coefs x) holds)

    high_holds : (k : ℕ) (o : Option Row) → slice_get m.rows k ≡ o → (side : ℤ) → option_and_then (λ r. r.high) o ≡ Some side →
        AtMost (row_total m (λ j. of (at x j)) k) (of side)
    high_holds k None e side d = absurd cc
    high_holds k (Some r) e side d =
        let holds : row_sum r.coefs x ≤ℤ side = subst (λ o. IfSome o (λ side. row_sum r.coefs x ≤ℤ side)) d (meets k r e).high in
        subst (λ w. AtMost w (of side)) (sym (row_is k r e)) (of_at_most (row_sum r.coefs x) side holds)

    relaxed : IsRelaxed m b (λ j. of (at x j))
    relaxed = record {
      low = λ j l. of_at_most (low_at b j) (at x j) (inside.low j (omega arith));
      high = λ j l. of_at_most (at x j) (high_at b j) (inside.high j (omega arith));
      rows = λ k l. record { low = low_holds k (slice_get m.rows k) refl; high = high_holds k (slice_get m.rows k) refl };
    }

    cost_is : total_cost m (λ j. of (at x j)) ≡ of (cost m x)
    cost_is = whole_cost m (λ j. of (at x j)) x (inside.size ∙ size) (λ j l. refl)

pub feasible_points_are_relaxed : FeasiblePointsAreRelaxed
feasible_points_are_relaxed m b x size feasible inside = (relaxed m b x size feasible inside, cost_is m b x size feasible inside)
