-- The dual value of numbers of which the columns have what is left of the costs, and each of which pays.
use Rattle.std.specs.Prelude.{◌≡◌, ℕ, zero, suc, ◌+◌, ◌<◌, List, length, Option, Some, option_map, option_and_then, ℤ}
use Rattle.std.proofs.Common.{arith, refl, ap, sym, ◌∙◌}
use Rattle.ring_laws.proofs.Normal.{◌⊕◌}
use Rattle.ring_laws.proofs.Named.{ring3}
use Rattle.ring_laws.proofs.Sums.{sum, sum_same}
use Rattle.frac128.specs.Rationals.{Rational, of, add, mul}
use Rattle.frac128.proofs.Rationals.{rationals}
use Rattle.ip_defs.specs.Program.{low_at, high_at}
use Rattle.ip_defs.specs.declared.programs.Parts.{Parts}
use Rattle.lp_duality.specs.Relaxations.{row_low, row_high, IsUncrossed}
use Rattle.lp_duality.specs.Duals.{lesser, paid, sum_of_all, left_of, dual}
use Rattle.lp_duality.proofs.SignLaws.{paid_lesser}
use Rattle.tableau.specs.Tables.{Table, variable_at}
use Rattle.tableau.specs.Nodes.{StandsFor}
use Rattle.tableau.proofs.PointLaws.{sum_split}
use Rattle.simplex_laws.proofs.SideLaws.{column_low, column_high, slack_low, slack_high}

sum_of_all_is : (f : ℕ → Option Rational) (z : ℕ → Rational) (n : ℕ) → ((k : ℕ) → k < n → f k ≡ Some (z k)) →
    sum_of_all f n ≡ Some (sum rationals z n)
sum_of_all_is f z zero h = refl
sum_of_all_is f z (suc n) h = ap (option_and_then (λ a. option_map (λ c. add a c) (f n))) (sum_of_all_is f z n (λ k l. h k (omega arith)))
    ∙ ap (option_map (λ c. add (sum rationals z n) c)) (h n (omega arith))

some_is : (x y : Rational) → Some x ≡ Some y → x ≡ y
some_is x y e = cc

module _ (m : Parts) (b : List (ℤ × ℤ)) (T : Table) (stands : StandsFor m b T) (ok : IsUncrossed m b) (q : Rational) (p z : ℕ → Rational)
    (left : (j : ℕ) → j < length m.columns → left_of m q (λ k. p (length m.columns + k)) j ≡ p j)
    (pays : (v : ℕ) → v < length m.columns + length m.rows → paid (p v) (variable_at T.variables v).low (variable_at T.variables v).high
    ≡ Some (z v)) where
  -- a slack pays a side of its row
  row_pays : (k : ℕ) → k < length m.rows → paid (p (length m.columns + k)) (row_low m k) (row_high m k) ≡ Some (z (length m.columns + k))
  row_pays k l =
      let v = length m.columns + k in
      ap (λ o. paid (p v) o (row_high m k)) (sym (slack_low m b T stands k))
      ∙ ap (λ o. paid (p v) (variable_at T.variables v).low o) (sym (slack_high m b T stands k)) ∙ pays v (omega arith)

  -- a column counts what it pays
  column_counts : (j : ℕ) → j < length m.columns → lesser (mul (left_of m q (λ k. p (length m.columns + k)) j) (of (low_at b j)))
      (mul (left_of m q (λ k. p (length m.columns + k)) j) (of (high_at b j))) ≡ z j
  column_counts j l =
      ap (λ w. lesser (mul w (of (low_at b j))) (mul w (of (high_at b j)))) (left j l)
      ∙ some_is (lesser (mul (p j) (of (low_at b j))) (mul (p j) (of (high_at b j)))) (z j)
      (sym (paid_lesser (p j) (low_at b j) (high_at b j) (ok.columns j l))
      ∙ ap (λ o. paid (p j) o (Some (high_at b j))) (sym (column_low m b T stands j l))
      ∙ ap (λ o. paid (p j) (variable_at T.variables j).low o) (sym (column_high m b T stands j l)) ∙ pays j (omega arith))

  pub dual_is : dual m b q (λ k. p (length m.columns + k)) ≡ Some (add (sum rationals z (length m.columns + length m.rows))
      (mul q (of m.constant)))
  dual_is =
      let c = length m.columns in
      let n = length m.rows in
      let d : ℕ → Rational = left_of m q (λ k. p (c + k)) in
      let f : ℕ → Rational = λ j. lesser (mul (d j) (of (low_at b j))) (mul (d j) (of (high_at b j))) in
      let first = sum_of_all_is (λ k. paid (p (c + k)) (row_low m k) (row_high m k)) (λ k. z (c + k)) n row_pays in
      let second = sum_same rationals f z c column_counts in
      ap (option_map (λ pay. add (add pay (mul q (of m.constant))) (sum rationals f c))) first
      ∙ ap (λ w. Some (add (add (sum rationals (λ k. z (c + k)) n) (mul q (of m.constant))) w)) second
      ∙ ap Some (ring3 rationals (λ x y w. (x ⊕ y) ⊕ w) (λ x y w. (w ⊕ x) ⊕ y) refl (sum rationals (λ k. z (c + k)) n)
      (mul q (of m.constant)) (sum rationals z c))
      ∙ ap (λ w. Some (add w (mul q (of m.constant)))) (sym (sum_split rationals z c n))
