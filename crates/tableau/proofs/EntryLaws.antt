-- The entries after a pivot: they are fractions, and the numbers of the pivot.
use Rattle.std.specs.Prelude.{◌≡◌, ◌≢◌, ℕ, ◌<◌, ◌==◌, Bool, true, false, cond, List, [], length, Result, Ok, Err, pos}
use Rattle.std.proofs.Common.{arith, refl, ap, ◌∙◌}
use Rattle.frac128.specs.declared.fraction.Wide.{Wide}
use Rattle.frac128.specs.Fractions.{Fraction, quotient_of, whole}
use Rattle.frac128.specs.Rationals.{Rational, sub, mul, inverse}
use Rattle.frac128.specs.Values.{value_of}
use Rattle.frac128.proofs.Rationals.{rationals}
use Rattle.tableau.specs.Tables.{line, entry, AreRows}
use Rattle.tableau.specs.Numbers.{and_then, less_product}
use Rattle.tableau.specs.Pivots.{all_below, new_entry, new_rows}
use Rattle.frac128.proofs.FractionLaws.{IsProper}
use Rattle.tableau.proofs.FractionLaws.{quotient-proper, quotient-value, less_product-value}
use Rattle.tableau.proofs.ListLaws.{all_below-is}
use Rattle.tableau.proofs.SystemLaws.{pivoted}

-- the entries as rational numbers
abbrev pub numbers : List (List Fraction) → ℕ → ℕ → Rational
numbers rows i v = value_of (entry rows i v)

module _ (n : ℕ) (rows : List (List Fraction)) (r v : ℕ) (are : AreRows n rows) (inside : r < length rows) (enters : v
    < n) (pivot : (entry rows r v).num ≢ pos 0) where
  exact : (i w : ℕ) (t : Bool) (x : Fraction) → i < length rows → w < n
      → cond t (quotient_of (entry rows r w) (entry rows r v)) (and_then (quotient_of (entry rows r w) (entry rows r v))
      (less_product (entry rows i w) (entry rows i v))) ≡ Ok x
      → IsProper x × (value_of x ≡ cond t (mul (numbers rows r w) (inverse (numbers rows r v)))
      (sub (numbers rows i w) (mul (numbers rows i v) (mul (numbers rows r w) (inverse (numbers rows r v))))))
  exact i w true x l k e = (
    quotient-proper (entry rows r w) (entry rows r v) x (are.fractions r w inside k) (are.fractions r v inside enters) pivot e,
    quotient-value (entry rows r w) (entry rows r v) x (are.fractions r w inside k) (are.fractions r v inside enters) pivot e,
  )
  exact i w false x l k e = by (quotient_of (entry rows r w) (entry rows r v)) refl e
    where
      by : (o : Result Fraction Wide) → quotient_of (entry rows r w) (entry rows r v) ≡ o →
          and_then o (less_product (entry rows i w) (entry rows i v)) ≡ Ok x
          → IsProper x × (value_of x ≡ sub (numbers rows i w) (mul (numbers rows i v)
          (mul (numbers rows r w) (inverse (numbers rows r v)))))
      by (Ok g) h f =
          let proper = quotient-proper (entry rows r w) (entry rows r v) g (are.fractions r w inside k) (are.fractions r v inside enters)
          pivot h in
          let is = quotient-value (entry rows r w) (entry rows r v) g (are.fractions r w inside k) (are.fractions r v inside enters) pivot
          h in
          let less = less_product-value (entry rows i w) (entry rows i v) g x (are.fractions i w l k) (are.fractions i v l enters) proper
          f in
          (less.0, less.1 ∙ ap (λ z. sub (numbers rows i w) (mul (numbers rows i v) z)) is)
      by (Err w) h f = absurd cc

  module _ (new : List (List Fraction)) (made : new_rows n rows r v ≡ Ok new) where
    pub count : length new ≡ length rows
    count = (all_below-is (length rows) (λ i. all_below n (new_entry rows r v i)) new [] made).0

    line_at : (i : ℕ) → i < length rows → all_below n (new_entry rows r v i) ≡ Ok (line new i)
    line_at = (all_below-is (length rows) (λ i. all_below n (new_entry rows r v i)) new [] made).1

    pub new_at : (i w : ℕ) → i < length rows → w < n → new_entry rows r v i w ≡ Ok (entry new i w)
    new_at i w l k = (all_below-is n (new_entry rows r v i) (line new i) (whole (pos 0)) (line_at i l)).1 w k

    pub new_are : AreRows n new
    new_are =
        let same = count in
        record {
          size = λ i l. (all_below-is n (new_entry rows r v i) (line new i) (whole (pos 0)) (line_at i (omega arith))).0;
          fractions = λ i w l k. let inside' : i < length rows = omega arith in
              (exact i w (i == r) (entry new i w) inside' k (new_at i w inside' k)).0;
        }

    pub new_number : (i w : ℕ) → i < length rows → w < n → numbers new i w
        ≡ pivoted rationals (numbers rows) r v (inverse (numbers rows r v)) i w
    new_number i w l k = (exact i w (i == r) (entry new i w) l k (new_at i w l k)).1
