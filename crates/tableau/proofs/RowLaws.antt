-- The rows after a pivot, from the new pivot row, the rows that change and those that stay as they are.
use Rattle.std.specs.Prelude.{◌≡◌, ◌≢◌, ℕ, ◌<◌, ◌==◌, ◌&&◌, not, Bool, true, false, cond, if◌then◌else◌, List, [], length, Result, Ok, Err}
use Rattle.std.specs.Prelude.{pos}
use Rattle.std.proofs.Common.{arith, refl, ap, sym, ◌∙◌}
use Rattle.std.proofs.lemmas.Bool.{eqb-true, eqb-false}
use Rattle.frac128.specs.declared.fraction.Wide.{Wide}
use Rattle.frac128.specs.Fractions.{Fraction, quotient_of, whole}
use Rattle.tableau.specs.Tables.{at, line, entry, is_zero_fraction, AreRows}
use Rattle.tableau.specs.Numbers.{and_then, less_product}
use Rattle.tableau.specs.Pivots.{all_below, new_entry, new_rows}
use Rattle.tableau.specs.Internal.Changes.{is_changed, lessened_row, AreLessened, HasWideRow}
use Rattle.tableau.proofs.FractionLaws.{less_zero_left, quotient-proper}
use Rattle.tableau.proofs.ListLaws.{all_below-ok, all_below-wide, all_below-is, all_below-same}

pub same_number : (n : ℕ) → (n == n) ≡ true
same_number n = by (n == n) refl
  where
    by : (t : Bool) → (n == n) ≡ t → t ≡ true
    by true e = refl
    by false e = absurd (eqb-false n n e refl)

-- what a changed row is
changed-is : (a b : Bool) → (not a && not b) ≡ true → (a ≡ false) × (b ≡ false)
changed-is false false e = (refl, refl)
changed-is false true e = absurd cc
changed-is true b e = absurd cc

-- a row other than the pivot row that does not change
unchanged-is : (a b : Bool) → a ≡ false → (not a && not b) ≡ false → b ≡ true
unchanged-is false true e h = refl
unchanged-is false false e h = absurd cc
unchanged-is true b e h = absurd cc

module _ (n : ℕ) (rows : List (List Fraction)) (r v : ℕ) (are : AreRows n rows) (inside : r < length rows) (enters : v
    < n) (pivot : (entry rows r v).num ≢ pos 0) where
  -- the new pivot row
  abbrev pub quotients_of : Result (List Fraction) Wide
  quotients_of = all_below n (λ w. quotient_of (entry rows r w) (entry rows r v))

  own_row : all_below n (new_entry rows r v r) ≡ quotients_of
  own_row = all_below-same n (new_entry rows r v r) (λ w. quotient_of (entry rows r w) (entry rows r v))
      (λ w l. ap (λ t. cond t (quotient_of (entry rows r w) (entry rows r v)) (and_then (quotient_of (entry rows r w) (entry rows r v))
      (less_product (entry rows r w) (entry rows r v)))) (same_number r))

  pub wide_pivot_row : quotients_of ≡ Err (record {}) → new_rows n rows r v ≡ Err (record {})
  wide_pivot_row e = all_below-wide (length rows) (λ i. all_below n (new_entry rows r v i)) r inside (own_row ∙ e)

  module _ (g : List Fraction) (made : quotients_of ≡ Ok g) where
    quotient_at : (w : ℕ) → w < n → quotient_of (entry rows r w) (entry rows r v) ≡ Ok (at g w)
    quotient_at = (all_below-is n (λ w. quotient_of (entry rows r w) (entry rows r v)) g (whole (pos 0)) made).1

    other_row : (i : ℕ) → i < length rows → (i == r) ≡ false → all_below n (new_entry rows r v i)
        ≡ lessened_row (line rows i) (entry rows i v) g
    other_row i l apart =
        let f : ℕ → Result Fraction Wide = λ w. less_product (entry rows i w) (entry rows i v) (at g w) in
        all_below-same n (new_entry rows r v i) f (λ w k.
        ap (λ t. cond t (quotient_of (entry rows r w) (entry rows r v)) (and_then (quotient_of (entry rows r w) (entry rows r v))
        (less_product (entry rows i w) (entry rows i v)))) apart
        ∙ ap (λ (o : Result Fraction Wide). and_then o (less_product (entry rows i w) (entry rows i v))) (quotient_at w k))
        ∙ ap (λ k. all_below k f) (sym (are.size i l))

    pub wide_other_row : HasWideRow rows r v g → new_rows n rows r v ≡ Err (record {})
    wide_other_row w =
        let apart = (changed-is (w.0 == r) (is_zero_fraction (entry rows w.0 v)) w.2).0 in
        all_below-wide (length rows) (λ i. all_below n (new_entry rows r v i)) w.0 w.1 (other_row w.0 w.1 apart ∙ w.3)

    -- a row with 0 in the pivot column stays as it is
    row_stays : (i : ℕ) → i < length rows → is_zero_fraction (entry rows i v) ≡ true →
        lessened_row (line rows i) (entry rows i v) g ≡ Ok (line rows i)
    row_stays i l none =
        let size = are.size i l in
        all_below-ok (length (line rows i)) (λ w. less_product (entry rows i w) (entry rows i v) (at g w)) (line rows i) (whole (pos 0))
        refl (λ w k.
        let small : w < n = omega arith in
        less_zero_left (entry rows i w) (entry rows i v) (at g w) (are.fractions i w l small) (are.fractions i v l enters)
        (quotient-proper (entry rows r w) (entry rows r v) (at g w) (are.fractions r w inside small) (are.fractions r v inside enters)
        pivot (quotient_at w small))
        none)

    module _ (spare new : List (List Fraction)) (lessened : AreLessened rows r v g spare) (count : length new
        ≡ length rows) (own : line new r ≡ g)
        (others : (i : ℕ) → i < length rows → i ≢ r → line new i ≡ (if is_changed rows r v i then line spare i else line rows i)) where
      other : (i : ℕ) → i < length rows → (i == r) ≡ false → all_below n (new_entry rows r v i) ≡ Ok (line new i)
      other i l apart = by (is_changed rows r v i) refl (others i l (eqb-false i r apart))
        where
          by : (t : Bool) → is_changed rows r v i ≡ t → line new i ≡ cond t (line spare i) (line rows i) →
              all_below n (new_entry rows r v i) ≡ Ok (line new i)
          by true e is = other_row i l apart ∙ lessened i l e ∙ ap (λ (z : List Fraction). Ok z) (sym is)
          by false e is = other_row i l apart ∙ row_stays i l (unchanged-is (i == r) (is_zero_fraction (entry rows i v)) apart e)
              ∙ ap (λ (z : List Fraction). Ok z) (sym is)

      each : (t : Bool) (i : ℕ) → (i == r) ≡ t → i < length rows → all_below n (new_entry rows r v i) ≡ Ok (line new i)
      each true i e l =
          let same = eqb-true i r e in
          ap (λ k. all_below n (new_entry rows r v k)) same ∙ own_row ∙ made ∙ ap (λ (z : List Fraction). Ok z) (sym own)
          ∙ ap (λ k. Ok (line new k)) (sym same)
      each false i e l = other i l e

      pub new_rows-are : new_rows n rows r v ≡ Ok new
      new_rows-are = all_below-ok (length rows) (λ i. all_below n (new_entry rows r v i)) new [] count (λ i l. each (i == r) i refl l)
