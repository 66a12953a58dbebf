-- A pivot and a flip keep what a tableau is, and what it stands for.
use Rattle.std.specs.Prelude.{◌≡◌, ◌≢◌, ℕ, ◌+◌, ◌<◌, ◌==◌, Bool, true, false, cond, List, length, Result, Ok, Err, OnOk, OnErr, None, pos}
use Rattle.std.specs.Prelude.{ℤ, slice_set}
use Rattle.std.proofs.Common.{arith, refl, ap, sym, ◌∙◌, subst, length-set}
use Rattle.std.proofs.lemmas.Bool.{eqb-true, eqb-false}
use Rattle.std.proofs.lemmas.List.{get_or-set_same, get_or-set_other}
use Rattle.frac128.specs.declared.fraction.Wide.{Wide}
use Rattle.frac128.specs.Fractions.{Fraction}
use Rattle.frac128.specs.Rationals.{Rational, of, mul, inverse}
use Rattle.frac128.proofs.Rationals.{rationals}
use Rattle.frac128.proofs.Order.{inverse-is}
use Rattle.ring_laws.proofs.Sums.{sum_same}
use Rattle.ip_defs.specs.declared.programs.Parts.{Parts}
use Rattle.ip_defs.specs.Certificates.{coefficient_of}
use Rattle.tableau.specs.declared.positions.Rest.{Rest}
use Rattle.tableau.specs.declared.positions.Rest.TheVariants.{Basic, Low, High, Zero}
use Rattle.tableau.specs.Tables.{Table, entry, basic_at, position_at, variable_at, CanRest, IsTable}
use Rattle.tableau.specs.Numbers.{and_then}
use Rattle.tableau.specs.Pivots.{new_rows, after_pivot, other_side, after_flip}
use Rattle.tableau.specs.Nodes.{number, IsWellPlaced, StandsFor, AreRowsZero, HasItsPoints}
use Rattle.tableau.proofs.FractionLaws.{nonzero-value}
use Rattle.tableau.proofs.EntryLaws.{count, new_are, new_number}
use Rattle.tableau.proofs.SystemLaws.{IsSystem, pivoted, pivot_keeps, stands_same}
use Rattle.tableau.proofs.PointLaws.{pivot_back}

-- a tableau that stands for a node, over the rational numbers
pub system_of : (m : Parts) (b : List (ℤ × ℤ)) (T : Table) → StandsFor m b T →
    IsSystem rationals (length m.rows) (length m.columns) (coefficient_of m.rows) (number T) (basic_at T.basics)
system_of m b T s = record { within = s.within; different = s.different; one = s.one; zeros = s.zeros; combination = s.combination }

-- what a basic variable can't be
not_basic : (T : Table) (v w : ℕ) → position_at T.positions v ≢ Basic → position_at T.positions w ≡ Basic → w ≢ v
not_basic T v w free is same = free (ap (position_at T.positions) (sym same) ∙ is)

-- the tableau with new rows
abbrev pub with_rows : Table → ℕ → ℕ → Rest → List (List Fraction) → Table
with_rows T r v leaving new = record {
  rows = new;
  basics = slice_set T.basics r v;
  positions = slice_set (slice_set T.positions (basic_at T.basics r) leaving) v Basic;
  variables = T.variables;
}

module _ (T : Table) (r v : ℕ) (leaving : Rest) (table : IsTable T) (inside : r < length T.rows) (enters : v
    < length T.variables) (pivot : (entry T.rows r v).num ≢ pos 0) where
  module _ (new : List (List Fraction)) (made : new_rows (length T.variables) T.rows r v ≡ Ok new) where
    abbrev U : Table
    U = with_rows T r v leaving new

    same_count : length new ≡ length T.rows
    same_count = count (length T.variables) T.rows r v table.rows inside enters pivot new made

    own_basic : basic_at U.basics r ≡ v
    own_basic = let e = table.basics in get_or-set_same T.basics r v 0 (omega arith)

    other_basic : (i : ℕ) → i ≢ r → basic_at U.basics i ≡ basic_at T.basics i
    other_basic i n = get_or-set_other T.basics r i v 0 n

    -- the basic variable of a row afterwards
    basic_is : (t : Bool) (i : ℕ) → (i == r) ≡ t → basic_at U.basics i ≡ cond t v (basic_at T.basics i)
    basic_is true i e = ap (basic_at U.basics) (eqb-true i r e) ∙ own_basic
    basic_is false i e = other_basic i (eqb-false i r e)

    pub with_rows-table : IsTable U
    with_rows-table =
        let e = same_count in
        record {
          rows = new_are (length T.variables) T.rows r v table.rows inside enters pivot new made;
          basics = length-set T.basics r v ∙ table.basics ∙ sym e;
          positions = length-set (slice_set T.positions (basic_at T.basics r) leaving) v Basic ∙ length-set T.positions
              (basic_at T.basics r) leaving
              ∙ table.positions;
          within = λ i l. within (i == r) i refl (omega arith);
        }
      where
        within : (t : Bool) (i : ℕ) → (i == r) ≡ t → i < length T.rows → basic_at U.basics i < length T.variables
        within true i e l = let is = basic_is true i e in omega (arith, is, enters)
        within false i e l = let is = basic_is false i e in omega (arith, is, table.within i l)

    module _ (m : Parts) (b : List (ℤ × ℤ)) (s : StandsFor m b T) where
      number_is : (i w : ℕ) → i < length m.rows → w < length m.columns + length m.rows →
          number U i w ≡ pivoted rationals (number T) r v (inverse (number T r v)) i w
      number_is i w l k = let e = s.rows in let f = s.size in
          new_number (length T.variables) T.rows r v table.rows inside enters pivot new made i w (omega arith) (omega arith)

      inverse_is : mul (number T r v) (inverse (number T r v)) ≡ of (pos 1)
      inverse_is = inverse-is (number T r v) (nonzero-value (entry T.rows r v) (table.rows.fractions r v inside enters) pivot)

      -- the points at which the new rows are 0
      pub points_back : (x : ℕ → Rational) → AreRowsZero m U x → AreRowsZero m T x
      points_back x hold =
          let all = length m.columns + length m.rows in
          let e = s.rows in
          pivot_back rationals (length m.rows) (length m.columns) (number T) r v (inverse (number T r v)) (omega arith) inverse_is x
          (λ i l. sum_same rationals (λ w. mul (pivoted rationals (number T) r v (inverse (number T r v)) i w) (x w))
          (λ w. mul (number U i w) (x w)) all (λ w k. ap (λ z. mul z (x w)) (sym (number_is i w l k))) ∙ hold i l)

      module _ (free : position_at T.positions v ≢ Basic) (leaves : CanRest (variable_at T.variables (basic_at T.basics r)) leaving) where
        system_is : IsSystem rationals (length m.rows) (length m.columns) (coefficient_of m.rows) (number U) (basic_at U.basics)
        system_is =
            let e = s.rows in
            let f = s.size in
            stands_same rationals (length m.rows) (length m.columns) (coefficient_of m.rows)
            (pivoted rationals (number T) r v (inverse (number T r v))) (number U) (λ i. cond (i == r) v (basic_at T.basics i))
            (basic_at U.basics)
            (λ i w l k. number_is i w l k)
            (λ i l. basic_is (i == r) i refl)
            (pivot_keeps rationals (length m.rows) (length m.columns) (coefficient_of m.rows) (number T) (basic_at T.basics) r v
            (inverse (number T r v)) (system_of m b T s) (omega arith) (omega arith)
            (λ i l. not_basic T v (basic_at T.basics i) free (s.basic i l)) inverse_is)

        left : ℕ
        left = basic_at T.basics r

        position_own : position_at U.positions v ≡ Basic
        position_own = get_or-set_same (slice_set T.positions (basic_at T.basics r) leaving) v Basic Basic (let e = table.positions in
            let f = length-set T.positions (basic_at T.basics r) leaving in omega arith)

        position_left : basic_at T.basics r ≢ v → position_at U.positions (basic_at T.basics r) ≡ leaving
        position_left n =
            let e = table.positions in
            let k = table.within r inside in
            get_or-set_other (slice_set T.positions (basic_at T.basics r) leaving) v (basic_at T.basics r) Basic Basic n
            ∙ get_or-set_same T.positions (basic_at T.basics r) leaving Basic (omega arith)

        position_other : (w : ℕ) → w ≢ v → w ≢ basic_at T.basics r → position_at U.positions w ≡ position_at T.positions w
        position_other w n k =
            get_or-set_other (slice_set T.positions (basic_at T.basics r) leaving) v w Basic Basic n
            ∙ get_or-set_other T.positions (basic_at T.basics r) w leaving Basic k

        basic_positions : (t : Bool) (i : ℕ) → (i == r) ≡ t → i < length m.rows → position_at U.positions (basic_at U.basics i) ≡ Basic
        basic_positions true i e l = ap (position_at U.positions) (basic_is true i e) ∙ position_own
        basic_positions false i e l =
            let f = s.rows in
            ap (position_at U.positions) (basic_is false i e)
            ∙ position_other (basic_at T.basics i) (not_basic T v (basic_at T.basics i) free (s.basic i l))
            (λ q. eqb-false i r e (s.different i r l (omega arith) q))
            ∙ s.basic i l

        -- the position of the variable that leaves
        right_left : (rest : Rest) → CanRest (variable_at T.variables (basic_at T.basics r)) rest → IsWellPlaced U
            (basic_at T.basics r) rest
        right_left Basic h = absurd h
        right_left Low h = h
        right_left High h = h
        right_left Zero h = h

        -- a position that stays
        right_other : (w : ℕ) (rest : Rest) → w ≢ basic_at T.basics r → IsWellPlaced T w rest → IsWellPlaced U w rest
        right_other w Basic n h =
            let e = same_count in
            let apart : h.0 ≢ r = λ q. n (sym h.2 ∙ ap (basic_at T.basics) q) in
            (h.0, (let k = h.1 in omega arith), other_basic h.0 apart ∙ h.2)
        right_other w Low n h = h
        right_other w High n h = h
        right_other w Zero n h = h

        well_placed : (t u : Bool) (w : ℕ) → (w == v) ≡ t → (w == basic_at T.basics r) ≡ u → w < length m.columns + length m.rows →
            IsWellPlaced U w (position_at U.positions w)
        well_placed true u w e f l =
            let same = eqb-true w v e in
            let c = same_count in
            subst (λ z. IsWellPlaced U z (position_at U.positions z)) (sym same) (subst (IsWellPlaced U v) (sym position_own)
            (r, omega arith, own_basic))
        well_placed false true w e f l =
            let same = eqb-true w (basic_at T.basics r) f in
            let n = eqb-false w v e in
            subst (λ z. IsWellPlaced U z (position_at U.positions z)) (sym same) (subst (IsWellPlaced U (basic_at T.basics r))
            (sym (position_left (λ q. n (same ∙ q)))) (right_left leaving leaves))
        well_placed false false w e f l =
            let n = eqb-false w v e in
            let k = eqb-false w (basic_at T.basics r) f in
            subst (IsWellPlaced U w) (sym (position_other w n k)) (right_other w (position_at T.positions w) k (s.positions w l))

        pub with_rows-stands : StandsFor m b U
        with_rows-stands =
            let system = system_is in
            record {
              variables = s.variables;
              size = s.size;
              rows = same_count ∙ s.rows;
              within = system.within;
              different = system.different;
              one = system.one;
              zeros = system.zeros;
              combination = system.combination;
              basic = λ i l. basic_positions (i == r) i refl l;
              positions = λ w l. well_placed (w == v) (w == basic_at T.basics r) w refl refl l;
            }

  -- ---- the answers of a pivot
  split_rows : (U : Table) (P : Table → Type 0) → ((new : List (List Fraction)) → new_rows (length T.variables) T.rows r v ≡ Ok new →
      P (with_rows T r v leaving new)) → after_pivot T r v leaving ≡ Ok U → P U
  split_rows U P h e = by (new_rows (length T.variables) T.rows r v) refl e
    where
      by : (o : Result (List (List Fraction)) Wide) → new_rows (length T.variables) T.rows r v ≡ o →
          and_then o (λ rows. Ok (with_rows T r v leaving rows)) ≡ Ok U → P U
      by (Ok new) f g = let is : with_rows T r v leaving new ≡ U = cc in subst P is (h new f)
      by (Err w) f g = absurd cc

  -- a pivot, also a wide one, keeps what a tableau stands for, and its points
  pub pivot_stands : (o : Result Unit Wide) (U : Table) → OnOk o (after_pivot T r v leaving ≡ Ok U) → OnErr o (U ≡ T) →
      position_at T.positions v ≢ Basic → CanRest (variable_at T.variables (basic_at T.basics r)) leaving
      → (m : Parts) (b : List (ℤ × ℤ)) → StandsFor m b T → StandsFor m b U
  pivot_stands (Ok u) U made kept free leaves m b s = split_rows U (StandsFor m b) (λ new e. with_rows-stands new e m b s free leaves) made
  pivot_stands (Err w) U made kept free leaves m b s = subst (StandsFor m b) (sym kept) s

  pub pivot_points : (o : Result Unit Wide) (U : Table) → OnOk o (after_pivot T r v leaving ≡ Ok U) → OnErr o (U ≡ T)
      → (m : Parts) (b : List (ℤ × ℤ)) → StandsFor m b T → HasItsPoints m T → HasItsPoints m U
  pivot_points (Ok u) U made kept m b s has = split_rows U (HasItsPoints m) (λ new e x hold. has x (points_back new e m b s x hold)) made
  pivot_points (Err w) U made kept m b s has = subst (HasItsPoints m) (sym kept) has

-- ---- flips
module _ (T : Table) (v : ℕ) (positions : CanRest (variable_at T.variables v) (position_at T.positions v))
    (low : (variable_at T.variables v).low ≢ None) (high : (variable_at T.variables v).high ≢ None) where
  abbrev F : Table
  F = after_flip T v

  not_basic_here : (rest : Rest) → CanRest (variable_at T.variables v) rest → rest ≢ Basic
  not_basic_here Basic h e = h
  not_basic_here Low h e = absurd cc
  not_basic_here High h e = absurd cc
  not_basic_here Zero h e = absurd cc

  position_kept : (w : ℕ) → w ≢ v → position_at F.positions w ≡ position_at T.positions w
  position_kept w n = get_or-set_other T.positions v w (other_side (position_at T.positions v)) Basic n

  turned : (rest : Rest) → CanRest (variable_at T.variables v) rest → IsWellPlaced F v (other_side rest)
  turned Basic h = absurd h
  turned Low h = high
  turned High h = low
  turned Zero h = absurd (low h.0)

  kept : (w : ℕ) (rest : Rest) → IsWellPlaced T w rest → IsWellPlaced F w rest
  kept w Basic h = h
  kept w Low h = h
  kept w High h = h
  kept w Zero h = h

  pub flip_stands : v < length T.variables → length T.positions ≡ length T.variables → (m : Parts) (b : List (ℤ × ℤ)) → StandsFor m b T →
      StandsFor m b F
  flip_stands inside size m b s = record {
    variables = s.variables;
    size = s.size;
    rows = s.rows;
    within = s.within;
    different = s.different;
    one = s.one;
    zeros = s.zeros;
    combination = s.combination;
    basic = λ i l. position_kept (basic_at T.basics i) (not_basic T v (basic_at T.basics i)
        (not_basic_here (position_at T.positions v) positions)
        (s.basic i l)) ∙ s.basic i l;
    positions = λ w l. right (w == v) w refl (s.positions w l);
  }
    where
      right : (t : Bool) (w : ℕ) → (w == v) ≡ t → IsWellPlaced T w (position_at T.positions w) → IsWellPlaced F w
          (position_at F.positions w)
      right true w e h =
          let same = eqb-true w v e in
          subst (λ z. IsWellPlaced F z (position_at F.positions z)) (sym same)
          (subst (IsWellPlaced F v) (sym (get_or-set_same T.positions v (other_side (position_at T.positions v)) Basic (omega arith)))
          (turned (position_at T.positions v) positions))
      right false w e h = subst (IsWellPlaced F w) (sym (position_kept w (eqb-false w v e))) (kept w (position_at T.positions w) h)

  pub flip_points : (m : Parts) → HasItsPoints m T → HasItsPoints m F
  flip_points m has = has
