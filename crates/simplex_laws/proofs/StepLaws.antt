-- The next step of a tableau can be made.
use Rattle.std.specs.Prelude.{◌≡◌, ◌≢◌, ℕ, ◌-◌, ◌<◌, ◌==◌, ◌&&◌, not, Bool, true, false, cond, if◌then◌else◌, List, length, Option, Some}
use Rattle.std.specs.Prelude.{None, option_map, option_and_then, ℤ, pos, unsigned_abs}
use Rattle.std.specs.List.{position}
use Rattle.std.specs.Int.Signed.{lt_z}
use Rattle.std.proofs.Common.{arith, refl, ap, sym, ◌∙◌, subst}
use Rattle.std.proofs.lemmas.Bool.{eqb-true}
use Rattle.std.proofs.lemmas.List.Quantifiers.{position-Some}
use Rattle.ring_laws.proofs.Rings.{whole}
use Rattle.ring_laws.proofs.Normal.{num, ◌⊗◌}
use Rattle.ring_laws.proofs.Named.{ring2}
use Rattle.frac128.specs.Fractions.{Fraction}
use Rattle.frac128.specs.Rationals.{Rational, S, of, neg, rational, absolute}
use Rattle.frac128.specs.Values.{value_of}
use Rattle.frac128.proofs.Rationals.{same}
use Rattle.frac128.proofs.Order.{nonzero, nonzero_neg}
use Rattle.lp_duality.specs.Duals.{is_below}
use Rattle.ip_defs.specs.declared.programs.Parts.{Parts}
use Rattle.tableau.specs.declared.positions.Rest.{Rest}
use Rattle.tableau.specs.declared.positions.Rest.TheVariants.{Basic, Low, High, Zero}
use Rattle.tableau.specs.declared.variables.Variable.{Variable}
use Rattle.tableau.specs.Tables.{Table, entry, basic_at, position_at, variable_at, CanRest, IsTable}
use Rattle.tableau.specs.Numbers.{side_at, is_fixed, range_between, range}
use Rattle.tableau.specs.Nodes.{number, IsWellPlaced, StandsFor}
use Rattle.tableau.specs.Meanings.{value_number, price_number, ratio_number}
use Rattle.simplex_laws.specs.declared.next.Next.{Next}
use Rattle.simplex_laws.specs.declared.next.Next.TheVariants.{Pivot, Flip, FinalRow}
use Rattle.simplex_laws.specs.Steps.{allows, can_move, direction, over_high, outside, infeasible, side_towards, row_entering, restore}
use Rattle.simplex_laws.specs.Steps.{side_met, block_at, block, nearest, move_by, move, entering, improve, by_infeasible, next}
use Rattle.simplex_laws.specs.Laws.{CanPivot, CanFlip, CanStep, StepsCanBeMade}
use Rattle.simplex_laws.proofs.ChoiceLaws.{paired, first_is, nearest_is}
use Rattle.ip_defs.proofs.BoolLaws.{both_true}
use Rattle.ip_defs.specs.Lists.{first}

-- ---- numbers that are not 0
falls : (z : ℤ) → lt_z z (pos 0) ≡ true → z ≢ pos 0
falls z e h = let q : lt_z (pos 0) (pos 0) ≡ true = ap (λ w. lt_z w (pos 0)) (sym h) ∙ e in absurd cc

rises : (z : ℤ) → lt_z (pos 0) z ≡ true → z ≢ pos 0
rises z e h = let q : lt_z (pos 0) (pos 0) ≡ true = ap (λ w. lt_z (pos 0) w) (sym h) ∙ e in absurd cc

-- a fraction 0 is the number 0
zero_value : (x : Fraction) → x.num ≡ pos 0 → value_of x ≡ of (pos 0)
unfolding rational of
zero_value x e = ap (λ n. rational n x.den) e ∙ same (pos 0) (unsigned_abs x.den - 1) (pos 0) 0
    (ring2 whole (λ a b. num (pos 0) ⊗ a) (λ a b. num (pos 0) ⊗ b) refl (S 0) (S (unsigned_abs x.den - 1)))

pub numerator : (x : Fraction) → value_of x ≢ of (pos 0) → x.num ≢ pos 0
numerator x n e = n (zero_value x e)

-- ---- positions
not_basic : (up : Bool) (r : Rest) → allows up r ≡ true → r ≢ Basic
not_basic up r e h = let q : allows up Basic ≡ true = ap (allows up) (sym h) ∙ e in absurd cc

-- a nonbasic variable that is well placed can have its position
pub can_rest : (T : Table) (v : ℕ) (r : Rest) → r ≢ Basic → IsWellPlaced T v r → CanRest (variable_at T.variables v) r
can_rest T v Basic n h = absurd (n refl)
can_rest T v Low n h = h
can_rest T v High n h = h
can_rest T v Zero n h = h

-- what can move in its direction is not basic, and its number is not 0
pub direction_is : (T : Table) (p : Rational) (v : ℕ) (up : Bool) → direction T p v ≡ Some up → (p.numerator ≢ pos 0)
    × (position_at T.positions v ≢ Basic)
direction_is T p v up e = by (lt_z p.numerator (pos 0) && can_move T true v) (lt_z (pos 0) p.numerator && can_move T false v) refl refl e
  where
    by : (s t : Bool) → (lt_z p.numerator (pos 0) && can_move T true v) ≡ s → (lt_z (pos 0) p.numerator && can_move T false v) ≡ t →
        cond s (Some true) (cond t (Some false) None) ≡ Some up → (p.numerator ≢ pos 0) × (position_at T.positions v ≢ Basic)
    by true t f g h =
        let x = both_true (lt_z p.numerator (pos 0)) (can_move T true v) f in
        let y = both_true (allows true (position_at T.positions v)) (not (is_fixed (variable_at T.variables v))) x.1 in
        (falls p.numerator x.0, not_basic true (position_at T.positions v) y.0)
    by false true f g h =
        let x = both_true (lt_z (pos 0) p.numerator) (can_move T false v) g in
        let y = both_true (allows false (position_at T.positions v)) (not (is_fixed (variable_at T.variables v))) x.1 in
        (rises p.numerator x.0, not_basic false (position_at T.positions v) y.0)
    by false false f g h = absurd cc

-- ---- sides
over_high_is : (x : Rational) (high : Option ℤ) (up : Bool) → over_high x high ≡ Some up → (high ≢ None) × (up ≡ false)
over_high_is x None up e = absurd cc
over_high_is x (Some z) up e = by (is_below (of z) x) e
  where
    by : (t : Bool) → cond t (Some false) None ≡ Some up → (Some z ≢ None) × (up ≡ false)
    by true g = ((λ q. absurd cc), cc)
    by false g = absurd cc

-- the side that is broken is there
outside_is : (x : Rational) (variable : Variable) (low : Option ℤ) (up : Bool) → variable.low ≡ low → outside x low variable.high ≡ Some up
    → CanRest variable (side_towards (not up))
outside_is x variable None up f e = let a = over_high_is x variable.high up e in
    subst (λ (u : Bool). CanRest variable (side_towards (not u))) (sym a.1) a.0
outside_is x variable (Some z) up f e = by (is_below x (of z)) e
  where
    by : (t : Bool) → cond t (Some true) (over_high x variable.high) ≡ Some up → CanRest variable (side_towards (not up))
    by true g =
        let q : true ≡ up = cc in
        subst (λ (u : Bool). CanRest variable (side_towards (not u))) q (λ w. let p : Some z ≡ None = sym f ∙ w in absurd cc)
    by false g = let a = over_high_is x variable.high up g in subst (λ (u : Bool). CanRest variable (side_towards (not u))) (sym a.1) a.0

-- a side that is named and there
named_side : (variable : Variable) (side : Rest) (z : ℤ) → side_at variable side ≡ Some z → CanRest variable side
named_side variable Basic z e = absurd cc
named_side variable Low z e = λ w. let p : None ≡ Some z = sym w ∙ e in absurd cc
named_side variable High z e = λ w. let p : None ≡ Some z = sym w ∙ e in absurd cc
named_side variable Zero z e = absurd cc

range_is : (low high : Option ℤ) (x : Rational) → range_between low high ≡ Some x → (low ≢ None) × (high ≢ None)
range_is None high x e = absurd cc
range_is (Some low) None x e = absurd cc
range_is (Some low) (Some high) x e = ((λ q. absurd cc), (λ q. absurd cc))

-- a side that is met belongs to a number that is not 0
met_is : (up : Bool) (t : Rational) (side : Rest) → side_met up t ≡ Some side → t.numerator ≢ pos 0
met_is up t side e = by (lt_z t.numerator (pos 0)) (lt_z (pos 0) t.numerator) refl refl e
  where
    by : (s u : Bool) → lt_z t.numerator (pos 0) ≡ s → lt_z (pos 0) t.numerator ≡ u →
        cond s (Some (side_towards up)) (cond u (Some (side_towards (not up))) None) ≡ Some side → t.numerator ≢ pos 0
    by true u f g h = falls t.numerator f
    by false true f g h = rises t.numerator g
    by false false f g h = absurd cc

-- ---- the rows of basic variables
pub basic_row : (T : Table) → IsTable T → (v k : ℕ) → position (λ w. w == v) T.basics ≡ Some k → (k < length T.rows)
    × (basic_at T.basics k ≡ v)
basic_row T table v k e =
    let p = position-Some (λ w. w == v) T.basics k 0 e in
    let l = p.0 in
    let s = table.basics in
    (omega arith, eqb-true (basic_at T.basics k) v p.1)

module _ (T : Table) (table : IsTable T) where
  -- a breach is a row whose basic variable is outside its sides
  pub infeasible_is : (w i : ℕ) (up : Bool) → infeasible T w ≡ Some (i, up) → (i < length T.rows) × (basic_at T.basics i ≡ w)
      × (outside (value_number T i) (variable_at T.variables w).low (variable_at T.variables w).high ≡ Some up)
  infeasible_is w i up e = by (position (λ z. z == w) T.basics) refl e
    where
      two : (k : ℕ) (o : Option Bool) → k < length T.rows → basic_at T.basics k ≡ w →
          outside (value_number T k) (variable_at T.variables w).low (variable_at T.variables w).high ≡ o →
          option_map {U = ℕ × Bool} (λ up. (k, up)) o ≡ Some (i, up) → (i < length T.rows) × (basic_at T.basics i ≡ w)
          × (outside (value_number T i) (variable_at T.variables w).low (variable_at T.variables w).high ≡ Some up)
      two k None l p g h = absurd cc
      two k (Some u) l p g h =
          let same : paired k u ≡ paired i up = cc in
          let q : k ≡ i = ap (λ (z : ℕ × Bool). z.0) same in
          let r : u ≡ up = ap (λ (z : ℕ × Bool). z.1) same in
          subst (λ (k : ℕ). (k < length T.rows) × (basic_at T.basics k ≡ w)
          × (outside (value_number T k) (variable_at T.variables w).low (variable_at T.variables w).high ≡ Some up)) q (
            l,
            p,
            g
                ∙ ap Some r,
          )

      by : (o : Option ℕ) → position (λ z. z == w) T.basics ≡ o →
          option_and_then (λ i. option_map {U = ℕ × Bool} (λ up. (i, up)) (outside (value_number T i) (variable_at T.variables w).low
          (variable_at T.variables w).high)) o ≡ Some (i, up) → (i < length T.rows) × (basic_at T.basics i ≡ w)
          × (outside (value_number T i) (variable_at T.variables w).low (variable_at T.variables w).high ≡ Some up)
      by None g h = absurd cc
      by (Some k) g h =
          let p = basic_row T table w k g in
          two k (outside (value_number T k) (variable_at T.variables w).low (variable_at T.variables w).high) p.0 p.1 refl h

  pub first_infeasible_is : (x : ℕ × Bool) → first (infeasible T) (length T.variables) ≡ Some x → (x.0 < length T.rows)
      × (outside (value_number T x.0) (variable_at T.variables (basic_at T.basics x.0)).low
      (variable_at T.variables (basic_at T.basics x.0)).high ≡ Some x.1)
  first_infeasible_is x e =
      let r = first_is (infeasible T) (length T.variables) x e in
      let s = infeasible_is r.0 x.0 x.1 r.2 in (
        s.0,
        subst (λ (w : ℕ). outside (value_number T x.0) (variable_at T.variables w).low (variable_at T.variables w).high
            ≡ Some x.1) (sym s.1) s.2,
      )

  module _ (positions : (v : ℕ) → v < length T.variables → IsWellPlaced T v (position_at T.positions v)) where
    restores : (i : ℕ) (up : Bool) (o : Option ℕ) → i < length T.rows →
        CanRest (variable_at T.variables (basic_at T.basics i)) (side_towards (not up)) → row_entering T i up ≡ o
        → CanStep T (restore i up o)
    restores i up None l leaves e = l
    restores i up (Some v) l leaves e = by
        (first_is (λ v. option_map (λ go. v) (direction T (if up then number T i v else neg (number T i v)) v))
        (length T.variables) v e)
      where
        pivot_of : (up : Bool) (w : ℕ) → (if up then number T i w else neg (number T i w)).numerator ≢ pos 0 →
            (entry T.rows i w).num ≢ pos 0
        pivot_of true w h = numerator (entry T.rows i w) (nonzero (number T i w) h)
        pivot_of false w h = numerator (entry T.rows i w) (nonzero_neg (number T i w) h)

        at : (w : ℕ) → w < length T.variables → (o : Option Bool) → direction T (if up then number T i w else neg (number T i w)) w ≡ o →
            option_map (λ go. w) o ≡ Some v → CanPivot T i v (side_towards (not up))
        at w k None g h = absurd cc
        at w k (Some go) g h =
            let q : w ≡ v = cc in
            let x = direction_is T (if up then number T i w else neg (number T i w)) w go g in
            subst (λ (z : ℕ). CanPivot T i z (side_towards (not up))) q (record {
              row = l;
              variable = k;
              pivot = pivot_of up w x.0;
              enters = x.1;
              leaves = leaves;
            })

        by : (w : ℕ) × (w < length T.variables) × (option_map (λ go. w) (direction T (if up then number T i w else neg (number T i w)) w)
            ≡ Some v) → CanPivot T i v (side_towards (not up))
        by r = at r.0 r.1 (direction T (if up then number T i r.0 else neg (number T i r.0)) r.0) refl r.2

    module _ (v : ℕ) (up : Bool) (inside : v < length T.variables) (free : position_at T.positions v ≢ Basic) where
      -- a side of a basic variable blocks v by a pivot that can be made
      stops_at : (i : ℕ) (side : Rest) (x : Rational × Next) → i < length T.rows → (number T i v).numerator ≢ pos 0 →
          block_at T v i side ≡ Some x → CanStep T x.1
      stops_at i side x l n e = by (side_at (variable_at T.variables (basic_at T.basics i)) side) refl e
        where
          by : (o : Option ℤ) → side_at (variable_at T.variables (basic_at T.basics i)) side ≡ o →
              option_map {U = Rational × Next} (λ there. (absolute (ratio_number T i v side), Pivot i v side)) o ≡ Some x → CanStep T x.1
          by None f h = absurd cc
          by (Some z) f h =
              let q : paired (absolute (ratio_number T i v side)) (Pivot i v side) ≡ x = cc in
              subst (λ (y : Rational × Next). CanStep T y.1) q (record {
                row = l;
                variable = inside;
                pivot = numerator (entry T.rows i v) (nonzero (number T i v) n);
                enters = free;
                leaves = named_side (variable_at T.variables (basic_at T.basics i)) side z f;
              })

      blocks_in : (i : ℕ) (x : Rational × Next) → i < length T.rows → option_and_then (block_at T v i) (side_met up (number T i v))
          ≡ Some x
          → CanStep T x.1
      blocks_in i x l e = by (side_met up (number T i v)) refl e
        where
          by : (o : Option Rest) → side_met up (number T i v) ≡ o → option_and_then (block_at T v i) o ≡ Some x → CanStep T x.1
          by None f h = absurd cc
          by (Some side) f h = stops_at i side x l (met_is up (number T i v) side f) h

      blocks : (w : ℕ) (x : Rational × Next) → block T v up w ≡ Some x → CanStep T x.1
      blocks w x e = by (w == v) (range (variable_at T.variables v)) (position (λ z. z == w) T.basics) refl refl e
        where
          by : (t : Bool) (far : Option Rational) (at : Option ℕ) → range (variable_at T.variables v) ≡ far →
              position (λ z. z == w) T.basics ≡ at → cond t (option_map (λ far. (far, Flip v)) far)
              (option_and_then (λ i. option_and_then (block_at T v i) (side_met up (number T i v))) at) ≡ Some x → CanStep T x.1
          by true None at g f h = absurd cc
          by true (Some far) at g f h =
              let q : paired far (Flip v) ≡ x = cc in
              let sides = range_is (variable_at T.variables v).low (variable_at T.variables v).high far g in
              subst (λ (z : Rational × Next). CanStep T z.1) q (record {
                variable = inside;
                position = can_rest T v (position_at T.positions v) free (positions v inside);
                low = sides.0;
                high = sides.1;
              })
          by false far None g f h = absurd cc
          by false far (Some i) g f h = blocks_in i x (basic_row T table w i f).0 h

      moves : (o : Option (Rational × Next)) → nearest (block T v up) (length T.variables) ≡ o → CanStep T (move_by o)
      moves None e = tt
      moves (Some x) e = let r = nearest_is (block T v up) (length T.variables) x e in blocks r.0 x r.2

    improves : (o : Option (ℕ × Bool)) → entering T ≡ o → CanStep T (improve T o)
    improves None e = tt
    improves (Some go) e = by (first_is (λ v. option_map (λ up. (v, up)) (direction T (price_number T v) v)) (length T.variables) go e)
      where
        at : (w : ℕ) → w < length T.variables → (o : Option Bool) → direction T (price_number T w) w ≡ o → option_map (λ up. (w, up)) o
            ≡ Some go
            → CanStep T (move T go)
        at w k None g h = absurd cc
        at w k (Some up) g h =
            let q : paired w up ≡ go = cc in
            let x = direction_is T (price_number T w) w up g in
            subst (λ (z : ℕ × Bool). CanStep T (move T z)) q (moves w up k x.1 (nearest (block T w up) (length T.variables)) refl)

        by : (w : ℕ) × (w < length T.variables) × (option_map (λ up. (w, up)) (direction T (price_number T w) w) ≡ Some go) →
            CanStep T (move T go)
        by r = at r.0 r.1 (direction T (price_number T r.0) r.0) refl r.2

    repairs : (o : Option (ℕ × Bool)) → first (infeasible T) (length T.variables) ≡ o → CanStep T (by_infeasible T o)
    repairs None e = improves (entering T) refl
    repairs (Some x) e =
        let r = first_infeasible_is x e in
        let variable = variable_at T.variables (basic_at T.basics x.0) in
        restores x.0 x.1 (row_entering T x.0 x.1) r.0 (outside_is (value_number T x.0) variable variable.low x.1 refl r.1) refl

    pub next_can_step : CanStep T (next T)
    unfolding next
    next_can_step = repairs (first (infeasible T) (length T.variables)) refl

pub steps_can_be_made : StepsCanBeMade
steps_can_be_made m b T table stands = next_can_step T table (λ v l. stands.positions v (let e = stands.size in omega arith))

-- ---- by the name of the step
module _ (m : Parts) (b : List (ℤ × ℤ)) (T : Table) (table : IsTable T) (stands : StandsFor m b T) where
  pub next_pivots : (r v : ℕ) (leaving : Rest) → next T ≡ Pivot r v leaving → CanPivot T r v leaving
  next_pivots r v leaving e = subst (CanStep T) e (steps_can_be_made m b T table stands)

  pub next_flips : (v : ℕ) → next T ≡ Flip v → CanFlip T v
  next_flips v e = subst (CanStep T) e (steps_can_be_made m b T table stands)

  pub next_row : (i : ℕ) (up : Bool) → next T ≡ FinalRow i up → i < length T.rows
  next_row i up e = subst (CanStep T) e (steps_can_be_made m b T table stands)
