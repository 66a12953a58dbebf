-- A tableau that is final by a row: the row's slack entries, or their negations, pay more than 0.
use Rattle.std.specs.Prelude.{◌≡◌, ◌≢◌, ℕ, ◌+◌, ◌<◌, ◌==◌, Bool, true, false, cond, if◌then◌else◌, List, [], length, Option, Some, None, ℤ}
use Rattle.std.specs.Prelude.{pos, negsuc, ◌<ℤ◌}
use Rattle.std.proofs.Common.{arith, refl, ap, sym, ◌∙◌, subst}
use Rattle.std.proofs.lemmas.Int.{ints}
use Rattle.std.proofs.lemmas.Bool.{eqb-true, eqb-false}
use Rattle.ring_laws.proofs.Normal.{num, ◌⊕◌, ◌⊖◌, ◌⊗◌, minus, identity}
use Rattle.ring_laws.proofs.Named.{ring2, ring3}
use Rattle.ring_laws.proofs.Sums.{sum, sum_same, sum_add, sum_single}
use Rattle.frac128.specs.Rationals.{Rational, of, add, sub, mul, neg, NotNegative, AtMost}
use Rattle.frac128.proofs.Rationals.{rationals}
use Rattle.frac128.proofs.Order.{at_most_antisym, zero_top, of_neg}
use Rattle.ip_defs.specs.Certificates.{coefficient_of}
use Rattle.ip_defs.specs.declared.programs.Parts.{Parts}
use Rattle.lp_duality.specs.Relaxations.{cost_of, total_cost, IsUncrossed}
use Rattle.lp_duality.specs.Duals.{is_below, paid, left_of, dual}
use Rattle.lp_duality.proofs.SignLaws.{of_positive, of_negative, paid_up, paid_down, below_positive}
use Rattle.lp_duality.proofs.WeakDualityLaws.{relaxed_weak_duality}
use Rattle.tableau.specs.Tables.{Table, basic_at, position_at, variable_at, IsTable}
use Rattle.tableau.specs.Nodes.{number, StandsFor}
use Rattle.tableau.specs.Meanings.{value_number}
use Rattle.tableau.proofs.PointLaws.{sum_neg}
use Rattle.simplex_laws.specs.Steps.{direction, over_high, outside}
use Rattle.simplex_laws.specs.Finals.{point_of, slack_ray}
use Rattle.simplex_laws.specs.Laws.{EmptyIsRight, EmptyHasNoPoint}
use Rattle.simplex_laws.proofs.NonbasicLaws.{sign_fits}
use Rattle.simplex_laws.proofs.PointLaws.{values, point_zero, pays_at}
use Rattle.simplex_laws.proofs.BlockLaws.{if_same, if_other}
use Rattle.simplex_laws.proofs.AnswerLaws.{ray, final_row_is}
use Rattle.simplex_laws.proofs.DualLaws.{dual_is}

-- ---- the broken side
abbrev unit : Bool → Rational
unit up = if up then of (pos 1) else neg (of (pos 1))

unit_up : pos 0 <ℤ (of (pos 1)).numerator
unit_up = of_positive (pos 1) (omega (arith, ints))

unit_down : (neg (of (pos 1))).numerator <ℤ pos 0
unit_down = subst (λ (p : Rational). p.numerator <ℤ pos 0) (of_neg (pos 1)) (of_negative (negsuc 0) (omega (arith, ints)))

-- the side that is broken is paid, and is better than the value
pub record IsBetter (x : Rational) (low high : Option ℤ) (up : Bool) : Type 0 where
  pub side : Rational
  pub pays : paid (unit up) low high ≡ Some (mul (unit up) side)
  pub more : pos 0 <ℤ (mul (unit up) (sub side x)).numerator

over_high_pays : (x : Rational) (low high : Option ℤ) (up : Bool) → over_high x high ≡ Some up → IsBetter x low high up
over_high_pays x low None up e = absurd cc
over_high_pays x low (Some z) up e = by (is_below (of z) x) refl e
  where
    by : (t : Bool) → is_below (of z) x ≡ t → cond t (Some false) None ≡ Some up → IsBetter x low (Some z) up
    by false f g = absurd cc
    by true f g =
        let q : false ≡ up = cc in
        subst (λ (u : Bool). IsBetter x low (Some z) u) q (record {
          side = of z;
          pays = paid_down (neg (of (pos 1))) low (Some z) unit_down;
          more = subst (λ (p : Rational). pos 0 <ℤ p.numerator) (ring2 rationals (λ x s. x ⊖ s) (λ x s. minus (num (pos 1)) ⊗ (s ⊖ x)) refl
              x (of z)) (below_positive (of z) x f);
        })

outside_pays : (x : Rational) (low high : Option ℤ) (up : Bool) → outside x low high ≡ Some up → IsBetter x low high up
outside_pays x None high up e = over_high_pays x None high up e
outside_pays x (Some z) high up e = by (is_below x (of z)) refl e
  where
    by : (t : Bool) → is_below x (of z) ≡ t → cond t (Some true) (over_high x high) ≡ Some up → IsBetter x (Some z) high up
    by false f g = over_high_pays x (Some z) high up g
    by true f g =
        let q : true ≡ up = cc in
        subst (λ (u : Bool). IsBetter x (Some z) high u) q (record {
          side = of z;
          pays = paid_up (of (pos 1)) (Some z) high unit_up;
          more = subst (λ (p : Rational). pos 0 <ℤ p.numerator) (ring2 rationals (λ x s. s ⊖ x) (λ x s. num (pos 1) ⊗ (s ⊖ x)) refl x
              (of z)) (below_positive x (of z) f);
        })

module _ (m : Parts) (b : List (ℤ × ℤ)) (T : Table) (table : IsTable T) (stands : StandsFor m b T) (i : ℕ) (inside : i
    < length m.rows) where
  -- ---- a row's entries as multipliers
  -- without a cost, what is left of a column is its entry
  ray_left : (up : Bool) (j : ℕ) → j < length m.columns → left_of m (of (pos 0)) (slack_ray m T i up) j ≡ ray T i up j
  ray_left true j l =
      let c = length m.columns in
      ring2 rationals (λ a s. num (pos 0) ⊗ a ⊖ s) (λ a s. minus s) refl (cost_of m j)
      (sum rationals (λ k. mul (number T i (c + k)) (of (coefficient_of m.rows k j))) (length m.rows))
      ∙ sym (stands.combination i j inside l)
  ray_left false j l =
      let c = length m.columns in
      let f : ℕ → Rational = λ k. mul (number T i (c + k)) (of (coefficient_of m.rows k j)) in
      let turned = sum_same rationals (λ k. mul (neg (number T i (c + k))) (of (coefficient_of m.rows k j))) (λ k. neg (f k))
      (length m.rows) (λ k o. ring2 rationals (λ a d. minus a ⊗ d) (λ a d. minus (a ⊗ d)) refl (number T i (c + k))
      (of (coefficient_of m.rows k j)))
      ∙ sum_neg rationals f (length m.rows) in
      ap (λ z. sub (mul (of (pos 0)) (cost_of m j)) z) turned
      ∙ ring2 rationals (λ a s. num (pos 0) ⊗ a ⊖ minus s) (λ a s. minus (minus s)) refl (cost_of m j) (sum rationals f (length m.rows))
      ∙ ap neg (sym (stands.combination i j inside l))

  ray_own : (up : Bool) → ray T i up (basic_at T.basics i) ≡ unit up
  ray_own true = stands.one i inside
  ray_own false = ap neg (stands.one i inside)

  ray_flat : (up : Bool) (k : ℕ) → k < length m.rows → i ≢ k → ray T i up (basic_at T.basics k) ≡ of (pos 0)
  ray_flat true k l n = stands.zeros i k inside l n
  ray_flat false k l n = ap neg (stands.zeros i k inside l n) ∙ identity rationals [] (minus (num (pos 0))) (num (pos 0)) refl

  ray_zero : (up : Bool) → sum rationals (λ v. mul (ray T i up v) (point_of T v)) (length m.columns + length m.rows) ≡ of (pos 0)
  ray_zero true = point_zero m b T table stands i inside
  ray_zero false =
      let all = length m.columns + length m.rows in
      let f : ℕ → Rational = λ v. mul (number T i v) (point_of T v) in
      sum_same rationals (λ v. mul (neg (number T i v)) (point_of T v)) (λ v. neg (f v)) all
      (λ v l. ring2 rationals (λ a d. minus a ⊗ d) (λ a d. minus (a ⊗ d)) refl (number T i v) (point_of T v))
      ∙ sum_neg rationals f all
      ∙ ap neg (point_zero m b T table stands i inside) ∙ identity rationals [] (minus (num (pos 0))) (num (pos 0)) refl

  -- ---- what they gain
  module _ (up : Bool) (s : Rational) where
    -- the point, but the broken side in place of the broken value
    abbrev y : ℕ → Rational
    y v = if v == basic_at T.basics i then s else point_of T v

    ray_pays : paid (unit up) (variable_at T.variables (basic_at T.basics i)).low (variable_at T.variables (basic_at T.basics i)).high
        ≡ Some (mul (unit up) s) → ((v : ℕ) → v < length m.columns + length m.rows → direction T (ray T i up v) v ≡ None)
        → (v : ℕ) → v < length m.columns + length m.rows → paid (ray T i up v) (variable_at T.variables v).low
        (variable_at T.variables v).high ≡ Some (mul (ray T i up v) (y v))
    ray_pays own directions v l = by (v == basic_at T.basics i) refl
      where
        by : (t : Bool) → (v == basic_at T.basics i) ≡ t → paid (ray T i up v) (variable_at T.variables v).low
            (variable_at T.variables v).high ≡ Some (mul (ray T i up v) (cond t s (point_of T v)))
        by true e =
            let w = basic_at T.basics i in
            let x = variable_at T.variables w in
            subst (λ (z : ℕ). paid (ray T i up z) (variable_at T.variables z).low (variable_at T.variables z).high
            ≡ Some (mul (ray T i up z) s)) (sym (eqb-true v w e))
            (ap (λ p. paid p x.low x.high) (ray_own up) ∙ own ∙ ap (λ p. Some (mul p s)) (sym (ray_own up)))
        by false e =
            let x = variable_at T.variables v in
            pays_at m b T table stands (ray T i up v) v l
            (λ k o q. ap (ray T i up) (sym q) ∙ ray_flat up k o (λ p. eqb-false v (basic_at T.basics i) e (sym q
            ∙ ap (basic_at T.basics) (sym p))))
            (sign_fits (ray T i up v) x.low x.high (position_at T.positions v) (directions v l))

    ray_total : sum rationals (λ v. mul (ray T i up v) (y v)) (length m.columns + length m.rows) ≡ mul (unit up) (sub s (value_number T i))
    ray_total =
        let all = length m.columns + length m.rows in
        let w = basic_at T.basics i in
        let p = ray T i up in
        let x = point_of T in
        let f : ℕ → Rational = λ v. mul (p v) (sub (y v) (x v)) in
        let apart = sum_same rationals (λ v. mul (p v) (y v)) (λ v. add (mul (p v) (x v)) (f v)) all
        (λ v l. ring3 rationals (λ a c d. a ⊗ c) (λ a c d. a ⊗ d ⊕ a ⊗ (c ⊖ d)) refl (p v) (y v) (x v))
        ∙ sum_add rationals (λ v. mul (p v) (x v)) f all in
        let single = sum_single rationals f w all (stands.within i inside) (λ v l n. ap (λ z. mul (p v) (sub z (x v)))
        (if_other v w s (x v) n) ∙ ring2 rationals (λ a c. a ⊗ (c ⊖ c)) (λ a c. num (pos 0)) refl (p v) (x v)) in
        apart ∙ ap (λ z. add z (sum rationals f all)) (ray_zero up)
        ∙ ap (add (of (pos 0))) (single ∙ ap (λ z. mul z (sub (y w) (x w))) (ray_own up)
        ∙ ap (λ z. mul (unit up) (sub z (x w))) (if_same w w s (x w) refl)
        ∙ ap (λ z. mul (unit up) (sub s z)) (values m b T table stands i inside))
        ∙ ring2 rationals (λ a c. num (pos 0) ⊕ a) (λ a c. a) refl (mul (unit up) (sub s (value_number T i))) s

    ray_gains : IsUncrossed m b → paid (unit up) (variable_at T.variables (basic_at T.basics i)).low
        (variable_at T.variables (basic_at T.basics i)).high ≡ Some (mul (unit up) s) →
        ((v : ℕ) → v < length m.columns + length m.rows → direction T (ray T i up v) v ≡ None)
        → dual m b (of (pos 0)) (slack_ray m T i up) ≡ Some (mul (unit up) (sub s (value_number T i)))
    ray_gains ok own directions =
        dual_is m b T stands ok (of (pos 0)) (ray T i up) (λ v. mul (ray T i up v) (y v)) (ray_left up) (ray_pays own directions)
        ∙ ap (λ z. Some (add z (mul (of (pos 0)) (of m.constant)))) ray_total
        ∙ ap Some (ring2 rationals (λ g c. g ⊕ num (pos 0) ⊗ c) (λ g c. g) refl (mul (unit up) (sub s (value_number T i))) (of m.constant))

pub empty_is_right : EmptyIsRight
empty_is_right m b T i up table stands ok e =
    let broken = final_row_is T table i up e in
    let rows = stands.rows in
    let size = stands.size in
    let l = broken.row in
    let x = variable_at T.variables (basic_at T.basics i) in
    let better = outside_pays (value_number T i) x.low x.high up broken.outside in (
      mul (unit up) (sub better.side (value_number T i)),
      ray_gains m b T table stands i (omega arith) up better.side ok better.pays
          (λ v k. broken.directions v (omega arith)),
      better.more,
    )

-- a positive number is not at most 0
not_below_zero : (g c : Rational) → pos 0 <ℤ g.numerator → AtMost g (mul (of (pos 0)) c) → ⊥
not_below_zero g c up h =
    let below : AtMost g (of (pos 0)) = subst (AtMost g) (ring2 rationals (λ g c. num (pos 0) ⊗ c) (λ g c. num (pos 0)) refl g c) h in
    let rises : NotNegative g = omega (arith, ints) in
    let over_high : AtMost (of (pos 0)) g = subst NotNegative (ring2 rationals (λ g c. g) (λ g c. g ⊖ num (pos 0)) refl g c) rises in
    let none : g.numerator ≡ pos 0 = ap (λ (p : Rational). p.numerator) (at_most_antisym g (of (pos 0)) below over_high) ∙ zero_top in
    omega (arith, ints)

pub empty_has_no_point : EmptyHasNoPoint
empty_has_no_point m b T i up table stands ok e x relaxed =
    let r = empty_is_right m b T i up table stands ok e in
    not_below_zero r.0 (total_cost m x) r.2 (relaxed_weak_duality m b (of (pos 0)) (slack_ray m T i up) x r.0 relaxed r.1)
