-- A positive multiple of a divisor and multipliers has that multiple of the dual value.
use Rattle.std.specs.Prelude.{◌≡◌, ℕ, zero, suc, ◌<◌, List, [], ◌∷◌, length, Option, Some, None, option_map, ℤ, pos, ◌<ℤ◌}
use Rattle.std.proofs.Common.{arith, refl, ap, sym, ◌∙◌, ◌⊎◌, inl, inr}
use Rattle.std.proofs.lemmas.Int.{ints}
use Rattle.ip_defs.specs.Program.{low_at, high_at}
use Rattle.ip_defs.specs.Certificates.{coefficient_of}
use Rattle.ip_defs.specs.declared.programs.Parts.{Parts}
use Rattle.ring_laws.proofs.Rings.{mul_zero}
use Rattle.ring_laws.proofs.Normal.{var, ◌⊕◌, ◌⊖◌, ◌⊗◌, identity}
use Rattle.ring_laws.proofs.Named.{ring3, ring4}
use Rattle.ring_laws.proofs.Sums.{sum, sum_same, sum_scale}
use Rattle.frac128.proofs.Rationals.{Rational, of, add, sub, mul, rationals}
use Rattle.frac128.proofs.Order.{AtMost, NotNegative, at_most_total, mul_at_most, zero_top}
use Rattle.lp_duality.specs.Relaxations.{row_low, row_high, cost_of}
use Rattle.lp_duality.specs.Duals.{paid, sum_of_all, lesser, left_of, dual}
use Rattle.lp_duality.specs.Laws.{DualsAreScaled}
use Rattle.lp_duality.proofs.SignLaws.{Sign, up, down, none, sign_of, top_zero, mul_positive, mul_negative, paid_up, paid_down}
use Rattle.lp_duality.proofs.SignLaws.{paid_zero, lesser_first, lesser_second}
use Rattle.lp_duality.proofs.OptionSumLaws.{plus, sum_of_all_same}

-- the columns' part of a dual value, by the reduced costs
abbrev pub column_sum : (ℕ → Rational) → List (ℤ × ℤ) → ℕ → Rational
column_sum d b n = sum rationals (λ j. lesser (mul (d j) (of (low_at b j))) (mul (d j) (of (high_at b j)))) n

pub column_sum_same : (d e : ℕ → Rational) (b : List (ℤ × ℤ)) (n : ℕ) → ((j : ℕ) → d j ≡ e j) → column_sum d b n ≡ column_sum e b n
column_sum_same d e b n h = sum_same rationals (λ j. lesser (mul (d j) (of (low_at b j))) (mul (d j) (of (high_at b j))))
    (λ j. lesser (mul (e j) (of (low_at b j))) (mul (e j) (of (high_at b j)))) n
    (λ j l. ap (λ z. lesser (mul z (of (low_at b j))) (mul z (of (high_at b j)))) (h j))

-- the sum of all payments
abbrev pub paid_sum : Parts → (ℕ → Rational) → Option Rational
paid_sum m y = sum_of_all (λ k. paid (y k) (row_low m k) (row_high m k)) (length m.rows)

-- the dual value, by the payments, the divisor and the columns
abbrev pub dual_of : Parts → Rational → Rational → Option Rational → Option Rational
dual_of m q columns pays = option_map (λ pay. add (add pay (mul q (of m.constant))) columns) pays

-- only the multipliers of rows matter
pub dual_same : (m : Parts) (b : List (ℤ × ℤ)) (q : Rational) (y z : ℕ → Rational) → ((k : ℕ) → k < length m.rows → y k ≡ z k) →
    dual m b q y ≡ dual m b q z
dual_same m b q y z h =
    let left : (j : ℕ) → left_of m q y j ≡ left_of m q z j =
    λ j. ap (λ s. sub (mul q (cost_of m j)) s) (sum_same rationals (λ k. mul (y k) (of (coefficient_of m.rows k j)))
    (λ k. mul (z k) (of (coefficient_of m.rows k j))) (length m.rows) (λ k l. ap (λ w. mul w (of (coefficient_of m.rows k j)))
    (h k l))) in
    ap (λ s. dual_of m q s (paid_sum m y)) (column_sum_same (left_of m q y) (left_of m q z) b (length m.columns) left)
    ∙ ap (dual_of m q (column_sum (left_of m q z) b (length m.columns)))
    (sum_of_all_same (λ k. paid (y k) (row_low m k) (row_high m k)) (λ k. paid (z k) (row_low m k) (row_high m k)) (length m.rows)
    (λ k l. ap (λ w. paid w (row_low m k) (row_high m k)) (h k l)))

module _ (a : Rational) (positive : pos 0 <ℤ a.numerator) where
  mapped : (p : Rational) (o : Option ℤ) → option_map (λ z. mul (mul a p) (of z)) o ≡ option_map (mul a) (option_map (λ z. mul p (of z)) o)
  mapped p None = refl
  mapped p (Some z) = ap Some (ring3 rationals (λ a p z. (a ⊗ p) ⊗ z) (λ a p z. a ⊗ (p ⊗ z)) refl a p (of z))

  paid_scaled : (p : Rational) (l h : Option ℤ) → paid (mul a p) l h ≡ option_map (mul a) (paid p l h)
  paid_scaled p l h = by (sign_of p.numerator)
    where
      by : Sign p.numerator → paid (mul a p) l h ≡ option_map (mul a) (paid p l h)
      by (up s) = paid_up (mul a p) l h (mul_positive a p positive s) ∙ mapped p l ∙ ap (option_map (mul a)) (sym (paid_up p l h s))
      by (down s) = paid_down (mul a p) l h (mul_negative a p positive s) ∙ mapped p h ∙ ap (option_map (mul a)) (sym (paid_down p l h s))
      by (none s) =
          let z : mul a p ≡ of (pos 0) = ap (mul a) (top_zero p s) ∙ mul_zero rationals a in
          paid_zero (mul a p) l h (ap (λ w. w.numerator) z ∙ zero_top) ∙ ap Some (sym (mul_zero rationals a))
          ∙ ap (option_map (mul a)) (sym (paid_zero p l h s))

  plus_scaled : (o p : Option Rational) → plus (option_map (mul a) o) (option_map (mul a) p) ≡ option_map (mul a) (plus o p)
  plus_scaled None p = refl
  plus_scaled (Some x) None = refl
  plus_scaled (Some x) (Some y) = ap Some (sym (rationals.mul_add a x y))

  sum_of_all_scaled : (f g : ℕ → Option Rational) (n : ℕ) → ((k : ℕ) → g k ≡ option_map (mul a) (f k)) →
      sum_of_all g n ≡ option_map (mul a) (sum_of_all f n)
  sum_of_all_scaled f g zero h = ap Some (sym (mul_zero rationals a))
  sum_of_all_scaled f g (suc n) h =
      ap (λ o. plus o (g n)) (sum_of_all_scaled f g n h)
      ∙ ap (plus (option_map (mul a) (sum_of_all f n))) (h n)
      ∙ plus_scaled (sum_of_all f n) (f n)

  lesser_scaled : (p q : Rational) → lesser (mul a p) (mul a q) ≡ mul a (lesser p q)
  lesser_scaled p q = by (at_most_total p q)
    where
      not_negative : NotNegative a
      not_negative = omega (arith, ints)

      by : AtMost p q ⊎ AtMost q p → lesser (mul a p) (mul a q) ≡ mul a (lesser p q)
      by (inl h) = lesser_first (mul a p) (mul a q) (mul_at_most a p q not_negative h) ∙ ap (mul a) (sym (lesser_first p q h))
      by (inr h) = lesser_second (mul a p) (mul a q) (mul_at_most a q p not_negative h) ∙ ap (mul a) (sym (lesser_second p q h))

  column_sum_scaled : (d : ℕ → Rational) (b : List (ℤ × ℤ)) (n : ℕ) → column_sum (λ j. mul a (d j)) b n ≡ mul a (column_sum d b n)
  column_sum_scaled d b n =
      let f : ℕ → Rational = λ j. lesser (mul (d j) (of (low_at b j))) (mul (d j) (of (high_at b j))) in
      sum_same rationals (λ j. lesser (mul (mul a (d j)) (of (low_at b j))) (mul (mul a (d j)) (of (high_at b j)))) (λ j. mul a (f j)) n
      (λ j l.
      ap (λ z. lesser z (mul (mul a (d j)) (of (high_at b j)))) (rationals.mul_assoc a (d j) (of (low_at b j)))
      ∙ ap (λ z. lesser (mul a (mul (d j) (of (low_at b j)))) z) (rationals.mul_assoc a (d j) (of (high_at b j)))
      ∙ lesser_scaled (mul (d j) (of (low_at b j))) (mul (d j) (of (high_at b j))))
      ∙ sum_scale rationals a f n

  module _ (m : Parts) (b : List (ℤ × ℤ)) (q : Rational) (y : ℕ → Rational) where
    left_scaled : (j : ℕ) → left_of m (mul a q) (λ k. mul a (y k)) j ≡ mul a (left_of m q y j)
    left_scaled j =
        let c : ℕ → Rational = λ k. of (coefficient_of m.rows k j) in
        let s = sum_same rationals (λ k. mul (mul a (y k)) (c k)) (λ k. mul a (mul (y k) (c k))) (length m.rows)
        (λ k l. rationals.mul_assoc a (y k) (c k))
        ∙ sum_scale rationals a (λ k. mul (y k) (c k)) (length m.rows) in
        ap (λ z. sub (mul (mul a q) (cost_of m j)) z) s
        ∙ ring4 rationals (λ a q c s. (a ⊗ q) ⊗ c ⊖ a ⊗ s) (λ a q c s. a ⊗ (q ⊗ c ⊖ s)) refl a q (cost_of m j)
        (sum rationals (λ k. mul (y k) (c k)) (length m.rows))

    pub dual_scaled : dual m b (mul a q) (λ k. mul a (y k)) ≡ option_map (mul a) (dual m b q y)
    dual_scaled =
        let n = length m.columns in
        let d = left_of m q y in
        let columns = column_sum_same (left_of m (mul a q) (λ k. mul a (y k))) (λ j. mul a (d j)) b n left_scaled
        ∙ column_sum_scaled d b n in
        ap (λ z. dual_of m (mul a q) z (paid_sum m (λ k. mul a (y k)))) columns
        ∙ ap (dual_of m (mul a q) (mul a (column_sum d b n))) (sum_of_all_scaled (λ k. paid (y k) (row_low m k) (row_high m k))
        (λ k. paid (mul a (y k)) (row_low m k) (row_high m k)) (length m.rows) (λ k. paid_scaled (y k) (row_low m k) (row_high m k)))
        ∙ by (paid_sum m y) (column_sum d b n)
      where
        by : (o : Option Rational) (s : Rational) → dual_of m (mul a q) (mul a s) (option_map (mul a) o)
            ≡ option_map (mul a) (dual_of m q s o)
        by None s = refl
        by (Some x) s = ap Some (identity rationals (a ∷ q ∷ of m.constant ∷ x ∷ s ∷ [])
            ((var 0 ⊗ var 3 ⊕ (var 0 ⊗ var 1) ⊗ var 2) ⊕ var 0 ⊗ var 4) (var 0 ⊗ ((var 3 ⊕ var 1 ⊗ var 2) ⊕ var 4)) refl)

pub duals_are_scaled : DualsAreScaled
duals_are_scaled m b a q y positive = dual_scaled a positive m b q y
