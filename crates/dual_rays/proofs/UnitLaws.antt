-- A ray divided by the absolute value of one of its numbers: the multiples by the least common denominator have no common divisor.
use Rattle.std.specs.Prelude.{◌≡◌, ◌≢◌, ℕ, zero, suc, ◌*◌, ◌/◌, ◌<◌, ◌≤◌, List, [], ◌∷◌, length, map, ℤ, pos, negsuc, neg_ℤ, ◌*ℤ◌, ◌<ℤ◌}
use Rattle.std.specs.Prelude.{◌≤ℤ◌, unsigned_abs}
use Rattle.std.specs.Int.{◌∣◌}
use Rattle.std.proofs.Common.{arith, refl, ap, sym, ◌∙◌, subst}
use Rattle.std.proofs.lemmas.Int.{ints, unsigned_abs-mul}
use Rattle.std.proofs.lemmas.List.{length-map, get_or-map}
use Rattle.std.proofs.Math.Nat.{mul-div_cancel', div-one, dvd_of_mul-dvd-mul_left, mul-dvd-mul_left, le_of_dvd}
use Rattle.std.proofs.Math.Nat.{pos_of_dvd_of_pos, mul_comm}
use Rattle.ring_laws.proofs.Normal.{num, var, ◌⊗◌, minus, combine, identity}
use Rattle.ring_laws.proofs.Named.{ring2}
use Rattle.ip_defs.specs.Program.{at}
use Rattle.frac128.specs.Gcd.{gcd}
use Rattle.frac128.specs.LowestTerms.{gcd-is, gcd-mul}
use Rattle.frac128.specs.Rationals.{absolute, quotient}
use Rattle.frac128.proofs.Rationals.{Rational, S, over, of, of_mul, mul, neg, rationals}
use Rattle.frac128.proofs.Order.{inverse, inverse-is, nonzero, of_neg}
use Rattle.frac128.proofs.Fractions.{crosswise}
use Rattle.frac128.proofs.SignLaws.{absolute-up, absolute-down}
use Rattle.lp_duality.proofs.SignLaws.{Sign, up, down, none, sign_of}
use Rattle.dual_rays.specs.Multiples.{common_denominator, common_divisor, multiple, multiples, primitive}
use Rattle.dual_rays.specs.Internal.Quotients.{number_at}
use Rattle.dual_rays.proofs.DenominatorLaws.{denominator-positive, denominator-divides, denominator-least}
use Rattle.dual_rays.proofs.DivisorLaws.{divisor-divides, primitive-same}
use Rattle.dual_rays.proofs.PriceLaws.{multiple-value}

pub of-injective : (x y : ℤ) → of x ≡ of y → x ≡ y
unfolding of S
of-injective x y e = let c = crosswise x 0 y 0 e in omega (arith, ints)

-- ---- absolute values
turned : (p : Rational) → p.numerator <ℤ pos 0 → p ≡ neg (absolute p)
turned p s = ring2 rationals (λ a b. a) (λ a b. minus (minus a)) refl p p ∙ ap neg (sym (absolute-down p s))

-- the absolute value of a number that is not 0 has an inverse
absolute-inverse : (p : Rational) → p.numerator ≢ pos 0 → mul (absolute p) (inverse (absolute p)) ≡ of (pos 1)
absolute-inverse p n = inverse-is (absolute p) (by (sign_of p.numerator))
  where
    by : Sign p.numerator → absolute p ≢ of (pos 0)
    by (up s) = λ e. nonzero p n (sym (absolute-up p (omega (arith, ints))) ∙ e)
    by (none s) = absurd (n s)
    by (down s) = λ e. nonzero p n (turned p s ∙ ap neg e ∙ identity rationals [] (minus (num (pos 0))) (num (pos 0)) refl)

one_top : ((of (pos 1)).numerator ≡ pos 1) × ((of (pos 1)).less ≡ 0)
unfolding of over gcd
one_top = (refl, refl)

minus_one_top : ((of (negsuc 0)).numerator ≡ negsuc 0) × ((of (negsuc 0)).less ≡ 0)
unfolding of over gcd
minus_one_top = (refl, refl)

-- a number over its own absolute value is 1 or -1
unit : (p : Rational) → p.numerator ≢ pos 0 → (unsigned_abs (quotient p (absolute p)).numerator ≡ 1) × ((quotient p (absolute p)).less ≡ 0)
unit p n = by (sign_of p.numerator)
  where
    by : Sign p.numerator → (unsigned_abs (quotient p (absolute p)).numerator ≡ 1) × ((quotient p (absolute p)).less ≡ 0)
    by (none s) = absurd (n s)
    by (up s) =
        let is : quotient p (absolute p) ≡ of (pos 1) = ap (λ z. mul z (inverse (absolute p))) (sym (absolute-up p (omega (arith, ints))))
        ∙ absolute-inverse p n in
        (ap (λ (z : Rational). unsigned_abs z.numerator) is ∙ ap unsigned_abs one_top.0, ap (λ (z : Rational). z.less) is ∙ one_top.1)
    by (down s) =
        let is : quotient p (absolute p) ≡ of (negsuc 0) = ap (λ z. mul z (inverse (absolute p))) (turned p s)
        ∙ ring2 rationals (λ a b. minus a ⊗ b) (λ a b. minus (a ⊗ b)) refl (absolute p) (inverse (absolute p))
        ∙ ap neg (absolute-inverse p n) ∙ sym (of_neg (pos 1)) in (
          ap (λ (z : Rational). unsigned_abs z.numerator) is ∙ ap unsigned_abs minus_one_top.0,
          ap (λ (z : Rational). z.less) is
              ∙ minus_one_top.1,
        )

up_size : (t : ℤ) (e : ℕ) → pos 0 ≤ℤ t → pos (unsigned_abs (t *ℤ pos e)) ≡ t *ℤ pos e
up_size (pos n) e h = refl
up_size (negsuc n) e h = absurd (omega (arith, ints))

down_size : (t : ℤ) (e : ℕ) → t <ℤ pos 0 → pos (unsigned_abs (t *ℤ pos e)) ≡ neg_ℤ (t *ℤ pos e)
down_size (pos n) e h = absurd (omega (arith, ints))
down_size (negsuc n) e h = omega (arith, ints)

-- the absolute value of a multiple is the multiple of the absolute value
absolute-multiple : (q : ℕ) (p : Rational) → suc p.less ∣ q → of (pos (unsigned_abs (multiple q p))) ≡ mul (of (pos q)) (absolute p)
absolute-multiple q p d = by (sign_of p.numerator)
  where
    by : Sign p.numerator → of (pos (unsigned_abs (p.numerator *ℤ pos (q / suc p.less)))) ≡ mul (of (pos q)) (absolute p)
    by (up s) = ap of (up_size p.numerator (q / suc p.less) (omega (arith, ints))) ∙ multiple-value q p d
        ∙ ap (mul (of (pos q))) (sym (absolute-up p (omega (arith, ints))))
    by (none s) = ap of (up_size p.numerator (q / suc p.less) (omega (arith, ints))) ∙ multiple-value q p d
        ∙ ap (mul (of (pos q))) (sym (absolute-up p (omega (arith, ints))))
    by (down s) = ap of (down_size p.numerator (q / suc p.less) s) ∙ of_neg (multiple q p) ∙ ap neg (multiple-value q p d)
        ∙ ring2 rationals (λ a b. minus (a ⊗ b)) (λ a b. a ⊗ minus b) refl (of (pos q)) p ∙ ap (mul (of (pos q))) (sym (absolute-down p s))

-- ---- proportion
map_same : (f f' : ℤ → ℤ) (g g' : Rational → ℤ) (h : Rational → Rational) (ps : List Rational) →
    ((k : ℕ) → k < length ps → f (g (h (number_at ps k))) ≡ f' (g' (number_at ps k))) → map f (map g (map h ps)) ≡ map f' (map g' ps)
map_same f f' g g' h [] e = refl
map_same f f' g g' h (p ∷ ps) e = ap (λ z. z ∷ map f (map g (map h ps))) (e 0 (omega arith))
    ∙ ap (λ zs. f' (g' p) ∷ zs) (map_same f f' g g' h ps (λ k l. e (suc k) (omega arith)))

-- what divides two numbers with a common factor, and is coprime to the cofactors, divides the factor
common_factor : (d t b e : ℕ) → gcd t b ≡ 1 → 0 < e → d ∣ t * e → d ∣ b * e → d ∣ e
common_factor d t b e one positive first second =
    let all : gcd (e * t) (e * b) ≡ e = gcd-mul e t b positive ∙ ap (λ n. e * n) one ∙ omega arith in
    subst (λ n. d ∣ n) all ((gcd-is (e * t) (e * b)).2 d (subst (λ n. d ∣ n) (mul_comm t e) first)
    (subst (λ n. d ∣ n) (mul_comm b e) second))

quotient_one : (d q m : ℕ) → 0 < q → d * m ≡ q → q ≤ m → d ≡ 1
quotient_one zero q m p e l = absurd (omega arith)
quotient_one (suc zero) q m p e l = refl
quotient_one (suc (suc d)) q m p e l = absurd (omega arith)

pub positive_right : (b e q : ℕ) → b * e ≡ q → 0 < q → 0 < e
positive_right b zero q p l = absurd (omega arith)
positive_right b (suc e) q p l = omega arith

pub positive_both : (a b : ℕ) → 0 < a → 0 < b → 0 < a * b
positive_both zero b p q = absurd (omega arith)
positive_both (suc a) zero p q = absurd (omega arith)
positive_both (suc a) (suc b) p q = omega arith

size_positive : (z : ℤ) → z ≢ pos 0 → 0 < unsigned_abs z
size_positive (pos zero) n = absurd (n refl)
size_positive (pos (suc m)) n = omega (arith, ints)
size_positive (negsuc m) n = omega (arith, ints)

module _ (ps : List Rational) (i : ℕ) (l : i < length ps) (n : (number_at ps i).numerator ≢ pos 0) where
  abbrev s : Rational
  s = absolute (number_at ps i)

  abbrev rs : List Rational
  rs = map (λ p. quotient p s) ps

  abbrev q : ℕ
  q = common_denominator rs

  abbrev w : ℕ
  w = unsigned_abs (multiple (common_denominator ps) (number_at ps i))

  number_is : (k : ℕ) → k < length ps → number_at rs k ≡ quotient (number_at ps k) s
  number_is k m = get_or-map (λ p. quotient p s) ps k (of (pos 0)) (of (pos 0)) m

  inside : (k : ℕ) → k < length ps → k < length rs
  inside k m = subst (λ j. k < j) (sym (length-map ps (λ p. quotient p s))) m

  divides : (k : ℕ) → k < length ps → suc (quotient (number_at ps k) s).less ∣ q
  divides k m = subst (λ (p : Rational). suc p.less ∣ q) (number_is k m) (denominator-divides rs k (inside k m))

  w_is : of (pos w) ≡ mul (of (pos (common_denominator ps))) s
  w_is = absolute-multiple (common_denominator ps) (number_at ps i) (denominator-divides ps i l)

  in_proportion : (k : ℕ) → k < length ps → pos w *ℤ multiple q (quotient (number_at ps k) s)
      ≡ pos q *ℤ multiple (common_denominator ps) (number_at ps k)
  in_proportion k m =
      let p = number_at ps k in
      let Q = common_denominator ps in
      let first = multiple-value q (quotient p s) (divides k m) in
      let second = multiple-value Q p (denominator-divides ps k m) in
      of-injective (pos w *ℤ multiple q (quotient p s)) (pos q *ℤ multiple Q p)
      (of_mul (pos w) (multiple q (quotient p s)) ∙ ap (mul (of (pos w))) first ∙ ap (λ z. mul z (mul (of (pos q)) (quotient p s))) w_is
      ∙ combine rationals (of (pos Q) ∷ s ∷ of (pos q) ∷ p ∷ inverse s ∷ [])
      ((var 0 ⊗ var 2 ⊗ var 3, var 1 ⊗ var 4, num (pos 1)) ∷ [])
      ((var 0 ⊗ var 1) ⊗ (var 2 ⊗ (var 3 ⊗ var 4))) (var 2 ⊗ (var 0 ⊗ var 3)) refl (absolute-inverse (number_at ps i) n, tt)
      ∙ ap (mul (of (pos q))) (sym second) ∙ sym (of_mul (pos q) (multiple Q p)))

  -- the absolute value of the number's own multiple is the denominator
  pub unit-multiple : unsigned_abs (at (multiples rs) i) ≡ q
  unit-multiple =
      let r = quotient (number_at ps i) s in
      let one = unit (number_at ps i) n in
      ap unsigned_abs (get_or-map (multiple q) rs i (of (pos 0)) (pos 0) (inside i l) ∙ ap (multiple q) (number_is i l))
      ∙ unsigned_abs-mul r.numerator (pos (q / suc r.less)) ∙ ap (λ z. z * (q / suc r.less)) one.0 ∙ ap (λ z. 1 * (q / suc z)) one.1
      ∙ ap (λ z. 1 * z) (div-one q) ∙ omega arith

  abbrev d : ℕ
  d = common_divisor (multiples rs)

  within : (k : ℕ) → k < length rs → k < length (multiples rs)
  within k m = subst (λ j. k < j) (sym (length-map rs (multiple q))) m

  d_divides : d ∣ q
  d_divides = subst (λ z. d ∣ z) unit-multiple (divisor-divides (multiples rs) i (within i (inside i l)))

  q_is : d * (q / d) ≡ q
  q_is = mul-div_cancel' d d_divides

  each : (k : ℕ) → k < length rs → suc (number_at rs k).less ∣ q / d
  each k m =
      let p = number_at rs k in
      let b = suc p.less in
      let e = q / b in
      let product : b * e ≡ q = mul-div_cancel' b (denominator-divides rs k m) in
      let size : unsigned_abs (at (multiples rs) k) ≡ unsigned_abs p.numerator * e =
      ap unsigned_abs (get_or-map (multiple q) rs k (of (pos 0)) (pos 0) m) ∙ unsigned_abs-mul p.numerator (pos e) in
      let first : d ∣ unsigned_abs p.numerator * e = subst (λ z. d ∣ z) size (divisor-divides (multiples rs) k (within k m)) in
      let factor : d ∣ e = common_factor d (unsigned_abs p.numerator) b e p.lowest (positive_right b e q product (denominator-positive rs))
      first (subst (λ z. d ∣ z) (sym product) d_divides) in
      let products : d * b ∣ d * (q / d) = subst (λ z. z ∣ d * (q / d)) (mul_comm b d) (subst (λ z. b * d ∣ z) (product
      ∙ sym q_is) (mul-dvd-mul_left d b factor)) in
      dvd_of_mul-dvd-mul_left b (pos_of_dvd_of_pos d_divides (denominator-positive rs)) products

  lowest : d ≡ 1
  lowest = quotient_one d q (q / d) (denominator-positive rs) q_is
      (le_of_dvd (positive_right d (q / d) q q_is (denominator-positive rs)) (denominator-least rs (q / d) each))

  w_positive : 0 < w
  w_positive =
      let p = number_at ps i in
      let Q = common_denominator ps in
      let e = Q / suc p.less in
      let right : 0 < e = positive_right (suc p.less) e Q (mul-div_cancel' (suc p.less) (denominator-divides ps i l))
      (denominator-positive ps) in
      subst (λ z. 0 < z) (sym (unsigned_abs-mul p.numerator (pos e))) (positive_both (unsigned_abs p.numerator) e
      (size_positive p.numerator n) right)

  -- the least whole multiple of a ray is that of its numbers over the absolute value of one of them
  pub primitive-unit : primitive (multiples ps) ≡ multiples rs
  primitive-unit = primitive-same w q (multiples ps) (multiples rs) w_positive (denominator-positive rs)
      (map_same (λ z. pos w *ℤ z) (λ z. pos q *ℤ z) (multiple q) (multiple (common_denominator ps)) (λ p. quotient p s) ps in_proportion)
      lowest
