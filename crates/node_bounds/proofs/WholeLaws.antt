-- Whole numbers among the rational ones, and the floor of a number between two of them.
use Rattle.std.specs.Prelude.{◌≡◌, ℕ, zero, suc, ◌^◌, ℤ, pos, negsuc, ◌+ℤ◌, ◌-ℤ◌, ◌*ℤ◌, ◌≤ℤ◌, ◌<ℤ◌, unsigned_abs, ◌≤◌, ◌==◌, Bool, true}
use Rattle.std.specs.Prelude.{false, MatchBool, List, length, ◌<◌, ◌+◌, Option, Some, None}
use Rattle.std.specs.Option.{is_some}
use Rattle.std.proofs.Common.{arith, refl, ap, sym, ◌∙◌, subst, get_or, below_more}
use Rattle.std.proofs.Math.Nat.{dvd-one}
use Rattle.std.proofs.lemmas.Bool.{eqb-true, eqb-false}
use Rattle.std.proofs.lemmas.Int.{ints}
use Rattle.std.proofs.lemmas.Option.{get_or_from_slice_get, slice_get_read}
use Rattle.frac128.specs.Fractions.{Fraction, IsFraction}
use Rattle.frac128.specs.Rationals.{Rational, denominator, of, rational, AtMost, IsBelow}
use Rattle.frac128.specs.Values.{value_of}
use Rattle.frac128.proofs.Fractions.{lowest-is}
use Rattle.frac128.proofs.GcdLaws.{gcd-is}
use Rattle.frac128.proofs.Order.{at_most_antisym, at_most_cross, at_most_trans, cross_at_most}
use Rattle.lp_duality.specs.Relaxations.{numbers_of}
use Rattle.lp_duality.proofs.SignLaws.{of_at_most}
use Rattle.node_bounds.specs.Internal.Relaxed.{IsSmallNumber, IsWholeNumber}

-- ---- the parts of whole numbers and of fractions
whole_parts : (z : ℤ) → ((of z).numerator ≡ z) × (denominator (of z) ≡ pos 1)
unfolding of rational
whole_parts z = lowest-is z (pos 1) (omega (arith, ints)) (dvd-one.0 (gcd-is (unsigned_abs z) 1).1)

value_parts : (x : Fraction) → IsFraction x.num x.den → ((value_of x).numerator ≡ x.num) × (denominator (value_of x) ≡ x.den)
value_parts x f = lowest-is x.num x.den f.positive f.lowest

-- products with the parts of a whole number
times_bottom : (a z : ℤ) → a *ℤ denominator (of z) ≡ a
times_bottom a z = ap (λ w. a *ℤ w) (whole_parts z).1 ∙ omega (arith, ints)

top_times : (z d : ℤ) → (of z).numerator *ℤ d ≡ z *ℤ d
top_times z d = ap (λ w. w *ℤ d) (whole_parts z).0

-- a number of a list by its index
pub number_read : (xs : List Fraction) (i : ℕ) (x : Fraction) → i < length xs → x ≡ get_or xs i x → numbers_of xs i ≡ value_of x
number_read xs i x l e = ap value_of
    (get_or_from_slice_get xs i x (record { num = pos 0; den = pos 1 }) (slice_get_read xs (length xs) i x refl l e))

-- ---- the order of whole numbers
pub of_injective : (a b : ℤ) → of a ≡ of b → a ≡ b
of_injective a b e = sym (whole_parts a).0 ∙ ap (λ p. p.numerator) e ∙ (whole_parts b).0

pub from_at_most : (l h : ℤ) → AtMost (of l) (of h) → l ≤ℤ h
from_at_most l h le =
    let cross = at_most_cross (of l) (of h) le in
    let left : (of l).numerator *ℤ denominator (of h) ≡ l = times_bottom (of l).numerator h ∙ (whole_parts l).0 in
    let right : (of h).numerator *ℤ denominator (of l) ≡ h = times_bottom (of h).numerator l ∙ (whole_parts h).0 in
    omega (arith, ints)

-- ---- whole fractions
-- a fraction is whole where its denominator is 1
whole_value : (x : Fraction) → x.den ≡ pos 1 → value_of x ≡ of x.num
unfolding of rational
whole_value x e = ap (λ d. rational x.num d) e

-- and only there
whole_den : (x : Fraction) → IsFraction x.num x.den → IsWholeNumber (value_of x) → x.den ≡ pos 1
whole_den x f whole = sym (value_parts x f).1 ∙ ap denominator whole.1 ∙ (whole_parts whole.0).1

-- so a test of the denominator tells
pub whole_test : (x : Fraction) (d : ℕ) → IsFraction x.num x.den → pos d ≡ x.den
    → MatchBool (d == 1) (IsWholeNumber (value_of x)) (IsWholeNumber (value_of x) → ⊥)
whole_test x d f is = by (d == 1) refl
  where
    by : (t : Bool) → (d == 1) ≡ t → MatchBool t (IsWholeNumber (value_of x)) (IsWholeNumber (value_of x) → ⊥)
    by true e = let one = eqb-true d 1 e in (x.num, whole_value x (omega (arith, ints)))
    by false e = λ whole. let one = whole_den x f whole in eqb-false d 1 e (omega (arith, ints))

-- a whole fraction is its numerator
pub whole_is : (x : Fraction) → IsFraction x.num x.den → IsWholeNumber (value_of x) → value_of x ≡ of x.num
whole_is x f whole = whole_value x (whole_den x f whole)

-- ---- floors of fractions
floor_at_most : (x : Fraction) (z : ℤ) → IsFraction x.num x.den → (z *ℤ x.den) ≤ℤ x.num → AtMost (of z) (value_of x)
floor_at_most x z f le =
    let left : (of z).numerator *ℤ denominator (value_of x) ≡ z *ℤ x.den = ap (λ w. (of z).numerator *ℤ w) (value_parts x f).1
    ∙ top_times z x.den in
    let right : (value_of x).numerator *ℤ denominator (of z) ≡ x.num = times_bottom (value_of x).numerator z ∙ (value_parts x f).0 in
    cross_at_most (of z) (value_of x) (omega (arith, ints))

floor_greatest : (x : Fraction) (z : ℤ) → IsFraction x.num x.den → x.num <ℤ ((z +ℤ pos 1) *ℤ x.den) → AtMost (value_of x) (of (z +ℤ pos 1))
floor_greatest x z f less =
    let next = z +ℤ pos 1 in
    let left : (value_of x).numerator *ℤ denominator (of next) ≡ x.num = times_bottom (value_of x).numerator next ∙ (value_parts x f).0 in
    let right : (of next).numerator *ℤ denominator (value_of x) ≡ next *ℤ x.den = ap (λ w. (of next).numerator *ℤ w) (value_parts x f).1
    ∙ top_times next x.den in
    cross_at_most (value_of x) (of next) (omega (arith, ints))

-- ---- a number between two whole ones that is not whole
module _ (p : Rational) (z : ℤ) (least : AtMost (of z) p) (most : AtMost p (of (z +ℤ pos 1))) (broken : IsWholeNumber p → ⊥) where
  pub floor_below : IsBelow (of z) p
  floor_below = (least, λ e. broken (z, sym e))

  pub below_next : IsBelow p (of (z +ℤ pos 1))
  below_next = (most, λ e. broken (z +ℤ pos 1, e))

  -- it is at least a whole number only where its floor is
  pub floor_from : (low : ℤ) → AtMost (of low) p → low ≤ℤ z
  floor_from low h = by (z +ℤ pos 1 -ℤ low) refl (from_at_most low (z +ℤ pos 1) (at_most_trans (of low) p (of (z +ℤ pos 1)) h most))
    where
      by : (d : ℤ) → z +ℤ pos 1 -ℤ low ≡ d → low ≤ℤ (z +ℤ pos 1) → low ≤ℤ z
      by (pos zero) e le =
          let same : low ≡ z +ℤ pos 1 = omega (arith, ints) in
          absurd (broken (z +ℤ pos 1, at_most_antisym p (of (z +ℤ pos 1)) most (subst (λ w. AtMost (of w) p) same h)))
      by (pos (suc n)) e le = omega (arith, ints)
      by (negsuc n) e le = absurd (omega (arith, ints))

  -- it is at most a whole number only where its floor is below that
  pub floor_to : (high : ℤ) → AtMost p (of high) → z <ℤ high
  floor_to high h = by (high -ℤ z) refl (from_at_most z high (at_most_trans (of z) p (of high) least h))
    where
      by : (d : ℤ) → high -ℤ z ≡ d → z ≤ℤ high → z <ℤ high
      by (pos zero) e le =
          let same : high ≡ z = omega (arith, ints) in
          absurd (broken (z, at_most_antisym p (of z) (subst (λ w. AtMost p (of w)) same h) least))
      by (pos (suc n)) e le = omega (arith, ints)
      by (negsuc n) e le = absurd (omega (arith, ints))

-- ---- small numbers
-- a number between two small whole ones is small
pub small_between : (p : Rational) (low high : ℤ) → unsigned_abs low ≤ 2 ^ 24 → unsigned_abs high ≤ 2 ^ 24 → AtMost (of low) p
    → AtMost p (of high) → IsSmallNumber p
small_between p low high l h from to' = record {
  low = at_most_trans (of (negsuc 16777215)) (of low) p (of_at_most (negsuc 16777215) low (omega (arith, ints))) from;
  high = at_most_trans p (of high) (of (pos 16777216)) to' (of_at_most high (pos 16777216) (omega (arith, ints)));
}

-- a small whole number has a small absolute value
pub small_whole : (z : ℤ) → IsSmallNumber (of z) → unsigned_abs z ≤ 2 ^ 24
small_whole z small =
    let low = from_at_most (negsuc 16777215) z small.low in
    let high = from_at_most z (pos 16777216) small.high in
    omega (arith, ints)

-- and so is the floor of a small number that is not whole
pub small_floor : (p : Rational) (z : ℤ) → AtMost (of z) p → AtMost p (of (z +ℤ pos 1)) → (IsWholeNumber p → ⊥) → IsSmallNumber p
    → unsigned_abs z ≤ 2 ^ 24
small_floor p z least most broken small =
    let low = floor_from p z least most broken (negsuc 16777215) small.low in
    let high = floor_to p z least most broken (pos 16777216) small.high in
    omega (arith, ints)

-- what the floor of a small fraction that is not whole is
pub record IsFloor (p : Rational) (z : ℤ) : Type 0 where
  pub least : AtMost (of z) p
  pub most : AtMost p (of (z +ℤ pos 1))
  pub small : unsigned_abs z ≤ 2 ^ 24

pub floor_is : (x : Fraction) (z : ℤ) → IsFraction x.num x.den → (z *ℤ x.den) ≤ℤ x.num → x.num <ℤ ((z +ℤ pos 1) *ℤ x.den)
    → (IsWholeNumber (value_of x) → ⊥) → IsSmallNumber (value_of x) → IsFloor (value_of x) z
floor_is x z f le less broken small =
    let least = floor_at_most x z f le in
    let most = floor_greatest x z f less in
    record { least = least; most = most; small = small_floor (value_of x) z least most broken small }

-- ---- fractions of a point
-- among the first numbers of a point one that is not whole was found, or all are whole
abbrev pub IsBrokenAt : List Fraction → ℕ → Option ℕ → Type 0
IsBrokenAt xs i None = (j : ℕ) → j < i → IsWholeNumber (numbers_of xs j)
IsBrokenAt xs i (Some k) = (k < length xs) × (IsWholeNumber (numbers_of xs k) → ⊥)

pub broken_here : (xs : List Fraction) (i : ℕ) (p : Rational) → i < length xs → numbers_of xs i ≡ p → (IsWholeNumber p → ⊥)
    → IsBrokenAt xs (i + 1) (Some i)
broken_here xs i p l is broken = (l, λ whole. broken (subst IsWholeNumber is whole))

pub broken_before : (xs : List Fraction) (i : ℕ) (k : Option ℕ) → IsBrokenAt xs i k → is_some k ≡ true → IsBrokenAt xs (i + 1) k
broken_before xs i None h some = absurd cc
broken_before xs i (Some k) h some = h

pub whole_more : (xs : List Fraction) (i : ℕ) (p : Rational) (k : Option ℕ) → IsBrokenAt xs i k → numbers_of xs i ≡ p → IsWholeNumber p
    → IsBrokenAt xs (i + 1) k
whole_more xs i p None h is whole = below_more _ _ h (subst IsWholeNumber (sym is) whole)
whole_more xs i p (Some k) h is whole = h
