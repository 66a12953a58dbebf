-- The order of two numbers, by the parts of their fractions.
use Rattle.std.specs.Prelude.{◌≡◌, ◌≢◌, ◌==◌, true, false, ℤ, ◌*ℤ◌, ◌≤ℤ◌}
use Rattle.std.specs.Int.Signed.{lt_z}
use Rattle.std.specs.Ordering.{ordering_index}
use Rattle.std.specs.declared.cmp.Ordering.{Ordering}
use Rattle.std.specs.declared.cmp.Ordering.TheVariants.{Less, Equal, Greater}
use Rattle.std.proofs.Common.{arith, ap, sym, ◌∙◌}
use Rattle.std.proofs.lemmas.Int.{ints}
use Rattle.frac128.specs.Fractions.{Fraction}
use Rattle.frac128.specs.Rationals.{Rational, denominator, AtMost, IsBelow}
use Rattle.frac128.specs.Values.{value_of, IsOrder}
use Rattle.frac128.proofs.Rationals.{unique}
use Rattle.frac128.proofs.Order.{at_most_cross}
use Rattle.lp_duality.specs.Duals.{is_below}

before : (p q : Rational) → IsBelow p q → lt_z (p.numerator *ℤ denominator q) (q.numerator *ℤ denominator p) ≡ true
before p q h =
    let most = at_most_cross p q h.0 in
    let apart : (p.numerator *ℤ denominator q) ≢ (q.numerator *ℤ denominator p) = λ e. h.1 (unique p q e) in
    by (p.numerator *ℤ denominator q) (q.numerator *ℤ denominator p) most apart
  where
    by : (x y : ℤ) → x ≤ℤ y → x ≢ y → lt_z x y ≡ true
    by x y l n = grind (arith, ints)

not_before : (p q : Rational) → AtMost q p → lt_z (p.numerator *ℤ denominator q) (q.numerator *ℤ denominator p) ≡ false
not_before p q h = by (p.numerator *ℤ denominator q) (q.numerator *ℤ denominator p) (at_most_cross q p h)
  where
    by : (x y : ℤ) → y ≤ℤ x → lt_z x y ≡ false
    by x y l = grind (arith, ints)

never_before : (z : ℤ) → lt_z z z ≡ false
never_before z = grind (arith, ints)

pub is_less : (r : Ordering) (x y : Fraction) → IsOrder r x y → (ordering_index r == 0) ≡ is_below (value_of x) (value_of y)
is_less Less x y h = sym (before (value_of x) (value_of y) h)
is_less Equal x y h = sym (ap (λ p. is_below p (value_of y)) h ∙ never_before ((value_of y).numerator *ℤ denominator (value_of y)))
is_less Greater x y h = sym (not_before (value_of x) (value_of y) h.0)
