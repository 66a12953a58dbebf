-- Numerators, denominators and absolute values of fractions are those of their rational numbers.
use Rattle.std.specs.Prelude.{◌≡◌, ◌≢◌, ℕ, suc, Bool, true, false, if◌then◌else◌, ℤ, pos, ◌<ℤ◌, ◌≤ℤ◌, unsigned_abs}
use Rattle.std.specs.Int.Signed.{lt_z}
use Rattle.std.proofs.Common.{arith, refl, ap, sym, ◌∙◌}
use Rattle.std.proofs.lemmas.Int.{ints}
use Rattle.frac128.specs.Fractions.{Fraction, whole, negative_of, absolute_of}
use Rattle.frac128.specs.Rationals.{Rational, S, of, neg, absolute, rational}
use Rattle.frac128.specs.Values.{value_of}
use Rattle.frac128.proofs.Fractions.{lowest-is}
use Rattle.frac128.proofs.FractionLaws.{IsProper, negative-value}

-- ---- numerators and denominators
pub value_numerator : (x : Fraction) → IsProper x → (value_of x).numerator ≡ x.num
value_numerator x p = (lowest-is x.num x.den p.positive p.lowest).0

pub absolute_of_S : (c : ℕ) → unsigned_abs (S c) ≡ suc c
unfolding S
absolute_of_S c = refl

pub value_denominator : (x : Fraction) → IsProper x → unsigned_abs x.den ≡ suc (value_of x).less
value_denominator x p = sym (ap unsigned_abs (lowest-is x.num x.den p.positive p.lowest).1) ∙ absolute_of_S (value_of x).less

-- a whole number is itself
pub whole-value : (z : ℤ) → value_of (whole z) ≡ of z
unfolding rational of
whole-value z = refl

-- ---- absolute values
pub absolute-up : (p : Rational) → pos 0 ≤ℤ p.numerator → absolute p ≡ p
absolute-up p h = let up : lt_z p.numerator (pos 0) ≡ false = grind (arith, ints) in ap (λ t. if t then neg p else p) up

pub absolute-down : (p : Rational) → p.numerator <ℤ pos 0 → absolute p ≡ neg p
absolute-down p h = let down : lt_z p.numerator (pos 0) ≡ true = grind (arith, ints) in ap (λ t. if t then neg p else p) down

pub absolute-value : (x : Fraction) → IsProper x → value_of (absolute_of x) ≡ absolute (value_of x)
absolute-value x p = by (lt_z x.num (pos 0))
    ∙ sym (ap (λ t. if lt_z t (pos 0) then neg (value_of x) else value_of x) (value_numerator x p))
  where
    by : (t : Bool) → value_of (if t then negative_of x else x) ≡ (if t then neg (value_of x) else value_of x)
    by true = negative-value x
    by false = refl

pub absolute-nonzero : (x : Fraction) → x.num ≢ pos 0 → (absolute_of x).num ≢ pos 0
absolute-nonzero x h = by (lt_z x.num (pos 0))
  where
    by : (t : Bool) → (if t then negative_of x else x).num ≢ pos 0
    by true e = h (omega (arith, ints))
    by false e = h e
