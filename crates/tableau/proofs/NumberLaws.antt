-- The numbers of a tableau, one step after the other, as rational numbers.
use Rattle.std.specs.Prelude.{◌≡◌, ℕ, suc, ◌+◌, Result, Ok, Err, IfOk, pos}
use Rattle.std.proofs.Common.{arith, refl, ap, sym, ◌∙◌}
use Rattle.ring_laws.proofs.Normal.{num, ◌⊕◌, ◌⊖◌, ◌⊗◌, minus}
use Rattle.ring_laws.proofs.Named.{ring2, ring3}
use Rattle.ring_laws.proofs.Sums.{sum}
use Rattle.frac128.specs.declared.fraction.Wide.{Wide}
use Rattle.frac128.specs.Fractions.{Fraction}
use Rattle.frac128.specs.Rationals.{Rational, of, add, sub, mul, neg}
use Rattle.frac128.specs.Values.{value_of}
use Rattle.frac128.proofs.Rationals.{rationals}

-- less 0 times a number is the same
pub less_nothing : (x t : Rational) → x ≡ sub x (mul t (of (pos 0)))
less_nothing x t = ring2 rationals (λ x t. x) (λ x t. x ⊖ t ⊗ num (pos 0)) refl x t

-- nothing is lost at first
pub no_loss : of (pos 0) ≡ neg (of (pos 0))
no_loss = ring2 rationals (λ x t. num (pos 0)) (λ x t. minus (num (pos 0))) refl (of (pos 0)) (of (pos 0))

pub first_price : (c : Rational) → c ≡ sub c (of (pos 0))
first_price c = ring2 rationals (λ x t. x) (λ x t. x ⊖ num (pos 0)) refl c c

one_more : (f : ℕ → Rational) (k : ℕ) → sum rationals f (k + 1) ≡ add (sum rationals f k) (f k)
one_more f k = let e : k + 1 ≡ suc k = omega arith in ap (sum rationals f) e

-- one more loss
pub value_step : (f : ℕ → Rational) (k : ℕ) (y r : Rational) → y ≡ neg (sum rationals f k) → r ≡ sub y (f k) →
    r ≡ neg (sum rationals f (k + 1))
value_step f k y r e h =
    h ∙ ap (λ z. sub z (f k)) e ∙ ring2 rationals (λ s t. minus s ⊖ t) (λ s t. minus (s ⊕ t)) refl (sum rationals f k) (f k)
    ∙ ap neg (sym (one_more f k))

pub price_step : (c : Rational) (f : ℕ → Rational) (k : ℕ) (y r : Rational) → y ≡ sub c (sum rationals f k) → r ≡ sub y (f k) →
    r ≡ sub c (sum rationals f (k + 1))
price_step c f k y r e h =
    h ∙ ap (λ z. sub z (f k)) e ∙ ring3 rationals (λ c s t. (c ⊖ s) ⊖ t) (λ c s t. c ⊖ (s ⊕ t)) refl c (sum rationals f k) (f k)
    ∙ ap (sub c) (sym (one_more f k))

-- what holds of an answer holds of its number by equal names
pub number_is : (o : Result Fraction Wide) (p q : Rational) → p ≡ q → IfOk o (λ x. value_of x ≡ p) → IfOk o (λ x. value_of x ≡ q)
number_is (Ok x) p q e h = h ∙ e
number_is (Err w) p q e h = tt
