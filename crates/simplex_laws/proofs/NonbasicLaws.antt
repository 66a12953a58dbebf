-- A number whose sign gives a variable no direction pays the side at which the variable is, and a nonbasic variable is between its sides.
use Rattle.std.specs.Prelude.{◌≡◌, ◌≢◌, ◌&&◌, not, Bool, true, false, cond, Option, Some, None, option_map, ℤ, pos, ◌≤ℤ◌, ◌<ℤ◌}
use Rattle.std.specs.Int.Signed.{lt_z}
use Rattle.std.proofs.Common.{arith, refl, ap, sym, ◌∙◌, subst}
use Rattle.std.proofs.lemmas.Int.{ints}
use Rattle.ring_laws.proofs.Rings.{zero_mul}
use Rattle.frac128.specs.Rationals.{Rational, of, mul, AtMost}
use Rattle.frac128.proofs.Rationals.{rationals}
use Rattle.frac128.proofs.Order.{zero_top}
use Rattle.lp_duality.specs.Duals.{is_below, paid}
use Rattle.lp_duality.specs.Relaxations.{IsBetween}
use Rattle.lp_duality.proofs.SignLaws.{top_zero, Sign, up, down, none, sign_of, below_false, of_at_most, at_most_self, paid_up, paid_down}
use Rattle.lp_duality.proofs.SignLaws.{paid_zero}
use Rattle.tableau.specs.declared.positions.Rest.{Rest}
use Rattle.tableau.specs.declared.positions.Rest.TheVariants.{Basic, Low, High, Zero}
use Rattle.tableau.specs.declared.variables.Variable.{Variable}
use Rattle.tableau.specs.Tables.{CanRest}
use Rattle.tableau.specs.Numbers.{side_or_zero, nonbasic_value, is_fixed_between}
use Rattle.simplex_laws.specs.Steps.{allows, over_high, outside}
use Rattle.ip_defs.proofs.OrderLaws.{not_less}

-- ---- positions by the two sides
-- a variable with two sides can have this position
abbrev pub Sits : Option ℤ → Option ℤ → Rest → Type 0
Sits low high Basic = ⊥
Sits low high Low = low ≢ None
Sits low high High = high ≢ None
Sits low high Zero = (low ≡ None) × (high ≡ None)

pub sits : (x : Variable) (rest : Rest) → CanRest x rest → Sits x.low x.high rest
sits x Basic h = h
sits x Low h = h
sits x High h = h
sits x Zero h = h

-- its value there
abbrev pub nonbasic : Option ℤ → Option ℤ → Rest → Rational
nonbasic low high Basic = of (pos 0)
nonbasic low high Low = of (side_or_zero low)
nonbasic low high High = of (side_or_zero high)
nonbasic low high Zero = of (pos 0)

pub nonbasic_is : (x : Variable) (rest : Rest) → of (side_or_zero (nonbasic_value x rest)) ≡ nonbasic x.low x.high rest
nonbasic_is x Basic = refl
nonbasic_is x Low = refl
nonbasic_is x High = refl
nonbasic_is x Zero = refl

-- the sign of a number fits a position: the number is not below 0 where the variable can rise, nor above 0 where it can fall
abbrev pub SignFits : Rational → Option ℤ → Option ℤ → Rest → Type 0
SignFits p low high Basic = Unit {0}
SignFits p low high Low = is_fixed_between low high ≡ false → pos 0 ≤ℤ p.numerator
SignFits p low high High = is_fixed_between low high ≡ false → p.numerator ≤ℤ pos 0
SignFits p low high Zero = is_fixed_between low high ≡ false → p ≡ of (pos 0)

-- ---- what it pays
fixed_same : (low high : ℤ) → is_fixed_between (Some low) (Some high) ≡ true → low ≡ high
fixed_same low high e = by (lt_z low high) (lt_z high low) refl refl e
  where
    by : (s t : Bool) → lt_z low high ≡ s → lt_z high low ≡ t → (not s && not t) ≡ true → low ≡ high
    by true t f g k = absurd cc
    by false true f g k = absurd cc
    by false false f g k = let x = not_less low high f in let y = not_less high low g in omega (arith, ints)

-- a number whose sign fits the position pays the side at which the variable is
pub paid_nonbasic : (p : Rational) (low high : Option ℤ) (rest : Rest) → Sits low high rest → SignFits p low high rest →
    paid p low high ≡ Some (mul p (nonbasic low high rest))
paid_nonbasic p low high Basic s f = absurd s
paid_nonbasic p None high Low s f = absurd (s refl)
paid_nonbasic p (Some low) high Low s f = by (sign_of p.numerator)
  where
    fixed : (high : Option ℤ) (t : Bool) → is_fixed_between (Some low) high ≡ t →
        (is_fixed_between (Some low) high ≡ false → pos 0 ≤ℤ p.numerator) → p.numerator <ℤ pos 0 →
        option_map (λ z. mul p (of z)) high ≡ Some (mul p (of low))
    fixed high false e f d = absurd (let q = f e in omega (arith, ints))
    fixed None true e f d = absurd cc
    fixed (Some high) true e f d = ap (λ z. Some (mul p (of z))) (sym (fixed_same low high e))

    by : Sign p.numerator → paid p (Some low) high ≡ Some (mul p (of low))
    by (up q) = paid_up p (Some low) high q
    by (none q) = paid_zero p (Some low) high q ∙ ap Some (sym (ap (λ w. mul w (of low)) (top_zero p q) ∙ zero_mul rationals (of low)))
    by (down q) = paid_down p (Some low) high q ∙ fixed high (is_fixed_between (Some low) high) refl f q
paid_nonbasic p low None High s f = absurd (s refl)
paid_nonbasic p low (Some high) High s f = by (sign_of p.numerator)
  where
    fixed : (low : Option ℤ) (t : Bool) → is_fixed_between low (Some high) ≡ t →
        (is_fixed_between low (Some high) ≡ false → p.numerator ≤ℤ pos 0) → pos 0 <ℤ p.numerator →
        option_map (λ z. mul p (of z)) low ≡ Some (mul p (of high))
    fixed low false e f d = absurd (let q = f e in omega (arith, ints))
    fixed None true e f d = absurd cc
    fixed (Some low) true e f d = ap (λ z. Some (mul p (of z))) (fixed_same low high e)

    by : Sign p.numerator → paid p low (Some high) ≡ Some (mul p (of high))
    by (down q) = paid_down p low (Some high) q
    by (none q) = paid_zero p low (Some high) q ∙ ap Some (sym (ap (λ w. mul w (of high)) (top_zero p q) ∙ zero_mul rationals (of high)))
    by (up q) = paid_up p low (Some high) q ∙ fixed low (is_fixed_between low (Some high)) refl f q
paid_nonbasic p low high Zero s f =
    let free : is_fixed_between low high ≡ false = ap (λ o. is_fixed_between o high) s.0 in
    let z = f free in
    paid_zero p low high (ap (λ w. w.numerator) z ∙ zero_top)
    ∙ ap Some (sym (ap (λ w. mul w (of (pos 0))) z ∙ zero_mul rationals (of (pos 0))))

-- ---- no direction
split_none : (s : Bool) (o : Option Bool) (u : Bool) → cond s (Some u) o ≡ None → (s ≡ false) × (o ≡ None)
split_none true o u e = absurd cc
split_none false o u e = (refl, e)

and_false : (s a f : Bool) → (s && (a && not f)) ≡ false → f ≡ false → a ≡ true → s ≡ false
and_false false a f e g h = refl
and_false true false f e g h = absurd cc
and_false true true false e g h = absurd cc
and_false true true true e g h = absurd cc

-- where a number gives a variable no direction, its sign fits the position
pub sign_fits : (p : Rational) (low high : Option ℤ) (rest : Rest) →
    cond (lt_z p.numerator (pos 0) && (allows true rest && not (is_fixed_between low high))) (Some true)
    (cond (lt_z (pos 0) p.numerator && (allows false rest && not (is_fixed_between low high))) (Some false) None) ≡ None →
    SignFits p low high rest
sign_fits p low high rest e =
    by rest (split_none (lt_z p.numerator (pos 0) && (allows true rest && not (is_fixed_between low high)))
    (cond (lt_z (pos 0) p.numerator && (allows false rest && not (is_fixed_between low high))) (Some false) None) true e)
  where
    rise : (rest : Rest) → (lt_z p.numerator (pos 0) && (allows true rest && not (is_fixed_between low high))) ≡ false →
        is_fixed_between low high ≡ false → allows true rest ≡ true → pos 0 ≤ℤ p.numerator
    rise rest x f t = not_less p.numerator (pos 0) (and_false (lt_z p.numerator (pos 0)) (allows true rest) (is_fixed_between low high)
        x f t)

    fall : (rest : Rest) → cond (lt_z (pos 0) p.numerator && (allows false rest && not (is_fixed_between low high))) (Some false) None
        ≡ None → is_fixed_between low high ≡ false → allows false rest ≡ true → p.numerator ≤ℤ pos 0
    fall rest x f t =
        let y = split_none (lt_z (pos 0) p.numerator && (allows false rest && not (is_fixed_between low high))) None false x in
        not_less (pos 0) p.numerator (and_false (lt_z (pos 0) p.numerator) (allows false rest) (is_fixed_between low high) y.0 f t)

    by : (rest : Rest) → ((lt_z p.numerator (pos 0) && (allows true rest && not (is_fixed_between low high))) ≡ false)
        × (cond (lt_z (pos 0) p.numerator && (allows false rest && not (is_fixed_between low high))) (Some false) None ≡ None) →
        SignFits p low high rest
    by Basic x = tt
    by Low x = λ f. rise Low x.0 f refl
    by High x = λ f. fall High x.1 f refl
    by Zero x = λ f. top_zero p (let a = rise Zero x.0 f refl in let c = fall Zero x.1 f refl in omega (arith, ints))

-- ---- between the sides
some_is : (x y : ℤ) → Some x ≡ Some y → x ≡ y
some_is x y e = cc

pub nonbasic_between : (low high : Option ℤ) (rest : Rest) → ((x y : ℤ) → low ≡ Some x → high ≡ Some y → x ≤ℤ y) → Sits low high rest →
    IsBetween low high (nonbasic low high rest)
nonbasic_between low high Basic o s = absurd s
nonbasic_between None high Low o s = absurd (s refl)
nonbasic_between (Some x) high Low o s = record {
  low = λ z e. subst (λ (w : ℤ). AtMost (of w) (of x)) (some_is x z e) (at_most_self (of x));
  high = λ z e. of_at_most x z (o x z refl e);
}
nonbasic_between low None High o s = absurd (s refl)
nonbasic_between low (Some y) High o s = record {
  low = λ z e. of_at_most z y (o z y e refl);
  high = λ z e. subst (λ (w : ℤ). AtMost (of y) (of w)) (some_is y z e) (at_most_self (of y));
}
nonbasic_between low high Zero o s = record {
  low = λ z e. absurd (let q : None ≡ Some z = sym s.0 ∙ e in cc);
  high = λ z e. absurd (let q : None ≡ Some z = sym s.1 ∙ e in cc);
}

over_high_none : (x : Rational) (high : Option ℤ) → over_high x high ≡ None → (z : ℤ) → high ≡ Some z → AtMost x (of z)
over_high_none x None e z q = absurd cc
over_high_none x (Some y) e z q = subst (λ (w : ℤ). AtMost x (of w)) (some_is y z q) (by (is_below (of y) x) refl e)
  where
    by : (t : Bool) → is_below (of y) x ≡ t → cond t (Some false) None ≡ None → AtMost x (of y)
    by true f g = absurd cc
    by false f g = below_false (of y) x f

-- what is not outside two sides lies between them
pub outside_none : (x : Rational) (low high : Option ℤ) → outside x low high ≡ None → IsBetween low high x
outside_none x None high e = record { low = λ z q. absurd cc; high = over_high_none x high e }
outside_none x (Some y) high e = by (is_below x (of y)) refl e
  where
    by : (t : Bool) → is_below x (of y) ≡ t → cond t (Some true) (over_high x high) ≡ None → IsBetween (Some y) high x
    by true f g = absurd cc
    by false f g = record {
      low = λ z q. subst (λ (w : ℤ). AtMost (of w) x) (some_is y z q) (below_false x (of y) f);
      high = over_high_none x high g;
    }
