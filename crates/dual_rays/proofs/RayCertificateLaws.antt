-- How the certificate of a ray is found from the ray divided by the absolute value of its first number that is not 0.
use Rattle.std.specs.Prelude.{◌≡◌, ℕ, zero, suc, ◌+◌, ◌*◌, ◌/◌, ◌^◌, ◌<◌, ◌≤◌, nat_lt, Bool, true, false, if◌then◌else◌, List, [], ◌∷◌}
use Rattle.std.specs.Prelude.{length, map, filter, Option, None, Some, option_map, ℤ, pos, ◌*ℤ◌, int_div, unsigned_abs}
use Rattle.std.specs.Int.{◌∣◌}
use Rattle.std.specs.List.{enumerate_from, list_any}
use Rattle.std.proofs.Common.{arith, refl, ap, sym, ◌∙◌, subst, inl, inr}
use Rattle.std.proofs.lemmas.Bool.{lt-ltb}
use Rattle.std.proofs.lemmas.Int.{ints, unsigned_abs-mul}
use Rattle.std.proofs.lemmas.List.{length-map, get_or-map}
use Rattle.std.proofs.lemmas.List.Folds.{list_any_at}
use Rattle.std.proofs.Math.Nat.{mul-div_cancel', le_of_dvd, zero-div}
use Rattle.ip_defs.specs.Program.{at}
use Rattle.ip_defs.specs.Limits.{exceeds}
use Rattle.ip_defs.specs.declared.certificates.Cert.{Cert}
use Rattle.frac128.specs.Fractions.{Fraction}
use Rattle.frac128.specs.Rationals.{Rational, quotient, of, absolute}
use Rattle.dual_rays.specs.Multiples.{common_denominator, common_divisor, multiple, multiples, primitive}
use Rattle.dual_rays.specs.Certificates.{is_present, present, certificate_of, values, certificate_of_prices, certificate_of_ray}
use Rattle.dual_rays.specs.Internal.Quotients.{first_absolute, number_at, IsWide, AreQuotients}
use Rattle.dual_rays.proofs.DenominatorLaws.{denominator-positive, denominator-divides}
use Rattle.dual_rays.proofs.FirstLaws.{IsFirst, first-is, first-none}
use Rattle.dual_rays.proofs.UnitLaws.{primitive-unit, unit-multiple, positive_right}

-- ---- nothing but zeros
all_zeros : (g : ℕ) (f : Rational → ℤ) (ps : List Rational) → ((k : ℕ) → k < length ps → f (number_at ps k) ≡ pos 0) →
    map (λ z. int_div z (pos g)) (map f ps) ≡ map (λ p. pos 0) ps
all_zeros g f [] h = refl
all_zeros g f (p ∷ ps) h = ap (λ z. z ∷ map (λ z. int_div z (pos g)) (map f ps)) (ap (λ z. int_div z (pos g)) (h 0 (omega arith)) ∙ none g)
    ∙ ap (λ zs. pos 0 ∷ zs) (all_zeros g f ps (λ k l. h (suc k) (omega arith)))
  where
    none : (g : ℕ) → int_div (pos 0) (pos g) ≡ pos 0
    none g = ap pos (zero-div g)

none_present : (n : ℕ) (ps : List Rational) → filter is_present (enumerate_from n (map (λ p. pos 0) ps)) ≡ []
none_present n [] = refl
none_present n (p ∷ ps) = none_present (n + 1) ps

none_above : (ps : List Rational) → list_any (exceeds (2 ^ 36)) (map (λ p. pos 0) ps) ≡ false
none_above [] = refl
none_above (p ∷ ps) = none_above ps

-- the certificate of a divisor and its multipliers
abbrev pub certificate : ℕ → List (ℕ × ℤ) → Cert
certificate q y = record { q = pos q; y = y }

certificate_of_zeros : (ps : List Rational) → certificate_of 0 (map (λ p. pos 0) ps) ≡ Some (record { q = pos 0; y = [] })
certificate_of_zeros ps =
    ap (λ t. option_map (certificate 0) (if t then None else Some (present (map (λ p. pos 0) ps)))) (none_above ps)
    ∙ ap (λ ys. Some (certificate 0 ys)) (none_present 0 ps)

pub zero-ray : (xs : List Fraction) → first_absolute (values xs) ≡ None → Some (record { q = pos 0; y = [] }) ≡ certificate_of_ray xs
zero-ray xs e =
    let ps = values xs in
    let zeros = all_zeros (common_divisor (multiples ps)) (multiple (common_denominator ps)) ps (λ k l. let z = first-none ps k e l in
    let none : pos 0 *ℤ pos (common_denominator ps / suc (number_at ps k).less) ≡ pos 0 = omega (arith, ints) in
    ap (λ t. t *ℤ pos (common_denominator ps / suc (number_at ps k).less)) z ∙ none) in
    sym (ap (certificate_of 0) zeros ∙ certificate_of_zeros ps)

-- ---- certificates without their divisor
abbrev pub without_divisor : Option Cert → Option Cert
without_divisor o = option_map (λ c. record { q = pos 0; y = c.y }) o

above_none : (q : ℕ) (zs : List ℤ) → list_any (exceeds (2 ^ 36)) zs ≡ true → certificate_of q zs ≡ None
above_none q zs e = ap (λ t. if nat_lt (2 ^ 36) q then None else option_map (certificate q) (if t then None else Some (present zs))) e
    ∙ by (nat_lt (2 ^ 36) q)
  where
    by : (t : Bool) → (if t then None else option_map (certificate q) None) ≡ None
    by true = refl
    by false = refl

-- a divisor that is the absolute value of a multiplier makes no difference
same_divisor : (q : ℕ) (zs : List ℤ) (i : ℕ) → i < length zs → unsigned_abs (at zs i) ≡ q →
    without_divisor (certificate_of q zs) ≡ certificate_of 0 zs
same_divisor q zs i l e = by (list_any (exceeds (2 ^ 36)) zs) refl (nat_lt (2 ^ 36) q) refl
  where
    by : (s : Bool) → list_any (exceeds (2 ^ 36)) zs ≡ s → (t : Bool) → nat_lt (2 ^ 36) q ≡ t →
        without_divisor (if t then None else option_map (certificate q) (if s then None else Some (present zs)))
        ≡ (if nat_lt (2 ^ 36) 0 then None else option_map (certificate 0) (if s then None else Some (present zs)))
    by true f true g = refl
    by true f false g = refl
    by false f false g = refl
    by false f true g =
        let great = list_any_at (exceeds (2 ^ 36)) zs i (pos 0) l (ap (nat_lt (2 ^ 36)) e ∙ g) in
        let clash : true ≡ false = sym great ∙ f in
        absurd cc

grows_by : (a e : ℕ) → 0 < e → a ≤ a * e
grows_by a zero p = absurd (omega arith)
grows_by a (suc e) p = omega arith

module _ (xs : List Fraction) (s : Rational) (e : first_absolute (values xs) ≡ Some s) where
  abbrev ps : List Rational
  ps = values xs

  abbrev rs : List Rational
  rs = map (λ p. quotient p s) ps

  abbrev q : ℕ
  q = common_denominator rs

  is_first : IsFirst ps s
  is_first = first-is ps s e

  quotients_same : map (λ p. quotient p (absolute (number_at ps is_first.place))) ps ≡ rs
  quotients_same = ap (λ z. map (λ p. quotient p z) ps) (sym is_first.absolute_value)

  same_multiples : primitive (multiples ps) ≡ multiples rs
  same_multiples = primitive-unit ps is_first.place is_first.within is_first.nonzero ∙ ap multiples quotients_same

  unit_absolute : unsigned_abs (at (multiples rs) is_first.place) ≡ q
  unit_absolute = subst (λ zs. unsigned_abs (at (multiples zs) is_first.place) ≡ common_denominator zs) quotients_same
      (unit-multiple ps is_first.place is_first.within is_first.nonzero)

  inside : (k : ℕ) → k < length ps → k < length (multiples rs)
  inside k l = subst (λ j. k < j) (sym (length-map rs (multiple q) ∙ length-map ps (λ p. quotient p s))) l

  pub unit-ray : (ys : List Fraction) → values ys ≡ rs → without_divisor (certificate_of_prices ys) ≡ certificate_of_ray xs
  unit-ray ys f =
      ap (λ zs. without_divisor (certificate_of (common_denominator zs) (multiples zs))) f
      ∙ same_divisor q (multiples rs) is_first.place (inside is_first.place is_first.within) unit_absolute
      ∙ ap (certificate_of 0) (sym same_multiples)

  in_list : (k : ℕ) → k < length ps → k < length rs
  in_list k l = subst (λ j. k < j) (sym (length-map ps (λ p. quotient p s))) l

  number_is : (k : ℕ) → k < length ps → number_at rs k ≡ quotient (number_at ps k) s
  number_is k l = get_or-map (λ p. quotient p s) ps k (of (pos 0)) (of (pos 0)) l

  divides : (k : ℕ) → k < length ps → suc (quotient (number_at ps k) s).less ∣ q
  divides k l = subst (λ (p : Rational). suc p.less ∣ q) (number_is k l) (denominator-divides rs k (in_list k l))

  times_positive : (k : ℕ) → k < length ps → 0 < q / suc (quotient (number_at ps k) s).less
  times_positive k l =
      let b = suc (quotient (number_at ps k) s).less in
      positive_right b (q / b) q (mul-div_cancel' b (divides k l)) (denominator-positive rs)

  multiple_absolute : (k : ℕ) → k < length ps → unsigned_abs (at (multiples rs) k)
      ≡ unsigned_abs (quotient (number_at ps k) s).numerator * (q / suc (quotient (number_at ps k) s).less)
  multiple_absolute k l =
      let r = quotient (number_at ps k) s in
      ap unsigned_abs (get_or-map (multiple q) rs k (of (pos 0)) (pos 0) (in_list k l) ∙ ap (multiple q) (number_is k l))
      ∙ unsigned_abs-mul r.numerator (pos (q / suc r.less))

  -- a wide quotient makes a multiplier that exceeds the limit
  pub wide-ray : AreQuotients ps s None → None ≡ certificate_of_ray xs
  wide-ray (k, l, wide) = sym (ap (certificate_of 0) same_multiples ∙ above_none 0 (multiples rs) (by wide))
    where
      by : IsWide (quotient (number_at ps k) s) → list_any (exceeds (2 ^ 36)) (multiples rs) ≡ true
      by (inl w) = list_any_at (exceeds (2 ^ 36)) (multiples rs) k (pos 0) (inside k l)
          (lt-ltb (2 ^ 36) (unsigned_abs (at (multiples rs) k)) (let is = multiple_absolute k l in
          let grows = grows_by (unsigned_abs (quotient (number_at ps k) s).numerator) (q / suc (quotient (number_at ps k) s).less)
          (times_positive k l) in omega arith))
      by (inr w) = list_any_at (exceeds (2 ^ 36)) (multiples rs) is_first.place (pos 0) (inside is_first.place is_first.within)
          (lt-ltb (2 ^ 36) (unsigned_abs (at (multiples rs) is_first.place)) (let is = unit_absolute in
          let small = le_of_dvd (denominator-positive rs) (divides k l) in omega arith))
