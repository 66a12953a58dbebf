-- Where prices and rays have no certificate, none within the limits has multiples of them.
use Rattle.std.specs.Prelude.{◌≡◌, ◌≢◌, ℕ, zero, suc, ◌*◌, ◌/◌, ◌^◌, ◌<◌, ◌≤◌, ◌==◌, nat_lt, Bool, true, false, cond, if◌then◌else◌}
use Rattle.std.specs.Prelude.{List, [], ◌∷◌, length, map, None, Some, option_map, ℤ, pos, negsuc, ◌+ℤ◌, ◌*ℤ◌, ◌<ℤ◌, ◌≤ℤ◌, int_div}
use Rattle.std.specs.Prelude.{unsigned_abs}
use Rattle.std.specs.Int.{◌∣◌}
use Rattle.std.specs.List.{list_any}
use Rattle.std.proofs.Common.{arith, refl, ap, sym, ◌∙◌, subst}
use Rattle.std.proofs.lemmas.Bool.{eqb-true, le-ltb}
use Rattle.std.proofs.lemmas.Int.{ints, unsigned_abs-mul}
use Rattle.std.proofs.lemmas.List.{length-map, get_or-map}
use Rattle.std.proofs.lemmas.List.Elements.{All-from_get_or}
use Rattle.std.proofs.lemmas.List.Folds.{list_any_none}
use Rattle.std.proofs.Math.Nat.{mul-div_cancel', dvd-mul_right, le_of_dvd}
use Rattle.ring_laws.proofs.Rings.{whole}
use Rattle.ring_laws.proofs.Normal.{num, var, ◌⊗◌, minus, combine}
use Rattle.ring_laws.proofs.Named.{ring3}
use Rattle.ring_laws.proofs.Products.{mul_assoc}
use Rattle.ip_defs.specs.Program.{at, coefficient}
use Rattle.ip_defs.specs.Limits.{exceeds, AreOrdered, AreSmall}
use Rattle.ip_defs.specs.declared.certificates.Cert.{Cert}
use Rattle.frac128.specs.Fractions.{Fraction}
use Rattle.frac128.proofs.Rationals.{Rational, S, denominator, over, over_parts, same, mul-over, both, both-is, of, of_mul, mul, rationals}
use Rattle.lp_duality.specs.Relaxations.{numbers_of}
use Rattle.lp_duality.specs.CertificateDuals.{AreMultiples}
use Rattle.lp_duality.proofs.SparseLaws.{ordered_tail, coefficient_free}
use Rattle.dual_rays.specs.Multiples.{common_denominator, common_divisor, multiples, primitive}
use Rattle.dual_rays.specs.Certificates.{values, present, certificate_of, certificate_of_prices, certificate_of_ray}
use Rattle.dual_rays.specs.Meanings.{HasNoCertificate, HasNoRay}
use Rattle.dual_rays.proofs.PriceLaws.{length-multiples, makes-whole}
use Rattle.dual_rays.proofs.RayLaws.{inside, multiple-is, ratio, at-primitive}
use Rattle.dual_rays.proofs.UnitLaws.{of-injective, positive_right, positive_both}
use Rattle.dual_rays.proofs.DivisorLaws.{divisor-none, primitive-divisor, cancel-factor, divisor-scale, divisor-greatest}

-- ---- certificates within the limits
coefficient_small : (n s : ℕ) (ps : List (ℕ × ℤ)) (k : ℕ) → AreOrdered n ps → AreSmall s ps → unsigned_abs (coefficient ps k) ≤ s
coefficient_small n s [] k o h = omega arith
coefficient_small n s (p ∷ ps) k o h = by (p.0 == k) refl (coefficient_small n s ps k (ordered_tail n p ps o)
    (λ i l. h (suc i) (omega arith)))
  where
    by : (t : Bool) → (p.0 == k) ≡ t → unsigned_abs (coefficient ps k) ≤ s →
        unsigned_abs (cond t (p.1 +ℤ coefficient ps k) (coefficient ps k)) ≤ s
    by true e rest =
        let free : coefficient ps k ≡ pos 0 = subst (λ j. coefficient ps j ≡ pos 0) (eqb-true p.0 k e) (coefficient_free n p ps o) in
        let first = h 0 (omega arith) in
        let is : p.1 +ℤ coefficient ps k ≡ p.1 = omega (arith, ints) in
        subst (λ z. unsigned_abs z ≤ s) (sym is) first
    by false e rest = rest

-- small numbers have a certificate
fitting : (q : ℕ) (zs : List ℤ) → q ≤ 2 ^ 36 → ((k : ℕ) → k < length zs → unsigned_abs (at zs k) ≤ 2 ^ 36) → certificate_of q zs ≢ None
fitting q zs small all e = by (nat_lt (2 ^ 36) q) (list_any (exceeds (2 ^ 36)) zs) (le-ltb (2 ^ 36) q small) none e
  where
    none : list_any (exceeds (2 ^ 36)) zs ≡ false
    none = list_any_none (exceeds (2 ^ 36)) zs (All-from_get_or (λ z. exceeds (2 ^ 36) z
        ≡ false) zs (pos 0) (λ k l. le-ltb (2 ^ 36) (unsigned_abs (at zs k)) (all k l)))

    certificate : List (ℕ × ℤ) → Cert
    certificate y = record { q = pos q; y = y }

    by : (s t : Bool) → s ≡ false → t ≡ false → (if s then None else option_map (λ y. certificate y) (if t then None
        else Some (present zs))) ≡ None → ⊥
    by true t f g h = absurd cc
    by false true f g h = absurd cc
    by false false f g h = absurd cc

-- a number is at most a positive multiple of it
grows : (g : ℕ) (u v : ℤ) → 0 < g → v ≡ pos g *ℤ u → unsigned_abs u ≤ unsigned_abs v
grows zero u v p e = absurd (omega arith)
grows (suc g) u v p e = let size : unsigned_abs v ≡ suc g * unsigned_abs u = ap unsigned_abs e ∙ unsigned_abs-mul (pos (suc g)) u in
    omega arith

-- whole multiples of a number are in proportion
proportional : (d t n : ℕ) (p : Rational) (u v : ℤ) → d * t ≡ n → of u ≡ mul (of (pos d)) p → of v ≡ mul (of (pos n)) p → v ≡ pos t *ℤ u
proportional d t n p u v e first second = of-injective v (pos t *ℤ u)
    (second ∙ ap (λ m. mul (of (pos m)) p) (sym e) ∙ ap (λ z. mul z p) (of_mul (pos d) (pos t))
    ∙ ring3 rationals (λ d t p. (d ⊗ t) ⊗ p) (λ d t p. t ⊗ (d ⊗ p)) refl (of (pos d)) (of (pos t)) p
    ∙ ap (mul (of (pos t))) (sym first) ∙ sym (of_mul (pos t) u))

-- ---- prices
pub no-certificate : (xs : List Fraction) → certificate_of_prices xs ≡ None → HasNoCertificate xs
no-certificate xs e c cert positive multiples-are = by c.q positive cert.divisor multiples-are
  where
    by : (n : ℤ) → pos 0 <ℤ n → n ≤ℤ pos (2 ^ 36) → AreMultiples c (length xs) (of n) (numbers_of xs) → ⊥
    by (pos zero) p s h = absurd (omega (arith, ints))
    by (negsuc n) p s h = absurd (omega (arith, ints))
    by (pos (suc n)) p s h =
        let divides = makes-whole xs (suc n) (omega arith) (λ k l. (coefficient c.y k, sym (h k l))) in
        let product : common_denominator (values xs) * (suc n / common_denominator (values xs)) ≡ suc n =
        mul-div_cancel' (common_denominator (values xs)) divides in
        let times : 0 < suc n / common_denominator (values xs) =
        positive_right (common_denominator (values xs)) (suc n / common_denominator (values xs)) (suc n) product (omega arith) in
        let small = le_of_dvd (omega arith) divides in
        fitting (common_denominator (values xs)) (multiples (values xs)) (omega (arith, ints)) (λ k l.
        let here : k < length xs = subst (λ j. k < j) (length-multiples (common_denominator (values xs)) xs) l in
        let is = proportional (common_denominator (values xs)) (suc n / common_denominator (values xs)) (suc n) (numbers_of xs k)
        (at (multiples (values xs)) k) (coefficient c.y k) product (multiple-is xs k here) (h k here) in
        let least = grows (suc n / common_denominator (values xs)) (at (multiples (values xs)) k) (coefficient c.y k) times is in
        let most = coefficient_small (length xs) (2 ^ 36) c.y k cert.ordered cert.multipliers in
        omega arith) e

-- ---- rays
-- numbers without a common divisor are at most those in proportion to them
smaller : (us : List ℤ) (v : ℕ → ℤ) (w q : ℕ) → 0 < w → 0 < q → common_divisor us ≡ 1 →
    ((k : ℕ) → k < length us → pos w *ℤ v k ≡ pos q *ℤ at us k) → (k : ℕ) → k < length us → unsigned_abs (at us k) ≤ unsigned_abs (v k)
smaller us v w q p r one e k l =
    let zs = map (λ z. pos q *ℤ z) us in
    let all : common_divisor zs ≡ q = divisor-scale q us r ∙ ap (λ n. q * n) one ∙ omega arith in
    let divides : w ∣ q = subst (λ n. w ∣ n) all (divisor-greatest zs w (λ j m.
    let here : j < length us = subst (λ i. j < i) (length-map us (λ z. pos q *ℤ z)) m in
    let size : unsigned_abs (at zs j) ≡ w * unsigned_abs (v j) = ap unsigned_abs (get_or-map (λ z. pos q *ℤ z) us j (pos 0) (pos 0) here
    ∙ sym (e j here)) ∙ unsigned_abs-mul (pos w) (v j) in
    subst (λ n. w ∣ n) (sym size) (dvd-mul_right w (unsigned_abs (v j))))) in
    let product : w * (q / w) ≡ q = mul-div_cancel' w divides in
    let is : v k ≡ pos (q / w) *ℤ at us k = cancel-factor w (v k) (pos (q / w) *ℤ at us k) p (e k l
    ∙ ap (λ n. pos n *ℤ at us k) (sym product) ∙ mul_assoc (pos w) (pos (q / w)) (at us k)) in
    grows (q / w) (at us k) (v k) (positive_right w (q / w) q product r) is

-- a rational number times its denominator
times_bottom : (p : Rational) → mul (of (denominator p)) p ≡ of p.numerator
unfolding of S
times_bottom p =
    let K = both 0 p.less in
    ap (mul (over (S p.less) 0)) (sym (over_parts p)) ∙ mul-over (S p.less) 0 p.numerator p.less
    ∙ same (S p.less *ℤ p.numerator) K p.numerator 0
    (combine whole (S p.less ∷ p.numerator ∷ S K ∷ []) ((minus (var 1), var 2, num (pos 1) ⊗ var 0) ∷ []) ((var 0 ⊗ var 1) ⊗ num (pos 1))
    (var 1 ⊗ var 2) refl (both-is 0 p.less, tt))

-- whole numbers that are multiples of one number are in proportion
cross_ratio : (a r p : Rational) (u v : ℤ) → of u ≡ mul r p → of v ≡ mul a p → (r.numerator *ℤ denominator a) *ℤ v
    ≡ (a.numerator *ℤ denominator r) *ℤ u
cross_ratio a r p u v first second = of-injective ((r.numerator *ℤ denominator a) *ℤ v) ((a.numerator *ℤ denominator r) *ℤ u)
    (of_mul (r.numerator *ℤ denominator a) v ∙ ap (λ z. mul z (of v)) (of_mul r.numerator (denominator a))
    ∙ combine rationals (of r.numerator ∷ of (denominator r) ∷ r ∷ of a.numerator ∷ of (denominator a) ∷ a ∷ of u ∷ of v ∷ p ∷ [])
    ((minus (var 4 ⊗ var 7), var 1 ⊗ var 2, var 0) ∷ (var 1 ⊗ var 2 ⊗ var 8, var 4 ⊗ var 5, var 3) ∷ (
      minus (var 3 ⊗ var 1),
      var 6,
      var 2 ⊗ var 8,
    ) ∷ (var 1 ⊗ var 2 ⊗ var 4, var 7, var 5 ⊗ var 8) ∷ [])
    ((var 0 ⊗ var 4) ⊗ var 7) ((var 3 ⊗ var 1) ⊗ var 6) refl
    (times_bottom r, (times_bottom a, (first, (second, tt))))
    ∙ ap (λ z. mul z (of u)) (sym (of_mul a.numerator (denominator r))) ∙ sym (of_mul (a.numerator *ℤ denominator r) u))

-- the product of a positive numerator and a denominator
positive_times : (z : ℤ) (n : ℕ) → pos 0 <ℤ z → pos (unsigned_abs z * suc n) ≡ z *ℤ S n
unfolding S
positive_times (pos m) n p = refl
positive_times (negsuc m) n p = absurd (omega (arith, ints))

size_up : (z : ℤ) → pos 0 <ℤ z → 0 < unsigned_abs z
size_up (pos m) p = omega (arith, ints)
size_up (negsuc m) p = absurd (omega (arith, ints))

pub no-ray : (xs : List Fraction) → certificate_of_ray xs ≡ None → HasNoRay xs
no-ray xs e c a cert positive multiples-are = fitting 0 (primitive (multiples (values xs))) (omega arith)
    (λ k l. by (common_divisor (multiples (values xs))) refl k l) e
  where
    here : (k : ℕ) → k < length (primitive (multiples (values xs))) → k < length xs
    here k l = subst (λ j. k < j) (length-map (multiples (values xs)) (λ z. int_div z (pos (common_divisor (multiples (values xs)))))
        ∙ length-multiples (common_denominator (values xs)) xs) l

    by : (g : ℕ) → common_divisor (multiples (values xs)) ≡ g → (k : ℕ) → k < length (primitive (multiples (values xs))) →
        unsigned_abs (at (primitive (multiples (values xs))) k) ≤ 2 ^ 36
    by zero f k l =
        let ws = multiples (values xs) in
        let inner = inside xs k (here k l) in
        let none : at ws k ≡ pos 0 = divisor-none ws k inner f in
        let is : at (primitive ws) k ≡ pos 0 = at-primitive ws k inner ∙ ap (λ d. int_div (at ws k) (pos d)) f
        ∙ ap (λ z. int_div z (pos 0)) none in
        subst (λ z. unsigned_abs z ≤ 2 ^ 36) (sym is) (omega arith)
    by (suc g) f k l =
        let ws = multiples (values xs) in
        let r = ratio xs (suc g) f in
        let w = unsigned_abs r.0.numerator * suc a.less in
        let q = unsigned_abs a.numerator * suc r.0.less in
        let one = primitive-divisor ws (subst (λ n. 0 < n) (sym f) (omega arith)) in
        let least = smaller (primitive ws) (coefficient c.y) w q (positive_both (unsigned_abs r.0.numerator) (suc a.less)
        (size_up r.0.numerator r.1) (omega arith)) (positive_both (unsigned_abs a.numerator) (suc r.0.less)
        (size_up a.numerator positive) (omega arith)) one
        (λ j m. ap (λ z. z *ℤ coefficient c.y j) (positive_times r.0.numerator a.less r.1)
        ∙ cross_ratio a r.0 (numbers_of xs j) (at (primitive ws) j) (coefficient c.y j) (r.2 j (here j m)) (multiples-are j (here j m))
        ∙ ap (λ z. z *ℤ at (primitive ws) j) (sym (positive_times a.numerator r.0.less positive))) k l in
        let most = coefficient_small (length xs) (2 ^ 36) c.y k cert.ordered cert.multipliers in
        omega arith
