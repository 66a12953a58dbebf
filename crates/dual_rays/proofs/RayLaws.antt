-- What the certificate of a ray is.
use Rattle.std.specs.Prelude.{◌≡◌, ◌≢◌, ℕ, zero, suc, ◌<◌, List, [], ◌∷◌, length, Some, ℤ, pos, ◌*ℤ◌, ◌<ℤ◌, int_div, unsigned_abs}
use Rattle.std.specs.Int.{◌∣◌}
use Rattle.std.proofs.Common.{arith, refl, ap, sym, ◌∙◌, subst}
use Rattle.std.proofs.lemmas.Int.{ints}
use Rattle.std.proofs.lemmas.List.{length-map, get_or-map}
use Rattle.std.proofs.Math.Nat.{dvd-one}
use Rattle.ring_laws.proofs.Rings.{whole, one_mul}
use Rattle.ring_laws.proofs.Normal.{num, var, ◌⊗◌, minus, combine}
use Rattle.ip_defs.specs.Program.{at, coefficient}
use Rattle.ip_defs.specs.Limits.{AreOrdered}
use Rattle.ip_defs.specs.declared.certificates.Cert.{Cert}
use Rattle.frac128.specs.Fractions.{Fraction}
use Rattle.frac128.proofs.Rationals.{Rational, S, over, over_parts, same, mul-over, both, both-is, of, mul, divided-is, rationals}
use Rattle.frac128.proofs.Fractions.{crosswise}
use Rattle.lp_duality.specs.Relaxations.{numbers_of}
use Rattle.lp_duality.specs.CertificateDuals.{AreMultiples}
use Rattle.lp_duality.proofs.SignLaws.{over_positive, of_positive}
use Rattle.lp_duality.proofs.BoundLaws.{rays_bound}
use Rattle.dual_rays.specs.Multiples.{common_denominator, common_divisor, multiples, primitive}
use Rattle.dual_rays.specs.Certificates.{values, certificate_of_ray}
use Rattle.dual_rays.specs.Meanings.{IsPresent, IsOfRay, BoundsByRay}
use Rattle.dual_rays.proofs.DenominatorLaws.{denominator-positive}
use Rattle.dual_rays.proofs.DivisorLaws.{divisor-divides, divisor-greatest, divisor-positive, divisor-none, primitive-divisor}
use Rattle.dual_rays.proofs.KeptLaws.{present-at}
use Rattle.dual_rays.proofs.PresentLaws.{multiple-at}
use Rattle.dual_rays.proofs.PriceLaws.{IsMade, certificate-made, made-cert, made-multiplier, length-multiples, multiple-value}
use Rattle.dual_rays.proofs.PriceLaws.{denominator-at}

pub at-primitive : (zs : List ℤ) (k : ℕ) → k < length zs → at (primitive zs) k ≡ int_div (at zs k) (pos (common_divisor zs))
at-primitive zs k l = get_or-map (λ z. int_div z (pos (common_divisor zs))) zs k (pos 0) (pos 0) l

-- the quotient of a whole multiple
quotient-value : (g : ℕ) (q v : ℤ) (p : Rational) → of (pos (suc g) *ℤ v) ≡ mul (of q) p → of v ≡ mul (over q g) p
unfolding of S
quotient-value g q v p e =
    let first = both 0 p.less in
    let K = both g p.less in
    let product : over (pos (suc g) *ℤ v) 0 ≡ over (q *ℤ p.numerator) first = e ∙ ap (mul (over q 0)) (sym (over_parts p))
    ∙ mul-over q 0 p.numerator p.less in
    same v 0 (q *ℤ p.numerator) K
    (combine whole (v ∷ S g ∷ S p.less ∷ q ∷ p.numerator ∷ S first ∷ S K ∷ [])
    ((num (pos 1), (var 1 ⊗ var 0) ⊗ var 5, (var 3 ⊗ var 4) ⊗ num (pos 1)) ∷ (minus (var 1 ⊗ var 0), var 5, num (pos 1) ⊗ var 2) ∷ (
      var 0,
      var 6,
      var 1 ⊗ var 2,
    ) ∷ [])
    (var 0 ⊗ var 6) ((var 3 ⊗ var 4) ⊗ num (pos 1)) refl
    (crosswise (pos (suc g) *ℤ v) 0 (q *ℤ p.numerator) first product, (both-is 0 p.less, (both-is g p.less, tt))))
    ∙ sym (mul-over q g p.numerator p.less) ∙ ap (mul (over q g)) (over_parts p)

over_one : (n : ℕ) → over (pos (suc n)) n ≡ of (pos 1)
unfolding of S
over_one n = same (pos (suc n)) n (pos 1) 0 (omega (arith, ints))

-- only 0 has the multiple 0
no_zero : (n : ℕ) (p : Rational) → 0 < n → of (pos 0) ≡ mul (of (pos n)) p → p ≡ of (pos 0)
no_zero zero p l e = absurd (omega arith)
no_zero (suc n) p l e =
    let none : pos (suc n) *ℤ pos 0 ≡ pos 0 = omega (arith, ints) in
    sym (quotient-value n (pos (suc n)) (pos 0) p (ap of none ∙ e) ∙ ap (λ a. mul a p) (over_one n) ∙ one_mul rationals p)

module _ (xs : List Fraction) where
  abbrev q : ℕ
  q = common_denominator (values xs)

  abbrev ws : List ℤ
  ws = multiples (values xs)

  size : length (primitive ws) ≡ length xs
  size = length-map ws (λ z. int_div z (pos (common_divisor ws))) ∙ length-multiples q xs

  pub inside : (k : ℕ) → k < length xs → k < length ws
  inside k l = subst (λ n. k < n) (sym (length-multiples q xs)) l

  pub multiple-is : (k : ℕ) → k < length xs → of (at ws k) ≡ mul (of (pos q)) (numbers_of xs k)
  multiple-is k l = ap of (multiple-at q xs k (record { num = pos 0; den = pos 1 }) (pos 0) l)
      ∙ multiple-value q (numbers_of xs k) (denominator-at xs k l)

  pub ratio : (g : ℕ) → common_divisor ws ≡ g → (a : Rational) × (pos 0 <ℤ a.numerator)
      × ((k : ℕ) → k < length xs → of (at (primitive ws) k) ≡ mul a (numbers_of xs k))
  ratio zero e = (
    of (pos q),
    of_positive (pos q) (let p = denominator-positive (values xs) in omega (arith, ints)),
    λ k l.
        let none : at ws k ≡ pos 0 = divisor-none ws k (inside k l) e in
        ap of (at-primitive ws k (inside k l) ∙ ap (λ d. int_div (at ws k) (pos d)) e ∙ ap (λ z. int_div z (pos 0)) none ∙ sym none)
        ∙ multiple-is k l,
  )
  ratio (suc g) e = (
    over (pos q) g,
    over_positive (pos q) g (let p = denominator-positive (values xs) in omega (arith, ints)),
    λ k l.
        let divides : suc g ∣ unsigned_abs (at ws k) = subst (λ d. d ∣ unsigned_abs (at ws k)) e (divisor-divides ws k (inside k l)) in
        ap of (at-primitive ws k (inside k l) ∙ ap (λ d. int_div (at ws k) (pos d)) e)
        ∙ quotient-value g (pos q) (int_div (at ws k) (pos (suc g))) (numbers_of xs k) (ap of (divided-is (suc g) (at ws k) divides)
        ∙ multiple-is k l),
  )

  module _ (c : Cert) (e : certificate_of_ray xs ≡ Some c) where
    made : IsMade 0 (primitive ws) c
    made = certificate-made 0 (primitive ws) c e

    lowest : (n : ℕ) → IsPresent xs → ((k : ℕ) → k < length xs → n ∣ unsigned_abs (coefficient c.y k)) → n ≡ 1
    lowest n (k, l, nonzero) h =
        let present' : at ws k ≢ pos 0 = λ z. nonzero (no_zero q (numbers_of xs k) (denominator-positive (values xs)) (ap of (sym z)
        ∙ multiple-is k l)) in
        let one = primitive-divisor ws (divisor-positive ws k (inside k l) present') in
        let divides : n ∣ common_divisor (primitive ws) = divisor-greatest (primitive ws) n (λ j m.
        let here : j < length xs = subst (λ i. j < i) size m in
        subst (λ z. n ∣ unsigned_abs z) (ap (λ y. coefficient y j) made.kept ∙ present-at (primitive ws) j m) (h j here)) in
        dvd-one.0 (subst (λ d. n ∣ d) one divides)

    pub is-of-ray : IsOfRay xs c
    is-of-ray =
        let r = ratio (common_divisor ws) refl in
        record {
          certificate = made-cert 0 (length xs) (primitive ws) c size made;
          zero = made.divisor;
          multipliers = (r.0, r.1, λ k l. made-multiplier 0 (primitive ws) c k made (subst (λ n. k < n) (sym size) l) ∙ r.2 k l);
          lowest = lowest;
        }

    pub bounds-by-ray : BoundsByRay xs c
    bounds-by-ray m b g rows columns dual-is above =
        let is = is-of-ray in
        let r = is.multipliers in
        rays_bound m b c r.0 (numbers_of xs) g (subst (λ n. AreOrdered n c.y) (sym rows) is.certificate.ordered) columns is.zero r.1
        (subst (λ n. AreMultiples c n r.0 (numbers_of xs)) (sym rows) r.2) dual-is above
