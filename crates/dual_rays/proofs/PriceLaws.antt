-- What the certificate of prices is.
use Rattle.std.specs.Prelude.{◌≡◌, ℕ, zero, suc, ◌*◌, ◌/◌, ◌^◌, ◌<◌, ◌≤◌, nat_lt, Bool, true, false, if◌then◌else◌, List, [], ◌∷◌}
use Rattle.std.specs.Prelude.{length, map, None, Some, option_map, ℤ, pos, negsuc, ◌*ℤ◌, ◌≤ℤ◌, ◌<ℤ◌, unsigned_abs}
use Rattle.std.specs.Int.{◌∣◌}
use Rattle.std.specs.List.{list_any}
use Rattle.std.proofs.Common.{arith, refl, ap, sym, ◌∙◌, subst}
use Rattle.std.proofs.lemmas.Int.{ints, unsigned_abs-mul}
use Rattle.std.proofs.lemmas.List.{length-map, get_or-map}
use Rattle.std.proofs.Math.Nat.{mul-div_cancel', le_of_dvd, dvd-mul_left}
use borrow.Author.Tests.{ltb-false}
use Rattle.ring_laws.proofs.Rings.{whole}
use Rattle.ring_laws.proofs.Normal.{num, var, ◌⊗◌, minus, combine}
use Rattle.ip_defs.specs.Program.{at, coefficient}
use Rattle.ip_defs.specs.Limits.{exceeds, IsCert, AreOrdered, AreSmall}
use Rattle.ip_defs.specs.declared.certificates.Cert.{Cert}
use Rattle.frac128.specs.Fractions.{Fraction}
use Rattle.frac128.specs.Values.{value_of}
use Rattle.frac128.proofs.Rationals.{Rational, S, over, over_parts, same, mul-over, both, both-is, of, mul}
use Rattle.frac128.proofs.GcdLaws.{euclid}
use Rattle.lp_duality.specs.Relaxations.{numbers_of}
use Rattle.lp_duality.specs.CertificateDuals.{multiplier, AreMultiples}
use Rattle.lp_duality.proofs.BoundLaws.{whole_multiple_cross, prices_bound}
use Rattle.dual_rays.specs.Multiples.{common_denominator, multiple, multiples}
use Rattle.dual_rays.specs.Certificates.{values, present, certificate_of, certificate_of_prices}
use Rattle.dual_rays.specs.Meanings.{IsWhole, MakesWhole, IsOfPrices, BoundsByPrices}
use Rattle.dual_rays.specs.Internal.Quotients.{number_at}
use Rattle.dual_rays.proofs.DenominatorLaws.{denominator-positive, denominator-divides, denominator-least}
use Rattle.dual_rays.proofs.KeptLaws.{present-ordered, present-small, present-at}
use Rattle.dual_rays.proofs.PresentLaws.{multiple-at}

-- ---- certificates by their numbers
pub record IsMade (q : ℕ) (zs : List ℤ) (c : Cert) : Type 0 where
  pub divisor : c.q ≡ pos q
  pub kept : c.y ≡ present zs
  pub small : q ≤ 2 ^ 36
  pub all_small : list_any (exceeds (2 ^ 36)) zs ≡ false

pub certificate-made : (q : ℕ) (zs : List ℤ) (c : Cert) → certificate_of q zs ≡ Some c → IsMade q zs c
certificate-made q zs c e = by (nat_lt (2 ^ 36) q) (list_any (exceeds (2 ^ 36)) zs) refl refl e
  where
    by : (s t : Bool) → nat_lt (2 ^ 36) q ≡ s → list_any (exceeds (2 ^ 36)) zs ≡ t →
        (if s then None else option_map (λ y. record { q = pos q; y = y }) (if t then None else Some (present zs))) ≡ Some c →
        IsMade q zs c
    by true t f g h = absurd cc
    by false true f g h = absurd cc
    by false false f g h =
        let within = ltb-false (2 ^ 36) q f in
        let made : Cert = record { q = pos q; y = present zs } in
        let is : made ≡ c = cc in
        record { divisor = ap (λ (c : Cert). c.q) (sym is); kept = ap (λ (c : Cert). c.y) (sym is); small = omega arith; all_small = g }

pub made-cert : (q n : ℕ) (zs : List ℤ) (c : Cert) → length zs ≡ n → IsMade q zs c → IsCert n c
made-cert q n zs c size m = record {
  not_negative = let d = m.divisor in omega (arith, ints);
  divisor = let d = m.divisor in let s = m.small in omega (arith, ints);
  ordered = subst (AreOrdered n) (sym m.kept) (subst (λ k. AreOrdered k (present zs)) size (present-ordered zs));
  multipliers = subst (AreSmall (2 ^ 36)) (sym m.kept) (present-small zs m.all_small);
}

-- the multiplier of a row
pub made-multiplier : (q : ℕ) (zs : List ℤ) (c : Cert) (k : ℕ) → IsMade q zs c → k < length zs → multiplier c k ≡ of (at zs k)
made-multiplier q zs c k m l = ap of (ap (λ y. coefficient y k) m.kept ∙ present-at zs k l)

-- ---- multiples
pub length-multiples : (q : ℕ) (xs : List Fraction) → length (map (multiple q) (values xs)) ≡ length xs
length-multiples q xs = length-map (values xs) (multiple q) ∙ length-map xs value_of

-- a number's multiple by a multiple of its denominator
pub multiple-value : (q : ℕ) (p : Rational) → suc p.less ∣ q → of (multiple q p) ≡ mul (of (pos q)) p
unfolding of S
multiple-value q p d =
    let e = pos (q / suc p.less) in
    let K = both 0 p.less in
    let is : pos q ≡ S p.less *ℤ e = ap pos (sym (mul-div_cancel' (suc p.less) d)) in
    same (p.numerator *ℤ e) 0 (pos q *ℤ p.numerator) K
    (combine whole (p.numerator ∷ e ∷ pos q ∷ S p.less ∷ S K ∷ [])
    ((var 0 ⊗ var 1, var 4, num (pos 1) ⊗ var 3) ∷ (minus (var 0), var 2, var 3 ⊗ var 1) ∷ [])
    ((var 0 ⊗ var 1) ⊗ var 4) ((var 2 ⊗ var 0) ⊗ num (pos 1)) refl
    (both-is 0 p.less, (is, tt)))
    ∙ sym (mul-over (pos q) 0 p.numerator p.less) ∙ ap (mul (over (pos q) 0)) (over_parts p)

-- the number k of a list
pub value-at : (xs : List Fraction) (k : ℕ) → k < length xs → number_at (values xs) k ≡ numbers_of xs k
value-at xs k l = get_or-map value_of xs k (record { num = pos 0; den = pos 1 }) (of (pos 0)) l

pub denominator-at : (xs : List Fraction) (k : ℕ) → k < length xs → suc (numbers_of xs k).less ∣ common_denominator (values xs)
denominator-at xs k l = subst (λ (p : Rational). suc p.less ∣ common_denominator (values xs)) (value-at xs k l)
    (denominator-divides (values xs) k (subst (λ n. k < n) (sym (length-map xs value_of)) l))

-- what makes a number whole is a multiple of its denominator
pub whole-divides : (n : ℕ) (p : Rational) → 0 < n → IsWhole (mul (of (pos n)) p) → suc p.less ∣ n
whole-divides n p positive (z, e) =
    let cross = whole_multiple_cross z p (pos n) (sym e) in
    let sizes : unsigned_abs z * suc p.less ≡ unsigned_abs p.numerator * n = sym (unsigned_abs-mul z (pos (suc p.less)))
    ∙ ap unsigned_abs cross ∙ unsigned_abs-mul p.numerator (pos n) in
    euclid (suc p.less) (unsigned_abs p.numerator) n positive p.lowest (subst (λ m. suc p.less ∣ m) sizes
    (dvd-mul_left (suc p.less) (unsigned_abs z)))

-- what makes all numbers whole is a multiple of their least common denominator
pub makes-whole : (xs : List Fraction) (n : ℕ) → 0 < n → MakesWhole xs (pos n) → common_denominator (values xs) ∣ n
makes-whole xs n positive w = denominator-least (values xs) n (λ k l.
    let inside : k < length xs = subst (λ n. k < n) (length-map xs value_of) l in
    subst (λ (p : Rational). suc p.less ∣ n) (sym (value-at xs k inside)) (whole-divides n (numbers_of xs k) positive (w k inside)))

module _ (xs : List Fraction) (c : Cert) (e : certificate_of_prices xs ≡ Some c) where
  abbrev q : ℕ
  q = common_denominator (values xs)

  made : IsMade q (multiples (values xs)) c
  made = certificate-made q (multiples (values xs)) c e

  multipliers : AreMultiples c (length xs) (of c.q) (numbers_of xs)
  multipliers k l =
      let p = numbers_of xs k in
      made-multiplier q (multiples (values xs)) c k made (subst (λ n. k < n) (sym (length-multiples q xs)) l)
      ∙ ap of (multiple-at q xs k (record { num = pos 0; den = pos 1 }) (pos 0) l)
      ∙ multiple-value q p (denominator-at xs k l)
      ∙ ap (λ w. mul (of w) p) (sym made.divisor)

  least : (n : ℤ) → pos 0 <ℤ n → MakesWhole xs n → c.q ≤ℤ n
  least (pos zero) positive w = absurd (omega (arith, ints))
  least (negsuc n) positive w = absurd (omega (arith, ints))
  least (pos (suc n)) positive w =
      let small : q ≤ suc n = le_of_dvd (omega arith) (makes-whole xs (suc n) (omega arith) w) in
      let d = made.divisor in
      omega (arith, ints)

  pub is-of-prices : IsOfPrices xs c
  is-of-prices = record {
    certificate = made-cert q (length xs) (multiples (values xs)) c (length-multiples q xs) made;
    positive = let d = made.divisor in let p = denominator-positive (values xs) in omega (arith, ints);
    multipliers = multipliers;
    least = least;
  }

  pub bounds-by-prices : BoundsByPrices xs c
  bounds-by-prices m b g rows columns open' dual-is =
      let is = is-of-prices in
      prices_bound m b c (numbers_of xs) g (subst (λ n. AreOrdered n c.y) (sym rows) is.certificate.ordered) columns open' is.positive
      (subst (λ n. AreMultiples c n (of c.q) (numbers_of xs)) (sym rows) is.multipliers) dual-is
