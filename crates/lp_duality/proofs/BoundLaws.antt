-- The leaf bound of a certificate whose multipliers are multiples of others, by the dual value of these.
use Rattle.std.specs.Prelude.{◌≡◌, ℕ, zero, suc, Bool, true, false, cond, if◌then◌else◌, List, [], ◌∷◌, length, Option, Some, None}
use Rattle.std.specs.Prelude.{option_map, ℤ, pos, negsuc, ◌*ℤ◌, ◌<ℤ◌}
use Rattle.std.specs.List.{list_any}
use Rattle.std.proofs.Common.{arith, refl, ap, sym, ◌∙◌, subst}
use Rattle.std.proofs.lemmas.Int.{ints}
use Rattle.ip_defs.specs.Certificates.{dual_value, box_sum, is_empty_side, bound_by}
use Rattle.ip_defs.specs.Limits.{AreOrdered}
use Rattle.ip_defs.specs.declared.programs.Parts.{Parts}
use Rattle.ip_defs.specs.declared.certificates.Cert.{Cert}
use Rattle.ip_defs.specs.declared.certificates.Bound.TheVariants.{At, Infinite}
use Rattle.ring_laws.proofs.Rings.{whole, mul_zero}
use Rattle.ring_laws.proofs.Normal.{num, var, ◌⊗◌, minus, combine}
use Rattle.frac128.proofs.Rationals.{Rational, S, denominator, of, over, mul, over_parts, mul-over, both, both-is, rationals}
use Rattle.frac128.proofs.Order.{zero_top}
use Rattle.frac128.proofs.Fractions.{crosswise}
use Rattle.lp_duality.specs.Duals.{dual}
use Rattle.lp_duality.specs.CertificateDuals.{multiplier, AreMultiples, rounded_up}
use Rattle.lp_duality.specs.Laws.{PricesBound, RaysBound}
use Rattle.lp_duality.proofs.SignLaws.{Sign, up, down, none, sign_of, of_positive, of_negative, mul_positive}
use Rattle.lp_duality.proofs.ScaleLaws.{dual_same, dual_scaled}
use Rattle.lp_duality.proofs.CertificateLaws.{dual_whole}
use Rattle.lp_duality.proofs.CeilingLaws.{ceiling_same}
use Rattle.ip_defs.proofs.BoxLaws.{open_sides}
use Rattle.ip_defs.proofs.OrderLaws.{less_true}

whole_positive : (z : ℤ) → pos 0 <ℤ (of z).numerator → pos 0 <ℤ z
whole_positive z h = by (sign_of z)
  where
    by : Sign z → pos 0 <ℤ z
    by (up s) = s
    by (down s) = let d = of_negative z s in absurd (omega (arith, ints))
    by (none s) = let d : (of z).numerator ≡ pos 0 = ap (λ w. (of w).numerator) s ∙ zero_top in absurd (omega (arith, ints))

-- a whole number that is q times a rational one, cross-multiplied
cross_multiple : (z q : ℤ) (g : Rational) → of z ≡ mul (of q) g → z *ℤ denominator g ≡ g.numerator *ℤ q
unfolding of S
cross_multiple z q g e =
    let K = both 0 g.less in
    let product : over z 0 ≡ over (q *ℤ g.numerator) K = e ∙ ap (mul (over q 0)) (sym (over_parts g)) ∙ mul-over q 0 g.numerator g.less in
    combine whole (z ∷ q ∷ g.numerator ∷ S g.less ∷ S K ∷ [])
    ((num (pos 1), var 0 ⊗ var 4, (var 1 ⊗ var 2) ⊗ num (pos 1)) ∷ (minus (var 0), var 4, num (pos 1) ⊗ var 3) ∷ [])
    (var 0 ⊗ var 3) (var 2 ⊗ var 1) refl
    (crosswise z 0 (q *ℤ g.numerator) K product, (both-is 0 g.less, tt))

pub whole_multiple_cross : (z : ℤ) (g : Rational) (q : ℤ) → of z ≡ mul (of q) g → z *ℤ pos (suc g.less) ≡ g.numerator *ℤ q
unfolding S
whole_multiple_cross z g q e = cross_multiple z q g e

-- the dual value of a certificate with multiples of y
multiple_value : (m : Parts) (b : List (ℤ × ℤ)) (c : Cert) (a : Rational) (q : Rational) (y : ℕ → Rational) (g : Rational) →
    AreOrdered (length m.rows) c.y → length b ≡ length m.columns → pos 0 <ℤ a.numerator → of c.q ≡ mul a q →
    AreMultiples c (length m.rows) a y → dual m b q y ≡ Some g → option_map of (dual_value m b c.q c.y) ≡ Some (mul a g)
multiple_value m b c a q y g o size positive is multiples e =
    sym (dual_whole m b c o size)
    ∙ dual_same m b (of c.q) (multiplier c) (λ k. mul a (y k)) multiples
    ∙ ap (λ w. dual m b w (λ k. mul a (y k))) is
    ∙ dual_scaled a positive m b q y
    ∙ ap (option_map (mul a)) e

pub prices_bound : PricesBound
prices_bound m b c y g o size open' positive multiples e =
    ap (λ t. if t then Infinite else bound_by c.q (box_sum m b) (dual_value m b c.q c.y)) (open_sides b open')
    ∙ by c.q (dual_value m b c.q c.y) positive (multiple_value m b c (of c.q) (of (pos 1)) y g o size (of_positive c.q positive)
    (sym (rationals.mul_one (of c.q))) multiples e)
  where
    by : (q : ℤ) (o : Option ℤ) → pos 0 <ℤ q → option_map of o ≡ Some (mul (of q) g) → bound_by q (box_sum m b) o ≡ At (rounded_up g)
    by (pos zero) o p h = absurd (omega (arith, ints))
    by (negsuc n) o p h = absurd (omega (arith, ints))
    by (pos (suc n)) None p h = absurd cc
    by (pos (suc n)) (Some z) p h = let is : of z ≡ mul (of (pos (suc n))) g = cc in
        ap At (ceiling_same z n g.numerator g.less (whole_multiple_cross z g (pos (suc n)) is))

pub rays_bound : RaysBound
rays_bound m b c a y g o size zero' positive multiples e above = by (list_any is_empty_side b)
  where
    positive_value : (w : Option ℤ) → option_map of w ≡ Some (mul a g) → bound_by (pos 0) (box_sum m b) w ≡ Infinite
    positive_value None h = absurd cc
    positive_value (Some z) h =
        let is : of z ≡ mul a g = cc in
        let greater = whole_positive z (subst (λ (p : Rational). pos 0 <ℤ p.numerator) (sym is) (mul_positive a g positive above)) in
        ap (λ t. if t then Infinite else At (box_sum m b)) (less_true (pos 0) z greater)

    by : (t : Bool) → cond t Infinite (bound_by c.q (box_sum m b) (dual_value m b c.q c.y)) ≡ Infinite
    by true = refl
    by false = ap (λ q. bound_by q (box_sum m b) (dual_value m b c.q c.y)) zero'
        ∙ positive_value (dual_value m b c.q c.y) (multiple_value m b c a (of (pos 0)) y g o size positive (ap of zero'
        ∙ sym (mul_zero rationals a)) multiples e)
