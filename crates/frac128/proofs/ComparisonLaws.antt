-- The order of cross products is that of the values.
use Rattle.std.specs.Prelude.{◌≡◌, ℤ, pos, negsuc, ◌+ℤ◌, ◌*ℤ◌, ◌<ℤ◌}
use Rattle.std.proofs.Common.{arith, ap, sym, ◌∙◌}
use Rattle.std.proofs.lemmas.Int.{ints}
use Rattle.std.specs.Ordering.{MatchOrdering, int_cmp}
use Rattle.std.specs.declared.cmp.Ordering.{Ordering}
use Rattle.std.specs.declared.cmp.Ordering.TheVariants.{Less, Equal, Greater}
use Rattle.std.proofs.lemmas.Cmp.{int_ranked}
use Rattle.std.specs.Cmp.{int_cmp_is}
use Rattle.std.proofs.Math.IntN.{*ℤ_comm}
use Rattle.ring_laws.proofs.Products.{mul_up, mul_add}
use Rattle.frac128.specs.Fractions.{Fraction, IsFraction}
use Rattle.frac128.specs.Rationals.{denominator, IsBelow}
use Rattle.frac128.specs.Values.{value_of, IsOrder}
use Rattle.frac128.proofs.Order.{cross_at_most}
use Rattle.frac128.proofs.Fractions.{lowest-is}
use Rattle.frac128.proofs.FractionLaws.{same-rational}

-- numerator and denominator of the value are those of the fraction
product-parts : (x y : Fraction) → IsFraction x.num x.den → IsFraction y.num y.den →
    (value_of x).numerator *ℤ denominator (value_of y) ≡ x.num *ℤ y.den
product-parts x y p q =
    ap (λ z. z *ℤ denominator (value_of y)) (lowest-is x.num x.den p.positive p.lowest).0
    ∙ ap (λ z. x.num *ℤ z) (lowest-is y.num y.den q.positive q.lowest).1

below : (x y : Fraction) → IsFraction x.num x.den → IsFraction y.num y.den → (x.num *ℤ y.den) <ℤ (y.num *ℤ x.den) →
    IsBelow (value_of x) (value_of y)
below x y p q h =
    let left = product-parts x y p q in
    let right = product-parts y x q p in (
      cross_at_most (value_of x) (value_of y) (omega (arith, ints)),
      λ e. let same : (value_of x).numerator *ℤ denominator (value_of y) ≡ (value_of y).numerator *ℤ denominator (value_of x) =
          ap (λ z. z.numerator *ℤ denominator (value_of y)) e ∙ ap (λ z. (value_of y).numerator *ℤ denominator z) (sym e) in
          omega (arith, ints),
    )

pub cross-order : (x y : Fraction) → IsFraction x.num x.den → IsFraction y.num y.den → (r : Ordering) →
    r ≡ int_cmp (x.num *ℤ y.den) (y.num *ℤ x.den) → IsOrder r x y
cross-order x y p q r e = by r (int_ranked (x.num *ℤ y.den) (y.num *ℤ x.den) r e)
  where
    by : (r : Ordering) → MatchOrdering r ((x.num *ℤ y.den) <ℤ (y.num *ℤ x.den)) (x.num *ℤ y.den ≡ y.num *ℤ x.den) ((y.num *ℤ x.den)
        <ℤ (x.num *ℤ y.den)) → IsOrder r x y
    by Less h = below x y p q h
    by Equal h = same-rational y.num y.den x.num x.den q.positive p.positive h
    by Greater h = below y x q p h

-- ---- a positive factor keeps the order
times-below : (a b d : ℤ) → pos 0 <ℤ d → a <ℤ b → (a *ℤ d) <ℤ (b *ℤ d)
times-below a b (pos n) p h =
    let up = mul_up n (a +ℤ pos 1) b (omega (arith, ints)) in
    let split = mul_add (pos n) a (pos 1) in
    let left = *ℤ_comm a (pos n) in
    let right = *ℤ_comm b (pos n) in
    omega (arith, ints)
times-below a b (negsuc n) p h = absurd (omega (arith, ints))

pub times-order : (a b d : ℤ) (r : Ordering) → pos 0 <ℤ d → r ≡ int_cmp a b → r ≡ int_cmp (a *ℤ d) (b *ℤ d)
times-order a b d r p e = int_cmp_is (a *ℤ d) (b *ℤ d) r (by r (int_ranked a b r e))
  where
    by : (r : Ordering) → MatchOrdering r (a <ℤ b) (a ≡ b) (b <ℤ a) →
        MatchOrdering r ((a *ℤ d) <ℤ (b *ℤ d)) (a *ℤ d ≡ b *ℤ d) ((b *ℤ d) <ℤ (a *ℤ d))
    by Less h = times-below a b d p h
    by Equal h = ap (λ z. z *ℤ d) h
    by Greater h = times-below b a d p h
