-- Greatest common divisors of lists of whole numbers, and lists without one.
use Rattle.std.specs.Prelude.{◌≡◌, ◌≢◌, ℕ, zero, suc, ◌*◌, ◌/◌, ◌<◌, List, [], ◌∷◌, length, map, ℤ, pos, negsuc, ◌*ℤ◌, int_div}
use Rattle.std.specs.Prelude.{unsigned_abs}
use Rattle.std.specs.Int.{◌∣◌}
use Rattle.std.proofs.Common.{arith, refl, ap, sym, ◌∙◌, subst}
use Rattle.std.proofs.lemmas.Int.{ints, unsigned_abs-mul}
use Rattle.std.proofs.Math.Nat.{dvd-mul_right, eq-zero_of_zero-dvd, mul-div_cancel_left, pos_of_dvd_of_pos}
use Rattle.std.proofs.lemmas.Nat.Gcd.{dvd_trans, dvd-zero}
use Rattle.frac128.specs.Gcd.{gcd}
use Rattle.frac128.specs.LowestTerms.{gcd-is}
use Rattle.frac128.proofs.GcdLaws.{gcd-mul}
use Rattle.frac128.proofs.Rationals.{S, cancel, divided-is}
use Rattle.ring_laws.proofs.Products.{mul_assoc}
use Rattle.ip_defs.specs.Program.{at}
use Rattle.dual_rays.specs.Multiples.{common_divisor, primitive}

-- it divides each number
pub divisor-divides : (zs : List ℤ) (k : ℕ) → k < length zs → common_divisor zs ∣ unsigned_abs (at zs k)
divisor-divides [] k l = absurd (omega arith)
divisor-divides (z ∷ zs) zero l = (gcd-is (unsigned_abs z) (common_divisor zs)).0
divisor-divides (z ∷ zs) (suc k) l = dvd_trans (common_divisor (z ∷ zs)) (gcd-is (unsigned_abs z) (common_divisor zs)).1
    (divisor-divides zs k (omega arith))

-- each common divisor divides it
pub divisor-greatest : (zs : List ℤ) (d : ℕ) → ((k : ℕ) → k < length zs → d ∣ unsigned_abs (at zs k)) → d ∣ common_divisor zs
divisor-greatest [] d h = dvd-zero d
divisor-greatest (z ∷ zs) d h = (gcd-is (unsigned_abs z) (common_divisor zs)).2 d (h 0 (omega arith))
    (divisor-greatest zs d (λ k l. h (suc k) (omega arith)))

pub divisor-positive : (zs : List ℤ) (k : ℕ) → k < length zs → at zs k ≢ pos 0 → 0 < common_divisor zs
divisor-positive zs k l n = pos_of_dvd_of_pos (divisor-divides zs k l) (by (at zs k) n)
  where
    by : (z : ℤ) → z ≢ pos 0 → 0 < unsigned_abs z
    by (pos zero) n = absurd (n refl)
    by (pos (suc m)) n = omega (arith, ints)
    by (negsuc m) n = omega (arith, ints)

pub divisor-none : (zs : List ℤ) (k : ℕ) → k < length zs → common_divisor zs ≡ 0 → at zs k ≡ pos 0
divisor-none zs k l e = let size = eq-zero_of_zero-dvd (subst (λ d. d ∣ unsigned_abs (at zs k)) e (divisor-divides zs k l)) in
    omega (arith, ints)

-- a common factor
pub divisor-scale : (g : ℕ) (zs : List ℤ) → 0 < g → common_divisor (map (λ z. pos g *ℤ z) zs) ≡ g * common_divisor zs
divisor-scale g [] p = omega arith
divisor-scale g (z ∷ zs) p =
    ap (λ n. gcd n (common_divisor (map (λ z. pos g *ℤ z) zs))) (unsigned_abs-mul (pos g) z)
    ∙ ap (gcd (g * unsigned_abs z)) (divisor-scale g zs p)
    ∙ gcd-mul g (unsigned_abs z) (common_divisor zs) p

-- ---- quotients by a common divisor
quotients-back : (g : ℕ) (zs : List ℤ) → ((k : ℕ) → k < length zs → g ∣ unsigned_abs (at zs k)) →
    map (λ z. pos g *ℤ z) (map (λ z. int_div z (pos g)) zs) ≡ zs
quotients-back g [] h = refl
quotients-back g (z ∷ zs) h =
    ap (λ w. w ∷ map (λ z. pos g *ℤ z) (map (λ z. int_div z (pos g)) zs)) (divided-is g z (h 0 (omega arith)))
    ∙ ap (λ ws. z ∷ ws) (quotients-back g zs (λ k l. h (suc k) (omega arith)))

-- what is left has no common divisor
pub primitive-divisor : (zs : List ℤ) → 0 < common_divisor zs → common_divisor (primitive zs) ≡ 1
primitive-divisor zs p =
    let g = common_divisor zs in
    let is : g * common_divisor (primitive zs) ≡ g * 1 = sym (divisor-scale g (primitive zs) p)
    ∙ ap common_divisor (quotients-back g zs (λ k l. divisor-divides zs k l)) ∙ omega arith in
    sym (mul-div_cancel_left (common_divisor (primitive zs)) p) ∙ ap (λ n. n / g) is ∙ mul-div_cancel_left 1 p

pub cancel-factor : (q : ℕ) (x y : ℤ) → 0 < q → pos q *ℤ x ≡ pos q *ℤ y → x ≡ y
unfolding S
cancel-factor zero x y p e = absurd (omega arith)
cancel-factor (suc q) x y p e = cancel q x y e

product_back : (g : ℕ) (z : ℤ) → 0 < g → int_div (pos g *ℤ z) (pos g) ≡ z
product_back g z p =
    let divides : g ∣ unsigned_abs (pos g *ℤ z) = subst (λ n. g ∣ n) (sym (unsigned_abs-mul (pos g) z))
    (dvd-mul_right g (unsigned_abs z)) in
    cancel-factor g (int_div (pos g *ℤ z) (pos g)) z p (divided-is g (pos g *ℤ z) divides)

products-back : (g : ℕ) (zs : List ℤ) → 0 < g → map (λ z. int_div z (pos g)) (map (λ z. pos g *ℤ z) zs) ≡ zs
products-back g [] p = refl
products-back g (z ∷ zs) p = ap (λ w. w ∷ map (λ z. int_div z (pos g)) (map (λ z. pos g *ℤ z) zs)) (product_back g z p)
    ∙ ap (λ ws. z ∷ ws) (products-back g zs p)

-- numbers without a common divisor are what is left of each positive multiple of theirs
pub primitive-multiple : (g : ℕ) (zs : List ℤ) → 0 < g → common_divisor zs ≡ 1 → primitive (map (λ z. pos g *ℤ z) zs) ≡ zs
primitive-multiple g zs p one =
    let is : common_divisor (map (λ z. pos g *ℤ z) zs) ≡ g = divisor-scale g zs p ∙ ap (λ n. g * n) one ∙ omega arith in
    ap (λ d. map (λ z. int_div z (pos d)) (map (λ z. pos g *ℤ z) zs)) is ∙ products-back g zs p

scale_twice : (q g : ℕ) (zs : List ℤ) → map (λ z. pos (q * g) *ℤ z) zs ≡ map (λ z. pos q *ℤ z) (map (λ z. pos g *ℤ z) zs)
scale_twice q g [] = refl
scale_twice q g (z ∷ zs) = ap (λ w. w ∷ map (λ z. pos (q * g) *ℤ z) zs) (mul_assoc (pos q) (pos g) z)
    ∙ ap (λ ws. (pos q *ℤ (pos g *ℤ z)) ∷ ws) (scale_twice q g zs)

-- the same for numbers in proportion
pub primitive-same : (w q : ℕ) (zs vs : List ℤ) → 0 < w → 0 < q → map (λ z. pos w *ℤ z) vs ≡ map (λ z. pos q *ℤ z) zs →
    common_divisor vs ≡ 1 → primitive zs ≡ vs
primitive-same w q zs vs p r e one =
    let g = common_divisor zs in
    let product : w ≡ q * g = omega arith ∙ ap (λ n. w * n) (sym one) ∙ sym (divisor-scale w vs p) ∙ ap common_divisor e
    ∙ divisor-scale q zs r in
    let is : zs ≡ map (λ z. pos g *ℤ z) vs = sym (products-back q zs r)
    ∙ ap (map (λ z. int_div z (pos q))) (sym e ∙ ap (λ n. map (λ z. pos n *ℤ z) vs) product ∙ scale_twice q g vs)
    ∙ products-back q (map (λ z. pos g *ℤ z) vs) r in
    ap primitive is ∙ primitive-multiple g vs (positive g product) one
  where
    positive : (g : ℕ) → w ≡ q * g → 0 < g
    positive zero e = absurd (omega arith)
    positive (suc g) e = omega arith
