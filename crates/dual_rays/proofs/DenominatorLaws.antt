-- Least common multiples and denominators.
use Rattle.std.specs.Prelude.{◌≡◌, ℕ, zero, suc, ◌+◌, ◌*◌, ◌/◌, ◌<◌, ◌≤◌, List, [], ◌∷◌, ◌++◌, length, take, drop, slice_index_or}
use Rattle.std.specs.Int.{◌∣◌}
use Rattle.std.proofs.Common.{arith, refl, ap, sym, ◌∙◌, subst}
use Rattle.std.proofs.Math.Nat.{dvd-mul_left, dvd-mul_right, mul-dvd-mul_left, mul-div_cancel', le_of_dvd, one-dvd, pos_of_dvd_of_pos}
use Rattle.std.proofs.Math.Nat.{dvd_of_mul-dvd-mul_left}
use Rattle.std.proofs.lemmas.List.{take_more, map-append, take-append-drop}
use Rattle.std.proofs.lemmas.Nat.Gcd.{dvd_trans, dvd_antisymm, dvd-zero}
use Rattle.frac128.specs.Gcd.{gcd}
use Rattle.frac128.specs.LowestTerms.{quotients, gcd-is, gcd-positive}
use Rattle.frac128.proofs.GcdLaws.{euclid}
use Rattle.frac128.specs.Rationals.{Rational}
use Rattle.frac128.specs.Fractions.{Fraction}
use Rattle.frac128.specs.Values.{value_of}
use Rattle.dual_rays.specs.Multiples.{lcm, common_denominator}
use Rattle.dual_rays.specs.Internal.Quotients.{number_at}
use Rattle.dual_rays.specs.Certificates.{values}

-- ---- least common multiples
pub lcm-first : (a b : ℕ) → a ∣ lcm a b
unfolding lcm
lcm-first a b = dvd-mul_right a (b / gcd a b)

pub lcm-second : (a b : ℕ) → b ∣ lcm a b
unfolding lcm
lcm-second a b =
    let g = gcd a b in
    let both = gcd-is a b in
    let x : g * (a / g) ≡ a = mul-div_cancel' g both.0 in
    let y : g * (b / g) ≡ b = mul-div_cancel' g both.1 in
    let e : b * (a / g) ≡ a * (b / g) = sym (ap (λ z. z * (a / g)) y) ∙ omega arith ∙ ap (λ z. z * (b / g)) x in
    subst (λ z. b ∣ z) e (dvd-mul_right b (a / g))

lcm-least_positive : (a b k : ℕ) → 0 < b → 0 < k → b ∣ a * k → lcm a b ∣ a * k
unfolding lcm
lcm-least_positive a b k p q d =
    let g = gcd a b in
    let both = gcd-is a b in
    let positive : 0 < g = gcd-positive a b p in
    let x : g * (a / g) ≡ a = mul-div_cancel' g both.0 in
    let y : g * (b / g) ≡ b = mul-div_cancel' g both.1 in
    let product : a * k ≡ g * ((a / g) * k) = sym (ap (λ z. z * k) x) ∙ omega arith in
    let first : g * (b / g) ∣ g * ((a / g) * k) = subst (λ z. z ∣ g * ((a / g) * k)) (sym y) (subst (λ z. b ∣ z) product d) in
    let second : b / g ∣ (a / g) * k = dvd_of_mul-dvd-mul_left (b / g) positive first in
    mul-dvd-mul_left (b / g) a (euclid (b / g) (a / g) k q (quotients a b p) second)

-- it divides each common multiple
pub lcm-least : (a b m : ℕ) → 0 < b → a ∣ m → b ∣ m → lcm a b ∣ m
lcm-least a b m p d e = by (m / a) (mul-div_cancel' a d)
  where
    by : (k : ℕ) → a * k ≡ m → lcm a b ∣ m
    by zero f = let none : 0 ≡ m = omega arith in subst (λ z. lcm a b ∣ z) none (dvd-zero (lcm a b))
    by (suc k) f = subst (λ z. lcm a b ∣ z) f (lcm-least_positive a b (suc k) p (omega arith) (subst (λ z. b ∣ z) (sym f) e))

pub lcm-positive : (a b : ℕ) → 0 < a → 0 < b → 0 < lcm a b
lcm-positive (suc a) (suc b) p q =
    let all : 0 < suc a * suc b = omega arith in
    pos_of_dvd_of_pos (lcm-least (suc a) (suc b) (suc a * suc b) (omega arith) (dvd-mul_right (suc a) (suc b))
    (dvd-mul_left (suc b) (suc a))) all
lcm-positive zero b p q = absurd (omega arith)
lcm-positive (suc a) zero p q = absurd (omega arith)

pub lcm-first_small : (a b : ℕ) → 0 < a → 0 < b → a ≤ lcm a b
lcm-first_small a b p q = le_of_dvd (lcm-positive a b p q) (lcm-first a b)

lcm-swap_divides : (a b c : ℕ) → 0 < a → 0 < b → 0 < c → lcm a (lcm b c) ∣ lcm b (lcm a c)
lcm-swap_divides a b c p q r =
    let all = lcm b (lcm a c) in
    let inner : lcm a c ∣ all = lcm-second b (lcm a c) in
    lcm-least a (lcm b c) all (lcm-positive b c q r)
    (dvd_trans a (lcm-first a c) inner)
    (lcm-least b c all r (lcm-first b (lcm a c)) (dvd_trans c (lcm-second a c) inner))

lcm-swap : (a b c : ℕ) → 0 < a → 0 < b → 0 < c → lcm a (lcm b c) ≡ lcm b (lcm a c)
lcm-swap a b c p q r = dvd_antisymm (lcm-swap_divides a b c p q r) (lcm-swap_divides b a c q p r)

-- by the greatest common divisor
pub lcm-is : (a b g : ℕ) → g ≡ gcd a b → a * (b / g) ≡ lcm a b
unfolding lcm
lcm-is a b g e = ap (λ z. a * (b / z)) e

-- ---- least common denominators
pub denominator-positive : (ps : List Rational) → 0 < common_denominator ps
denominator-positive [] = omega arith
denominator-positive (p ∷ ps) = lcm-positive (suc p.less) (common_denominator ps) (omega arith) (denominator-positive ps)

-- each denominator divides it
pub denominator-divides : (ps : List Rational) (k : ℕ) → k < length ps → suc (number_at ps k).less ∣ common_denominator ps
denominator-divides [] k l = absurd (omega arith)
denominator-divides (p ∷ ps) zero l = lcm-first (suc p.less) (common_denominator ps)
denominator-divides (p ∷ ps) (suc k) l = dvd_trans (suc (number_at ps k).less) (denominator-divides ps k (omega arith))
    (lcm-second (suc p.less) (common_denominator ps))

-- it divides each number that all denominators divide
pub denominator-least : (ps : List Rational) (m : ℕ) → ((k : ℕ) → k < length ps → suc (number_at ps k).less ∣ m) →
    common_denominator ps ∣ m
denominator-least [] m h = one-dvd m
denominator-least (p ∷ ps) m h = lcm-least (suc p.less) (common_denominator ps) m (denominator-positive ps) (h 0 (omega arith))
    (denominator-least ps m (λ k l. h (suc k) (omega arith)))

-- of one number more
pub denominator-more : (ps : List Rational) (x : Rational) → common_denominator (ps ++ x ∷ []) ≡ lcm (suc x.less) (common_denominator ps)
denominator-more [] x = refl
denominator-more (p ∷ ps) x = ap (lcm (suc p.less)) (denominator-more ps x)
    ∙ lcm-swap (suc p.less) (suc x.less) (common_denominator ps) (omega arith) (omega arith) (denominator-positive ps)

-- the first numbers have no greater one
pub denominator-grows : (ps qs : List Rational) → common_denominator ps ≤ common_denominator (ps ++ qs)
denominator-grows ps qs = le_of_dvd (denominator-positive (ps ++ qs)) (divides ps)
  where
    divides : (ps : List Rational) → common_denominator ps ∣ common_denominator (ps ++ qs)
    divides [] = one-dvd (common_denominator qs)
    divides (p ∷ ps) = lcm-least (suc p.less) (common_denominator ps) (lcm (suc p.less) (common_denominator (ps ++ qs)))
        (denominator-positive ps)
        (lcm-first (suc p.less) (common_denominator (ps ++ qs)))
        (dvd_trans (common_denominator ps) (divides ps) (lcm-second (suc p.less) (common_denominator (ps ++ qs))))

-- ---- a list of fractions, one more at a time
pub denominator-next : (xs : List Fraction) (i : ℕ) (x : Fraction) (d q : ℕ) → i < length xs → x ≡ slice_index_or xs i x →
    d ≡ suc (value_of x).less → q ≡ common_denominator (values (take i xs)) → lcm d q ≡ common_denominator (values (take (i + 1) xs))
denominator-next xs i x d q l is e f =
    let here : values (take (i + 1) xs) ≡ values (take i xs) ++ value_of x ∷ [] = ap values (take_more xs i x l)
    ∙ map-append value_of (take i xs) (slice_index_or xs i x ∷ []) ∙ ap (λ y. values (take i xs) ++ value_of y ∷ []) (sym is) in
    ap (λ z. lcm z q) e ∙ ap (lcm (suc (value_of x).less)) f ∙ sym (ap common_denominator here
    ∙ denominator-more (values (take i xs)) (value_of x))

pub denominator-prefix : (xs : List Fraction) (i : ℕ) → common_denominator (values (take i xs)) ≤ common_denominator (values xs)
denominator-prefix xs i =
    subst (λ ys. common_denominator (values (take i xs)) ≤ common_denominator ys) (sym (map-append value_of (take i xs) (drop i xs))
    ∙ ap values (take-append-drop i xs))
    (denominator-grows (values (take i xs)) (values (drop i xs)))
