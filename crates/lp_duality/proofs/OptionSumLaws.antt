-- Sums of rational numbers of which some may be none.
use Rattle.std.specs.Prelude.{◌≡◌, ◌≢◌, ℕ, zero, suc, ◌<◌, ◌==◌, Bool, true, false, Option, Some, None, option_map, option_and_then, pos}
use Rattle.std.proofs.Common.{arith, refl, ap, sym, ◌∙◌}
use Rattle.std.proofs.lemmas.Bool.{eqb-true, eqb-false}
use Rattle.frac128.proofs.Rationals.{Rational, of, add, add_assoc, add_comm, rationals}
use Rattle.lp_duality.specs.Duals.{sum_of_all}

-- the sum of two numbers, none where one of them is none
abbrev pub plus : Option Rational → Option Rational → Option Rational
plus o p = option_and_then (λ a. option_map (λ c. add a c) p) o

plus_assoc : (o p q : Option Rational) → plus (plus o p) q ≡ plus o (plus p q)
plus_assoc None p q = refl
plus_assoc (Some x) None q = refl
plus_assoc (Some x) (Some y) None = refl
plus_assoc (Some x) (Some y) (Some z) = ap Some (add_assoc x y z)

plus_comm : (o p : Option Rational) → plus o p ≡ plus p o
plus_comm None None = refl
plus_comm None (Some y) = refl
plus_comm (Some x) None = refl
plus_comm (Some x) (Some y) = ap Some (add_comm x y)

plus_zero : (o : Option Rational) → plus o (Some (of (pos 0))) ≡ o
plus_zero None = refl
plus_zero (Some x) = ap Some (rationals.add_zero x)

pub sum_of_all_same : (f g : ℕ → Option Rational) (n : ℕ) → ((k : ℕ) → k < n → f k ≡ g k) → sum_of_all f n ≡ sum_of_all g n
sum_of_all_same f g zero h = refl
sum_of_all_same f g (suc n) h = ap (λ o. plus o (f n)) (sum_of_all_same f g n (λ k l. h k (omega arith)))
    ∙ ap (plus (sum_of_all g n)) (h n (omega arith))

pub sum_of_all_zero : (n : ℕ) → sum_of_all (λ k. Some (of (pos 0))) n ≡ Some (of (pos 0))
sum_of_all_zero zero = refl
sum_of_all_zero (suc n) = ap (λ o. plus o (Some (of (pos 0)))) (sum_of_all_zero n) ∙ plus_zero (Some (of (pos 0)))

-- one more summand, at an index where there was 0
pub sum_of_all_one : (f g : ℕ → Option Rational) (i n : ℕ) → i < n → ((k : ℕ) → k < n → k ≢ i → f k ≡ g k) → g i ≡ Some (of (pos 0)) →
    sum_of_all f n ≡ plus (f i) (sum_of_all g n)
sum_of_all_one f g i zero l h z = absurd (omega arith)
sum_of_all_one f g i (suc n) l h z = by (i == n) refl (λ m. sum_of_all_one f g i n m (λ k o. h k (omega arith)) z)
  where
    by : (t : Bool) → (i == n) ≡ t → (i < n → sum_of_all f n ≡ plus (f i) (sum_of_all g n)) →
        plus (sum_of_all f n) (f n) ≡ plus (f i) (plus (sum_of_all g n) (g n))
    by true e before =
        let is = eqb-true i n e in
        ap (λ o. plus o (f n)) (sum_of_all_same f g n (λ k o. h k (omega arith) (omega arith)))
        ∙ plus_comm (sum_of_all g n) (f n)
        ∙ ap (λ k. plus (f k) (sum_of_all g n)) (sym is)
        ∙ ap (plus (f i)) (sym (ap (λ k. plus (sum_of_all g n) (g k))
        (sym is) ∙ ap (plus (sum_of_all g n)) z ∙ plus_zero (sum_of_all g n)))
    by false e before =
        let apart = eqb-false i n e in
        ap (λ o. plus o (f n)) (before (omega arith))
        ∙ plus_assoc (f i) (sum_of_all g n) (f n)
        ∙ ap (λ o. plus (f i) (plus (sum_of_all g n) o)) (h n (omega arith) (λ m. apart (sym m)))
