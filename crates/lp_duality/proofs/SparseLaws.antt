-- Lists of pairs of a number and a value, read by number: what is not listed is 0.
use Rattle.std.specs.Prelude.{◌≡◌, ◌≢◌, ℕ, zero, suc, ◌<◌, ◌==◌, Bool, true, false, cond, List, [], ◌∷◌, length, ℤ, pos, ◌+ℤ◌, ◌-ℤ◌, ◌*ℤ◌}
use Rattle.std.proofs.Common.{arith, refl, ap, sym, ◌∙◌}
use Rattle.std.proofs.lemmas.Bool.{eqb-true, eqb-false}
use Rattle.std.proofs.lemmas.Int.{ints}
use Rattle.ring_laws.proofs.Products.{add_mul}
use Rattle.ip_defs.specs.Sums.{sum_below, sum_over}
use Rattle.ip_defs.specs.Program.{coefficient}
use Rattle.ip_defs.specs.Limits.{AreOrdered, index_at}
use Rattle.ip_defs.proofs.SumLaws.{sum_same, sum_zero}

pub ordered_tail : (n : ℕ) (p : ℕ × ℤ) (ps : List (ℕ × ℤ)) → AreOrdered n (p ∷ ps) → AreOrdered n ps
ordered_tail n p ps o = record {
  rising = λ i k l h. o.rising (suc i) (suc k) (omega arith) (omega arith);
  within = λ i l. o.within (suc i) (omega arith);
  present = λ i l. o.present (suc i) (omega arith);
}

-- what is not listed is 0
pub coefficient_absent : (ps : List (ℕ × ℤ)) (k : ℕ) → ((i : ℕ) → i < length ps → index_at ps i ≢ k) → coefficient ps k ≡ pos 0
coefficient_absent [] k h = refl
coefficient_absent (p ∷ ps) k h = by (p.0 == k) refl (coefficient_absent ps k (λ i l. h (suc i) (omega arith)))
  where
    by : (t : Bool) → (p.0 == k) ≡ t → coefficient ps k ≡ pos 0 → cond t (p.1 +ℤ coefficient ps k) (coefficient ps k) ≡ pos 0
    by true e rest = absurd (h 0 (omega arith) (eqb-true p.0 k e))
    by false e rest = rest

-- the number of the first pair is not listed again
pub coefficient_free : (n : ℕ) (p : ℕ × ℤ) (ps : List (ℕ × ℤ)) → AreOrdered n (p ∷ ps) → coefficient ps p.0 ≡ pos 0
coefficient_free n p ps o = coefficient_absent ps p.0 (λ i l e. let rises = o.rising 0 (suc i) (omega arith) (omega arith) in
    absurd (omega arith))

pub coefficient_same : (p : ℕ × ℤ) (ps : List (ℕ × ℤ)) → coefficient (p ∷ ps) p.0 ≡ p.1 +ℤ coefficient ps p.0
coefficient_same p ps = by (p.0 == p.0) refl
  where
    by : (t : Bool) → (p.0 == p.0) ≡ t → cond t (p.1 +ℤ coefficient ps p.0) (coefficient ps p.0) ≡ p.1 +ℤ coefficient ps p.0
    by true e = refl
    by false e = absurd (eqb-false p.0 p.0 e refl)

pub coefficient_other : (p : ℕ × ℤ) (ps : List (ℕ × ℤ)) (k : ℕ) → k ≢ p.0 → coefficient (p ∷ ps) k ≡ coefficient ps k
coefficient_other p ps k n = by (p.0 == k) refl
  where
    by : (t : Bool) → (p.0 == k) ≡ t → cond t (p.1 +ℤ coefficient ps k) (coefficient ps k) ≡ coefficient ps k
    by true e = absurd (n (sym (eqb-true p.0 k e)))
    by false e = refl

-- two sums that differ at one index
sum_one : (f g : ℕ → ℤ) (i n : ℕ) → i < n → ((k : ℕ) → k < n → k ≢ i → f k ≡ g k) → sum_below f n ≡ (f i -ℤ g i) +ℤ sum_below g n
sum_one f g i zero l h = absurd (omega arith)
sum_one f g i (suc n) l h = by (i == n) refl (λ m. sum_one f g i n m (λ k o. h k (omega arith)))
  where
    by : (t : Bool) → (i == n) ≡ t → (i < n → sum_below f n ≡ (f i -ℤ g i) +ℤ sum_below g n) →
        sum_below f n +ℤ f n ≡ (f i -ℤ g i) +ℤ (sum_below g n +ℤ g n)
    by true e before =
        let is = eqb-true i n e in
        let rest = sum_same f g n (λ k o. h k (omega arith) (omega arith)) in
        let first = ap f is in
        let second = ap g is in
        omega (arith, ints)
    by false e before =
        let apart = eqb-false i n e in
        let rest = before (omega arith) in
        let last = h n (omega arith) (λ m. apart (sym m)) in
        omega (arith, ints)

-- a sum over all numbers is the sum over what is listed
pub coefficient_sum : (e : ℕ → ℤ) (n : ℕ) (ps : List (ℕ × ℤ)) → ((i : ℕ) → i < length ps → index_at ps i < n) →
    sum_below (λ k. coefficient ps k *ℤ e k) n ≡ sum_over (λ p. p.1 *ℤ e p.0) ps
coefficient_sum e n [] h = sum_same (λ k. pos 0 *ℤ e k) (λ k. pos 0) n (λ k l. omega (arith, ints)) ∙ sum_zero n
coefficient_sum e n (p ∷ ps) h =
    let rest = coefficient_sum e n ps (λ i l. h (suc i) (omega arith)) in
    let one = sum_one (λ k. coefficient (p ∷ ps) k *ℤ e k) (λ k. coefficient ps k *ℤ e k) p.0 n (h 0 (omega arith))
    (λ k l m. ap (λ z. z *ℤ e k) (coefficient_other p ps k m)) in
    let first : coefficient (p ∷ ps) p.0 *ℤ e p.0 ≡ p.1 *ℤ e p.0 +ℤ coefficient ps p.0 *ℤ e p.0 =
    ap (λ z. z *ℤ e p.0) (coefficient_same p ps) ∙ add_mul p.1 (coefficient ps p.0) (e p.0) in
    omega (arith, ints)
