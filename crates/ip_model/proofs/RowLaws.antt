-- The coefficients of a row, one more at a time.
use Rattle.std.specs.Prelude.{◌≡◌, ◌≢◌, ℕ, zero, suc, ◌+◌, ◌<◌, ◌≤◌, ◌==◌, Bool, true, false, cond, List, [], ◌∷◌, ◌++◌, length, take, ℤ}
use Rattle.std.specs.Prelude.{pos, ◌+ℤ◌, unsigned_abs}
use Rattle.std.proofs.Common.{arith, refl, ap, sym, ◌∙◌, get_or, add-one}
use Rattle.std.proofs.lemmas.Bool.{eqb-true}
use Rattle.std.proofs.lemmas.Int.{ints}
use Rattle.std.proofs.lemmas.List.{take_more, get_or-take, length-take-le}
use Rattle.std.proofs.lemmas.Grind.{common_steps}
use Rattle.ip_defs.specs.Program.{coefficient}
use Rattle.ip_defs.specs.Limits.{index_at, value_at, AreOrdered, AreSmall}

append_step : (t : Bool) (a x y z : ℤ) → x ≡ y +ℤ z → cond t (a +ℤ x) x ≡ cond t (a +ℤ y) y +ℤ z
append_step true a x y z e = omega (arith, ints)
append_step false a x y z e = e

pub coefficient-append : (ps qs : List (ℕ × ℤ)) (j : ℕ) → coefficient (ps ++ qs) j ≡ coefficient ps j +ℤ coefficient qs j
coefficient-append [] qs j = omega (arith, ints)
coefficient-append (p ∷ ps) qs j = append_step (p.0 == j) p.1 _ _ _ (coefficient-append ps qs j)

none_step : (a j : ℕ) (x y : ℤ) → a ≢ j → x ≡ pos 0 → cond (a == j) y x ≡ pos 0
none_step a j x y apart e = grind (arith, common_steps)

-- the coefficient is 0 where the column is not listed
pub coefficient_none : (ps : List (ℕ × ℤ)) (j : ℕ) → ((i : ℕ) → i < length ps → index_at ps i ≢ j) → coefficient ps j ≡ pos 0
coefficient_none [] j h = refl
coefficient_none (p ∷ ps) j h = none_step p.0 j _ _ (h 0 (omega arith)) (coefficient_none ps j (λ i l. h (suc i) (omega arith)))

-- the column at an index has no coefficient before it
pub fresh : (ps : List (ℕ × ℤ)) (i : ℕ) → ((h k : ℕ) → h < k → k < length ps → index_at ps h < index_at ps k) → i < length ps →
    coefficient (take i ps) (index_at ps i) ≡ pos 0
fresh ps i rising l = coefficient_none (take i ps) (index_at ps i) (λ k small same.
    let short = length-take-le i ps (omega arith) in
    let before : k < i = omega arith in
    let rises = rising k i before l in
    let read = ap (λ (p : ℕ × ℤ). p.0) (get_or-take i ps k (0, pos 0) before) in
    omega arith)

-- one more coefficient
pub coefficient_more : (ps : List (ℕ × ℤ)) (i j : ℕ) → i < length ps → coefficient (take (i + 1) ps) j ≡ coefficient (take i ps) j
    +ℤ cond (index_at ps i == j) (get_or ps i (0, pos 0)).1 (pos 0)
coefficient_more ps i j l = rw (take_more ps i (0, pos 0) l, coefficient-append) (by (index_at ps i == j))
  where
    by : (t : Bool) → coefficient (take i ps) j +ℤ cond t ((get_or ps i (0, pos 0)).1 +ℤ pos 0) (pos 0) ≡ coefficient (take i ps) j
        +ℤ cond t (get_or ps i (0, pos 0)).1 (pos 0)
    by true = omega (arith, ints)
    by false = refl

-- the absolute value of a coefficient is at most what all of them keep to
pub coefficient_small : (n s : ℕ) (ps : List (ℕ × ℤ)) (j i : ℕ) → AreOrdered n ps → AreSmall s ps → i ≤ length ps →
    unsigned_abs (coefficient (take i ps) j) ≤ s
coefficient_small n s ps j zero ordered few l = omega arith
coefficient_small n s ps j (suc i) ordered few l = by (index_at ps i == j) refl (coefficient_small n s ps j i ordered few (omega arith))
  where
    by : (t : Bool) → (index_at ps i == j) ≡ t → unsigned_abs (coefficient (take i ps) j) ≤ s →
        unsigned_abs (coefficient (take (suc i) ps) j) ≤ s
    by true e before =
        let same : index_at ps i ≡ j = eqb-true (index_at ps i) j e in
        let none = fresh ps i ordered.rising (omega arith) in
        let none' : coefficient (take i ps) j ≡ pos 0 = ap (coefficient (take i ps)) (sym same) ∙ none in
        let more = coefficient_more ps i j (omega arith) in
        let more' : coefficient (take (i + 1) ps) j ≡ coefficient (take i ps) j +ℤ value_at ps i = more
        ∙ ap (λ t. coefficient (take i ps) j +ℤ cond t (value_at ps i) (pos 0)) e in
        let small = few i (omega arith) in
        let total : coefficient (take (i + 1) ps) j ≡ value_at ps i = omega (arith, ints) in
        rw (← add-one) (rw total small)
    by false e before =
        let more = coefficient_more ps i j (omega arith) in
        let more' : coefficient (take (i + 1) ps) j ≡ coefficient (take i ps) j +ℤ pos 0 = more
        ∙ ap (λ t. coefficient (take i ps) j +ℤ cond t (value_at ps i) (pos 0)) e in
        let total : coefficient (take (i + 1) ps) j ≡ coefficient (take i ps) j = omega (arith, ints) in
        rw (← add-one) (rw total before)
