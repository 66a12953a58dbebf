-- The value of a row from its listed coefficients alone, one more at a time.
use Rattle.std.specs.Prelude.{◌≡◌, ◌≢◌, ℕ, zero, suc, ◌+◌, ◌<◌, ◌≤◌, ◌==◌, Bool, true, false, cond, List, [], ◌∷◌, ◌++◌, length, take}
use Rattle.std.specs.Prelude.{nat_lt, ℤ, pos, ◌+ℤ◌, ◌*ℤ◌, ◌^◌, ◌*◌}
use Rattle.std.specs.Int.{Width, w64}
use Rattle.std.specs.Int.RustNames.{unsigned_abs}
use mir.Val.{SFits}
use Rattle.std.proofs.Common.{arith, refl, ap, sym, ◌∙◌, get_or, add-one, to_z, of_z}
use Rattle.std.proofs.lemmas.Bool.{eqb-true, eqb-false, ltb-true, ltb-false}
use Rattle.std.proofs.lemmas.Int.{ints, to_z-of_z}
use Rattle.std.proofs.lemmas.List.{take_more, take_all}
use Rattle.std.proofs.Math.ListN.{get_or-eq_default}
use Rattle.std.proofs.Math.Nat.{suc-mul}
use Rattle.ring_laws.proofs.Products.{add_mul}
use Rattle.ip_defs.specs.Sums.{sum_below, sum_over}
use Rattle.ip_defs.specs.Program.{at, coefficient, row_sum}
use Rattle.ip_defs.specs.Limits.{index_at, value_at, AreOrdered}
use Rattle.ip_defs.proofs.SumLaws.{sum_same, sum_add, sum_zero}

pub sum_over-append : {A : Type 0} (f : A → ℤ) (xs ys : List A) → sum_over f (xs ++ ys) ≡ sum_over f xs +ℤ sum_over f ys
sum_over-append f [] ys = omega (arith, ints)
sum_over-append f (x ∷ xs) ys = let rest = sum_over-append f xs ys in omega (arith, ints)

-- one more element
pub sum_over_more : {A : Type 0} (f : A → ℤ) (xs : List A) (i : ℕ) (d : A) → i < length xs →
    sum_over f (take (i + 1) xs) ≡ sum_over f (take i xs) +ℤ f (get_or xs i d)
sum_over_more f xs i d l =
    let more = ap (sum_over f) (take_more xs i d l) ∙ sum_over-append f (take i xs) (get_or xs i d ∷ []) in
    omega (arith, ints)

-- a sum whose terms are 0 but at one index
abbrev lone : ℕ → ℤ → ℕ → ℤ
lone a v j = cond (a == j) v (pos 0)

lone_apart : (a j : ℕ) (v x : ℤ) → a ≢ j → lone a v j *ℤ x ≡ pos 0
lone_apart a j v x apart = by (a == j) refl
  where
    by : (t : Bool) → (a == j) ≡ t → cond t v (pos 0) *ℤ x ≡ pos 0
    by true e = absurd (apart (eqb-true a j e))
    by false e = omega (arith, ints)

lone_before : (a : ℕ) (v : ℤ) (x : List ℤ) (n : ℕ) → n ≤ a → sum_below (λ j. lone a v j *ℤ at x j) n ≡ pos 0
lone_before a v x n l = sum_same (λ j. lone a v j *ℤ at x j) (λ j. pos 0) n (λ j h. lone_apart a j v (at x j) (λ e. omega arith))
    ∙ sum_zero n

lone_within : (a : ℕ) (v : ℤ) (x : List ℤ) (n : ℕ) → a < n → sum_below (λ j. lone a v j *ℤ at x j) n ≡ v *ℤ at x a
lone_within a v x zero l = absurd (omega arith)
lone_within a v x (suc n) l = by (a == n) refl (λ h. lone_within a v x n h)
  where
    by : (t : Bool) → (a == n) ≡ t → (a < n → sum_below (λ j. lone a v j *ℤ at x j) n ≡ v *ℤ at x a) →
        sum_below (λ j. lone a v j *ℤ at x j) n +ℤ cond t v (pos 0) *ℤ at x n ≡ v *ℤ at x a
    by true e rest =
        let same : a ≡ n = eqb-true a n e in
        let before = lone_before a v x n (omega arith) in
        let read : v *ℤ at x a ≡ v *ℤ at x n = ap (λ k. v *ℤ at x k) same in
        omega (arith, ints)
    by false e rest =
        let apart : a ≢ n = eqb-false a n e in
        let before = rest (omega arith) in
        let none : pos 0 *ℤ at x n ≡ pos 0 = omega (arith, ints) in
        omega (arith, ints)

-- the index is below the end, or the coordinate there is 0
lone_sum : (a : ℕ) (v : ℤ) (x : List ℤ) → sum_below (λ j. lone a v j *ℤ at x j) (length x) ≡ v *ℤ at x a
lone_sum a v x = by (nat_lt a (length x)) refl
  where
    by : (t : Bool) → nat_lt a (length x) ≡ t → sum_below (λ j. lone a v j *ℤ at x j) (length x) ≡ v *ℤ at x a
    by true e = lone_within a v x (length x) (ltb-true a (length x) e)
    by false e =
        let past = ltb-false a (length x) e in
        let before = lone_before a v x (length x) past in
        let read : v *ℤ at x a ≡ v *ℤ pos 0 = ap (λ z. v *ℤ z) (get_or-eq_default x (pos 0) past) in
        omega (arith, ints)

apart_of : (t : Bool) (v c : ℤ) → cond t (v +ℤ c) c ≡ cond t v (pos 0) +ℤ c
apart_of true v c = refl
apart_of false v c = omega (arith, ints)

-- the value of a row is the sum over its coefficients of coefficient times coordinate
pub row_walk : (ps : List (ℕ × ℤ)) (x : List ℤ) → row_sum ps x ≡ sum_over (λ p. p.1 *ℤ at x p.0) ps
row_walk [] x = sum_same (λ j. pos 0 *ℤ at x j) (λ j. pos 0) (length x) (λ j l. omega (arith, ints)) ∙ sum_zero (length x)
row_walk (p ∷ ps) x =
    let rest = row_walk ps x in
    let each : (j : ℕ) → j < length x → coefficient (p ∷ ps) j *ℤ at x j ≡ lone p.0 p.1 j *ℤ at x j +ℤ coefficient ps j *ℤ at x j = λ j l.
    ap (λ z. z *ℤ at x j) (apart_of (p.0 == j) p.1 (coefficient ps j)) ∙ add_mul (lone p.0 p.1 j) (coefficient ps j) (at x j) in
    let same = sum_same (λ j. coefficient (p ∷ ps) j *ℤ at x j) (λ j. lone p.0 p.1 j *ℤ at x j
    +ℤ coefficient ps j *ℤ at x j) (length x) each in
    let split = sum_add (λ j. lone p.0 p.1 j *ℤ at x j) (λ j. coefficient ps j *ℤ at x j) (length x) in
    let first = lone_sum p.0 p.1 x in
    omega (arith, ints)

-- the sum of the first terms of a row's value, and a bound on its absolute value
pub record IsFirstSum (ps : List (ℕ × ℤ)) (x : List ℤ) (count most : ℕ) (total : ℤ) : Type 0 where
  pub sum : total ≡ sum_over (λ p. p.1 *ℤ at x p.0) (take count ps)
  pub small : unsigned_abs total ≤ count * most

-- one more term
pub first_sum_more : (ps : List (ℕ × ℤ)) (x : List ℤ) (i most : ℕ) (total term next : ℤ) → i < length ps → IsFirstSum ps x i most total →
    term ≡ value_at ps i *ℤ at x (index_at ps i) → unsigned_abs term ≤ most → next ≡ total +ℤ term → IsFirstSum ps x (i + 1) most next
first_sum_more ps x i most total term next l before value small is =
    let sum = before.sum in
    let bound = before.small in
    let more = sum_over_more (λ p. p.1 *ℤ at x p.0) ps i (0, pos 0) l in
    let size : (i + 1) * most ≡ i * most + most = ap (λ n. n * most) (add-one i) ∙ suc-mul i most in
    record { sum = omega (arith, ints); small = omega (arith, ints) }

-- all terms make the value of the row
pub first_sum_all : (ps : List (ℕ × ℤ)) (x : List ℤ) (count most : ℕ) (total : ℤ) → length ps ≤ count → IsFirstSum ps x count most total →
    total ≡ row_sum ps x
first_sum_all ps x count most total l all =
    all.sum ∙ ap (sum_over (λ p. p.1 *ℤ at x p.0)) (take_all count ps l) ∙ sym (row_walk ps x)

-- an index is at most the number there, where numbers increase
pub place_below : (ps : List (ℕ × ℤ)) (i : ℕ) → ((h k : ℕ) → h < k → k < length ps → index_at ps h < index_at ps k) → i < length ps →
    i ≤ index_at ps i
place_below ps zero rising l = omega arith
place_below ps (suc i) rising l =
    let before = place_below ps i rising (omega arith) in
    let more = rising i (suc i) (omega arith) l in
    omega arith

-- a number within the limit of coefficients fits into 64 bits
pub small_fits : (z : ℤ) → unsigned_abs z ≤ 2 ^ 40 → SFits w64 z
small_fits z h = omega (arith, ints)

-- one more term at the index of a walk, of a coefficient and a coordinate as they are read
pub walk_more : (w : Width) (ps : List (ℕ × ℤ)) (x : List ℤ) (i most : ℕ) (total term next : ℤ) → i < length ps →
    unsigned_abs (value_at ps i) ≤ 2 ^ 40 → SFits w (at x (index_at ps i)) → IsFirstSum ps x i most total →
    term ≡ to_z w64 (of_z w64 (value_at ps i)) *ℤ to_z w (of_z w (at x (index_at ps i))) → unsigned_abs term ≤ most →
    next ≡ total +ℤ term → IsFirstSum ps x (i + 1) most next
walk_more w ps x i most total term next l coefficient coordinate before value small is =
    let read = rw (
      to_z-of_z w64 (value_at ps i) (small_fits (value_at ps i) coefficient),
      to_z-of_z w (at x (index_at ps i)) coordinate,
    ) at value in
    first_sum_more ps x i most total term next l before read small is

-- the sum of the terms before an index and the term there is small
pub walk_small : (n : ℕ) (ps : List (ℕ × ℤ)) (x : List ℤ) (i : ℕ) (total term : ℤ) → AreOrdered n ps → n ≤ 4096 → i < length ps →
    IsFirstSum ps x i (2 ^ 114) total → unsigned_abs term ≤ 2 ^ 114 → unsigned_abs total + unsigned_abs term ≤ 2 ^ 126
walk_small n ps x i total term ordered few l before small =
    let place = place_below ps i ordered.rising l in
    let within = ordered.within i l in
    let so = before.small in
    omega (arith, ints)
