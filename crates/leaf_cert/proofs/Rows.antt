-- Multiples of rows, one coefficient at a time, and bounds on the coefficients.
use Rattle.std.specs.Prelude.{◌≡◌, ◌≢◌, ℕ, ◌+◌, ◌<◌, ◌≤◌, ◌==◌, Bool, true, false, cond, List, [], ◌∷◌, length, take, ℤ, pos, ◌+ℤ◌, ◌*ℤ◌}
use Rattle.std.proofs.Common.{arith, refl, ap, ◌∙◌, sym, get_or, set}
use Rattle.std.proofs.lemmas.Bool.{eqb-true, eqb-false}
use Rattle.std.proofs.lemmas.Int.{ints}
use Rattle.std.proofs.lemmas.Grind.{get_or-set_at}
use Rattle.std.proofs.lemmas.List.{get_or-set_other}
use Rattle.ip_defs.specs.Program.{at, coefficient}
use Rattle.ip_defs.specs.Limits.{index_at}
use Rattle.ip_model.proofs.RowLaws.{coefficient_more}
use Rattle.ip_model.proofs.WalkLaws.{place_below}
use Rattle.ring_laws.proofs.Products.{mul_add}

-- a multiple of a row is added in one more column
pub row_step : (old d : List ℤ) (ps : List (ℕ × ℤ)) (k : ℕ) (m r : ℤ) → k < length ps →
    ((j : ℕ) → j < length d → at d j ≡ at old j +ℤ m *ℤ coefficient (take k ps) j) → index_at ps k < length d →
    r ≡ at d (index_at ps k) +ℤ m *ℤ (get_or ps k (0, pos 0)).1 → (j : ℕ) → j < length d →
    at (set d (index_at ps k) r) j ≡ at old j +ℤ m *ℤ coefficient (take (k + 1) ps) j
row_step old d ps k m r l before inside is j within = by (index_at ps k == j) refl
  where
    col : ℕ
    col = index_at ps k

    a : ℤ
    a = (get_or ps k (0, pos 0)).1

    by : (t : Bool) → (index_at ps k == j) ≡ t → at (set d (index_at ps k) r) j ≡ at old j +ℤ m *ℤ coefficient (take (k + 1) ps) j
    by true e =
        let same : col ≡ j = eqb-true col j e in
        let more = coefficient_more ps k j l in
        let more' : coefficient (take (k + 1) ps) j ≡ coefficient (take k ps) j +ℤ a = more
        ∙ ap (λ t. coefficient (take k ps) j +ℤ cond t a (pos 0)) e in
        let out = ap (λ z. m *ℤ z) more' ∙ mul_add m (coefficient (take k ps) j) a in
        let was = before j within in
        let at_col : at d col ≡ at d j = ap (at d) same in
        let read : at (set d col r) j ≡ r = get_or-set_at d col j r (pos 0) (sym same) inside in
        omega (arith, ints)
    by false e =
        let more = coefficient_more ps k j l in
        let more' : coefficient (take (k + 1) ps) j ≡ coefficient (take k ps) j +ℤ pos 0 = more
        ∙ ap (λ t. coefficient (take k ps) j +ℤ cond t a (pos 0)) e in
        let out = ap (λ z. m *ℤ z) more' ∙ mul_add m (coefficient (take k ps) j) (pos 0) in
        let was = before j within in
        let apart : col ≢ j = eqb-false col j e in
        let read : at (set d col r) j ≡ at d j = get_or-set_other d col j r (pos 0) (λ h. apart (sym h)) in
        omega (arith, ints)

-- there are at most n numbers that increase below n
pub length_below : {A : Type 0} (ps : List (ℕ × ℤ)) (xs : List A) → ((h k : ℕ) → h < k → k < length ps → index_at ps h < index_at ps k) →
    ((i : ℕ) → i < length ps → index_at ps i < length xs) → length ps ≤ length xs
length_below [] xs rising within = omega arith
length_below (p ∷ ps) xs rising within =
    let place = place_below (p ∷ ps) (length ps) rising (omega arith) in
    let last = within (length ps) (omega arith) in
    omega arith
