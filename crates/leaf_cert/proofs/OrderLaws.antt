-- Multipliers in order, one more at a time.
use Rattle.std.specs.Prelude.{◌≡◌, ◌≢◌, ℕ, zero, suc, ◌+◌, ◌^◌, ◌<◌, ◌≤◌, ◌==◌, Bool, true, false, List, ℤ, pos}
use Rattle.std.specs.Int.RustNames.{unsigned_abs}
use Rattle.std.proofs.Common.{arith, refl, subst, ap, sym, add-one, below_more}
use Rattle.std.proofs.lemmas.Bool.{eqb-true, eqb-false}
use Rattle.ip_defs.specs.Limits.{index_at, value_at}
use Rattle.leaf_cert.specs.Internal.Multipliers.{IsNext}

-- the first row that is free after i pairs
abbrev pub least_after : List (ℕ × ℤ) → ℕ → ℕ
least_after ps zero = 0
least_after ps (suc i) = index_at ps i + 1

-- the first i pairs of a list are in order and within the limit
pub record AreFirst (ps : List (ℕ × ℤ)) (rows count : ℕ) : Type 0 where
  pub rising : (i k : ℕ) → i < k → k < count → index_at ps i < index_at ps k
  pub within : (i : ℕ) → i < count → index_at ps i < rows
  pub present : (i : ℕ) → i < count → value_at ps i ≢ pos 0
  pub small : (i : ℕ) → i < count → unsigned_abs (value_at ps i) ≤ 2 ^ 36

-- one more pair takes its row
pub least_more : (ps : List (ℕ × ℤ)) (i : ℕ) → index_at ps i + 1 ≡ least_after ps (i + 1)
least_more ps i = sym (ap (least_after ps) (add-one i))

-- the row numbers before are below the first free row
below_least : (ps : List (ℕ × ℤ)) (i : ℕ) → ((h k : ℕ) → h < k → k < i → index_at ps h < index_at ps k) → (h : ℕ) → h < i →
    index_at ps h < least_after ps i
below_least ps zero rising h l = absurd (omega arith)
below_least ps (suc i) rising h l = by (h == i) refl
  where
    by : (t : Bool) → (h == i) ≡ t → index_at ps h < index_at ps i + 1
    by true e = let P : ℕ → Type 0 = λ k. index_at ps k < index_at ps i + 1 in subst P (sym (eqb-true h i e)) (omega arith)
    by false e =
        let apart = eqb-false h i e in
        let rises = rising h i (omega arith) (omega arith) in
        omega arith

-- one more pair
pub first_more : (ps : List (ℕ × ℤ)) (rows i : ℕ) → AreFirst ps rows i → IsNext (least_after ps i) (index_at ps i) (value_at ps i) rows →
    AreFirst ps rows (i + 1)
first_more ps rows i before next = record {
  rising = λ h k below l. by h k below l (k == i) refl;
  within = below_more (λ k. index_at ps k < rows) i before.within next.within;
  present = below_more (λ k. value_at ps k ≢ pos 0) i before.present next.present;
  small = below_more (λ k. unsigned_abs (value_at ps k) ≤ 2 ^ 36) i before.small next.small;
}
  where
    by : (h k : ℕ) → h < k → k < i + 1 → (t : Bool) → (k == i) ≡ t → index_at ps h < index_at ps k
    by h k below l true e =
        let same = eqb-true k i e in
        let least = below_least ps i before.rising h (omega arith) in
        let free = next.free in
        let P : ℕ → Type 0 = λ j. index_at ps h < index_at ps j in
        subst P (sym same) (omega arith)
    by h k below l false e = let apart = eqb-false k i e in before.rising h k below (omega arith)
