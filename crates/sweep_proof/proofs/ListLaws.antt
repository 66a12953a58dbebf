-- Lists by element and by index: the row numbers of multipliers, and what each element has.
use Rattle.std.specs.Prelude.{ℕ, zero, suc, ◌<◌, List, [], ◌∷◌, length, slice_index_or, ℤ}
use Rattle.std.proofs.Common.{arith}
use Rattle.ip_defs.specs.Limits.{index_at}
use Rattle.ip_defs.specs.Lists.{Each}

-- each row number is below a number, or each at an index is
pub each_below : (n : ℕ) (y : List (ℕ × ℤ)) → Each (λ p. p.0 < n) y → (i : ℕ) → i < length y → index_at y i < n
each_below n [] all i l = absurd (omega arith)
each_below n (p ∷ y) all zero l = all.0
each_below n (p ∷ y) all (suc i) l = each_below n y all.1 i (omega arith)

pub below_each : (n : ℕ) (y : List (ℕ × ℤ)) → ((i : ℕ) → i < length y → index_at y i < n) → Each (λ p. p.0 < n) y
below_each n [] h = tt
below_each n (p ∷ y) h = (h 0 (omega arith), below_each n y (λ i l. h (suc i) (omega arith)))

-- what each element has, the one of an index has
pub each_index : {A : Type 0} (P : A → Type 0) (xs : List A) (k : ℕ) (d : A) → Each P xs → k < length xs → P (slice_index_or xs k d)
each_index P [] k d all l = absurd (omega arith)
each_index P (x ∷ xs) zero d all l = all.0
each_index P (x ∷ xs) (suc k) d all l = each_index P xs k d all.1 (omega arith)
