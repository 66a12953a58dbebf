-- The sums over the rows of multiplier times coefficient, one multiplier at a time, and bounds on them.
use Rattle.std.specs.Prelude.{◌≡◌, ℕ, zero, suc, ◌+◌, ◌*◌, ◌^◌, ◌<◌, ◌≤◌, List, [], ◌∷◌, length, map, take, slice_get, Some, None}
use Rattle.std.specs.Prelude.{Option, ℤ, pos, ◌+ℤ◌, ◌-ℤ◌, ◌*ℤ◌}
use Rattle.std.specs.Int.{int_min}
use Rattle.std.specs.Int.RustNames.{unsigned_abs}
use Rattle.std.proofs.Common.{arith, refl, ap, subst, add-one}
use Rattle.std.proofs.lemmas.Int.{ints}
use Rattle.std.proofs.lemmas.List.{take_all}
use Rattle.ip_defs.specs.declared.programs.Column.{Column}
use Rattle.ip_defs.specs.declared.programs.Parts.{Parts}
use Rattle.ip_defs.specs.declared.programs.Row.{Row}
use Rattle.ip_defs.specs.Sums.{sum_below}
use Rattle.ip_defs.specs.Program.{at, costs_of, coefficient, low_at, high_at}
use Rattle.ip_defs.specs.Certificates.{coefs_of, coefficient_of, reduced, column_part}
use Rattle.ip_defs.specs.Limits.{index_at, value_at, AreOrdered, AreSmall, IsColumn, IsWithinLimits}
use Rattle.ip_defs.proofs.SumLaws.{sum_same}
use Rattle.ip_model.proofs.WalkLaws.{sum_over_more}
use Rattle.leaf_cert.specs.Columns.{taken_of}
use Rattle.leaf_cert.specs.Internal.Columns.{least_part}
use Rattle.ip_model.proofs.RowLaws.{coefficient_small}
use Rattle.leaf_cert.proofs.Rows.{length_below}
use Rattle.leaf_cert.proofs.Steps.{size_of_product}

-- one more multiplier
pub taken_more : (rows : List Row) (y : List (ℕ × ℤ)) (i j : ℕ) → i < length y →
    taken_of rows (take (i + 1) y) j ≡ taken_of rows (take i y) j +ℤ value_at y i *ℤ coefficient_of rows (index_at y i) j
taken_more rows y i j l = sum_over_more (λ p. p.1 *ℤ coefficient_of rows p.0 j) y i (0, pos 0) l

-- an entry of a program within its limits
pub entry_small : (m : Parts) (i j : ℕ) → IsWithinLimits m → unsigned_abs (coefficient_of m.rows i j) ≤ 2 ^ 40
entry_small m i j limits = by (slice_get m.rows i) refl
  where
    by : (found : Option Row) → slice_get m.rows i ≡ found → unsigned_abs (coefficient (coefs_of found) j) ≤ 2 ^ 40
    by None e = omega arith
    by (Some r) e =
        let row = limits.rows i r e in
        let shape = limits.shape.rows i r e in
        let all = take_all (length r.coefs) r.coefs (omega arith) in
        subst (λ ps. unsigned_abs (coefficient ps j) ≤ 2 ^ 40) all (coefficient_small (length m.columns) (2 ^ 40) r.coefs j
        (length r.coefs) shape.coefs row.coefs (omega arith))

costs_small : (columns : List Column) → ((j : ℕ) (c : Column) → slice_get columns j ≡ Some c → IsColumn c) → (j : ℕ) → j < length columns →
    unsigned_abs (at (map (λ c. c.cost) columns) j) ≤ 2 ^ 40
costs_small [] all j within = absurd (omega arith)
costs_small (c ∷ cs) all zero within = (all 0 c refl).cost
costs_small (c ∷ cs) all (suc j) within = costs_small cs (λ k d e. all (suc k) d e) j (omega arith)

-- a cost of a program within its limits
pub cost_small : (m : Parts) (j : ℕ) → IsWithinLimits m → j < length m.columns → unsigned_abs (at (costs_of m) j) ≤ 2 ^ 40
cost_small m j limits within = costs_small m.columns limits.columns j within

-- the absolute value of the sum over i multipliers
pub taken_small : (m : Parts) (y : List (ℕ × ℤ)) (i j : ℕ) → IsWithinLimits m → AreSmall (2 ^ 36) y → i ≤ length y →
    unsigned_abs (taken_of m.rows (take i y) j) ≤ i * 2 ^ 76
taken_small m y zero j limits few l = omega (arith, ints)
taken_small m y (suc i) j limits few l =
    let before = taken_small m y i j limits few (omega arith) in
    let more = taken_more m.rows y i j (omega arith) in
    let small = few i (omega arith) in
    let product = size_of_product (value_at y i) (coefficient_of m.rows (index_at y i) j) (2 ^ 36) (2 ^ 40) small
    (entry_small m (index_at y i) j limits) in
    let step : unsigned_abs (taken_of m.rows (take (i + 1) y) j) ≤ (i + 1) * 2 ^ 76 = omega (arith, ints) in
    rw (← add-one) (omega (arith, step))

-- the absolute value of the sum over all multipliers
pub taken_whole : (m : Parts) (y : List (ℕ × ℤ)) (j : ℕ) → IsWithinLimits m → AreOrdered (length m.rows) y → AreSmall (2 ^ 36) y →
    unsigned_abs (taken_of m.rows y j) ≤ 2 ^ 86
taken_whole m y j limits ordered few =
    let all = take_all (length y) y (omega arith) in
    let count = length_below y m.rows ordered.rising ordered.within in
    let rows = limits.row_count in
    let small = taken_small m y (length y) j limits few (omega arith) in
    let small' = subst (λ ys. unsigned_abs (taken_of m.rows ys j) ≤ length y * 2 ^ 76) all small in
    omega arith

-- the columns' part of the dual value, given the sums over the rows
pub columns_same : (m : Parts) (b : List (ℤ × ℤ)) (q : ℤ) (y : List (ℕ × ℤ)) (taken : List ℤ) →
    ((j : ℕ) → j < length b → at taken j ≡ taken_of m.rows y j) → sum_below (least_part (costs_of m) q taken b) (length b)
    ≡ column_part m b q y
columns_same m b q y taken is =
    sum_same (least_part (costs_of m) q taken b) (λ j. int_min (reduced m q y j *ℤ low_at b j) (reduced m q y j *ℤ high_at b j)) (length b)
    (λ j l. ap (λ z. int_min ((q *ℤ at (costs_of m) j -ℤ z) *ℤ low_at b j) ((q *ℤ at (costs_of m) j -ℤ z) *ℤ high_at b j)) (is j l))

-- the total with one more column
pub sum_step : (f : ℕ → ℤ) (j : ℕ) (total one more : ℤ) → total ≡ sum_below f j → one ≡ f j → more ≡ total +ℤ one →
    more ≡ sum_below f (j + 1)
sum_step f j total one more before is e = rw add-one (omega (arith, ints))
