-- Clamped programs exceed the limits that the programs themselves exceed, and are the programs where none is exceeded.
use Rattle.std.specs.Prelude.{◌≡◌, ℕ, suc, ◌+◌, ◌^◌, ◌≤◌, nat_lt, Bool, true, false, ◌||◌, List, [], ◌∷◌, ◌++◌, length, map, flat_map}
use Rattle.std.specs.Prelude.{sum_by, Option, Some, None, option_map, unsigned_abs, ℤ}
use Rattle.std.specs.List.{enumerate_from, list_any}
use Rattle.std.specs.Option.{ForSome, option_map_or}
use Rattle.std.proofs.Common.{refl, arith, ap, sym, ◌∙◌}
use Rattle.std.proofs.lemmas.Int.{ints, clamps}
use Rattle.std.proofs.lemmas.List.Sums.{sum_by-cons}
use Rattle.std.proofs.lemmas.Bool.{ltb-true, ltb-false}
use Rattle.std.proofs.lemmas.Option.{slice_get-map}
use Rattle.ip_defs.specs.Limits.{exceeds, limit_at, is_long, column_limits, row_limits, limits_of, AreSmall, IsColumn, IsRow}
use Rattle.ip_defs.specs.Limits.{IsWithinLimits}
use Rattle.ip_defs.specs.declared.programs.Column.{Column}
use Rattle.ip_defs.specs.declared.programs.Row.{Row}
use Rattle.ip_defs.specs.declared.programs.Parts.{Parts}
use Rattle.ip_defs.specs.declared.limits.Limit.{Limit}
use Rattle.ip_defs.specs.declared.limits.What.TheVariants.{Columns, Rows, Entries, Name, Cost, Lower, Upper, RowName, Coef, Side, Objective}
use Rattle.ip_defs.specs.declared.limits.What.TheVariants.{Constant}
use Rattle.mps_reader.specs.Internal.Clamps.{clamped, clamped_column, clamped_coefs, clamped_row, clamped_parts}
use Rattle.mps_defs.proofs.ListLaws.{map_same}
use Rattle.std.proofs.lemmas.List.{length-map}

-- a clamped number exceeds the same limits
pub clamp_above : (most : ℕ) (z : ℤ) → most ≤ 2 ^ 62 → exceeds most (clamped z) ≡ exceeds most z
clamp_above most z small = by (nat_lt most (unsigned_abs (clamped z))) (nat_lt most (unsigned_abs z)) refl refl
  where
    by : (t u : Bool) → nat_lt most (unsigned_abs (clamped z)) ≡ t → nat_lt most (unsigned_abs z) ≡ u
        → nat_lt most (unsigned_abs (clamped z)) ≡ nat_lt most (unsigned_abs z)
    by true true e f = e ∙ sym f
    by false false e f = e ∙ sym f
    by true false e f =
        let x = ltb-true most (unsigned_abs (clamped z)) e in let y = ltb-false most (unsigned_abs z) f in absurd
        (omega (arith, ints, clamps))
    by false true e f =
        let x = ltb-false most (unsigned_abs (clamped z)) e in let y = ltb-true most (unsigned_abs z) f in absurd
        (omega (arith, ints, clamps))

-- a number within 2^62 stays as it is
pub clamp_stays : (z : ℤ) → unsigned_abs (clamped z) ≤ 2 ^ 62 → clamped z ≡ z
clamp_stays z small = omega (arith, ints, clamps)

side_above : (o : Option ℤ) → option_map_or (exceeds (2 ^ 62)) (option_map clamped o) false ≡ option_map_or (exceeds (2 ^ 62)) o false
side_above None = refl
side_above (Some z) = clamp_above (2 ^ 62) z (omega arith)

coefs_above : (ps : List (ℕ × ℤ)) → list_any (λ c. exceeds (2 ^ 40) c.1) (clamped_coefs ps) ≡ list_any (λ c. exceeds (2 ^ 40) c.1) ps
coefs_above [] = refl
coefs_above (p ∷ ps) =
    ap (λ t. t || list_any (λ c. exceeds (2 ^ 40) c.1) (clamped_coefs ps)) (clamp_above (2 ^ 40) p.1 (omega arith))
    ∙ ap (λ t. exceeds (2 ^ 40) p.1 || t) (coefs_above ps)

column_same : (p : ℕ × Column) → column_limits (p.0, clamped_column p.1) ≡ column_limits p
column_same p =
    ap (λ t. limit_at (is_long p.1.name) Name p.0 ++ limit_at t Cost p.0
    ++ limit_at (exceeds (2 ^ 24) (clamped p.1.lo)) Lower p.0 ++ limit_at
    (exceeds (2 ^ 24) (clamped p.1.hi)) Upper p.0) (clamp_above (2 ^ 40) p.1.cost (omega arith))
    ∙ ap (λ t. limit_at (is_long p.1.name) Name p.0 ++ limit_at (exceeds (2 ^ 40) p.1.cost) Cost p.0 ++ limit_at t Lower p.0 ++ limit_at
    (exceeds (2 ^ 24) (clamped p.1.hi)) Upper p.0) (clamp_above (2 ^ 24) p.1.lo (omega arith))
    ∙ ap (λ t. limit_at (is_long p.1.name) Name p.0 ++ limit_at (exceeds (2 ^ 40) p.1.cost) Cost p.0 ++ limit_at
    (exceeds (2 ^ 24) p.1.lo) Lower p.0 ++ limit_at t Upper p.0) (clamp_above (2 ^ 24) p.1.hi (omega arith))

row_same : (p : ℕ × Row) → row_limits (p.0, clamped_row p.1) ≡ row_limits p
row_same p =
    ap (λ t. limit_at (is_long p.1.name) RowName p.0 ++ limit_at t Coef p.0 ++ limit_at
    (option_map_or (exceeds (2 ^ 62)) (option_map clamped p.1.low) false || option_map_or (exceeds (2 ^ 62))
    (option_map clamped p.1.high) false) Side p.0) (coefs_above p.1.coefs)
    ∙ ap (λ t. limit_at (is_long p.1.name) RowName p.0 ++ limit_at (list_any (λ c. exceeds (2 ^ 40) c.1) p.1.coefs) Coef p.0 ++ limit_at
    (t || option_map_or (exceeds (2 ^ 62)) (option_map clamped p.1.high) false) Side p.0) (side_above p.1.low)
    ∙ ap (λ t. limit_at (is_long p.1.name) RowName p.0 ++ limit_at (list_any (λ c. exceeds (2 ^ 40) c.1) p.1.coefs) Coef p.0 ++ limit_at
    (option_map_or (exceeds (2 ^ 62)) p.1.low false || t) Side p.0) (side_above p.1.high)

-- what is found of mapped elements by number, where each gives the same
flat_same : {A B : Type 0} (f : ℕ × A → List B) (g : A → A) → ((p : ℕ × A) → f (p.0, g p.1) ≡ f p) → (n : ℕ) (xs : List A)
    → flat_map f (enumerate_from n (map g xs)) ≡ flat_map f (enumerate_from n xs)
flat_same f g h n [] = refl
flat_same f g h n (x ∷ xs) =
    ap (λ l. l ++ flat_map f (enumerate_from (n + 1) (map g xs))) (h (n, x)) ∙ ap (λ l. f (n, x) ++ l) (flat_same f g h (n + 1) xs)

entries_same : (rs : List Row) → sum_by (λ r. length r.coefs) (map clamped_row rs) ≡ sum_by (λ r. length r.coefs) rs
entries_same [] = refl
entries_same (r ∷ rs) =
    sum_by-cons (λ (s : Row). length s.coefs) (clamped_row r) (map clamped_row rs)
    ∙ ap (λ n. n + sum_by (λ s. length s.coefs) (map clamped_row rs)) (length-map r.coefs (λ (p : ℕ × ℤ). (p.0, clamped p.1)))
    ∙ ap (λ n. length r.coefs + n) (entries_same rs)
    ∙ sym (sum_by-cons (λ (s : Row). length s.coefs) r rs)

-- a clamped program exceeds the same limits
pub limits_same : (m : Parts) → limits_of (clamped_parts m) ≡ limits_of m
limits_same m =
    let rs = map clamped_row m.rows in
    let cs = map clamped_column m.columns in
    let size : Row → ℕ = λ r. length r.coefs in
    let fs = flat_map column_limits (enumerate_from 0 cs) in
    let gs = flat_map row_limits (enumerate_from 0 rs) in
    let fs_same = flat_same column_limits clamped_column column_same 0 m.columns in
    let gs_same = flat_same row_limits clamped_row row_same 0 m.rows in
    let last = exceeds (2 ^ 62) (clamped m.constant) in
    ap (λ n. all n (length rs) (sum_by size rs) fs gs last) (length-map m.columns clamped_column)
    ∙ ap (λ n. all (length m.columns) n (sum_by size rs) fs gs last) (length-map m.rows clamped_row)
    ∙ ap (λ n. all (length m.columns) (length m.rows) n fs gs last) (entries_same m.rows)
    ∙ ap (λ l. all (length m.columns) (length m.rows) (sum_by size m.rows) l gs last) fs_same
    ∙ ap (λ l. all (length m.columns) (length m.rows) (sum_by size m.rows)
    (flat_map column_limits (enumerate_from 0 m.columns)) l last) gs_same
    ∙ ap (λ t. all (length m.columns) (length m.rows) (sum_by size m.rows) (flat_map column_limits (enumerate_from 0 m.columns))
    (flat_map row_limits (enumerate_from 0 m.rows)) t) (clamp_above (2 ^ 62) m.constant (omega arith))
  where
    all : ℕ → ℕ → ℕ → List Limit → List Limit → Bool → List Limit
    all columns rows entries of_columns of_rows constant =
        limit_at (nat_lt 4096 columns) Columns 0 ++ limit_at (nat_lt 1024 rows) Rows 0
        ++ limit_at (nat_lt 200000 entries) Entries 0
        ++ of_columns ++ of_rows
        ++ limit_at (is_long m.objective) Objective 0 ++ limit_at constant Constant 0

-- ---- a program within the limits is its own clamped one

column_stays : (c : Column) → IsColumn (clamped_column c) → clamped_column c ≡ c
column_stays c h =
    let cost = clamp_stays c.cost (let s = h.cost in omega arith) in
    let lo = clamp_stays c.lo (let s = h.lo in omega arith) in
    let hi = clamp_stays c.hi (let s = h.hi in omega arith) in
    rw (cost, lo, hi) refl

pair_stays : (p : ℕ × ℤ) → clamped p.1 ≡ p.1 → (p.0, clamped p.1) ≡ p
pair_stays p e = ap (λ z. (p.0, z)) e

coefs_stay : (ps : List (ℕ × ℤ)) → AreSmall (2 ^ 40) (clamped_coefs ps) → clamped_coefs ps ≡ ps
coefs_stay [] h = refl
coefs_stay (p ∷ ps) h =
    let first = clamp_stays p.1 (let s = h 0 (omega arith) in omega arith) in
    ap (λ q. q ∷ clamped_coefs ps) (pair_stays p first) ∙ ap (λ l. p ∷ l) (coefs_stay ps (λ i within. h (suc i) (omega arith)))

side_stays : (o : Option ℤ) → ForSome (option_map clamped o) (λ side. unsigned_abs side ≤ 2 ^ 62) → option_map clamped o ≡ o
side_stays None h = refl
side_stays (Some z) h = ap Some (clamp_stays z (h (clamped z) refl))

row_stays : (r : Row) → IsRow (clamped_row r) → clamped_row r ≡ r
row_stays r h =
    let coefs = coefs_stay r.coefs h.coefs in
    let low = side_stays r.low h.low in
    let high = side_stays r.high h.high in
    rw (coefs, low, high) refl

-- a program whose clamped one is within the limits is that one
pub clamped_same : (m : Parts) → IsWithinLimits (clamped_parts m) → clamped_parts m ≡ m
clamped_same m h =
    let columns =
    map_same clamped_column m.columns
    (λ j c e. column_stays c (h.columns j (clamped_column c) (slice_get-map clamped_column m.columns j
    ∙ ap (option_map clamped_column) e))) in
    let rows =
    map_same clamped_row m.rows
    (λ i r e. row_stays r (h.rows i (clamped_row r) (slice_get-map clamped_row m.rows i ∙ ap (option_map clamped_row) e))) in
    let constant = clamp_stays m.constant h.constant in
    rw (columns, rows, constant) refl
