-- A program within its limits exceeds none of them.
use Rattle.std.specs.Prelude.{◌≡◌, ℕ, suc, ◌+◌, ◌≤◌, ◌^◌, nat_lt, false, ◌||◌, List, [], ◌∷◌, ◌++◌, length, flat_map, Option, None, Some}
use Rattle.std.specs.Prelude.{slice_get, ℤ, sum_by}
use Rattle.std.specs.List.{enumerate_from, list_any}
use Rattle.std.specs.Option.{option_map_or, ForSome}
use Rattle.std.specs.Int.RustNames.{unsigned_abs}
use Rattle.std.proofs.Common.{refl, arith, ap, ◌∙◌}
use Rattle.std.proofs.lemmas.Bool.{le-ltb}
use Rattle.ip_defs.specs.Limits.{IsWithinLimits, IsColumn, IsRow, AreSmall, limits_of, limit_at, column_limits, row_limits, exceeds}
use Rattle.ip_defs.specs.Limits.{is_long}
use Rattle.ip_defs.specs.declared.limits.What.TheVariants as Whats
use Rattle.ip_defs.specs.declared.programs.Column.{Column}
use Rattle.ip_defs.specs.declared.programs.Row.{Row}
use Rattle.ip_defs.specs.declared.programs.Parts.{Parts}

all_small : (ps : List (ℕ × ℤ)) → AreSmall (2 ^ 40) ps → list_any (λ c. exceeds (2 ^ 40) c.1) ps ≡ false
all_small [] h = refl
all_small (p ∷ ps) h =
    ap (λ t. t || list_any (λ c. exceeds (2 ^ 40) c.1) ps) (le-ltb (2 ^ 40) (unsigned_abs p.1) (h 0 (omega arith)))
    ∙ all_small ps (λ i l. h (suc i) (omega arith))

side_small : (o : Option ℤ) → ForSome o (λ side. unsigned_abs side ≤ 2 ^ 62) → option_map_or (exceeds (2 ^ 62)) o false ≡ false
side_small None h = refl
side_small (Some z) h = le-ltb (2 ^ 62) (unsigned_abs z) (h z refl)

column_within : (j : ℕ) (c : Column) → IsColumn c → column_limits (j, c) ≡ []
column_within j c h =
    ap (λ t. limit_at t Whats.Name j ++ limit_at (exceeds (2 ^ 40) c.cost) Whats.Cost j ++ limit_at
    (exceeds (2 ^ 24) c.lo) Whats.Lower j ++ limit_at (exceeds (2 ^ 24) c.hi) Whats.Upper j) (le-ltb 255 (length c.name) h.name)
    ∙ ap (λ t. limit_at t Whats.Cost j ++ limit_at (exceeds (2 ^ 24) c.lo) Whats.Lower j ++ limit_at (exceeds (2 ^ 24) c.hi) Whats.Upper j)
    (le-ltb (2 ^ 40) (unsigned_abs c.cost) h.cost)
    ∙ ap (λ t. limit_at t Whats.Lower j ++ limit_at (exceeds (2 ^ 24) c.hi) Whats.Upper j) (le-ltb (2 ^ 24) (unsigned_abs c.lo) h.lo)
    ∙ ap (λ t. limit_at t Whats.Upper j) (le-ltb (2 ^ 24) (unsigned_abs c.hi) h.hi)

row_within : (i : ℕ) (r : Row) → IsRow r → row_limits (i, r) ≡ []
row_within i r h =
    ap (λ t. limit_at t Whats.RowName i ++ limit_at (list_any (λ c. exceeds (2 ^ 40) c.1) r.coefs) Whats.Coef i ++ limit_at
    (option_map_or (exceeds (2 ^ 62)) r.low false || option_map_or (exceeds (2 ^ 62)) r.high false) Whats.Side i) (le-ltb 255
    (length r.name) h.name)
    ∙ ap (λ t. limit_at t Whats.Coef i ++ limit_at
    (option_map_or (exceeds (2 ^ 62)) r.low false
    || option_map_or (exceeds (2 ^ 62)) r.high false) Whats.Side i) (all_small r.coefs h.coefs)
    ∙ ap (λ t. limit_at (t || option_map_or (exceeds (2 ^ 62)) r.high false) Whats.Side i) (side_small r.low h.low)
    ∙ ap (λ t. limit_at t Whats.Side i) (side_small r.high h.high)

none_numbered : {A B : Type 0} (f : ℕ × A → List B) (n : ℕ) (xs : List A) → ((i j : ℕ) (x : A) → slice_get xs i ≡ Some x → f (j, x) ≡ [])
    → flat_map f (enumerate_from n xs) ≡ []
none_numbered f n [] h = refl
none_numbered f n (x ∷ xs) h =
    ap (λ k. k ++ flat_map f (enumerate_from (n + 1) xs)) (h 0 n x refl) ∙ none_numbered f (n + 1) xs (λ i j y at. h (suc i) j y at)

-- a program within its limits exceeds none
pub no_limits : (m : Parts) → IsWithinLimits m → limits_of m ≡ []
no_limits m h =
    let columns = flat_map column_limits (enumerate_from 0 m.columns) in
    let rows = flat_map row_limits (enumerate_from 0 m.rows) in
    let entries = sum_by (λ (r : Row). length r.coefs) m.rows in
    ap (λ t. limit_at t Whats.Columns 0 ++ limit_at (nat_lt 1024 (length m.rows)) Whats.Rows 0 ++ limit_at
    (nat_lt 200000 entries) Whats.Entries 0 ++ columns ++ rows ++ limit_at (is_long m.objective) Whats.Objective 0 ++ limit_at
    (exceeds (2 ^ 62) m.constant) Whats.Constant 0) (le-ltb 4096 (length m.columns) h.column_count)
    ∙ ap (λ t. limit_at t Whats.Rows 0 ++ limit_at (nat_lt 200000 entries) Whats.Entries 0 ++ columns ++ rows ++ limit_at
    (is_long m.objective) Whats.Objective 0 ++ limit_at (exceeds (2 ^ 62) m.constant) Whats.Constant 0) (le-ltb 1024
    (length m.rows) h.row_count)
    ∙ ap (λ t. limit_at t Whats.Entries 0 ++ columns ++ rows ++ limit_at (is_long m.objective) Whats.Objective 0 ++ limit_at
    (exceeds (2 ^ 62) m.constant) Whats.Constant 0) (le-ltb 200000 entries h.entry_count)
    ∙ ap (λ k. k ++ rows ++ limit_at (is_long m.objective) Whats.Objective 0 ++ limit_at (exceeds (2 ^ 62) m.constant) Whats.Constant 0)
    (none_numbered column_limits 0 m.columns (λ i j c at. column_within j c (h.columns i c at)))
    ∙ ap (λ k. k ++ limit_at (is_long m.objective) Whats.Objective 0 ++ limit_at (exceeds (2 ^ 62) m.constant) Whats.Constant 0)
    (none_numbered row_limits 0 m.rows (λ i j r at. row_within j r (h.rows i r at)))
    ∙ ap (λ t. limit_at t Whats.Objective 0 ++ limit_at (exceeds (2 ^ 62) m.constant) Whats.Constant 0)
    (le-ltb 255 (length m.objective) h.objective)
    ∙ ap (λ t. limit_at t Whats.Constant 0) (le-ltb (2 ^ 62) (unsigned_abs m.constant) h.constant)
