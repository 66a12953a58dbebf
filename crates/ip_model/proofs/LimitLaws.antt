-- A well shaped program that exceeds no limit is within the limits.
use Rattle.std.specs.Prelude.{◌≡◌, ℕ, zero, suc, ◌+◌, ◌^◌, ◌<◌, ◌≤◌, nat_lt, Bool, false, ◌||◌, List, [], ◌∷◌, ◌++◌, length, flat_map}
use Rattle.std.specs.Prelude.{sum_by, slice_get, Option, Some, None, ℤ, pos}
use Rattle.std.specs.Int.RustNames.{unsigned_abs}
use Rattle.std.specs.List.{enumerate_from, list_any}
use Rattle.std.specs.Option.{ForSome, option_map_or}
use Rattle.std.proofs.Common.{arith, ap, sym, ◌∙◌, get_or, subst}
use Rattle.std.proofs.lemmas.Bool.{ltb-false}
use Rattle.ip_defs.specs.Limits.{exceeds, limit_at, is_long, column_limits, row_limits, limits_of, value_at, IsWellShaped, IsColumn}
use Rattle.ip_defs.specs.Limits.{IsRow, IsWithinLimits}
use Rattle.ip_defs.specs.declared.programs.Column.{Column}
use Rattle.ip_defs.specs.declared.programs.Row.{Row}
use Rattle.ip_defs.specs.declared.programs.Parts.{Parts}
use Rattle.ip_defs.specs.declared.limits.What.{What}
use Rattle.ip_defs.specs.declared.limits.What.TheVariants.{Columns, Rows, Entries, Name, Cost, Lower, Upper, RowName, Coef, Side}
use Rattle.ip_defs.specs.declared.limits.What.TheVariants.{Objective, Constant}
use Rattle.ip_defs.proofs.BoolLaws.{neither_true}
use Rattle.ip_defs.proofs.ListLaws.{none_append, none_when}

-- a count is at most its limit
at_most : (most n : ℕ) (what : What) (i : ℕ) → limit_at (nat_lt most n) what i ≡ [] → n ≤ most
at_most most n what i e = ltb-false most n (none_when (nat_lt most n) (record { what = what; index = i }) e)

-- what is found for no element is found at no index
none_at : {A B : Type 0} (f : ℕ × A → List B) (xs : List A) (n : ℕ) → flat_map f (enumerate_from n xs) ≡ [] → (i : ℕ) (x : A) →
    slice_get xs i ≡ Some x → f (n + i, x) ≡ []
none_at f [] n e i x g = absurd cc
none_at f (y ∷ ys) n e zero x g =
    let both = none_append (f (n, y)) (flat_map f (enumerate_from (n + 1) ys)) e in
    let same : y ≡ x = cc in
    let place : n ≡ n + 0 = omega arith in
    ap (λ k. f (k, x)) (sym place) ∙ ap (λ z. f (n, z)) (sym same) ∙ both.0
none_at f (y ∷ ys) n e (suc i) x g =
    let both = none_append (f (n, y)) (flat_map f (enumerate_from (n + 1) ys)) e in
    let place : n + 1 + i ≡ n + suc i = omega arith in
    ap (λ k. f (k, x)) (sym place) ∙ none_at f ys (n + 1) both.1 i x g

-- a limit that no element exceeds is not exceeded at any index
none_true : {A : Type 0} (p : A → Bool) (xs : List A) (d : A) → list_any p xs ≡ false → (i : ℕ) → i < length xs →
    p (get_or xs i d) ≡ false
none_true p [] d e i l = absurd (omega arith)
none_true p (x ∷ xs) d e zero l = (neither_true (p x) (list_any p xs) e).0
none_true p (x ∷ xs) d e (suc i) l = none_true p xs d (neither_true (p x) (list_any p xs) e).1 i (omega arith)

column_within : (j : ℕ) (c : Column) → column_limits (j, c) ≡ [] → IsColumn c
column_within j c e =
    let upper = none_append (limit_at (is_long c.name) Name j ++ limit_at (exceeds (2 ^ 40) c.cost) Cost j
    ++ limit_at (exceeds (2 ^ 24) c.lo) Lower j) (limit_at (exceeds (2 ^ 24) c.hi) Upper j) e in
    let lower = none_append (limit_at (is_long c.name) Name j ++ limit_at (exceeds (2 ^ 40) c.cost) Cost j)
    (limit_at (exceeds (2 ^ 24) c.lo) Lower j) upper.0 in
    let first = none_append (limit_at (is_long c.name) Name j) (limit_at (exceeds (2 ^ 40) c.cost) Cost j) lower.0 in
    record {
      name = at_most 255 (length c.name) Name j first.0;
      cost = at_most (2 ^ 40) (unsigned_abs c.cost) Cost j first.1;
      lo = at_most (2 ^ 24) (unsigned_abs c.lo) Lower j lower.1;
      hi = at_most (2 ^ 24) (unsigned_abs c.hi) Upper j upper.1;
    }

side_within : (o : Option ℤ) → option_map_or (exceeds (2 ^ 62)) o false ≡ false → ForSome o (λ side. unsigned_abs side ≤ 2 ^ 62)
side_within None e = λ x g. absurd cc
side_within (Some side) e = λ x g. let same : side ≡ x = cc in
    subst (λ (z : ℤ). unsigned_abs z ≤ 2 ^ 62) same (ltb-false (2 ^ 62) (unsigned_abs side) e)

row_within : (i : ℕ) (r : Row) → row_limits (i, r) ≡ [] → IsRow r
row_within i r e =
    let coefs_pass = list_any (λ c. exceeds (2 ^ 40) c.1) r.coefs in
    let sides_pass = option_map_or (exceeds (2 ^ 62)) r.low false || option_map_or (exceeds (2 ^ 62)) r.high false in
    let side = none_append (limit_at (is_long r.name) RowName i ++ limit_at coefs_pass Coef i) (limit_at sides_pass Side i) e in
    let first = none_append (limit_at (is_long r.name) RowName i) (limit_at coefs_pass Coef i) side.0 in
    let sides = neither_true (option_map_or (exceeds (2 ^ 62)) r.low false) (option_map_or (exceeds (2 ^ 62)) r.high false)
    (none_when sides_pass (record { what = Side; index = i }) side.1) in
    let coefs = none_when coefs_pass (record { what = Coef; index = i }) first.1 in
    record {
      name = at_most 255 (length r.name) RowName i first.0;
      coefs = λ k l. ltb-false (2 ^ 40) (unsigned_abs (value_at r.coefs k)) (none_true (λ c. exceeds (2 ^ 40) c.1) r.coefs (
        0,
        pos 0,
      ) coefs k l);
      low = side_within r.low sides.0;
      high = side_within r.high sides.1;
    }

-- a well shaped program that exceeds no limit is within the limits
pub within_limits : (m : Parts) → IsWellShaped m → limits_of m ≡ [] → IsWithinLimits m
within_limits m shape e =
    let counts = limit_at (nat_lt 4096 (length m.columns)) Columns 0 ++ limit_at (nat_lt 1024 (length m.rows)) Rows 0 in
    let entries = limit_at (nat_lt 200000 (sum_by (λ r. length r.coefs) m.rows)) Entries 0 in
    let columns = flat_map column_limits (enumerate_from 0 m.columns) in
    let rows = flat_map row_limits (enumerate_from 0 m.rows) in
    let objective = limit_at (is_long m.objective) Objective 0 in
    let last = none_append (counts ++ entries ++ columns ++ rows ++ objective) (limit_at (exceeds (2 ^ 62) m.constant) Constant 0) e in
    let named = none_append (counts ++ entries ++ columns ++ rows) objective last.0 in
    let by_row = none_append (counts ++ entries ++ columns) rows named.0 in
    let by_column = none_append (counts ++ entries) columns by_row.0 in
    let by_entry = none_append counts entries by_column.0 in
    let first = none_append (limit_at (nat_lt 4096 (length m.columns)) Columns 0) (limit_at (nat_lt 1024 (length m.rows)) Rows 0)
    by_entry.0 in
    record {
      shape = shape;
      column_count = at_most 4096 (length m.columns) Columns 0 first.0;
      row_count = at_most 1024 (length m.rows) Rows 0 first.1;
      entry_count = at_most 200000 (sum_by (λ r. length r.coefs) m.rows) Entries 0 by_entry.1;
      objective = at_most 255 (length m.objective) Objective 0 named.1;
      constant = at_most (2 ^ 62) (unsigned_abs m.constant) Constant 0 last.1;
      columns = λ j c g. column_within (0 + j) c (none_at column_limits m.columns 0 by_column.1 j c g);
      rows = λ i r g. row_within (0 + i) r (none_at row_limits m.rows 0 by_row.1 i r g);
    }
