-- The model that a draft says is the model of the lines that it stands for.
use Rattle.std.specs.Prelude.{◌≡◌, ℕ, suc, ◌+◌, ◌<◌, ◌==◌, max, Bool, true, false, not, cond, if◌then◌else◌, List, [], ◌∷◌, ◌++◌, length}
use Rattle.std.specs.Prelude.{map, filter, filter_map, find, position, slice_get, Option, None, Some, option_map, option_and_then}
use Rattle.std.specs.Prelude.{unwrap_or, bytes_eq, codes, ℤ, pos}
use Rattle.std.specs.List.{enumerate_from, cons_option}
use Rattle.std.specs.Option.{option_map_or}
use Rattle.std.proofs.Common.{refl, arith, ap, sym, ◌∙◌}
use Rattle.std.proofs.lemmas.Bool.{ne_eqb}
use Rattle.ip_defs.specs.Lists.{when}
use Rattle.mps_defs.specs.Records.{Line, Entry, row_kind, row_name, is_free, column_names, kept_entries}
use Rattle.mps_defs.specs.TextModels.{units, no_number, written_at, written_in, written_for, decimals_in, row_decimals, row_sides, row_from}
use Rattle.mps_defs.specs.TextModels.{column_from, lower_by, upper_by, lower_entry, upper_entry, lower_side, upper_side, box_low, box_high}
use Rattle.mps_defs.specs.TextModels.{placed}
use Rattle.mps_defs.specs.declared.reading.How.{How}
use Rattle.mps_defs.specs.declared.reading.Number.{Number}
use Rattle.ip_defs.specs.declared.programs.Column.{Column}
use Rattle.ip_defs.specs.declared.programs.Row.{Row}
use Rattle.mps_reader.specs.declared.draft.RowDraft.{RowDraft}
use Rattle.mps_reader.specs.declared.draft.ColumnDraft.{ColumnDraft}
use Rattle.mps_reader.specs.Internal.Progress.{kind_word, RowStands, ColumnStands, upper_said}
use Rattle.mps_reader.specs.Internal.Drafted.{is_free_kind, drafted_decimals, drafted_coefs, drafted_row, drafted_rows, cost_head}
use Rattle.mps_reader.specs.Internal.Drafted.{cost_rest, drafted_lower, drafted_upper, drafted_column, drafted_columns}
use Rattle.mps_defs.proofs.PlaceLaws.{position_cons}
use Rattle.mps_defs.proofs.NumberLaws.{largest-from}
use Rattle.std.proofs.lemmas.Bool.{eq-eqb}

-- ---- rows

row_is : (ls : List Line) (how : How) (name kind : List ℕ) (r : RowDraft) → kind_word r.kind ≡ kind
    → RowStands (kept_entries (codes "COLUMNS") ls) (kept_entries (codes "RHS") ls) (kept_entries (codes "RANGES") ls)
    (column_names ls) name r
    → drafted_row how name r ≡ row_from ls how kind name
row_is ls how name kind r word s =
    let k : drafted_decimals how r ≡ row_decimals ls how name =
    ap (max how.digits) s.decimals
    ∙ sym (largest-from how.digits
    (decimals_in (kept_entries (codes "COLUMNS") ls ++ kept_entries (codes "RHS") ls ++ kept_entries (codes "RANGES") ls) name)) in
    ap (λ d. made d r.entries.items (row_sides (kind_word r.kind) d (unwrap_or r.right_side no_number) r.range)) k
    ∙ ap (λ es. made (row_decimals ls how name) es
    (row_sides (kind_word r.kind) (row_decimals ls how name) (unwrap_or r.right_side no_number) r.range)) s.entries_are
    ∙ ap (λ w. made (row_decimals ls how name) (written_in (kept_entries (codes "COLUMNS") ls) (column_names ls) name)
    (row_sides w (row_decimals ls how name) (unwrap_or r.right_side no_number) r.range)) word
    ∙ ap (λ o. made (row_decimals ls how name) (written_in (kept_entries (codes "COLUMNS") ls) (column_names ls) name)
    (row_sides kind (row_decimals ls how name) (unwrap_or o no_number) r.range)) s.right_side
    ∙ ap (λ o. made (row_decimals ls how name) (written_in (kept_entries (codes "COLUMNS") ls) (column_names ls) name)
    (row_sides kind (row_decimals ls how name) (unwrap_or (written_for (kept_entries (codes "RHS") ls) name) no_number) o)) s.range
  where
    made : ℕ → List (ℕ × Number) → Option ℤ × Option ℤ → Row
    made d es sides = record { name = name; decimals = d; coefs = drafted_coefs d es; low = sides.0; high = sides.1 }

-- the rows that are not free, from a place on
pub rows_are : (ls : List Line) (how : How) (ks : List Line) (rs : List RowDraft) → map (λ r. kind_word r.kind) rs ≡ map row_kind ks
    → ((i : ℕ) (name : List ℕ) (r : RowDraft) → slice_get (map row_name ks) i ≡ Some name → slice_get rs i ≡ Some r →
    RowStands (kept_entries (codes "COLUMNS") ls) (kept_entries (codes "RHS") ls) (kept_entries (codes "RANGES") ls) (column_names ls)
    name r)
    → drafted_rows how (map row_name ks) rs ≡ map (λ l. row_from ls how (row_kind l) (row_name l)) (filter (λ l. not (is_free l)) ks)
rows_are ls how [] rs kinds s = refl
rows_are ls how (k ∷ ks) [] kinds s = absurd cc
rows_are ls how (k ∷ ks) (r ∷ rs) kinds s =
    let word : kind_word r.kind ≡ row_kind k = cc in
    let words : map (λ x. kind_word x.kind) rs ≡ map row_kind ks = cc in
    let later = rows_are ls how ks rs words (λ i name x named at. s (suc i) name x named at) in
    let free : is_free k ≡ is_free_kind r.kind = ap (λ w. bytes_eq w (codes "N")) (sym word) in
    ap (λ row. when (not (is_free_kind r.kind)) row ++ drafted_rows how (map row_name ks) rs)
    (row_is ls how (row_name k) (row_kind k) r word (s 0 (row_name k) r refl refl))
    ∙ ap (λ l. when (not (is_free_kind r.kind)) (row_from ls how (row_kind k) (row_name k)) ++ l) later
    ∙ ap (λ t. when (not t) (row_from ls how (row_kind k) (row_name k)) ++ map (λ l. row_from ls how (row_kind l) (row_name l))
    (filter (λ l. not (is_free l)) ks)) (sym free)
    ∙ by (is_free k)
  where
    by : (t : Bool)
        → when (not t) (row_from ls how (row_kind k) (row_name k)) ++ map (λ l. row_from ls how (row_kind l) (row_name l))
        (filter (λ l. not (is_free l)) ks) ≡ map (λ l. row_from ls how (row_kind l) (row_name l))
        (cond (not t) (k ∷ filter (λ l. not (is_free l)) ks) (filter (λ l. not (is_free l)) ks))
    by true = refl
    by false = refl

-- ---- columns

-- the entries of later columns do not begin with an earlier one
head_later : (es : List Entry) (row : List ℕ) (j n : ℕ) (names : List (List ℕ)) → j < n
    → (cost_head j (filter_map (placed es row) (enumerate_from n names)) ≡ None) ×
    (cost_rest j (filter_map (placed es row) (enumerate_from n names)) ≡ filter_map (placed es row) (enumerate_from n names))
head_later es row j n [] l = (refl, refl)
head_later es row j n (name ∷ names) l = by (written_at es row name) (head_later es row j (n + 1) names (omega arith))
  where
    rest : List (ℕ × Number)
    rest = filter_map (placed es row) (enumerate_from (n + 1) names)

    apart : (n == j) ≡ false
    apart = ne_eqb n j (λ e. omega arith)

    by : (o : Option Number) → (cost_head j rest ≡ None) × (cost_rest j rest ≡ rest)
        → (cost_head j (cons_option (option_map (λ x. (n, x)) o) rest) ≡ None) ×
        (cost_rest j (cons_option (option_map (λ x. (n, x)) o) rest) ≡ cons_option (option_map (λ x. (n, x)) o) rest)
    by None later = later
    by (Some x) later = (ap (λ t. if t then Some x else None) apart, ap (λ t. if t then rest else (n, x) ∷ rest) apart)

-- what is left for a column, and for those after it
costs_at : (es : List Entry) (row : List ℕ) (j : ℕ) (name : List ℕ) (names : List (List ℕ))
    → (cost_head j (filter_map (placed es row) (enumerate_from j (name ∷ names))) ≡ written_at es row name)
    × (cost_rest j (filter_map (placed es row) (enumerate_from j (name ∷ names)))
    ≡ filter_map (placed es row) (enumerate_from (j + 1) names))
costs_at es row j name names = by (written_at es row name)
  where
    rest : List (ℕ × Number)
    rest = filter_map (placed es row) (enumerate_from (j + 1) names)

    same : (j == j) ≡ true
    same = eq-eqb j j refl

    by : (o : Option Number)
        → (cost_head j (cons_option (option_map (λ x. (j, x)) o) rest) ≡ o) ×
        (cost_rest j (cons_option (option_map (λ x. (j, x)) o) rest) ≡ rest)
    by None = head_later es row j (j + 1) names (omega arith)
    by (Some x) = (ap (λ t. if t then Some x else None) same, ap (λ t. if t then rest else (j, x) ∷ rest) same)

lower_is : (ls : List Line) (name : List ℕ) (c : ColumnDraft) → c.lower ≡ option_map lower_by (lower_entry ls name)
    → drafted_lower c ≡ lower_side ls name
lower_is ls name c e = ap (λ o. unwrap_or o (Some (pos 0))) e ∙ by (lower_entry ls name)
  where
    by : (o : Option Line) → unwrap_or (option_map lower_by o) (Some (pos 0)) ≡ option_map_or lower_by o (Some (pos 0))
    by None = refl
    by (Some l) = refl

upper_is : (ls : List Line) (name : List ℕ) (c : ColumnDraft) → c.upper ≡ option_map upper_said (upper_entry ls name)
    → drafted_upper c ≡ upper_side ls name
upper_is ls name c e = ap (λ o. option_and_then (λ u. u.side) o) e ∙ by (upper_entry ls name)
  where
    by : (o : Option Line) → option_and_then (λ u. u.side) (option_map upper_said o) ≡ option_map_or upper_by o None
    by None = refl
    by (Some l) = refl

-- the sides of a column are those of the lines
pub sides_are : (ls : List Line) (name : List ℕ) (c : ColumnDraft) → ColumnStands ls name c
    → (drafted_lower c ≡ lower_side ls name) × (drafted_upper c ≡ upper_side ls name)
sides_are ls name c s = (lower_is ls name c s.lower, upper_is ls name c s.upper)

column_is : (ls : List Line) (how : How) (row : List ℕ) (k : ℕ) (name : List ℕ) (c : ColumnDraft) (cost : Option Number)
    → cost ≡ written_at (kept_entries (codes "COLUMNS") ls) row name → ColumnStands ls name c
    → drafted_column how k name cost c ≡ column_from ls how row k name
column_is ls how row k name c cost is s =
    let sides = sides_are ls name c s in
    ap (λ o. made o (drafted_lower c) (drafted_upper c)) is
    ∙ ap (λ o. made (written_at (kept_entries (codes "COLUMNS") ls) row name) o (drafted_upper c)) sides.0
    ∙ ap (λ o. made (written_at (kept_entries (codes "COLUMNS") ls) row name) (lower_side ls name) o) sides.1
  where
    made : Option Number → Option ℤ → Option ℤ → Column
    made o low high =
        record { name = name; cost = units k (unwrap_or o no_number); lo = unwrap_or low (box_low how); hi = unwrap_or high (box_high how) }

-- the columns, from one on
pub columns_are : (ls : List Line) (how : How) (row : List ℕ) (k j : ℕ) (costs : List (ℕ × Number)) (names : List (List ℕ))
    (cs : List ColumnDraft)
    → costs ≡ filter_map (placed (kept_entries (codes "COLUMNS") ls) row) (enumerate_from j names) → length names ≡ length cs
    → ((i : ℕ) (name : List ℕ) (c : ColumnDraft) → slice_get names i ≡ Some name → slice_get cs i ≡ Some c → ColumnStands ls name c)
    → drafted_columns how k j costs names cs ≡ map (column_from ls how row k) names
columns_are ls how row k j costs [] cs is count s = refl
columns_are ls how row k j costs (name ∷ names) [] is count s = absurd (omega arith)
columns_are ls how row k j costs (name ∷ names) (c ∷ cs) is count s =
    let es = kept_entries (codes "COLUMNS") ls in
    let both = costs_at es row j name names in
    let next : suc j ≡ j + 1 = omega arith in
    let rest : cost_rest j costs ≡ filter_map (placed es row) (enumerate_from (suc j) names) =
    ap (cost_rest j) is ∙ both.1 ∙ ap (λ i. filter_map (placed es row) (enumerate_from i names)) (sym next) in
    let later =
    columns_are ls how row k (suc j) (cost_rest j costs) names cs rest (omega arith) (λ i n x named at. s (suc i) n x named at) in
    ap (λ x. x ∷ drafted_columns how k (suc j) (cost_rest j costs) names cs)
    (column_is ls how row k name c (cost_head j costs) (ap (cost_head j) is ∙ both.0) (s 0 name c refl refl))
    ∙ ap (λ l. column_from ls how row k name ∷ l) later

-- ---- the whole

-- the first that meets a test, by its place
pub found_at : {A : Type 0} (t : A → Bool) (xs : List A) (i : ℕ) → position t xs ≡ Some i
    → (x : A) × ((find t xs ≡ Some x) × (slice_get xs i ≡ Some x))
found_at t [] i e = absurd cc
found_at {A} t (x ∷ xs) i e = by (t x) (found_at t xs) (sym (position_cons t x xs) ∙ e)
  where
    by : (b : Bool) → ((k : ℕ) → position t xs ≡ Some k → (y : A) × ((find t xs ≡ Some y) × (slice_get xs k ≡ Some y)))
        → (if b then Some 0 else option_map suc (position t xs)) ≡ Some i
        → (y : A) × ((cond b (Some x) (find t xs) ≡ Some y) × (slice_get (x ∷ xs) i ≡ Some y))
    by true more h = let first : 0 ≡ i = cc in (x, (refl, ap (slice_get (x ∷ xs)) (sym first)))
    by false more h = later (position t xs) refl h
      where
        later : (o : Option ℕ) → position t xs ≡ o → option_map suc o ≡ Some i
            → (y : A) × ((find t xs ≡ Some y) × (slice_get (x ∷ xs) i ≡ Some y))
        later None q g = absurd cc
        later (Some k) q g =
            let place : suc k ≡ i = cc in let rest = more k q in (rest.0, (rest.1.0, ap (slice_get (x ∷ xs)) (sym place) ∙ rest.1.1))
