-- What a draft says of the whole is what its lines say.
use Rattle.std.specs.Prelude.{◌≡◌, ℕ, zero, suc, ◌<◌, ◌≤◌, max, if◌then◌else◌, neg_ℤ, filter, Bool, true, false, not, ◌&&◌, cond}
use Rattle.std.specs.Prelude.{List, [], ◌∷◌, ◌++◌, length, map, flat_map, find, position, slice_get, Option, None, Some, option_map}
use Rattle.std.specs.Prelude.{unwrap_or, codes, Result, Ok, Err, ℤ}
use Rattle.std.specs.Option.{option_map_or, is_none, ForSome}
use Rattle.std.proofs.Common.{refl, arith, ap, sym, ◌∙◌, get_or, subst}
use Rattle.std.proofs.lemmas.Option.{slice_get_within, slice_get-map}
use Rattle.decimals.specs.Decimals.{IsBelowLarge}
use Rattle.ip_defs.specs.Lists.{first_of, when}
use Rattle.mps_defs.specs.Lists.{is_among}
use Rattle.ip_defs.specs.Limits.{AreOrdered, IsRowShaped, IsWellShaped}
use Rattle.mps_defs.specs.Records.{Line, row_lines, row_name, row_kind, is_free, objective, column_names, kept_entries, row_names}
use Rattle.mps_defs.specs.Faults.{is_ended, continuous_faults, bound_missing, upper_faults, is_negative_upper, limit_faults}
use Rattle.mps_defs.specs.Faults.{faults_of_lines, lower_is_missing, upper_is_missing}
use Rattle.mps_defs.specs.TextModels.{units, no_number, decimals_in, column_from, row_from, model_from, row_decimals, lower_entry}
use Rattle.mps_defs.specs.TextModels.{upper_entry, upper_side, lower_by, written_in, written_for}
use Rattle.mps_defs.specs.declared.reading.Number.{Number}
use Rattle.mps_defs.specs.declared.reading.How.{How}
use Rattle.mps_defs.specs.declared.reading.Side.TheVariants.{Lower, Upper}
use Rattle.mps_defs.specs.declared.reading.MpsError.{MpsError}
use Rattle.mps_defs.specs.declared.reading.MpsError.TheVariants.{Continuous, NoBound, NegativeUpper, NoObjective, NoEnd, Limit}
use Rattle.ip_defs.specs.declared.programs.Parts.{Parts}
use Rattle.ip_defs.specs.declared.programs.Row.{Row}
use Rattle.ip_defs.specs.declared.programs.Column.{Column}
use Rattle.mps_reader.specs.declared.sections.Section.{Section}
use Rattle.mps_reader.specs.declared.draft.RowDraft.{RowDraft}
use Rattle.mps_reader.specs.declared.draft.ColumnDraft.{ColumnDraft}
use Rattle.mps_reader.specs.declared.draft.Draft.{Draft}
use Rattle.mps_reader.specs.declared.column_rules.Rule.TheVariants.{Integer, Bounded, NotNegative}
use Rattle.mps_reader.specs.Internal.Below.{AreBelowLarge, AreWithin, AreRowsBelow}
use Rattle.mps_reader.specs.Internal.Clamps.{clamped_coefs, clamped_row, clamped_column, clamped_parts}
use Rattle.mps_defs.specs.Faults.{IsFirst}
use Rattle.mps_reader.specs.Internal.Drafted.{asked, column_faults, is_negative_bound, has_end, is_free_kind, drafted_coefs, drafted_row}
use Rattle.mps_reader.specs.Internal.Drafted.{drafted_rows, drafted_columns, drafted_decimals, drafted_lower, drafted_model}
use Rattle.mps_reader.specs.Internal.Drafted.{drafted_column_faults, drafted_row_names}
use Rattle.mps_reader.specs.Internal.Drafted.{drafted_column_names}
use Rattle.mps_reader.specs.Internal.DraftModels.{IsDrafted, IsFinished, IsLimited}
use Rattle.mps_reader.specs.Internal.Progress.{Stands, ColumnStands, kind_word, upper_said}
use Rattle.mps_reader.proofs.WrittenLaws.{entries_below, entries_within, written_for_below, coefs_ordered}
use Rattle.mps_reader.proofs.FaultLaws.{first_here, first_later}
use Rattle.mps_reader.proofs.LimitedLaws.{count_columns}
use Rattle.mps_reader.proofs.ModelLaws.{rows_are, columns_are, sides_are, found_at}
use Rattle.std.proofs.lemmas.List.{length-map}
use Rattle.mps_defs.proofs.PlaceLaws.{position_cons}
use Rattle.mps_defs.proofs.ListLaws.{element_at}
use Rattle.mps_defs.proofs.NumberLaws.{largest-from}

-- ---- counts

row_count : (ls : List Line) (d : Draft) → Stands ls d → length d.rows.rows.items ≡ length (row_names ls)
row_count ls d s =
    sym (length-map d.rows.rows.items (λ (r : RowDraft). kind_word r.kind))
    ∙ ap length s.rows.kinds
    ∙ length-map (row_lines ls) row_kind
    ∙ sym (length-map (row_lines ls) row_name)

-- the name of a row by its number
name_at : (ls : List Line) (d : Draft) → Stands ls d → (i : ℕ) → i < length d.rows.rows.items
    → slice_get (row_names ls) i ≡ Some (get_or (row_names ls) i [])
name_at ls d s i inside =
    let names = row_names ls in
    let count = row_count ls d s in
    slice_get_some [] names i (omega arith)
  where
    slice_get_some : {A : Type 0} (d : A) (xs : List A) (k : ℕ) → k < length xs → slice_get xs k ≡ Some (get_or xs k d)
    slice_get_some d [] k l = absurd (omega arith)
    slice_get_some d (x ∷ xs) zero l = refl
    slice_get_some d (x ∷ xs) (suc k) l = slice_get_some d xs k (omega arith)

-- ---- numbers

for_same : (o p : Option Number) → o ≡ p → ForSome p IsBelowLarge → ForSome o IsBelowLarge
for_same o p e h = subst (λ q. ForSome q IsBelowLarge) (sym e) h

pub rows_below : (ls : List Line) (d : Draft) → Stands ls d → length d.columns.columns.items ≤ 4096 → AreRowsBelow d.rows.rows.items
rows_below ls d s few i r at =
    let inside = slice_get_within d.rows.rows.items i r at in
    let name = get_or (row_names ls) i [] in
    let row = s.entries i name r (name_at ls d s i inside) at in
    let count = s.columns.count in
    record {
      entries = subst AreBelowLarge (sym row.entries_are) (entries_below (kept_entries (codes "COLUMNS") ls) (column_names ls) name);
      columns = subst (AreWithin 4096) (sym row.entries_are)
          (entries_within (kept_entries (codes "COLUMNS") ls) (column_names ls) name 4096 (omega arith));
      right_side = for_same r.right_side (written_for (kept_entries (codes "RHS") ls) name) row.right_side
          (written_for_below (kept_entries (codes "RHS") ls) name);
      range = for_same r.range (written_for (kept_entries (codes "RANGES") ls) name) row.range
          (written_for_below (kept_entries (codes "RANGES") ls) name);
      decimals = row.few;
    }

-- ---- shape

rows_shaped : (how : How) (n : ℕ) (names : List (List ℕ)) (rs : List RowDraft) → length names ≡ length rs
    → ((i : ℕ) (name : List ℕ) (r : RowDraft) → slice_get names i ≡ Some name → slice_get rs i ≡ Some r →
    IsRowShaped n (clamped_row (drafted_row how name r)))
    → (i : ℕ) (row : Row) → slice_get (map clamped_row (drafted_rows how names rs)) i ≡ Some row → IsRowShaped n row
rows_shaped how n [] rs e h i row at = absurd cc
rows_shaped how n (name ∷ names) [] e h i row at = absurd (omega arith)
rows_shaped how n (name ∷ names) (r ∷ rs) e h i row at =
    by (is_free_kind r.kind) (rows_shaped how n names rs (omega arith) (λ k m x named found. h (suc k) m x named found)) i at
  where
    by : (t : Bool) → ((k : ℕ) (x : Row) → slice_get (map clamped_row (drafted_rows how names rs)) k ≡ Some x → IsRowShaped n x)
        → (k : ℕ) → slice_get (map clamped_row (when (not t) (drafted_row how name r) ++ drafted_rows how names rs)) k ≡ Some row
        → IsRowShaped n row
    by true later k g = later k row g
    by false later zero g = let same : clamped_row (drafted_row how name r) ≡ row = cc in subst (IsRowShaped n) same (h 0 name r refl refl)
    by false later (suc k) g = later k row g

pub model_shaped : (ls : List Line) (d : Draft) (how : How) (name : List ℕ) (r : RowDraft) (o : ℕ) → Stands ls d → how.digits ≤ 9
    → slice_get (drafted_row_names d) o ≡ Some name → slice_get d.rows.rows.items o ≡ Some r
    → IsWellShaped (clamped_parts (drafted_model d how name r))
model_shaped ls d how name r o s digits named at =
    let k = drafted_decimals how r in
    let width = drafted_columns how k 0 r.entries.items (drafted_column_names d) d.columns.columns.items in
    let columns : length (map clamped_column width) ≡ length (column_names ls) =
    length-map width clamped_column
    ∙ count_columns how k 0 r.entries.items (drafted_column_names d) d.columns.columns.items
    (ap length s.columns.names ∙ sym s.columns.count)
    ∙ s.columns.count in
    let same = s.rows.names in
    let row = s.entries o name r (ap (λ ns. slice_get ns o) (sym same) ∙ named) at in
    record {
      decimals = let few = row.few in omega arith;
      rows =
          λ i x found. rows_shaped how (length (map clamped_column width)) (drafted_row_names d) d.rows.rows.items
          (ap length same ∙ sym (row_count ls d s))
          (λ j n y called there.
          let each = s.entries j n y (ap (λ ns. slice_get ns j) (sym same) ∙ called) there in
          let few = each.few in
          record {
            decimals = omega arith;
            coefs =
                subst (λ (es : List (ℕ × Number)). AreOrdered (length (map clamped_column width))
                (clamped_coefs (drafted_coefs (drafted_decimals how y) es))) (sym each.entries_are)
                (subst (λ m. AreOrdered m
                (clamped_coefs (drafted_coefs (drafted_decimals how y)
                (written_in (kept_entries (codes "COLUMNS") ls)
                (column_names ls) n)))) (sym columns) (coefs_ordered (kept_entries (codes "COLUMNS") ls) (column_names ls) n
                (drafted_decimals how y)));
          })
          i x found;
    }

-- ---- the model

-- the objective: its name and its line
objective_at : (ls : List Line) (d : Draft) (o : ℕ) → Stands ls d → d.rows.objective ≡ Some o
    → (l : Line) × ((find is_free (row_lines ls) ≡ Some l) × (slice_get (row_lines ls) o ≡ Some l))
objective_at ls d o s e = found_at is_free (row_lines ls) o (sym s.rows.objective ∙ e)

pub model_is : (ls : List Line) (d : Draft) (how : How) (name : List ℕ) (r : RowDraft) (o : ℕ) → Stands ls d → d.rows.objective ≡ Some o
    → slice_get (drafted_row_names d) o ≡ Some name → slice_get d.rows.rows.items o ≡ Some r
    → drafted_model d how name r ≡ model_from ls how
model_is ls d how name r o s e named at =
    let found = objective_at ls d o s e in
    let there : slice_get (row_names ls) o ≡ Some name = ap (λ ns. slice_get ns o) (sym s.rows.names) ∙ named in
    let line : slice_get (row_names ls) o ≡ Some (row_name found.0) =
    slice_get-map row_name (row_lines ls) o ∙ ap (option_map row_name) found.1.1 in
    let title : row_name found.0 ≡ name = cc in
    let cost_row : unwrap_or (objective ls) [] ≡ name = ap (λ l. unwrap_or (option_map row_name l) []) found.1.0 ∙ title in
    let row = s.entries o name r there at in
    let es = kept_entries (codes "COLUMNS") ls in
    let right = kept_entries (codes "RHS") ls in
    let k : drafted_decimals how r ≡ row_decimals ls how name =
    ap (max how.digits) row.decimals ∙ sym (largest-from how.digits (decimals_in (es ++ right ++ kept_entries (codes "RANGES") ls) name)) in
    let constant =
    ap (λ w. neg_ℤ (units (drafted_decimals how r) (unwrap_or w no_number))) row.right_side
    ∙ ap (λ n. neg_ℤ (units n (unwrap_or (written_for right name) no_number))) k in
    let columns =
    ap (λ ns. drafted_columns how (drafted_decimals how r) 0 r.entries.items ns d.columns.columns.items) s.columns.names
    ∙ columns_are ls how name (drafted_decimals how r) 0 r.entries.items (column_names ls) d.columns.columns.items row.entries_are
    (sym s.columns.count) s.bounds
    ∙ ap (λ n. map (column_from ls how name n) (column_names ls)) k in
    let rows =
    ap (λ ns. drafted_rows how ns d.rows.rows.items) s.rows.names
    ∙ rows_are ls how (row_lines ls) d.rows.rows.items s.rows.kinds s.entries in
    ap (λ n. made name n (neg_ℤ (units (drafted_decimals how r) (unwrap_or r.right_side no_number)))
    (drafted_columns how (drafted_decimals how r) 0 r.entries.items (drafted_column_names d) d.columns.columns.items)
    (drafted_rows how (drafted_row_names d) d.rows.rows.items)) k
    ∙ ap (λ z. made name (row_decimals ls how name) z
    (drafted_columns how (drafted_decimals how r) 0 r.entries.items (drafted_column_names d) d.columns.columns.items)
    (drafted_rows how (drafted_row_names d) d.rows.rows.items)) constant
    ∙ ap (λ l. made name (row_decimals ls how name)
    (neg_ℤ (units (row_decimals ls how name) (unwrap_or (written_for right name) no_number))) l
    (drafted_rows how (drafted_row_names d) d.rows.rows.items)) columns
    ∙ ap (λ l. made name (row_decimals ls how name)
    (neg_ℤ (units (row_decimals ls how name) (unwrap_or (written_for right name) no_number)))
    (map (column_from ls how name (row_decimals ls how name)) (column_names ls)) l) rows
    ∙ ap (λ n. made n (row_decimals ls how n) (neg_ℤ (units (row_decimals ls how n) (unwrap_or (written_for right n) no_number)))
    (map (column_from ls how n (row_decimals ls how n)) (column_names ls))
    (map (λ l. row_from ls how (row_kind l) (row_name l)) (filter (λ l. not (is_free l)) (row_lines ls)))) (sym cost_row)
  where
    made : List ℕ → ℕ → ℤ → List Column → List Row → Parts
    made n k z cs rs = record { objective = n; cost_decimals = k; constant = z; columns = cs; rows = rs }

-- ---- the faults of the whole

never_found : {A : Type 0} (t : A → Bool) (xs : List A) → position t xs ≡ None → find t xs ≡ None
never_found t [] e = refl
never_found {A} t (x ∷ xs) e = by (t x) (never_found t xs) (sym (position_cons t x xs) ∙ e)
  where
    by : (b : Bool) → (position t xs ≡ None → find t xs ≡ None) → (if b then Some 0 else option_map suc (position t xs)) ≡ None
        → cond b (Some x) (find t xs) ≡ None
    by true later h = absurd cc
    by false later h = later (below (position t xs) h)
      where
        below : (o : Option ℕ) → option_map suc o ≡ None → o ≡ None
        below None g = refl
        below (Some k) g = absurd cc

-- faults of columns, name by name
flat_is : (f : List ℕ → List MpsError) (g : List ℕ → ColumnDraft → List MpsError) (names : List (List ℕ)) (cs : List ColumnDraft)
    → length names ≡ length cs
    → ((j : ℕ) (name : List ℕ) (c : ColumnDraft) → slice_get names j ≡ Some name → slice_get cs j ≡ Some c → f name ≡ g name c)
    → flat_map f names ≡ column_faults g names cs
flat_is f g [] cs e h = refl
flat_is f g (name ∷ names) [] e h = absurd (omega arith)
flat_is f g (name ∷ names) (c ∷ cs) e h =
    ap (λ l. l ++ flat_map f names) (h 0 name c refl refl)
    ∙ ap (λ l. g name c ++ l) (flat_is f g names cs (omega arith) (λ j n x named at. h (suc j) n x named at))

continuous_is : (ls : List Line) (how : How) (name : List ℕ) (c : ColumnDraft) → ColumnStands ls name c
    → continuous_faults ls name ≡ asked Integer how name c
continuous_is ls how name c s = ap (λ t. when (not t) (Continuous name)) (sym s.integer)

bounded_is : (ls : List Line) (how : How) (name : List ℕ) (c : ColumnDraft) → ColumnStands ls name c
    → bound_missing ls how name ≡ asked Bounded how name c
bounded_is ls how name c s =
    let sides = sides_are ls name c s in
    ap (λ low. when (lower_is_missing how.box_side low (upper_side ls name)) (NoBound name Lower)
    ++ when (upper_is_missing how.box_side low (upper_side ls name)) (NoBound name Upper)) (sym sides.0)
    ∙ ap (λ high. when (lower_is_missing how.box_side (drafted_lower c) high) (NoBound name Lower)
    ++ when (upper_is_missing how.box_side (drafted_lower c) high) (NoBound name Upper)) (sym sides.1)

none_mapped : {A B : Type 0} (f : A → B) (o : Option A) → is_none (option_map f o) ≡ is_none o
none_mapped f None = refl
none_mapped f (Some x) = refl

negative_said : (o : Option Line) → is_negative_bound (option_map upper_said o) ≡ option_map_or is_negative_upper o false
negative_said None = refl
negative_said (Some l) = refl

negative_is : (ls : List Line) (how : How) (name : List ℕ) (c : ColumnDraft) → ColumnStands ls name c
    → upper_faults ls name ≡ asked NotNegative how name c
negative_is ls how name c s =
    ap (λ t. when (t && option_map_or is_negative_upper (upper_entry ls name) false) (NegativeUpper name))
    (sym (ap is_none s.lower ∙ none_mapped lower_by (lower_entry ls name)))
    ∙ ap (λ t. when (is_none c.lower && t) (NegativeUpper name)) (sym (ap is_negative_bound s.upper ∙ negative_said (upper_entry ls name)))

-- the faults of the columns
pub columns_agree : (ls : List Line) (d : Draft) (how : How) → Stands ls d
    → flat_map (continuous_faults ls) (column_names ls) ++ flat_map (bound_missing ls how) (column_names ls) ++ flat_map (upper_faults ls)
    (column_names ls)
    ≡ drafted_column_faults d how
columns_agree ls d how s =
    let cs = d.columns.columns.items in
    let names = column_names ls in
    let count = sym s.columns.count in
    let x =
    flat_is (continuous_faults ls) (asked Integer how) names cs count (λ j n c named at. continuous_is ls how n c (s.bounds j n c named at))
    ∙ ap (λ ns. column_faults (asked Integer how) ns cs) (sym s.columns.names) in
    let y =
    flat_is (bound_missing ls how) (asked Bounded how) names cs count (λ j n c named at. bounded_is ls how n c (s.bounds j n c named at))
    ∙ ap (λ ns. column_faults (asked Bounded how) ns cs) (sym s.columns.names) in
    let z =
    flat_is (upper_faults ls) (asked NotNegative how) names cs count (λ j n c named at. negative_is ls how n c (s.bounds j n c named at))
    ∙ ap (λ ns. column_faults (asked NotNegative how) ns cs) (sym s.columns.names) in
    ap (λ l. l ++ flat_map (bound_missing ls how) names ++ flat_map (upper_faults ls) names) x
    ∙ ap (λ l. column_faults (asked Integer how) (drafted_column_names d) cs ++ l ++ flat_map (upper_faults ls) names) y
    ∙ ap (λ l. column_faults (asked Integer how) (drafted_column_names d) cs ++ column_faults (asked Bounded how)
    (drafted_column_names d) cs ++ l) z

pub ended_as : {sections items : List Section} {t ended : Bool} → sections ≡ items → t ≡ has_end sections → t ≡ ended
    → has_end items ≡ ended
ended_as same is so = ap has_end (sym same) ∙ sym is ∙ so

pub ended_is : (ls : List Line) (d : Draft) → Stands ls d → is_ended ls ≡ has_end d.sections.items
ended_is ls d s = ap (is_among (codes "ENDATA")) (sym s.sections.words)

-- the faults before those of the columns
abbrev before_columns : Bool → Bool → List MpsError → List MpsError → List MpsError → List MpsError → List MpsError
before_columns ended none x y z limits = [] ++ when (not ended) NoEnd ++ when none NoObjective ++ x ++ y ++ z ++ limits

faults_are : (ls : List Line) (d : Draft) (how : How) → Stands ls d
    → faults_of_lines ls how ≡ before_columns (is_ended ls) (is_none (objective ls)) (flat_map (continuous_faults ls) (column_names ls))
    (flat_map (bound_missing ls how) (column_names ls)) (flat_map (upper_faults ls) (column_names ls))
    (limit_faults (model_from ls how))
faults_are ls d how s =
    ap (λ l. l ++ when (not (is_ended ls)) NoEnd ++ when (is_none (objective ls)) NoObjective ++ flat_map (continuous_faults ls)
    (column_names ls) ++ flat_map (bound_missing ls how) (column_names ls) ++ flat_map (upper_faults ls) (column_names ls) ++ limit_faults
    (model_from ls how)) s.no_fault

-- no ENDATA line
pub unended_is : (ls : List Line) (d : Draft) (how : How) → Stands ls d → has_end d.sections.items ≡ false
    → first_of (faults_of_lines ls how) ≡ Some NoEnd
unended_is ls d how s e =
    ap first_of (faults_are ls d how s)
    ∙ ap (λ t. first_of (before_columns t (is_none (objective ls)) (flat_map (continuous_faults ls) (column_names ls))
    (flat_map (bound_missing ls how) (column_names ls)) (flat_map (upper_faults ls) (column_names ls))
    (limit_faults (model_from ls how)))) (ended_is ls d s
    ∙ e)

-- no objective
pub aimless_is : (ls : List Line) (d : Draft) (how : How) → Stands ls d → has_end d.sections.items ≡ true → d.rows.objective ≡ None
    → first_of (faults_of_lines ls how) ≡ Some NoObjective
aimless_is ls d how s e none =
    ap first_of (faults_are ls d how s)
    ∙ ap (λ t. first_of (before_columns t (is_none (objective ls)) (flat_map (continuous_faults ls) (column_names ls))
    (flat_map (bound_missing ls how) (column_names ls)) (flat_map (upper_faults ls) (column_names ls))
    (limit_faults (model_from ls how)))) (ended_is ls d s
    ∙ e)
    ∙ ap (λ t. first_of (before_columns true t (flat_map (continuous_faults ls) (column_names ls))
    (flat_map (bound_missing ls how) (column_names ls)) (flat_map (upper_faults ls) (column_names ls))
    (limit_faults (model_from ls how)))) (ap (λ o. is_none (option_map row_name o)) (never_found is_free (row_lines ls)
    (sym s.rows.objective
    ∙ none)))

-- an answer to a draft that has ended and has an objective
finished_is : (ls : List Line) (d : Draft) (how : How) (name : List ℕ) (r : RowDraft) (o : ℕ) (result : Result Parts MpsError)
    → Stands ls d → has_end d.sections.items ≡ true → d.rows.objective ≡ Some o
    → slice_get (drafted_row_names d) o ≡ Some name → slice_get d.rows.rows.items o ≡ Some r → IsDrafted d how name r result
    → IsFinished ls how result
finished_is ls d how name r o result s e aim named at h = by result h
  where
    model : drafted_model d how name r ≡ model_from ls how
    model = model_is ls d how name r o s aim named at

    x : List MpsError
    x = flat_map (continuous_faults ls) (column_names ls)

    y : List MpsError
    y = flat_map (bound_missing ls how) (column_names ls)

    z : List MpsError
    z = flat_map (upper_faults ls) (column_names ls)

    some : is_none (objective ls) ≡ false
    some = let found = objective_at ls d o s aim in ap (λ l. is_none (option_map row_name l)) found.1.0

    same : faults_of_lines ls how ≡ drafted_column_faults d how ++ limit_faults (drafted_model d how name r)
    same =
        faults_are ls d how s
        ∙ ap (λ t. before_columns t (is_none (objective ls)) x y z (limit_faults (model_from ls how))) (ended_is ls d s ∙ e)
        ∙ ap (λ t. before_columns true t x y z (limit_faults (model_from ls how))) some
        ∙ ap (λ l. l ++ limit_faults (model_from ls how)) (columns_agree ls d how s)
        ∙ ap (λ m. drafted_column_faults d how ++ limit_faults m) (sym model)

    by : (answer : Result Parts MpsError) → IsDrafted d how name r answer → IsFinished ls how answer
    by (Ok m) g = (ap first_of same ∙ g.0, g.1 ∙ model)
    by (Err x) g = subst (λ q. IsFirst q x) (sym (ap first_of same)) g

-- the objective is a row with a name
pub objective_there : (ls : List Line) (d : Draft) (o : ℕ) → Stands ls d → d.rows.objective ≡ Some o
    → (name : List ℕ) × (r : RowDraft) × (slice_get (drafted_row_names d) o ≡ Some name) × (slice_get d.rows.rows.items o ≡ Some r)
objective_there ls d o s e =
    let found = objective_at ls d o s e in
    let named : slice_get (drafted_row_names d) o ≡ Some (row_name found.0) =
    ap (λ ns. slice_get ns o) s.rows.names ∙ slice_get-map row_name (row_lines ls) o ∙ ap (option_map row_name) found.1.1 in
    let inside = slice_get_within (row_lines ls) o found.0 found.1.1 in
    let count = row_count ls d s in
    let names = length-map (row_lines ls) row_name in
    let row = element_at d.rows.rows.items o (omega arith) in
    (row_name found.0, row.0, named, row.1)

-- so an answer to the draft with each objective that it may have is an answer to the lines
pub finished_there : (ls : List Line) (d : Draft) (how : How) (o : ℕ) (result : Result Parts MpsError)
    → Stands ls d → has_end d.sections.items ≡ true → d.rows.objective ≡ Some o
    → ((name : List ℕ) (r : RowDraft) → slice_get (drafted_row_names d) o ≡ Some name → slice_get d.rows.rows.items o ≡ Some r
    → IsDrafted d how name r result)
    → IsFinished ls how result
finished_there ls d how o result s e aim answered =
    let t = objective_there ls d o s aim in
    finished_is ls d how t.0 t.1 o result s e aim t.2 t.3 (answered t.0 t.1 t.2 t.3)

-- the objective, as the model of a draft wants it
pub objective_shaped : (ls : List Line) (d : Draft) (how : How) (o : ℕ) → Stands ls d → how.digits ≤ 9 → d.rows.objective ≡ Some o
    → (name : List ℕ) × (r : RowDraft) × (slice_get (drafted_row_names d) o ≡ Some name) ×
    (slice_get d.rows.rows.items o ≡ Some r) × IsWellShaped (clamped_parts (drafted_model d how name r))
objective_shaped ls d how o s digits e =
    let t = objective_there ls d o s e in (t.0, t.1, t.2, t.3, model_shaped ls d how t.0 t.1 o s digits t.2 t.3)

-- columns without a fault: what the limits answer is the answer
pub drafted_faulty : (d : Draft) (how : How) (name : List ℕ) (r : RowDraft) (e : MpsError)
    → IsFirst (first_of (drafted_column_faults d how)) e → IsDrafted d how name r (Err e)
drafted_faulty d how name r e h = first_here (drafted_column_faults d how) (limit_faults (drafted_model d how name r)) e h

pub drafted_is : (d : Draft) (how : How) (name : List ℕ) (r : RowDraft) (result : Result Parts MpsError)
    → first_of (drafted_column_faults d how) ≡ None → IsLimited (drafted_model d how name r) result → IsDrafted d how name r result
drafted_is d how name r (Ok m) none h =
    (first_later (drafted_column_faults d how) (limit_faults (drafted_model d how name r)) none ∙ ap (λ l. first_of (map Limit l)) h.0, h.1)
drafted_is d how name r (Err e) none h =
    subst (λ o. IsFirst o e) (sym (first_later (drafted_column_faults d how) (limit_faults (drafted_model d how name r)) none)) h
