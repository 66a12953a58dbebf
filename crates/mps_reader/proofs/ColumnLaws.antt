-- The columns after a line of COLUMNS.
use Rattle.std.specs.Prelude.{◌≡◌, ℕ, ◌+◌, nat_le, Bool, true, false, cond, not, ◌&&◌, ◌||◌, if◌then◌else◌, List, [], ◌∷◌, ◌++◌, length}
use Rattle.std.specs.Prelude.{drop, map, filter, flat_map, find, None, Some, option_map, bytes_eq, codes, refl}
use Rattle.std.specs.List.{list_any, cons_option}
use Rattle.std.proofs.Common.{ap, sym, ◌∙◌}
use Rattle.std.proofs.lemmas.List.Folds.{list_any-append}
use Rattle.mps_defs.specs.Lists.{is_among}
use Rattle.mps_defs.specs.Records.{Line, Entry, items_of, column_lines, column_name, column_names, has_column, is_marker, all_entries}
use Rattle.mps_defs.specs.Records.{entries_of, entries_from, kept_entries, is_kept, set_of, names_set, item, is_new_column}
use Rattle.mps_defs.specs.TextModels.{written_at, written_in, number_or_zero}
use Rattle.mps_reader.specs.declared.draft.RowDraft.{RowDraft}
use Rattle.mps_reader.specs.Internal.Progress.{EntriesStand}
use Rattle.mps_reader.proofs.EntryLaws.{written_in-snoc}
use Rattle.ip_defs.proofs.BoolLaws.{right_true, left_false, right_false}
use Rattle.ip_defs.proofs.TextLaws.{text_turned}
use Rattle.std.proofs.lemmas.List.{append-nil}
use Rattle.std.proofs.lemmas.Bool.{and_right}

or_again : (a b : Bool) → (a || b) ≡ ((a || false) || b)
or_again true b = refl
or_again false b = refl

-- a data line of COLUMNS
abbrev pub column_item : ℕ → List (List ℕ) → Line
column_item n fields = item (codes "COLUMNS") n fields

-- ---- markers and other lines

pub marker_none : (n : ℕ) (fields : List (List ℕ)) → is_marker (column_item n fields) ≡ true → column_lines (column_item n fields ∷ []) ≡ []
marker_none n fields h = ap (λ b. cond (not b) (column_item n fields ∷ []) []) h

pub column_one : (n : ℕ) (fields : List (List ℕ)) → is_marker (column_item n fields) ≡ false
    → column_lines (column_item n fields ∷ []) ≡ column_item n fields ∷ []
column_one n fields h = ap (λ b. cond (not b) (column_item n fields ∷ []) []) h

pub newness : (before : List Line) (n : ℕ) (fields : List (List ℕ)) → is_marker (column_item n fields) ≡ false
    → is_new_column before (column_item n fields) ≡ not (has_column before (column_name (column_item n fields)))
newness before n fields h =
    ap (λ ks. nat_le 1 (length ks) && not (has_column before (column_name (column_item n fields)))) (column_one n fields h)

-- ---- names of columns

-- ---- entries of a new column

none_from : (n : ℕ) (owner name : List ℕ) (fields : List (List ℕ)) → bytes_eq owner name ≡ false
    → list_any (λ e. bytes_eq e.owner name) (entries_from n owner fields) ≡ false
none_from n owner name [] h = refl
none_from n owner name (f ∷ []) h = refl
none_from n owner name (f ∷ g ∷ fs) h =
    ap (λ b. b || list_any (λ e. bytes_eq e.owner name) (entries_from n owner fs)) h ∙ none_from n owner name fs h

-- no entry is of a column that did not come
no_entries : (name : List ℕ) (ls : List Line) → has_column ls name ≡ false
    → list_any (λ e. bytes_eq e.owner name) (all_entries (codes "COLUMNS") ls) ≡ false
no_entries name [] h = refl
no_entries name (l ∷ ls) h = by (l.is_item && bytes_eq l.section (codes "COLUMNS")) refl (no_entries name ls) h
  where
    of_line : (m : Bool) → is_marker l ≡ m → bytes_eq l.section (codes "COLUMNS") ≡ true
        → is_among name (map column_name (cond (not m) (l ∷ []) [])) ≡ false → list_any (λ e. bytes_eq e.owner name) (entries_of l) ≡ false
    of_line true marker of absent =
        ap (λ b. list_any (λ e. bytes_eq e.owner name)
        (if b then (if is_marker l then [] else entries_from l.number (column_name l) (drop 1 l.fields)) else entries_from l.number
        (set_of l) (if names_set l then drop 1 l.fields else l.fields))) of
        ∙ ap (λ b. list_any (λ e. bytes_eq e.owner name) (if b then [] else entries_from l.number (column_name l) (drop 1 l.fields))) marker
    of_line false marker of absent =
        ap (λ b. list_any (λ e. bytes_eq e.owner name)
        (if b then (if is_marker l then [] else entries_from l.number (column_name l) (drop 1 l.fields)) else entries_from l.number
        (set_of l) (if names_set l then drop 1 l.fields else l.fields))) of
        ∙ ap (λ b. list_any (λ e. bytes_eq e.owner name) (if b then [] else entries_from l.number (column_name l) (drop 1 l.fields))) marker
        ∙ none_from l.number (column_name l) name (drop 1 l.fields)
        (text_turned (column_name l) name ∙ left_false (bytes_eq name (column_name l)) false absent)

    split_names : (ks : List Line)
        → is_among name (map column_name (filter (λ k. not (is_marker k)) (l ∷ ks)))
        ≡ (is_among name (map column_name (cond (not (is_marker l)) (l ∷ []) []))
        || is_among name (map column_name (filter (λ k. not (is_marker k)) ks)))
    split_names ks = with_marker (is_marker l)
      where
        with_marker : (m : Bool)
            → is_among name (map column_name (cond (not m) (l ∷ filter (λ k. not (is_marker k)) ks) (filter (λ k. not (is_marker k)) ks)))
            ≡ (is_among name (map column_name (cond (not m) (l ∷ []) []))
            || is_among name (map column_name (filter (λ k. not (is_marker k)) ks)))
        with_marker true = refl
        with_marker false = or_again (bytes_eq name (column_name l)) (is_among name (map column_name (filter (λ k. not (is_marker k)) ks)))

    by : (b : Bool) → (l.is_item && bytes_eq l.section (codes "COLUMNS")) ≡ b
        → (has_column ls name ≡ false → list_any (λ e. bytes_eq e.owner name) (all_entries (codes "COLUMNS") ls) ≡ false)
        → is_among name
        (map column_name (filter (λ k. not (is_marker k)) (cond b (l ∷ items_of (codes "COLUMNS") ls) (items_of (codes "COLUMNS") ls))))
        ≡ false
        → list_any (λ e. bytes_eq e.owner name)
        (flat_map entries_of (cond b (l ∷ items_of (codes "COLUMNS") ls) (items_of (codes "COLUMNS") ls)))
        ≡ false
    by false e rest h = rest h
    by true e rest h =
        let apart = sym (split_names (items_of (codes "COLUMNS") ls)) ∙ h in
        let mine = left_false (is_among name (map column_name (cond (not (is_marker l)) (l ∷ []) []))) (has_column ls name) apart in
        let others = right_false (is_among name (map column_name (cond (not (is_marker l)) (l ∷ []) []))) (has_column ls name) apart in
        list_any-append (λ k. bytes_eq k.owner name) (entries_of l) (all_entries (codes "COLUMNS") ls)
        ∙ ap (λ b. b || list_any (λ k. bytes_eq k.owner name) (all_entries (codes "COLUMNS") ls))
        (of_line (is_marker l) refl (right_true l.is_item (bytes_eq l.section (codes "COLUMNS")) e) mine)
        ∙ rest others

not_found : (keeps : Entry → Bool) (row name : List ℕ) (es : List Entry) → list_any (λ e. bytes_eq e.owner name) es ≡ false
    → find (λ e. bytes_eq e.row row && bytes_eq e.owner name) (filter keeps es) ≡ None
not_found keeps row name [] h = refl
not_found keeps row name (e ∷ es) h =
    by (keeps e) (not_found keeps row name es (right_false (bytes_eq e.owner name) (list_any (λ k. bytes_eq k.owner name) es) h))
  where
    away : (bytes_eq e.row row && bytes_eq e.owner name) ≡ false
    away =
        and_right (bytes_eq e.row row) (bytes_eq e.owner name)
        (left_false (bytes_eq e.owner name) (list_any (λ k. bytes_eq k.owner name) es) h)

    by : (b : Bool) → find (λ k. bytes_eq k.row row && bytes_eq k.owner name) (filter keeps es) ≡ None
        → find (λ k. bytes_eq k.row row && bytes_eq k.owner name) (cond b (e ∷ filter keeps es) (filter keeps es)) ≡ None
    by true rest = ap (λ b. cond b (Some e) (find (λ k. bytes_eq k.row row && bytes_eq k.owner name) (filter keeps es))) away ∙ rest
    by false rest = rest

nothing_written : (before : List Line) (name row : List ℕ) → has_column before name ≡ false
    → written_at (kept_entries (codes "COLUMNS") before) row name ≡ None
nothing_written before name row h =
    ap (option_map (λ e. number_or_zero e.text))
    (not_found (is_kept (codes "COLUMNS") before) row name (all_entries (codes "COLUMNS") before) (no_entries name before h))

-- a new column leaves what is written for a row
pub entries_wait : (before : List Line) (b c : List Entry) (name : List ℕ) (names : List (List ℕ)) (rows : List RowDraft)
    → has_column before name ≡ false
    → EntriesStand (kept_entries (codes "COLUMNS") before) b c (column_names before) names rows
    → EntriesStand (kept_entries (codes "COLUMNS") before) b c (column_names before ++ name ∷ []) names rows
entries_wait before b c name names rows new h i row r at there =
    let was = h i row r at there in
    let es = kept_entries (codes "COLUMNS") before in
    record {
      entries_are =
          was.entries_are
          ∙ sym (append-nil (written_in es (column_names before) row))
          ∙ sym (ap (λ o. written_in es (column_names before) row ++ cons_option
          (option_map (λ n. (0 + length (column_names before), n)) o) []) (nothing_written before name row new))
          ∙ sym (written_in-snoc es row (column_names before) name);
      right_side = was.right_side;
      range = was.range;
      decimals = was.decimals;
      few = was.few;
    }
