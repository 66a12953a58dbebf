-- What stays when a line comes that says nothing of it.
use Rattle.std.specs.Prelude.{◌≡◌, ℕ, Bool, true, false, cond, List, [], ◌∷◌, ◌++◌, length, map, filter, flat_map, not, ◌&&◌, ◌||◌}
use Rattle.std.specs.Prelude.{position, slice_get, option_map, option_and_then, nat_le, bytes_eq, codes, refl}
use Rattle.std.specs.Option.{option_map_or}
use Rattle.std.specs.List.{list_any}
use Rattle.std.proofs.Common.{sym, ◌∙◌, ap, subst}
use Rattle.std.proofs.lemmas.Slice.Eq.{bytes_eq-Decides}
use Rattle.ip_defs.specs.Lists.{first_of, when}
use Rattle.mps_defs.specs.Lists.{last_of, is_among}
use Rattle.mps_defs.specs.Records.{Line, Entry, items_of, words_of, row_lines, row_name, row_kind, is_free, column_lines, column_name}
use Rattle.mps_defs.specs.Records.{column_names, first_lines, has_column, in_force, is_marker, set_of, bound_set, is_kept, bound_column}
use Rattle.mps_defs.specs.Records.{bounds_on, all_entries, kept_entries, entries_of, field, is_new_column, row_names}
use Rattle.mps_defs.specs.TextModels.{is_integer, lower_by, sets_lower, sets_upper, kind_is}
use Rattle.mps_reader.specs.declared.sections.Section.{Section}
use Rattle.mps_reader.specs.declared.draft.RowDraft.{RowDraft}
use Rattle.mps_reader.specs.declared.draft.RowTable.{RowTable}
use Rattle.mps_reader.specs.declared.draft.ColumnDraft.{ColumnDraft}
use Rattle.mps_reader.specs.declared.draft.ColumnTable.{ColumnTable}
use Rattle.mps_reader.specs.declared.draft.Sets.{Sets}
use Rattle.mps_reader.specs.Internal.Progress.{SectionsStand, RowsStand, EntriesStand, ColumnsStand, BoundsStand, SetsStand, AreApart}
use Rattle.mps_reader.specs.Internal.Progress.{column_of, upper_said}
use Rattle.std.proofs.lemmas.List.{append-nil}
use Rattle.std.proofs.lemmas.Bool.{true≢false}
use Rattle.mps_defs.proofs.LineLaws.{rows_stay, items_stay, words_stay}
use Rattle.mps_defs.proofs.ColumnLaws.{column_names-add, first_lines-add}
use Rattle.std.proofs.lemmas.List.Elements.{filter_agree}
use Rattle.mps_defs.proofs.EntryLaws.{kept_by}

-- ---- lists from their ends

-- ---- lines of another section

-- ---- columns

pub column_lines_stay : (l : Line) → items_of (codes "COLUMNS") (l ∷ []) ≡ [] → column_lines (l ∷ []) ≡ []
column_lines_stay l none = ap (filter (λ k. not (is_marker k))) none

-- a line of no column begins none
pub not_new : (ls : List Line) (l : Line) → column_lines (l ∷ []) ≡ [] → is_new_column ls l ≡ false
not_new ls l none = ap (λ k. nat_le 1 (length k) && not (has_column ls (column_name l))) none

pub column_names_stay : (ls : List Line) (l : Line) → column_lines (l ∷ []) ≡ [] → column_names (ls ++ l ∷ []) ≡ column_names ls
column_names_stay ls l none =
    column_names-add ls l ∙ ap (λ t. column_names ls ++ when t (column_name l)) (not_new ls l none) ∙ append-nil (column_names ls)

pub first_lines_stay : (ls : List Line) (l : Line) → column_lines (l ∷ []) ≡ [] → first_lines (ls ++ l ∷ []) ≡ first_lines ls
first_lines_stay ls l none =
    first_lines-add ls l ∙ ap (λ t. first_lines ls ++ when t (ls, l)) (not_new ls l none) ∙ append-nil (first_lines ls)

-- ---- entries

pub all_entries_stay : (word : List ℕ) (ls : List Line) (l : Line) → items_of word (l ∷ []) ≡ []
    → all_entries word (ls ++ l ∷ []) ≡ all_entries word ls
all_entries_stay word ls l none = ap (flat_map entries_of) (items_stay word ls (l ∷ []) none)

-- what is kept depends on the rows and on the section's own lines alone
pub is_kept_stays : (word : List ℕ) (ls : List Line) (l : Line) (e : Entry) → items_of (codes "ROWS") (l ∷ []) ≡ []
    → items_of word (l ∷ []) ≡ [] → is_kept word (ls ++ l ∷ []) e ≡ is_kept word ls e
is_kept_stays word ls l e over none =
    ap (λ rows. kept_by word rows (first_of (items_of word (ls ++ l ∷ []))) e) (rows_stay ls l over)
    ∙ ap (λ k. kept_by word (row_lines ls) (first_of k) e) (items_stay word ls (l ∷ []) none)

pub kept_entries_stay : (word : List ℕ) (ls : List Line) (l : Line) → items_of (codes "ROWS") (l ∷ []) ≡ [] → items_of word (l ∷ []) ≡ []
    → kept_entries word (ls ++ l ∷ []) ≡ kept_entries word ls
kept_entries_stay word ls l over none =
    ap (filter (is_kept word (ls ++ l ∷ []))) (all_entries_stay word ls l none)
    ∙ filter_agree (is_kept word (ls ++ l ∷ [])) (is_kept word ls) (λ e. is_kept_stays word ls l e over none) (all_entries word ls)

-- ---- bounds

pub bounds_on_stay : (ls : List Line) (l : Line) (name : List ℕ) → items_of (codes "BOUNDS") (l ∷ []) ≡ []
    → bounds_on (ls ++ l ∷ []) name ≡ bounds_on ls name
bounds_on_stay ls l name none =
    ap (λ ks. filter (λ k. option_map_or (λ f. bytes_eq (bound_set f) (bound_set k)) (first_of ks) false && bytes_eq
    (bound_column k) name) ks) (items_stay (codes "BOUNDS") ls (l ∷ []) none)

pub is_integer_stays : (ls : List Line) (l : Line) (name : List ℕ) → column_lines (l ∷ []) ≡ [] → items_of (codes "BOUNDS") (l ∷ []) ≡ []
    → is_integer (ls ++ l ∷ []) name ≡ is_integer ls name
is_integer_stays ls l name none no_bound =
    ap (λ ps. list_any (λ p. bytes_eq (column_name p.1) name && in_force p.0) ps || list_any
    (kind_is (codes "BV" ∷ codes "LI" ∷ codes "UI" ∷ [])) (bounds_on (ls ++ l ∷ []) name)) (first_lines_stay ls l none)
    ∙ ap (λ ks. list_any (λ p. bytes_eq (column_name p.1) name && in_force p.0) (first_lines ls) || list_any
    (kind_is (codes "BV" ∷ codes "LI" ∷ codes "UI" ∷ [])) ks) (bounds_on_stay ls l name no_bound)

-- ---- the parts of a draft

pub sections_stay : (ls : List Line) (l : Line) (s : List Section) → l.is_item ≡ true → is_among l.section (words_of ls) ≡ true
    → SectionsStand ls s → SectionsStand (ls ++ l ∷ []) s
sections_stay ls l s item there h = record {
  words = h.words ∙ sym (words_stay ls l item);
  items = λ word out. other word (ap (is_among word) (sym (words_stay ls l item)) ∙ out);
}
  where
    none_of : (word : List ℕ) (t u : Bool) → l.is_item ≡ t → bytes_eq l.section word ≡ u → is_among word (words_of ls) ≡ false
        → items_of word (l ∷ []) ≡ []
    none_of word t true e f out =
        absurd (true≢false (sym there ∙ ap (λ w. is_among w (words_of ls)) ((bytes_eq-Decides l.section word).0 f) ∙ out))
    none_of word t false e f out =
        ap (λ b. cond (l.is_item && b) (l ∷ []) []) f
        ∙ (let P : Bool → Type 0 = λ b. cond (b && false) (l ∷ []) [] ≡ [] in elim (l.is_item) as P [ true ↦ refl | false ↦ refl ])

    other : (word : List ℕ) → is_among word (words_of ls) ≡ false → items_of word (ls ++ l ∷ []) ≡ []
    other word out = items_stay word ls (l ∷ []) (none_of word l.is_item (bytes_eq l.section word) refl refl out) ∙ h.items word out

pub rows_stand_stay : (ls : List Line) (l : Line) (t : RowTable) → items_of (codes "ROWS") (l ∷ []) ≡ [] → RowsStand ls t
    → RowsStand (ls ++ l ∷ []) t
rows_stand_stay ls l t over h =
    let same = sym (rows_stay ls l over) in record {
      names = h.names ∙ ap (map row_name) same;
      kinds = h.kinds ∙ ap (map row_kind) same;
      objective = h.objective ∙ ap (position is_free) same;
      apart = subst (λ ks. AreApart (map row_name ks)) same h.apart;
    }

pub columns_stand_stay : (ls : List Line) (l : Line) (t : ColumnTable) → items_of (codes "COLUMNS") (l ∷ []) ≡ [] → ColumnsStand ls t
    → ColumnsStand (ls ++ l ∷ []) t
columns_stand_stay ls l t over h =
    let names = sym (column_names_stay ls l (column_lines_stay l over)) in
    let items = sym (items_stay (codes "COLUMNS") ls (l ∷ []) over) in record {
      names = h.names ∙ names;
      count = h.count ∙ ap length names;
      apart = subst AreApart names h.apart;
      in_integers = h.in_integers
          ∙ ap (λ ks. option_map_or (λ k. bytes_eq (field k 2) (codes "'INTORG'")) (last_of (filter is_marker ks)) false) items;
      open_is = h.open_is
          ∙ ap (λ ks. option_and_then (column_of (column_names ls)) (last_of ks)) items
          ∙ ap (λ ns. option_and_then (column_of ns) (last_of (items_of (codes "COLUMNS") (ls ++ l ∷ [])))) names;
      open_last = λ j e. h.open_last j e ∙ ap length names;
    }

pub bounds_stand_stay : (ls : List Line) (l : Line) (cs : List ColumnDraft) → items_of (codes "COLUMNS") (l ∷ []) ≡ []
    → items_of (codes "BOUNDS") (l ∷ []) ≡ [] → BoundsStand ls cs → BoundsStand (ls ++ l ∷ []) cs
bounds_stand_stay ls l cs over none h j name c at there =
    let was = h j name c (ap (λ ns. slice_get ns j) (sym (column_names_stay ls l (column_lines_stay l over))) ∙ at) there in
    let on = sym (bounds_on_stay ls l name none) in record {
      integer = was.integer ∙ sym (is_integer_stays ls l name (column_lines_stay l over) none);
      lower = was.lower ∙ ap (λ ks. option_map lower_by (last_of (filter sets_lower ks))) on;
      upper = was.upper ∙ ap (λ ks. option_map upper_said (last_of (filter sets_upper ks))) on;
    }

pub sets_stay : (ls : List Line) (l : Line) (s : Sets) → items_of (codes "RHS") (l ∷ []) ≡ [] → items_of (codes "RANGES") (l ∷ []) ≡ []
    → items_of (codes "BOUNDS") (l ∷ []) ≡ [] → SetsStand ls s → SetsStand (ls ++ l ∷ []) s
sets_stay ls l s no_right no_range no_bound h = record {
  right_sides = h.right_sides ∙ ap (λ ks. option_map set_of (first_of ks)) (sym (items_stay (codes "RHS") ls (l ∷ []) no_right));
  ranges = h.ranges ∙ ap (λ ks. option_map set_of (first_of ks)) (sym (items_stay (codes "RANGES") ls (l ∷ []) no_range));
  bounds = h.bounds ∙ ap (λ ks. option_map bound_set (first_of ks)) (sym (items_stay (codes "BOUNDS") ls (l ∷ []) no_bound));
}

pub entries_stay : (ls : List Line) (l : Line) (rows : List RowDraft) → items_of (codes "ROWS") (l ∷ []) ≡ []
    → items_of (codes "COLUMNS") (l ∷ []) ≡ [] → items_of (codes "RHS") (l ∷ []) ≡ [] → items_of (codes "RANGES") (l ∷ []) ≡ []
    → EntriesStand (kept_entries (codes "COLUMNS") ls) (kept_entries (codes "RHS") ls) (kept_entries (codes "RANGES") ls) (column_names ls)
    (row_names ls) rows
    → EntriesStand (kept_entries (codes "COLUMNS") (ls ++ l ∷ [])) (kept_entries (codes "RHS") (ls ++ l ∷ []))
    (kept_entries (codes "RANGES") (ls ++ l ∷ [])) (column_names (ls ++ l ∷ [])) (row_names (ls ++ l ∷ [])) rows
entries_stay ls l rows no_row no_entry no_right no_range h =
    let a = sym (kept_entries_stay (codes "COLUMNS") ls l no_row no_entry) in
    let b = sym (kept_entries_stay (codes "RHS") ls l no_row no_right) in
    let c = sym (kept_entries_stay (codes "RANGES") ls l no_row no_range) in
    let d = sym (column_names_stay ls l (column_lines_stay l no_entry)) in
    let e = ap (map row_name) (sym (rows_stay ls l no_row)) in
    subst (λ names. EntriesStand (kept_entries (codes "COLUMNS") (ls ++ l ∷ [])) (kept_entries (codes "RHS") (ls ++ l ∷ []))
    (kept_entries (codes "RANGES") (ls ++ l ∷ [])) (column_names (ls ++ l ∷ [])) names rows) e
    (subst (λ names. EntriesStand (kept_entries (codes "COLUMNS") (ls ++ l ∷ [])) (kept_entries (codes "RHS") (ls ++ l ∷ []))
    (kept_entries (codes "RANGES") (ls ++ l ∷ [])) names (row_names ls) rows) d
    (subst (λ es. EntriesStand (kept_entries (codes "COLUMNS") (ls ++ l ∷ [])) (kept_entries (codes "RHS") (ls ++ l ∷ [])) es
    (column_names ls) (row_names ls) rows) c
    (subst (λ es. EntriesStand (kept_entries (codes "COLUMNS") (ls ++ l ∷ [])) es (kept_entries (codes "RANGES") ls) (column_names ls)
    (row_names ls) rows) b
    (subst (λ es. EntriesStand es (kept_entries (codes "RHS") ls) (kept_entries (codes "RANGES") ls) (column_names ls)
    (row_names ls) rows) a h))))
