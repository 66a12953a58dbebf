-- How a draft grows by a line of ROWS.
use Rattle.std.specs.Prelude.{◌≡◌, ℕ, ◌+◌, Bool, true, false, List, [], ◌∷◌, ◌++◌, length, map, filter, flat_map, position, Option, None}
use Rattle.std.specs.Prelude.{Some, option_map, not, bytes_eq, codes, string_bytes, if◌then◌else◌, refl}
use Rattle.std.specs.Option.{option_or, is_some}
use Rattle.std.proofs.Common.{sym, ◌∙◌, ap, subst, arith}
use Rattle.std.proofs.lemmas.List.{length-map, map-append}
use Rattle.std.proofs.lemmas.Option.{slice_get_within}
use Rattle.ip_defs.specs.Lists.{first_of, when}
use Rattle.mps_defs.specs.Lists.{last_of, is_among, where_true}
use Rattle.std.specs.Option.{option_or}
use Rattle.mps_defs.specs.Records.{Line, Entry, items_of, words_of, row_lines, row_kind, row_name, is_free, column_names, kept_entries}
use Rattle.mps_defs.specs.Records.{entries_of, is_kept, item, row_names}
use Rattle.mps_defs.specs.Faults.{line_faults, row_faults, is_before}
use Rattle.mps_defs.specs.declared.reading.MpsError.TheVariants.{SectionOrder, TwiceRow, Marker, RowKind as WrongKind}
use Rattle.mps_reader.specs.declared.draft.RowKind.{RowKind}
use Rattle.mps_reader.specs.declared.draft.RowKind.TheVariants.{Free, AtMost, AtLeast, Equal}
use Rattle.mps_reader.specs.declared.draft.RowDraft.{RowDraft}
use Rattle.mps_reader.specs.declared.draft.RowTable.{RowTable}
use Rattle.mps_reader.specs.declared.draft.Draft.{Draft}
use Rattle.mps_reader.specs.Internal.Progress.{kind_word, Stands, RowsStand, RowStands, EntriesStand, IsNewRow, IsWithRow, AreApart}
use Rattle.mps_reader.proofs.StayLaws.{column_lines_stay, sections_stay, columns_stand_stay, bounds_stand_stay, sets_stay}
use Rattle.mps_reader.proofs.StayLaws.{column_names_stay}
use Rattle.mps_reader.proofs.SectionLaws.{later_is_empty}
use Rattle.ip_defs.proofs.ListLaws.{none_append}
use Rattle.mps_reader.proofs.PlaceLaws.{apart_more, get_of_more}
use Rattle.text_lines.proofs.NameLaws.{place_of_name}
use Rattle.mps_defs.proofs.FaultLaws.{faults-add}
use Rattle.mps_defs.proofs.LineLaws.{items_of-append, items_stay}
use Rattle.mps_defs.proofs.ListLaws.{by_last}
use Rattle.mps_defs.proofs.PlaceLaws.{position_append, position_cons, place_where_any}

abbrev pub row_item : ℕ → List ℕ → List ℕ → Line
row_item n kind name = item (codes "ROWS") n (kind ∷ name ∷ [])

known_kind : (k : RowKind) → is_among (kind_word k) (codes "N" ∷ codes "L" ∷ codes "G" ∷ codes "E" ∷ []) ≡ true
known_kind Free = refl
known_kind AtMost = refl
known_kind AtLeast = refl
known_kind Equal = refl

-- the faults of a row of a right kind, once ROWS has begun, are those of its name
pub row_faults_are : (before : List Line) (n : ℕ) (k : RowKind) (kind name : List ℕ) → kind_word k ≡ kind
    → is_among (codes "ROWS") (words_of before) ≡ true
    → line_faults before (row_item n kind name)
    ≡ when (is_among name (row_names before)) (TwiceRow n) ++ when (bytes_eq name (codes "'MARKER'")) (Marker n)
row_faults_are before n k kind name is there =
    let four = codes "N" ∷ codes "L" ∷ codes "G" ∷ codes "E" ∷ [] in
    ap (λ t. when (not t) (SectionOrder n) ++ row_faults before (row_item n kind name)) there
    ∙ ap (λ t. when (not t) (WrongKind n) ++ when (is_among name (row_names before)) (TwiceRow n) ++ when (bytes_eq name (codes "'MARKER'"))
    (Marker n)) (ap (λ w. is_among w four) (sym is)
    ∙ known_kind k)

-- the set of names finds a name where a row has it
pub found_name : (before : List Line) (t : RowTable) (name : List ℕ) → RowsStand before t
    → is_some (position (λ k. bytes_eq name (string_bytes k)) t.names.keys) ≡ is_among name (row_names before)
found_name before t name h =
    ap is_some (place_of_name t.names.keys name)
    ∙ place_where_any (bytes_eq name) (map string_bytes t.names.keys)
    ∙ ap (is_among name) h.names

-- so what a set of names finds says whether a name came before
pub found_as : (before : List Line) (t : RowTable) (name : List ℕ) (o : Option ℕ) (s : Bool) → RowsStand before t
    → o ≡ position (λ k. bytes_eq name (string_bytes k)) t.names.keys → s ≡ is_some o → is_among name (row_names before) ≡ s
found_as before t name o s h at is = sym (found_name before t name h) ∙ ap is_some (sym at) ∙ sym is

-- the first refusals
pub twice_row : (before : List Line) (n : ℕ) (k : RowKind) (kind name : List ℕ) → kind_word k ≡ kind
    → is_among (codes "ROWS") (words_of before) ≡ true
    → is_among name (row_names before) ≡ true → first_of (line_faults before (row_item n kind name)) ≡ Some (TwiceRow n)
twice_row before n k kind name is there twice =
    ap first_of (row_faults_are before n k kind name is there)
    ∙ ap (λ t. first_of (when t (TwiceRow n) ++ when (bytes_eq name (codes "'MARKER'")) (Marker n))) twice

pub marker_row : (before : List Line) (n : ℕ) (k : RowKind) (kind name : List ℕ) → kind_word k ≡ kind
    → is_among (codes "ROWS") (words_of before) ≡ true
    → is_among name (row_names before) ≡ false → bytes_eq name (codes "'MARKER'") ≡ true
    → first_of (line_faults before (row_item n kind name)) ≡ Some (Marker n)
marker_row before n k kind name is there new marker =
    ap first_of (row_faults_are before n k kind name is there)
    ∙ ap (λ t. first_of (when t (TwiceRow n) ++ when (bytes_eq name (codes "'MARKER'")) (Marker n))) new
    ∙ ap (λ t. first_of (when t (Marker n))) marker

no_fault : (before : List Line) (n : ℕ) (k : RowKind) (kind name : List ℕ) → kind_word k ≡ kind
    → is_among (codes "ROWS") (words_of before) ≡ true
    → is_among name (row_names before) ≡ false → bytes_eq name (codes "'MARKER'") ≡ false → line_faults before (row_item n kind name) ≡ []
no_fault before n k kind name is there new plain =
    row_faults_are before n k kind name is there
    ∙ ap (λ t. when t (TwiceRow n) ++ when (bytes_eq name (codes "'MARKER'")) (Marker n)) new
    ∙ ap (λ t. when t (Marker n)) plain

-- ---- the rows

rows_more : (before : List Line) (n : ℕ) (kind name : List ℕ)
    → row_lines (before ++ row_item n kind name ∷ []) ≡ row_lines before ++ row_item n kind name ∷ []
rows_more before n kind name = items_of-append (codes "ROWS") before ((row_item n kind name) ∷ [])

objective_more : (before : List Line) (o : Option ℕ) (count n : ℕ) (kind name : List ℕ) → o ≡ position is_free (row_lines before)
    → count ≡ length (row_lines before)
    → option_or o (where_true (bytes_eq kind (codes "N")) count) ≡ position is_free (row_lines before ++ row_item n kind name ∷ [])
objective_more before o count n kind name is counted =
    ap (λ p. option_or p (where_true (bytes_eq kind (codes "N")) count)) is
    ∙ by (position is_free (row_lines before)) (bytes_eq kind (codes "N"))
    ∙ ap (λ p. option_or (position is_free (row_lines before)) (option_map (λ i. length (row_lines before) + i) p))
    (sym (position_cons is_free (row_item n kind name) []))
    ∙ sym (position_append is_free (row_lines before) (row_item n kind name ∷ []))
  where
    by : (p : Option ℕ) (t : Bool)
        → option_or p (where_true t count) ≡ option_or p (option_map (λ i. length (row_lines before) + i) (if t then Some 0 else None))
    by (Some i) t = refl
    by None true = ap Some (omega (arith, counted))
    by None false = refl

pub rows_grow : (before : List Line) (t new : RowTable) (n : ℕ) (k : RowKind) (kind name : List ℕ) → kind_word k ≡ kind
    → is_among name (row_names before) ≡ false
    → IsWithRow t new k name → RowsStand before t → RowsStand (before ++ row_item n kind name ∷ []) new
rows_grow before t new n k kind name is fresh w h =
    let more = sym (rows_more before n kind name) in
    let count : length t.rows.items ≡ length (row_lines before) = sym (length-map t.rows.items (λ r. kind_word r.kind)) ∙ ap length h.kinds
    ∙ length-map (row_lines before) row_kind in record {
      names = w.names
          ∙ ap (λ ns. ns ++ name ∷ []) h.names
          ∙ sym (map-append row_name (row_lines before) (row_item n kind name ∷ []))
          ∙ ap (map row_name) more;
      kinds = ap (map (λ r. kind_word r.kind)) w.rows ∙ map-append (λ r. kind_word r.kind) t.rows.items (w.row ∷ [])
          ∙ ap (λ ks. ks ++ kind_word w.row.kind ∷ []) h.kinds
          ∙ ap (λ kd. map row_kind (row_lines before) ++ kd ∷ []) (ap kind_word w.is_new.kind_is ∙ is)
          ∙ sym (map-append row_kind (row_lines before) (row_item n kind name ∷ [])) ∙ ap (map row_kind) more;
      objective = w.objective ∙ ap (λ kd. option_or t.objective (where_true (bytes_eq kd (codes "N")) (length t.rows.items))) is
          ∙ objective_more before t.objective (length t.rows.items) n kind name h.objective count ∙ ap (position is_free) more;
      apart = subst AreApart (sym (map-append row_name (row_lines before) (row_item n kind name ∷ [])) ∙ ap (map row_name) more)
          (apart_more (row_names before) name h.apart fresh);
    }

-- ---- what ROWS comes before

later_items : (before : List Line) (d : Draft) (n : ℕ) (kind name word : List ℕ) → Stands before d
    → last_of (words_of before) ≡ Some (codes "ROWS") → is_before (codes "ROWS") word ≡ true
    → items_of word (row_item n kind name ∷ []) ≡ [] → items_of word (before ++ row_item n kind name ∷ []) ≡ []
later_items before d n kind name word h last after none =
    items_stay word before ((row_item n kind name) ∷ []) none ∙ later_is_empty before d (codes "ROWS") word h last after

no_entries : (word : List ℕ) (ls : List Line) → items_of word ls ≡ [] → kept_entries word ls ≡ []
no_entries word ls none = ap (λ ks. filter (is_kept word ls) (flat_map entries_of ks)) none

no_columns : (ls : List Line) → items_of (codes "COLUMNS") ls ≡ [] → column_names ls ≡ []
no_columns ls none = by_last (λ ks. items_of (codes "COLUMNS") ks ≡ [] → column_names ks ≡ []) (λ e. refl) more ls none
  where
    more : (ks : List Line) (k : Line) → (items_of (codes "COLUMNS") ks ≡ [] → column_names ks ≡ [])
        → items_of (codes "COLUMNS") (ks ++ k ∷ []) ≡ [] → column_names (ks ++ k ∷ []) ≡ []
    more ks k h e =
        let none =
        none_append (items_of (codes "COLUMNS") ks) (items_of (codes "COLUMNS") (k ∷ []))
        (sym (items_of-append (codes "COLUMNS") ks (k ∷ [])) ∙ e) in
        column_names_stay ks k (column_lines_stay k none.1)
        ∙ h none.0

-- a new row has nothing written, as no entry came
new_row_stands : (kind : RowKind) (r : RowDraft) (name : List ℕ) → IsNewRow kind r → RowStands [] [] [] [] name r
new_row_stands kind r name new =
    record {
      entries_are = new.entries;
      right_side = new.right_side;
      range = new.range;
      decimals = new.decimals;
      few = omega
          (arith, new.decimals);
    }

entries_grow : (names : List (List ℕ)) (name : List ℕ) (rows : List RowDraft) (kind : RowKind) (r : RowDraft) → length names ≡ length rows
    → IsNewRow kind r
    → EntriesStand [] [] [] [] names rows → EntriesStand [] [] [] [] (names ++ name ∷ []) (rows ++ r ∷ [])
entries_grow names name rows kind r count new h i other s at there =
    get_of_more names name i other (RowStands [] [] [] [] other s) at
    (λ old. get_of_more rows r i s (RowStands [] [] [] [] other s) there (λ e. h i other s old e)
    (λ e f. subst (λ k. RowStands [] [] [] [] other k) f (new_row_stands kind r other new)))
    (λ e f. get_of_more rows r i s (RowStands [] [] [] [] other s) there
    (λ g. absurd (omega (arith, e, count, slice_get_within rows i s g)))
    (λ g k. subst (λ k. RowStands [] [] [] [] other k) k (new_row_stands kind r other new)))

entries_moved : {e e' r r' g g' : List Entry} {c c' n n' : List (List ℕ)} {x x' : List RowDraft} → e ≡ e' → r ≡ r' → g ≡ g' → c ≡ c'
    → n ≡ n' → x ≡ x' → EntriesStand e r g c n x → EntriesStand e' r' g' c' n' x'
entries_moved {e} {e'} {r} {r'} {g} {g'} {c} {c'} {n} {n'} {x} {x'} a b i j k l h =
    subst (λ z. EntriesStand z r' g' c' n' x') a (subst (λ z. EntriesStand e z g' c' n' x') b (subst (λ z. EntriesStand e r z c' n' x') i
    (subst (λ z. EntriesStand e r g z n' x') j (subst (λ z. EntriesStand e r g c z x') k (subst (λ z. EntriesStand e r g c n z) l h)))))

-- a draft stands for a row too, once its table has it
pub row_stands : (before : List Line) (d : Draft) (new : RowTable) (n : ℕ) (k : RowKind) (kind name : List ℕ) → Stands before d
    → is_among (codes "ROWS") (words_of before) ≡ true → last_of (words_of before) ≡ Some (codes "ROWS") → kind_word k ≡ kind
    → is_among name (row_names before) ≡ false → bytes_eq name (codes "'MARKER'") ≡ false → IsWithRow d.rows new k name
    → Stands (before ++ row_item n kind name ∷ []) (record d { rows = new })
row_stands before d new n k kind name h there last is fresh plain w =
    let l = row_item n kind name in
    let old_columns = later_is_empty before d (codes "ROWS") (codes "COLUMNS") h last refl in
    let columns = later_items before d n kind name (codes "COLUMNS") h last refl refl in
    let right_sides = later_items before d n kind name (codes "RHS") h last refl refl in
    let ranges = later_items before d n kind name (codes "RANGES") h last refl refl in
    let old_right_sides = later_is_empty before d (codes "ROWS") (codes "RHS") h last refl in
    let old_ranges = later_is_empty before d (codes "ROWS") (codes "RANGES") h last refl in
    let after = before ++ l ∷ [] in
    let count : length (row_names before) ≡ length d.rows.rows.items =
    length-map (row_lines before) row_name
    ∙ sym (sym (length-map d.rows.rows.items (λ r. kind_word r.kind)) ∙ ap length h.rows.kinds ∙ length-map (row_lines before) row_kind) in
    record {
      no_fault = faults-add before l
          ∙ ap (λ fs. fs ++ line_faults before l) h.no_fault
          ∙ no_fault before n k kind name is there fresh plain;
      sections = sections_stay before l d.sections.items refl there h.sections;
      rows = rows_grow before d.rows new n k kind name is fresh w h.rows;
      entries =
          entries_moved (sym (no_entries (codes "COLUMNS") after columns)) (sym (no_entries (codes "RHS") after right_sides))
          (sym (no_entries (codes "RANGES") after ranges)) (sym (no_columns after columns))
          (sym (map-append row_name (row_lines before) (l ∷ [])) ∙ ap (map row_name) (sym (rows_more before n kind name))) (sym w.rows)
          (entries_grow (row_names before) name d.rows.rows.items k w.row count w.is_new
          (entries_moved (no_entries (codes "COLUMNS") before old_columns) (no_entries (codes "RHS") before old_right_sides)
          (no_entries (codes "RANGES") before old_ranges) (no_columns before old_columns) refl refl h.entries));
      columns = columns_stand_stay before l d.columns refl h.columns;
      bounds = bounds_stand_stay before l d.columns.columns.items refl refl h.bounds;
      sets = sets_stay before l d.sets refl refl refl h.sets;
    }
