-- A line of COLUMNS.
use Rattle.std.specs.Prelude.{◌≡◌, ℕ, zero, suc, ◌==◌, ◌<◌, Bool, true, false, not, ◌&&◌, ◌||◌, if◌then◌else◌, List, [], ◌∷◌, ◌++◌, length}
use Rattle.std.specs.Prelude.{drop, slice_index_or, codes, Result, Err, refl}
use Rattle.std.proofs.Common.{arith, ap, sym, ◌∙◌, ◌-◌, subst, take, get_or, Bor}
use Rattle.std.proofs.lemmas.Bool.{eqb-true, true≢false}
use Rattle.std.proofs.lemmas.List.{length-map, append-nil}
use Rattle.std.proofs.Math.Seq.{take-length}
use Rattle.ip_defs.specs.Lists.{when}
use Rattle.mps_defs.specs.Lists.{is_among}
use Rattle.mps_defs.specs.Records.{Line, field, words_of, column_name, column_names, has_column, is_marker, all_entries, entries_of}
use Rattle.mps_defs.specs.Records.{entries_from, kept_entries, row_names}
use Rattle.mps_defs.specs.Faults.{line_faults, marker_faults, pair_faults, is_split, is_right_marker}
use Rattle.mps_defs.specs.declared.reading.MpsError.{MpsError}
use Rattle.mps_defs.specs.declared.reading.MpsError.TheVariants as Out
use Rattle.mps_reader.specs.declared.draft.RowTable.{RowTable}
use Rattle.mps_reader.specs.declared.draft.ColumnTable.{ColumnTable}
use Rattle.mps_reader.specs.declared.draft.Draft.{Draft}
use Rattle.mps_reader.specs.declared.entries.Owner.TheVariants.{Column}
use Rattle.mps_reader.specs.Internal.Progress.{EntriesStand, Stands, IsTaken}
use Rattle.mps_reader.specs.Internal.Taking.{IsDone, RowsHave, IsMarked, IsColumnOpen, entry_faults_after}
use Rattle.mps_reader.proofs.StayLaws.{column_names_stay, sections_stay, rows_stand_stay, sets_stay}
use Rattle.mps_reader.proofs.TakingLaws.{IsDone_map, stopped}
use Rattle.mps_reader.proofs.TableLaws.{words}
use Rattle.mps_reader.proofs.LineLaws.{rows_begin, rows_end, pair_faults_are, taken}
use Rattle.mps_reader.proofs.SetLaws.{Takes}
use Rattle.mps_reader.proofs.ColumnLaws.{column_item, marker_none, newness, entries_wait}
use Rattle.mps_reader.proofs.OpenLaws.{marked_columns, marked_bounds}
use Rattle.mps_defs.proofs.ColumnLaws.{column_names-add}
use Rattle.mps_defs.proofs.FaultLaws.{no_fault_more}

pub word_at : (xs : List (Bor (List ℕ))) (i : ℕ) (d : Bor (List ℕ)) → i < length xs → slice_index_or (words xs) i [] ≡ (get_or xs i d).now
word_at [] i d h = absurd (omega arith)
word_at (x ∷ xs) zero d h = refl
word_at (x ∷ xs) (suc i) d h = word_at xs i d (omega arith)

-- the fields of one or two entries
pub one_or_two : (xs : List (Bor (List ℕ))) → ((length xs == 3) || (length xs == 5)) ≡ true
    → (((length (words xs) == 3) || ((length (words xs) == 5) && true)) ≡ true) × (0 < length xs)
one_or_two xs h = by (length xs == 3) refl (length xs == 5) refl h
  where
    same : length (words xs) ≡ length xs
    same = length-map xs (λ (f : Bor (List ℕ)). f.now)

    by : (a : Bool) → (length xs == 3) ≡ a → (b : Bool) → (length xs == 5) ≡ b → (a || b) ≡ true
        → (((length (words xs) == 3) || ((length (words xs) == 5) && true)) ≡ true) × (0 < length xs)
    by true e b f g = (
      ap (λ k. (k == 3) || ((k == 5) && true)) same
          ∙ ap (λ t. t || ((length xs == 5) && true)) e,
      (let size = eqb-true (length xs) 3 e in omega arith),
    )
    by false e true f g = (
      ap (λ k. (k == 3) || ((k == 5) && true)) same
          ∙ ap (λ t. t || ((length xs == 5) && true)) e
          ∙ ap (λ t. t && true) f,
      (let size = eqb-true (length xs) 5 f in omega arith),
    )
    by false e false f g = absurd (true≢false (sym g))

pub rest_words : (xs : List (Bor (List ℕ))) → words (take (length xs - 1) (drop 1 xs)) ≡ drop 1 (words xs)
rest_words [] = refl
rest_words (x ∷ xs) = (let size : length (x ∷ xs) - 1 ≡ length xs = omega arith in ap words (ap (λ n. take n xs) size ∙ take-length xs))

-- the faults of a line with a right number of fields, where ROWS came
column_line_faults : (before : List Line) (n : ℕ) (fields : List (List ℕ)) (m : Bool) → is_among (codes "ROWS") (words_of before) ≡ true
    → is_marker (column_item n fields) ≡ m → ((length fields == 3) || ((length fields == 5) && not m)) ≡ true
    → line_faults before (column_item n fields) ≡ (if m then marker_faults before (column_item n fields)
    else when (is_split before (column_item n fields)) (Out.SplitColumn n) ++ pair_faults before (column_item n fields))
column_line_faults before n fields m rows marker count =
    let l = column_item n fields in
    let split : List MpsError = when (is_split before l) (Out.SplitColumn n) ++ pair_faults before l in
    ap (λ b. when (not b) (Out.SectionOrder n)
    ++ (when (not ((length fields == 3) || ((length fields == 5) && not (is_marker l)))) (Out.FieldCount n)
    ++ (if is_marker l then marker_faults before l else split))) rows
    ∙ ap (λ b. when (not ((length fields == 3) || ((length fields == 5) && not b))) (Out.FieldCount n)
    ++ (if b then marker_faults before l else split)) marker
    ∙ ap (λ b. when (not b) (Out.FieldCount n) ++ (if m then marker_faults before l else split)) count

-- ---- a marker

pub marker_line : (before : List Line) (d : Draft) (n : ℕ) (xs : List (Bor (List ℕ))) (e : Bor (List ℕ)) (new : ColumnTable)
    (r : Result (Unit {0}) MpsError)
    → (length (words xs) == 3) ≡ true → 2 < length xs → Stands before d
    → is_among (codes "COLUMNS") (words_of before) ≡ true → is_among (codes "ROWS") (words_of before) ≡ true
    → is_marker (column_item n (words xs)) ≡ true
    → IsDone (when (not (is_right_marker d.columns.in_integers (get_or xs 2 e).now)) (Out.Marker n))
    (λ _. IsMarked d.columns new (get_or xs 2 e).now) r
    → IsTaken before (column_item n (words xs)) (record d { columns = new }) r
marker_line before d n xs e new r three long h there has_rows marker done =
    taken before l (record d { columns = new }) r
    (IsDone_map (when (not (is_right_marker d.columns.in_integers (get_or xs 2 e).now)) (Out.Marker n)) (line_faults before l)
    (λ _. IsMarked d.columns new (get_or xs 2 e).now) (λ _. Stands ls (record d { columns = new })) r
    (sym faults) (λ x none is. stand none (subst (IsMarked d.columns new) (sym third) is)) done)
  where
    l : Line
    l = column_item n (words xs)

    ls : List Line
    ls = before ++ l ∷ []

    third : field l 2 ≡ (get_or xs 2 e).now
    third = word_at xs 2 e long

    count : ((length (words xs) == 3) || ((length (words xs) == 5) && not true)) ≡ true
    count = ap (λ b. b || ((length (words xs) == 5) && false)) three

    faults : line_faults before l ≡ when (not (is_right_marker d.columns.in_integers (get_or xs 2 e).now)) (Out.Marker n)
    faults =
        column_line_faults before n (words xs) true has_rows marker count
        ∙ ap (λ b. when (not (is_right_marker b (field l 2))) (Out.Marker n)) (sym h.columns.in_integers)
        ∙ ap (λ w. when (not (is_right_marker d.columns.in_integers w)) (Out.Marker n)) third

    names : column_names before ≡ column_names ls
    names = sym (column_names_stay before l (marker_none n (words xs) marker))

    no_entries : entries_of l ≡ []
    no_entries = ap (λ b. if b then [] else entries_from n (column_name l) (drop 1 (words xs))) marker

    begin : RowsHave ls (Column 0) (all_entries (codes "COLUMNS") before) d.rows
    begin =
        rows_begin before (Column 0) n (words xs) d.rows h.rows
        (subst (λ k. EntriesStand (kept_entries (codes "COLUMNS") before) (kept_entries (codes "RHS") before)
        (kept_entries (codes "RANGES") before) k (row_names before) d.rows.rows.items) names h.entries)

    stand : when (not (is_right_marker d.columns.in_integers (get_or xs 2 e).now)) (Out.Marker n) ≡ [] → IsMarked d.columns new (field l 2)
        → Stands ls (record d { columns = new })
    stand none is = record {
      no_fault = no_fault_more before l h.no_fault (faults ∙ none);
      sections = sections_stay before l d.sections.items refl there h.sections;
      rows = rows_stand_stay before l d.rows refl h.rows;
      entries = rows_end before (Column 0) n (words xs) d.rows
          (subst (λ k. RowsHave ls (Column 0) k d.rows) (sym (ap (λ k. all_entries (codes "COLUMNS") before ++ k) no_entries
          ∙ append-nil (all_entries (codes "COLUMNS") before))) begin);
      columns = marked_columns before n (words xs) d.columns new marker h.columns is;
      bounds = marked_bounds before n (words xs) d.columns new marker h.bounds is;
      sets = sets_stay before l d.sets refl refl refl h.sets;
    }

-- ---- one or two entries of a column

-- the rows are as before where a column begins
rows_wait : (before : List Line) (d : Draft) (n : ℕ) (fields : List (List ℕ)) → is_marker (column_item n fields) ≡ false → Stands before d
    → EntriesStand (kept_entries (codes "COLUMNS") before) (kept_entries (codes "RHS") before) (kept_entries (codes "RANGES") before)
    (column_names (before ++ column_item n fields ∷ [])) (row_names before) d.rows.rows.items
rows_wait before d n fields plain h = subst Waits (sym names) (by (has_column before (column_name l)) refl)
  where
    l : Line
    l = column_item n fields

    Waits : List (List ℕ) → Type 0
    Waits k =
        EntriesStand (kept_entries (codes "COLUMNS") before) (kept_entries (codes "RHS") before) (kept_entries (codes "RANGES") before) k
        (row_names before) d.rows.rows.items

    names : column_names (before ++ l ∷ []) ≡ column_names before ++ when (not (has_column before (column_name l))) (column_name l)
    names = column_names-add before l ∙ ap (λ b. column_names before ++ when b (column_name l)) (newness before n fields plain)

    by : (b : Bool) → has_column before (column_name l) ≡ b
        → Waits (column_names before ++ when (not (has_column before (column_name l))) (column_name l))
    by true came =
        subst Waits (sym (ap (λ b. column_names before ++ when (not b) (column_name l)) came ∙ append-nil (column_names before))) h.entries
    by false new =
        subst Waits (sym (ap (λ b. column_names before ++ when (not b) (column_name l)) new))
        (entries_wait before (kept_entries (codes "RHS") before) (kept_entries (codes "RANGES") before) (column_name l)
        (row_names before) d.rows.rows.items new h.entries)

-- the column is split
pub split_line : (before : List Line) (n : ℕ) (fields : List (List ℕ)) (new : Draft) (columns : ColumnTable)
    (r : Result (Unit {0}) MpsError) (e : MpsError)
    → ((length fields == 3) || ((length fields == 5) && true)) ≡ true → is_among (codes "ROWS") (words_of before) ≡ true
    → is_marker (column_item n fields) ≡ false → r ≡ Err e
    → IsDone (when (is_split before (column_item n fields)) (Out.SplitColumn n)) (λ j. IsColumnOpen before (column_item n fields) j columns)
    (Err e)
    → IsTaken before (column_item n fields) new r
split_line before n fields new columns r e count rows plain is done =
    let l = column_item n fields in
    taken before l new r
    (subst (λ fs. IsDone fs (λ _. Stands (before ++ l ∷ []) new) r) (sym (column_line_faults before n fields false rows plain count))
    (stopped (when (is_split before l) (Out.SplitColumn n)) (pair_faults before l) (λ (j : ℕ). IsColumnOpen before l j columns)
    (λ _. Stands (before ++ l ∷ []) new) r e is done))

pub entry_line : (before : List Line) (d : Draft) (n : ℕ) (fields entries : List (List ℕ)) (rows : RowTable) (columns : ColumnTable)
    (number : ℕ) (r : Result (Unit {0}) MpsError)
    → ((length fields == 3) || ((length fields == 5) && true)) ≡ true → Stands before d
    → is_among (codes "COLUMNS") (words_of before) ≡ true → is_among (codes "ROWS") (words_of before) ≡ true
    → is_marker (column_item n fields) ≡ false → entries ≡ drop 1 fields
    → when (is_split before (column_item n fields)) (Out.SplitColumn n) ≡ [] → IsColumnOpen before (column_item n fields) number columns
    → Takes (Column number) n entries d.rows rows r
    → IsTaken before (column_item n fields) (record d { rows = rows; columns = columns }) r
entry_line before d n fields entries rows columns number r count h there has_rows plain rest together opened takes =
    taken before l (record d { rows = rows; columns = columns }) r
    (IsDone_map (entry_faults_after ls (Column number) (all_entries (codes "COLUMNS") before) (entries_from n (column_name l) entries))
    (line_faults before l)
    (λ _. RowsHave ls (Column number) (all_entries (codes "COLUMNS") before ++ entries_from n (column_name l) entries) rows)
    (λ _. Stands ls (record d { rows = rows; columns = columns })) r
    (sym faults) (λ x none have. stand none have)
    (takes ls (all_entries (codes "COLUMNS") before) (column_name l)
    (rows_begin before (Column number) n fields d.rows h.rows (rows_wait before d n fields plain h)) opened.last))
  where
    l : Line
    l = column_item n fields

    ls : List Line
    ls = before ++ l ∷ []

    entries_are : entries_from n (column_name l) entries ≡ entries_of l
    entries_are =
        ap (entries_from n (column_name l)) rest ∙ sym (ap (λ b. if b then [] else entries_from n (column_name l) (drop 1 fields)) plain)

    faults : line_faults before l
        ≡ entry_faults_after ls (Column number) (all_entries (codes "COLUMNS") before) (entries_from n (column_name l) entries)
    faults =
        column_line_faults before n fields false has_rows plain count
        ∙ ap (λ k. k ++ pair_faults before l) together
        ∙ pair_faults_are before (Column number) n fields
        ∙ ap (entry_faults_after ls (Column number) (all_entries (codes "COLUMNS") before)) (sym entries_are)

    stand : entry_faults_after ls (Column number) (all_entries (codes "COLUMNS") before) (entries_from n (column_name l) entries) ≡ []
        → RowsHave ls (Column number) (all_entries (codes "COLUMNS") before ++ entries_from n (column_name l) entries) rows
        → Stands ls (record d { rows = rows; columns = columns })
    stand none have = record {
      no_fault = no_fault_more before l h.no_fault (faults ∙ none);
      sections = sections_stay before l d.sections.items refl there h.sections;
      rows = have.rows;
      entries = rows_end before (Column number) n fields rows
          (subst (λ k. RowsHave ls (Column number) (all_entries (codes "COLUMNS") before ++ k) rows) entries_are have);
      columns = opened.columns;
      bounds = opened.bounds;
      sets = sets_stay before l d.sets refl refl refl h.sets;
    }
