-- A line of RHS or RANGES.
use Rattle.std.specs.Prelude.{◌≡◌, ℕ, nat_le, true, false, not, ◌&&◌, drop, if◌then◌else◌, List, [], ◌∷◌, ◌++◌, length, Option, Some}
use Rattle.std.specs.Prelude.{option_map, unwrap_or, bytes_eq, string_bytes, codes, Result, refl}
use Rattle.std.specs.Option.{option_map_or}
use Rattle.std.proofs.Common.{ap, sym, ◌∙◌, subst, String, Global}
use Rattle.ip_defs.specs.Lists.{first_of, when}
use Rattle.mps_defs.specs.Lists.{is_among}
use Rattle.mps_defs.specs.Records.{row_names, is_columns, is_marker, column_name, names_set, Line, Entry, items_of, words_of, column_names}
use Rattle.mps_defs.specs.Records.{all_entries, entries_of, entries_from, kept_entries, set_of, bound_set, item}
use Rattle.mps_defs.specs.Faults.{line_faults, pair_faults}
use Rattle.mps_defs.specs.declared.reading.MpsError.{MpsError}
use Rattle.mps_defs.specs.declared.reading.MpsError.TheVariants as Out
use Rattle.mps_reader.specs.declared.sections.Section.{Section}
use Rattle.mps_reader.specs.declared.sections.Section.TheVariants as Sections
use Rattle.mps_reader.specs.declared.draft.RowTable.{RowTable}
use Rattle.mps_reader.specs.declared.draft.Sets.{Sets}
use Rattle.mps_reader.specs.declared.draft.Draft.{Draft}
use Rattle.mps_reader.specs.declared.entries.Owner.{Owner}
use Rattle.mps_reader.specs.Internal.Progress.{EntriesStand, SetsStand, Stands, IsTaken, section_word}
use Rattle.mps_reader.specs.Internal.Taking.{owner_word, RowsHave, Owns, AreEntriesTaken, IsSetLine, IsSetKept, set_owner}
use Rattle.mps_reader.specs.Internal.Taking.{entry_faults_after}
use Rattle.mps_reader.proofs.StayLaws.{column_lines_stay, column_names_stay, sections_stay, columns_stand_stay, bounds_stand_stay}
use Rattle.mps_reader.proofs.TakingLaws.{IsDone_map}
use Rattle.mps_reader.proofs.LineLaws.{rows_begin, rows_end, pair_faults_are, taken}
use Rattle.std.proofs.lemmas.Bool.{true≢false}
use Rattle.mps_defs.proofs.LineLaws.{items_of-append, items_stay}
use Rattle.mps_defs.proofs.FaultLaws.{no_fault_more}

-- the kept name after a line is that of the first line
kept_name : (ks : List Line) (l : Line) (set : List ℕ) (o : Option (List ℕ)) → o ≡ option_map set_of (first_of ks) → set ≡ set_of l
    → Some (unwrap_or o set) ≡ option_map set_of (first_of (ks ++ l ∷ []))
kept_name [] l set o is set_is = ap (λ k. Some (unwrap_or k set)) is ∙ ap Some set_is
kept_name (f ∷ ks) l set o is set_is = ap (λ k. Some (unwrap_or k set)) is

-- so a set is the kept one where it has that name
kept_set : (ks : List Line) (l : Line) (set : List ℕ) (o : Option (List ℕ)) → o ≡ option_map set_of (first_of ks) → set ≡ set_of l
    → option_map_or (λ k. bytes_eq (set_of k) set) (first_of (ks ++ l ∷ [])) false ≡ bytes_eq (unwrap_or o set) set
kept_set [] l set o is set_is = ap (λ k. bytes_eq k set) (sym set_is) ∙ sym (ap (λ k. bytes_eq (unwrap_or k set) set) is)
kept_set (f ∷ ks) l set o is set_is = sym (ap (λ k. bytes_eq (unwrap_or k set) set) is)

-- the faults of a line whose number of fields is right, where ROWS came
set_line_faults : (before : List Line) (pairs : List MpsError) (n : ℕ) (fields : List (List ℕ))
    → is_among (codes "ROWS") (words_of before) ≡ true → (nat_le 2 (length fields) && nat_le (length fields) 5) ≡ true
    → when (not (is_among (codes "ROWS") (words_of before))) (Out.SectionOrder n)
    ++ (when (not (nat_le 2 (length fields) && nat_le (length fields) 5)) (Out.FieldCount n) ++ pairs)
    ≡ pairs
set_line_faults before pairs n fields rows count =
    ap (λ b. when (not b) (Out.SectionOrder n)
    ++ (when (not (nat_le 2 (length fields) && nat_le (length fields) 5)) (Out.FieldCount n) ++ pairs)) rows
    ∙ ap (λ b. when (not b) (Out.FieldCount n) ++ pairs) count

-- what a section's own line gives once its entries are taken
abbrev pub Takes : Owner → ℕ → List (List ℕ) → RowTable → RowTable → Result (Unit {0}) MpsError → Type 0
Takes owner n entries old new r =
    (ls : List Line) (es : List Entry) (name : List ℕ) → RowsHave ls owner es old → Owns ls owner name
    → AreEntriesTaken ls owner es new (entries_from n name entries) r

-- what the set of a line, its entries and the sets after it are, where the line is one of entries of an owner
record IsSetOf (before : List Line) (owner : Owner) (n : ℕ) (fields : List (List ℕ)) (set : List ℕ) (entries : List (List ℕ))
    (sets : Sets) : Type 0 where
  faults : line_faults before (item (owner_word owner) n fields) ≡ pair_faults before (item (owner_word owner) n fields)
  no_column : items_of (codes "COLUMNS") (item (owner_word owner) n fields ∷ []) ≡ []
  no_bound : items_of (codes "BOUNDS") (item (owner_word owner) n fields ∷ []) ≡ []
  entries_are : entries_from n set entries ≡ entries_of (item (owner_word owner) n fields)
  owns : Owns (before ++ item (owner_word owner) n fields ∷ []) owner set
  sets_stand : SetsStand (before ++ item (owner_word owner) n fields ∷ []) sets

-- such a line is taken once its entries are
entries_line : (before : List Line) (d : Draft) (owner : Owner) (n : ℕ) (fields : List (List ℕ)) (set : List ℕ) (entries : List (List ℕ))
    (rows : RowTable) (sets : Sets) (r : Result (Unit {0}) MpsError) → Stands before d
    → is_among (owner_word owner) (words_of before) ≡ true
    → IsSetOf before owner n fields set entries sets → Takes owner n entries d.rows rows r
    → IsTaken before (item (owner_word owner) n fields) (record d { rows = rows; sets = sets }) r
entries_line before d owner n fields set entries rows sets r h there parts takes =
    taken before l (record d { rows = rows; sets = sets }) r
    (IsDone_map (entry_faults_after ls owner so_far own) (line_faults before l)
    (λ _. RowsHave ls owner (so_far ++ own) rows) (λ _. Stands ls (record d { rows = rows; sets = sets })) r
    (sym faults) (λ x none have. stand none have)
    (takes ls so_far set begin parts.owns))
  where
    l : Line
    l = item (owner_word owner) n fields

    ls : List Line
    ls = before ++ l ∷ []

    so_far : List Entry
    so_far = all_entries (owner_word owner) before

    own : List Entry
    own = entries_from n set entries

    columns : column_names ls ≡ column_names before
    columns = column_names_stay before l (column_lines_stay l parts.no_column)

    begin : RowsHave ls owner so_far d.rows
    begin = rows_begin before owner n fields d.rows h.rows
        (subst (λ names. EntriesStand (kept_entries (codes "COLUMNS") before) (kept_entries (codes "RHS") before)
        (kept_entries (codes "RANGES") before) names (row_names before) d.rows.rows.items) (sym columns) h.entries)

    faults : line_faults before l ≡ entry_faults_after ls owner so_far own
    faults = parts.faults ∙ pair_faults_are before owner n fields ∙ ap (entry_faults_after ls owner so_far) (sym parts.entries_are)

    stand : entry_faults_after ls owner so_far own ≡ [] → RowsHave ls owner (so_far ++ own) rows
        → Stands ls (record d { rows = rows; sets = sets })
    stand none have = record {
      no_fault = no_fault_more before l h.no_fault (faults ∙ none);
      sections = sections_stay before l d.sections.items refl there h.sections;
      rows = have.rows;
      entries = rows_end before owner n fields rows (subst (λ k. RowsHave ls owner (so_far ++ k) rows) parts.entries_are have);
      columns = columns_stand_stay before l d.columns parts.no_column h.columns;
      bounds = bounds_stand_stay before l d.columns.columns.items parts.no_column parts.no_bound h.bounds;
      sets = parts.sets_stand;
    }

-- the kept name of another section stays, and that of the line's own is the first one
name_stays : (word : List ℕ) (name_of : Line → List ℕ) (before : List Line) (l : Line) (old new : Option (String Global))
    → items_of word (l ∷ []) ≡ [] → new ≡ old → option_map string_bytes old ≡ option_map name_of (first_of (items_of word before))
    → option_map string_bytes new ≡ option_map name_of (first_of (items_of word (before ++ l ∷ [])))
name_stays word name_of before l old new none same is =
    ap (option_map string_bytes) same ∙ is ∙ ap (λ ks. option_map name_of (first_of ks)) (sym (items_stay word before (l ∷ []) none))

name_kept : (word : List ℕ) (before : List Line) (l : Line) (set : List ℕ) (o new : Option (List ℕ)) → items_of word (l ∷ []) ≡ l ∷ []
    → new ≡ Some (unwrap_or o set) → o ≡ option_map set_of (first_of (items_of word before)) → set ≡ set_of l
    → new ≡ option_map set_of (first_of (items_of word (before ++ l ∷ [])))
name_kept word before l set o new one kept is set_is =
    kept ∙ kept_name (items_of word before) l set o is set_is
    ∙ ap (λ ks. option_map set_of (first_of ks)) (sym (items_of-append word before (l ∷ []) ∙ ap (λ k. items_of word before ++ k) one))

-- the sets after a line of RHS or RANGES
sets_stand : (before : List Line) (section : Section) (s new : Sets) (n : ℕ) (fields : List (List ℕ)) (set : List ℕ)
    → is_among (section_word section) (codes "RHS" ∷ codes "RANGES" ∷ []) ≡ true → SetsStand before s
    → set ≡ set_of (item (section_word section) n fields) → IsSetKept section set s new
    → SetsStand (before ++ item (section_word section) n fields ∷ []) new
sets_stand before Sections.RightSides s new n fields set is h set_is kept =
    let l = item (codes "RHS") n fields in
    record {
      right_sides = name_kept (codes "RHS") before l set _ _ refl kept.0 h.right_sides set_is;
      ranges = name_stays (codes "RANGES") set_of before l s.ranges new.ranges refl kept.1 h.ranges;
      bounds = name_stays (codes "BOUNDS") bound_set before l s.bounds new.bounds refl kept.2 h.bounds;
    }
sets_stand before Sections.Ranges s new n fields set is h set_is kept =
    let l = item (codes "RANGES") n fields in
    record {
      right_sides = name_stays (codes "RHS") set_of before l s.right_sides new.right_sides refl kept.0 h.right_sides;
      ranges = name_kept (codes "RANGES") before l set _ _ refl kept.1 h.ranges set_is;
      bounds = name_stays (codes "BOUNDS") bound_set before l s.bounds new.bounds refl kept.2 h.bounds;
    }
sets_stand before section s new n fields set is h set_is kept = absurd (true≢false (sym is))

-- a set is the kept one after a line of it
owned : (word : List ℕ) (before : List Line) (l : Line) (set : List ℕ) (o : Option (List ℕ)) → items_of word (l ∷ []) ≡ l ∷ []
    → o ≡ option_map set_of (first_of (items_of word before)) → set ≡ set_of l
    → option_map_or (λ k. bytes_eq (set_of k) set) (first_of (items_of word (before ++ l ∷ []))) false ≡ bytes_eq (unwrap_or o set) set
owned word before l set o one is set_is =
    ap (λ ks. option_map_or (λ k. bytes_eq (set_of k) set) (first_of ks) false)
    (items_of-append word before (l ∷ []) ∙ ap (λ k. items_of word before ++ k) one)
    ∙ kept_set (items_of word before) l set o is set_is

-- the entries of a line whose section is not COLUMNS
entries_read : (word : List ℕ) (n : ℕ) (fields : List (List ℕ)) (set : List ℕ) (entries : List (List ℕ)) → is_columns word ≡ false
    → IsSetLine fields set entries → entries_from n set entries ≡ entries_of (item word n fields)
entries_read word n fields set entries other parts =
    let l = item word n fields in
    ap (λ k. entries_from n k entries) parts.set_is
    ∙ ap (entries_from n (set_of l)) parts.entries_are
    ∙ sym (ap (λ t. if t then (if is_marker l then [] else entries_from n (column_name l) (drop 1 fields))
    else entries_from n (set_of l) (if names_set l then drop 1 fields else fields)) other)

-- a line of entries is taken where its section is not COLUMNS and it names its set
line_of_set : (before : List Line) (d : Draft) (owner : Owner) (n : ℕ) (fields : List (List ℕ)) (set : List ℕ) (entries : List (List ℕ))
    (rows : RowTable) (sets : Sets) (r : Result (Unit {0}) MpsError) → Stands before d
    → is_among (owner_word owner) (words_of before) ≡ true
    → line_faults before (item (owner_word owner) n fields) ≡ pair_faults before (item (owner_word owner) n fields)
    → is_columns (owner_word owner) ≡ false → items_of (codes "COLUMNS") (item (owner_word owner) n fields ∷ []) ≡ []
    → items_of (codes "BOUNDS") (item (owner_word owner) n fields ∷ []) ≡ [] → IsSetLine fields set entries
    → Owns (before ++ item (owner_word owner) n fields ∷ []) owner set
    → SetsStand (before ++ item (owner_word owner) n fields ∷ []) sets → Takes owner n entries d.rows rows r
    → IsTaken before (item (owner_word owner) n fields) (record d { rows = rows; sets = sets }) r
line_of_set before d owner n fields set entries rows sets r h there faults' other no_column' no_bound' parts owns' stand takes =
    entries_line before d owner n fields set entries rows sets r h there
    (record {
      faults = faults';
      no_column = no_column';
      no_bound = no_bound';
      entries_are = entries_read (owner_word owner) n fields set entries other parts;
      owns = owns';
      sets_stand = stand;
    })
    takes

-- a line of RHS or RANGES is taken
pub set_line : (before : List Line) (d : Draft) (section : Section) (n : ℕ) (fields : List (List ℕ)) (set : List ℕ)
    (entries : List (List ℕ)) (rows : RowTable) (sets : Sets) (r : Result (Unit {0}) MpsError)
    → Stands before d
    → is_among (section_word section) (codes "RHS" ∷ codes "RANGES" ∷ []) ≡ true → is_among (section_word section) (words_of before) ≡ true
    → is_among (codes "ROWS") (words_of before) ≡ true → IsSetLine fields set entries
    → IsSetKept section set d.sets sets → Takes (set_owner section d.sets set) n entries d.rows rows r
    → IsTaken before (item (section_word section) n fields) (record d { rows = rows; sets = sets }) r
set_line before d Sections.RightSides n fields set entries rows sets r h is there has_rows parts kept takes =
    line_of_set before d (set_owner Sections.RightSides d.sets set) n fields set entries rows sets r h there
    (set_line_faults before (pair_faults before (item (codes "RHS") n fields)) n fields has_rows parts.count) refl refl refl parts
    (owned (codes "RHS") before (item (codes "RHS") n fields) set _ refl h.sets.right_sides parts.set_is)
    (sets_stand before Sections.RightSides d.sets sets n fields set refl h.sets parts.set_is kept) takes
set_line before d Sections.Ranges n fields set entries rows sets r h is there has_rows parts kept takes =
    line_of_set before d (set_owner Sections.Ranges d.sets set) n fields set entries rows sets r h there
    (set_line_faults before (pair_faults before (item (codes "RANGES") n fields)) n fields has_rows parts.count) refl refl refl parts
    (owned (codes "RANGES") before (item (codes "RANGES") n fields) set _ refl h.sets.ranges parts.set_is)
    (sets_stand before Sections.Ranges d.sets sets n fields set refl h.sets parts.set_is kept) takes
set_line before d section n fields set entries rows sets r h is there has_rows parts kept takes = absurd (true≢false (sym is))
