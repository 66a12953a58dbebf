-- A canonical text has no fault.
use Rattle.std.specs.Prelude.{◌≡◌, ℕ, suc, ◌+◌, ◌==◌, Bool, true, false, ◌&&◌, ◌||◌, not, if◌then◌else◌, List, [], ◌∷◌, ◌++◌, length, map}
use Rattle.std.specs.Prelude.{filter, flat_map, bytes_eq, codes}
use Rattle.std.specs.List.{enumerate_from}
use Rattle.std.specs.Option.{option_map_or}
use Rattle.std.proofs.Common.{refl, ap, sym, ◌∙◌}
use Rattle.std.proofs.lemmas.List.Folds.{list_any-append}
use Rattle.mps_defs.specs.Lists.{is_among, last_of, AreDistinct}
use Rattle.mps_defs.specs.CanonicalText.{Written, head, pair, triple, kind_text, column_block, columns_block}
use Rattle.mps_defs.specs.Records.{Line, items_of, words_of, row_name, is_marker, in_force, column_name, entries_of, field, opening}
use Rattle.mps_defs.specs.Records.{row_names}
use Rattle.mps_defs.specs.Faults.{all_line_faults, faults_after}
use Rattle.ip_defs.specs.declared.programs.Column.{Column}
use Rattle.ip_defs.specs.declared.programs.Row.{Row}
use Rattle.ip_defs.specs.declared.programs.Parts.{Parts}
use Rattle.text_laws.proofs.WrittenLaws.{lines_from}
use Rattle.text_laws.specs.ReadBack.{CanonicalTextsHaveNoFault}
use Rattle.text_laws.proofs.SectionLaws.{AreItems, number_after, items_all, columns_at, lines_in, after_rows, after_columns, data_lines}
use Rattle.text_laws.proofs.SectionLaws.{after_right_sides, after_ranges, after_bounds}
use Rattle.text_laws.proofs.CanonicalLaws.{sections_of, are_sections}
use Rattle.text_laws.proofs.ReadableLaws.{IsProgramText, IsRowText, IsColumnText, program_text}
use Rattle.text_laws.proofs.EntryReadLaws.{bare, listed_append}
use Rattle.text_laws.proofs.RecordReadLaws.{blocks_of, blocks_triples, not_marker}
use Rattle.text_laws.proofs.CoefReadLaws.{bare_from, block_bare, coef_bare}
use Rattle.text_laws.proofs.NameReadLaws.{owners, lines_bare, none_seen}
use Rattle.text_laws.proofs.ModelReadLaws.{each_apart}
use Rattle.text_laws.proofs.ContinuousLaws.{triples_items, plain_lines, row_part, mark}
use Rattle.text_laws.proofs.FreshLaws.{columns_new, right_sides_fresh, ranges_fresh}
use Rattle.text_laws.proofs.PriorLaws.{section_faultless, line_faultless, Known, after_opening, after_row_lines, after_column_lines}
use Rattle.text_laws.proofs.PriorLaws.{after_right_lines, after_range_lines, words_kept}
use Rattle.text_laws.proofs.LineFaultLaws.{RowsCame, still_came, same_rows, ColumnsKnown, IsBounded, rows_faultless, row_line_faultless}
use Rattle.text_laws.proofs.LineFaultLaws.{columns_faultless, sets_faultless, bounds_faultless, begin_faultless, end_faultless}
use Rattle.text_laws.proofs.LineFaultLaws.{opening_faultless}
use Rattle.text_laws.proofs.EntryLineLaws.{rows_named, columns_entries, right_sides_entries, ranges_entries}
use Rattle.text_laws.proofs.FaultReadLaws.{fault_free}
use Rattle.text_laws.proofs.Utf8Laws.{canonical_utf8}
use Rattle.ip_defs.proofs.BoolLaws.{either_true}
use Rattle.std.proofs.lemmas.List.{map-append}
use Rattle.ip_defs.specs.Lists.{Each}
use Rattle.ip_defs.proofs.TextLaws.{text_self}
use Rattle.mps_defs.proofs.LineLaws.{items_of-append}

-- what is needed of a program
record IsNamed (m : Parts) : Type 0 where
  text : IsProgramText m
  columns : AreDistinct (map (λ c. c.name) m.columns)
  rows : AreDistinct (m.objective ∷ map (λ r. r.name) m.rows)

-- the section words before each section
abbrev to_rows : List (List ℕ)
to_rows = codes "NAME" ∷ codes "ROWS" ∷ []

abbrev to_columns : List (List ℕ)
to_columns = to_rows ++ codes "COLUMNS" ∷ []

abbrev to_right_sides : List (List ℕ)
to_right_sides = to_columns ++ codes "RHS" ∷ []

abbrev to_ranges : List (List ℕ)
to_ranges = to_right_sides ++ codes "RANGES" ∷ []

abbrev to_bounds : List (List ℕ)
to_bounds = to_ranges ++ codes "BOUNDS" ∷ []

-- the lines of COLUMNS
abbrev column_part : Parts → List Line
column_part m = lines_from (columns_at (sections_of m)) (codes "COLUMNS") ((sections_of m).columns)

-- ---- from the end on

end_part : (before : List Line) (n : ℕ) → words_of before ≡ to_bounds
    → faults_after before (lines_from n (codes "BOUNDS") (head (codes "ENDATA") ∷ [])) ≡ []
end_part before n e =
    line_faultless before (opening n (codes "ENDATA" ∷ []) (codes "ENDATA")) []
    (opening_faultless before n (codes "ENDATA") to_bounds e refl refl) refl

-- each column is on a line of COLUMNS
column_owned : (m : Parts) (j : ℕ) (cs : List Column) → Each (λ c. is_among c.name (owners (bare_from m j cs)) ≡ true) cs
column_owned m j [] = tt
column_owned m j (c ∷ cs) = (here, later cs (column_owned m (j + 1) cs))
  where
    more : (name : List ℕ)
        → is_among name (owners (bare_from m j (c ∷ cs)))
        ≡ (is_among name (owners (block_bare m j c)) || is_among name (owners (bare_from m (j + 1) cs)))
    more name =
        ap (λ ts. is_among name (owners ts)) (listed_append (column_block m (j, c)) (flat_map (column_block m) (enumerate_from (j + 1) cs)))
        ∙ ap (is_among name) (map-append (λ t. t.owner) (block_bare m j c) (bare_from m (j + 1) cs))
        ∙ list_any-append (bytes_eq name) (owners (block_bare m j c)) (owners (bare_from m (j + 1) cs))

    here : is_among c.name (owners (bare_from m j (c ∷ cs))) ≡ true
    here =
        more c.name
        ∙ ap (λ t. (t || is_among c.name (owners (coef_bare j c.name m.rows))) || is_among c.name (owners (bare_from m (j + 1) cs)))
        (text_self c.name)

    later : (ks : List Column) → Each (λ k. is_among k.name (owners (bare_from m (j + 1) cs)) ≡ true) ks
        → Each (λ k. is_among k.name (owners (bare_from m j (c ∷ cs))) ≡ true) ks
    later [] g = tt
    later (k ∷ ks) g = (
      more k.name
          ∙ either_true (is_among k.name (owners (block_bare m j c))) (is_among k.name (owners (bare_from m (j + 1) cs))) g.0,
      later ks g.1,
    )

columns_bounded : (m : Parts) (before : List Line) → IsProgramText m → items_of (codes "COLUMNS") before ≡ column_part m
    → Each (IsBounded before) m.columns
columns_bounded m before h e = all m.columns h.columns (column_owned m 0 m.columns)
  where
    names : map column_name (filter (λ l. not (is_marker l)) (items_of (codes "COLUMNS") before)) ≡ owners (bare_from m 0 m.columns)
    names =
        ap (λ k. map column_name (filter (λ l. not (is_marker l)) k)) (e ∙ sym ((data_lines (sections_of m) (are_sections m)).columns))
        ∙ lines_bare m h

    all : (cs : List Column) → Each IsColumnText cs → Each (λ c. is_among c.name (owners (bare_from m 0 m.columns)) ≡ true) cs
        → Each (IsBounded before) cs
    all [] t g = tt
    all (c ∷ cs) t g = (record { known = ap (is_among c.name) names ∙ g.0; lo = (t.0).lo; hi = (t.0).hi }, all cs t.1 g.1)

bounds_part : (m : Parts) → IsNamed m → (before : List Line) (n : ℕ) (rs hs gs : List Line)
    → Known before to_ranges rs (column_part m) hs gs
    → faults_after before (lines_from n (codes "RANGES") (after_ranges (sections_of m))) ≡ []
bounds_part m h before n rs hs gs k =
    let s = sections_of m in
    let l = opening n (codes "BOUNDS" ∷ []) (codes "BOUNDS") in
    let now = after_opening before to_ranges rs (column_part m) hs gs n (codes "BOUNDS") k in
    let came : RowsCame (before ++ l ∷ []) = ap (is_among (codes "ROWS")) now.words_are in
    line_faultless before l (lines_from (suc n) (codes "BOUNDS") (s.bounds ++ after_bounds s))
    (opening_faultless before n (codes "BOUNDS") to_ranges k.words_are refl refl)
    (section_faultless (before ++ l ∷ []) (suc n) (codes "BOUNDS") s.bounds (after_bounds s) ((are_sections m).bounds)
    (bounds_faultless (before ++ l ∷ []) (suc n) m.columns came (columns_bounded m (before ++ l ∷ []) h.text now.columns_are))
    (end_part ((before ++ l ∷ []) ++ lines_from (suc n) (codes "BOUNDS") s.bounds) (number_after (suc n) s.bounds)
    (words_kept (before ++ l ∷ []) to_bounds (suc n) (codes "BOUNDS") s.bounds ((are_sections m).bounds) now.words_are)))

-- the names of the rows are known
named_from : (n : ℕ) (rs : List Row)
    → map row_name (lines_from n (codes "ROWS") (map (λ r. pair (kind_text r) r.name) rs)) ≡ map (λ r. r.name) rs
named_from n [] = refl
named_from n (r ∷ rs) = ap (λ k. r.name ∷ k) (named_from (suc n) rs)

rows_known : (m : Parts) (before : List Line) → items_of (codes "ROWS") before ≡ row_part m → row_names before ≡ rows_named m
rows_known m before e = ap (map row_name) e ∙ ap (λ k. m.objective ∷ k) (named_from 4 m.rows)

ranges_part : (m : Parts) → IsNamed m → (before : List Line) (n : ℕ) (hs : List Line)
    → Known before to_right_sides (row_part m) (column_part m) hs []
    → faults_after before (lines_from n (codes "RHS") (after_right_sides (sections_of m))) ≡ []
ranges_part m h before n hs k =
    let s = sections_of m in
    let l = opening n (codes "RANGES" ∷ []) (codes "RANGES") in
    let now = after_opening before to_right_sides (row_part m) (column_part m) hs [] n (codes "RANGES") k in
    line_faultless before l (lines_from (suc n) (codes "RANGES") (s.ranges ++ after_ranges s))
    (opening_faultless before n (codes "RANGES") to_right_sides k.words_are refl refl)
    (section_faultless (before ++ l ∷ []) (suc n) (codes "RANGES") s.ranges (after_ranges s) ((are_sections m).ranges)
    (sets_faultless (codes "RANGES") (record { no_rows = refl; no_columns = refl; no_bounds = refl }) (rows_named m) (before
    ++ l ∷ []) (suc n) s.ranges [] (ap (is_among (codes "ROWS")) now.words_are) (rows_known m (before ++ l ∷ []) now.rows_are)
    (ap (λ y. map bare (flat_map entries_of y)) now.ranges_are) (ranges_entries m h.text) (ranges_fresh m ((h.rows).1)))
    (bounds_part m h ((before ++ l ∷ []) ++ lines_from (suc n) (codes "RANGES") s.ranges) (number_after (suc n) s.ranges) (row_part m) hs
    (lines_from (suc n) (codes "RANGES") s.ranges)
    (after_range_lines (before ++ l ∷ []) to_ranges (row_part m) (column_part m) hs (suc n) s.ranges ((are_sections m).ranges) now)))

right_sides_part : (m : Parts) → IsNamed m → (before : List Line) (n : ℕ) → Known before to_columns (row_part m) (column_part m) [] []
    → faults_after before (lines_from n (codes "COLUMNS") (after_columns (sections_of m))) ≡ []
right_sides_part m h before n k =
    let s = sections_of m in
    let l = opening n (codes "RHS" ∷ []) (codes "RHS") in
    let now = after_opening before to_columns (row_part m) (column_part m) [] [] n (codes "RHS") k in
    line_faultless before l (lines_from (suc n) (codes "RHS") (s.right_sides ++ after_right_sides s))
    (opening_faultless before n (codes "RHS") to_columns k.words_are refl refl)
    (section_faultless (before ++ l ∷ []) (suc n) (codes "RHS") s.right_sides (after_right_sides s) ((are_sections m).right_sides)
    (sets_faultless (codes "RHS") (record { no_rows = refl; no_columns = refl; no_bounds = refl }) (rows_named m) (before
    ++ l ∷ []) (suc n) s.right_sides [] (ap (is_among (codes "ROWS")) now.words_are) (rows_known m (before ++ l ∷ []) now.rows_are)
    (ap (λ y. map bare (flat_map entries_of y)) now.right_sides_are) (right_sides_entries m h.text) (right_sides_fresh m h.rows))
    (ranges_part m h ((before ++ l ∷ []) ++ lines_from (suc n) (codes "RHS") s.right_sides) (number_after (suc n) s.right_sides)
    (lines_from (suc n) (codes "RHS") s.right_sides)
    (after_right_lines (before ++ l ∷ []) to_right_sides (row_part m) (column_part m) (suc n) s.right_sides
    ((are_sections m).right_sides) now)))

-- ---- COLUMNS

no_markers : (ls : List Line) → Each (λ l. is_marker l ≡ false) ls → filter is_marker ls ≡ []
no_markers [] h = refl
no_markers (l ∷ ls) h = ap (λ t. if t then l ∷ filter is_marker ls else filter is_marker ls) h.0 ∙ no_markers ls h.1

column_lines_faultless : (m : Parts) → IsNamed m → (before : List Line) (n : ℕ) → RowsCame before → row_names before ≡ rows_named m
    → items_of (codes "COLUMNS") before ≡ [] → faults_after before (lines_from n (codes "COLUMNS") (columns_block m)) ≡ []
column_lines_faultless m h before n came rows none = by (length m.columns == 0)
  where
    start : Written
    start = triple (codes "M") (codes "'MARKER'") (codes "'INTORG'")

    last : Written
    last = triple (codes "M") (codes "'MARKER'") (codes "'INTEND'")

    first : Line
    first = mark n (codes "'INTORG'")

    inner : List Line
    inner = before ++ first ∷ []

    lines : List Line
    lines = lines_from (suc n) (codes "COLUMNS") (blocks_of m)

    marked : items_of (codes "COLUMNS") inner ≡ first ∷ []
    marked = items_of-append (codes "COLUMNS") before (first ∷ []) ∙ ap (λ k. k ++ first ∷ []) none

    came_in : RowsCame inner
    came_in = still_came before n (codes "COLUMNS") (codes "M" ∷ codes "'MARKER'" ∷ codes "'INTORG'" ∷ []) came

    are : AreItems (blocks_of m)
    are = triples_items (blocks_of m) (blocks_triples m h.text (enumerate_from 0 m.columns))

    known : ColumnsKnown inner []
    known = record {
      bare_are = ap (λ k. map bare (flat_map entries_of k)) marked;
      names_are = ap (λ k. map column_name (filter (λ l. not (is_marker l)) k)) marked;
      last_is = λ name. ap (λ k. option_map_or (λ (l : Line). not (is_marker l) && bytes_eq (column_name l) name) (last_of k) false) marked;
    }

    off : in_force before ≡ false
    off = ap (λ k. option_map_or (λ (l : Line). bytes_eq (field l 2) (codes "'INTORG'")) (last_of (filter is_marker k)) false) none

    on : in_force (inner ++ lines) ≡ true
    on =
        ap (λ k. option_map_or (λ (l : Line). bytes_eq (field l 2) (codes "'INTORG'")) (last_of (filter is_marker k)) false)
        (items_of-append (codes "COLUMNS") inner lines
        ∙ ap (λ k. k ++ items_of (codes "COLUMNS") lines) marked
        ∙ ap (λ k. first ∷ k) (items_all (suc n) (codes "COLUMNS") (codes "COLUMNS") (blocks_of m) are refl))
        ∙ ap (λ k. option_map_or (λ (l : Line). bytes_eq (field l 2) (codes "'INTORG'")) (last_of (first ∷ k)) false)
        (no_markers lines (plain_lines (suc n) (blocks_of m) (blocks_triples m h.text (enumerate_from 0 m.columns))))

    came_on : RowsCame (inner ++ lines)
    came_on = ap (is_among (codes "ROWS")) (words_kept inner (words_of inner) (suc n) (codes "COLUMNS") (blocks_of m) are refl) ∙ came_in

    by : (t : Bool) → faults_after before (lines_from n (codes "COLUMNS") (if t then [] else start ∷ (blocks_of m ++ last ∷ []))) ≡ []
    by true = refl
    by false =
        line_faultless before first (lines_from (suc n) (codes "COLUMNS") (blocks_of m ++ last ∷ [])) (begin_faultless before n came off)
        (section_faultless inner (suc n) (codes "COLUMNS") (blocks_of m) (last ∷ []) are
        (columns_faultless (rows_named m) inner (suc n) (blocks_of m) [] came_in
        (same_rows before n (codes "COLUMNS") (codes "M" ∷ codes "'MARKER'" ∷ codes "'INTORG'" ∷ []) refl
        ∙ rows) known (columns_entries m h.text) (columns_new m 0 m.columns [] h.rows h.columns (none_seen m.columns)))
        (line_faultless (inner ++ lines) (mark (number_after (suc n) (blocks_of m)) (codes "'INTEND'")) []
        (end_faultless (inner ++ lines) (number_after (suc n) (blocks_of m)) came_on on) refl))

columns_part : (m : Parts) → IsNamed m → (before : List Line) → Known before to_rows (row_part m) [] [] []
    → faults_after before (lines_from (number_after 3 ((sections_of m).rows)) (codes "ROWS") (after_rows (sections_of m))) ≡ []
columns_part m h before k =
    let s = sections_of m in
    let n = number_after 3 s.rows in
    let l = opening n (codes "COLUMNS" ∷ []) (codes "COLUMNS") in
    let now = after_opening before to_rows (row_part m) [] [] [] n (codes "COLUMNS") k in
    line_faultless before l (lines_from (suc n) (codes "COLUMNS") (s.columns ++ after_columns s))
    (opening_faultless before n (codes "COLUMNS") to_rows k.words_are refl refl)
    (section_faultless (before ++ l ∷ []) (suc n) (codes "COLUMNS") s.columns (after_columns s) ((are_sections m).columns)
    (column_lines_faultless m h (before ++ l ∷ []) (suc n) (ap (is_among (codes "ROWS")) now.words_are)
    (rows_known m (before ++ l ∷ []) now.rows_are) now.columns_are)
    (right_sides_part m h ((before ++ l ∷ []) ++ column_part m) (number_after (suc n) s.columns)
    (after_column_lines (before ++ l ∷ []) to_columns (row_part m) (suc n) s.columns ((are_sections m).columns) now)))

-- ---- the whole text

abbrev start_lines : List Line
start_lines = opening 1 (codes "NAME" ∷ []) (codes "NAME") ∷ opening 2 (codes "ROWS" ∷ []) (codes "ROWS") ∷ []

row_lines_faultless : (m : Parts) → IsNamed m → faults_after start_lines (row_part m) ≡ []
row_lines_faultless m h =
    let l : Line = record { number = 3; is_item = true; section = codes "ROWS"; fields = codes "N" ∷ m.objective ∷ [] } in
    line_faultless start_lines l (lines_from 4 (codes "ROWS") (map (λ r. pair (kind_text r) r.name) m.rows))
    (row_line_faultless start_lines 3 (codes "N") m.objective refl refl refl (not_marker m.objective (h.text).objective))
    (rows_faultless (start_lines ++ l ∷ []) 4 m.rows refl ((h.rows).1) (new m.rows (each_apart m m.rows ((h.rows).0)))
    (plain m.rows (h.text).rows))
  where
    new : (rs : List Row) → Each (λ r. bytes_eq r.name m.objective ≡ false) rs → Each (λ r. is_among r.name (m.objective ∷ []) ≡ false) rs
    new [] g = tt
    new (r ∷ rs) g = (ap (λ t. t || false) g.0, new rs g.1)

    plain : (rs : List Row) → Each IsRowText rs → Each (λ r. bytes_eq r.name (codes "'MARKER'") ≡ false) rs
    plain [] g = tt
    plain (r ∷ rs) g = (not_marker r.name (g.0).name, plain rs g.1)

no_line_faults : (m : Parts) → IsNamed m → all_line_faults (lines_in (sections_of m)) ≡ []
no_line_faults m h =
    let s = sections_of m in
    line_faultless [] (opening 1 (codes "NAME" ∷ []) (codes "NAME"))
    (opening 2 (codes "ROWS" ∷ []) (codes "ROWS") ∷ lines_from 3 (codes "ROWS") (s.rows ++ after_rows s)) refl
    (line_faultless (opening 1 (codes "NAME" ∷ []) (codes "NAME") ∷ []) (opening 2 (codes "ROWS" ∷ []) (codes "ROWS"))
    (lines_from 3 (codes "ROWS") (s.rows ++ after_rows s)) refl
    (section_faultless start_lines 3 (codes "ROWS") s.rows (after_rows s) ((are_sections m).rows) (row_lines_faultless m h)
    (columns_part m h (start_lines ++ row_part m) (after_row_lines start_lines to_rows 3 s.rows ((are_sections m).rows)
    (record { words_are = refl; rows_are = refl; columns_are = refl; right_sides_are = refl; ranges_are = refl })))))

-- a canonical text has no fault
pub none_found : CanonicalTextsHaveNoFault
none_found m how h =
    let text = program_text m h.printable h.limits in
    fault_free m how h (canonical_utf8 m text h.texts) (no_line_faults m (record { text = text; columns = h.columns; rows = h.rows }))
