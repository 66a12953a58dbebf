-- No column of a canonical text is continuous.
use Rattle.std.specs.Prelude.{◌≡◌, ℕ, suc, ◌==◌, false, ◌&&◌, ◌||◌, not, if◌then◌else◌, List, [], ◌∷◌, ◌++◌, length, map, filter}
use Rattle.std.specs.Prelude.{Some, slice_get, bytes_eq, codes}
use Rattle.std.specs.List.{list_any, enumerate_from}
use Rattle.std.specs.Option.{option_map_or}
use Rattle.std.proofs.Common.{refl, arith, ap, sym, ◌∙◌}
use Rattle.std.proofs.lemmas.Bool.{ne_eqb}
use Rattle.mps_defs.specs.Lists.{is_among, last_of, AreDistinct}
use Rattle.ip_defs.specs.Lists.{when, Each}
use Rattle.mps_defs.specs.CanonicalText.{Written, columns_block}
use Rattle.mps_defs.specs.Records.{Line, items_of, is_marker, in_force, column_name, column_names, first_lines, field, bounds_on, item}
use Rattle.mps_defs.specs.Records.{opening}
use Rattle.mps_defs.specs.TextModels.{kind_is}
use Rattle.mps_defs.specs.Faults.{continuous_faults}
use Rattle.mps_defs.specs.declared.reading.MpsError.TheVariants.{Continuous}
use Rattle.ip_defs.specs.declared.programs.Column.{Column}
use Rattle.ip_defs.specs.declared.programs.Parts.{Parts}
use Rattle.text_laws.proofs.WrittenLaws.{lines_from}
use Rattle.text_laws.proofs.SectionLaws.{IsItem, AreItems, lines_in, number_after, items_first, items_none, section_part, after_rows}
use Rattle.text_laws.proofs.SectionLaws.{after_columns, after_right_sides, after_ranges, after_bounds}
use Rattle.text_laws.proofs.CanonicalLaws.{sections_of, are_sections}
use Rattle.text_laws.proofs.ReadableLaws.{IsProgramText}
use Rattle.text_laws.proofs.EntryReadLaws.{IsTriple, AreTriples, of_triple}
use Rattle.text_laws.proofs.RecordReadLaws.{blocks_of, blocks_triples}
use Rattle.text_laws.proofs.EachLineLaws.{first_mark, last_mark}
use Rattle.text_laws.proofs.NameReadLaws.{names_read}
use Rattle.text_laws.proofs.IntegerReadLaws.{begins_whole}
use Rattle.ip_defs.proofs.TextLaws.{text_turned}
use Rattle.ip_defs.proofs.ListLaws.{each_weaker, filter-append}
use Rattle.std.proofs.lemmas.List.{append_assoc}
use Rattle.text_laws.proofs.CoefReadLaws.{named_among}

pub triples_items : (ds : List Written) → AreTriples ds → AreItems ds
triples_items ds h = each_weaker IsTriple IsItem ds (λ d k. of_triple IsItem d k (λ a b c e. refl)) h

pub plain_lines : (n : ℕ) (ds : List Written) → AreTriples ds → Each (λ l. is_marker l ≡ false) (lines_from n (codes "COLUMNS") ds)
plain_lines n [] h = tt
plain_lines n (d ∷ ds) h =
    of_triple (λ w. Each (λ l. is_marker l ≡ false) (lines_from n (codes "COLUMNS") (w ∷ ds))) d h.0
    (λ a b c e. (e, plain_lines (suc n) ds h.1))

some_columns : (cs : List Column) (j : ℕ) (c : Column) → slice_get cs j ≡ Some c → (length cs == 0) ≡ false
some_columns [] j c e = absurd cc
some_columns (k ∷ ks) j c e = ne_eqb (length (k ∷ ks)) 0 (λ s. omega arith)

-- the lines of ROWS
abbrev pub row_part : Parts → List Line
row_part m = lines_from 3 (codes "ROWS") ((sections_of m).rows)

abbrev row_end : Parts → ℕ
row_end m = number_after 3 ((sections_of m).rows)

-- the line of a marker
abbrev pub mark : ℕ → List ℕ → Line
mark n word = item (codes "COLUMNS") n (codes "M" ∷ codes "'MARKER'" ∷ word ∷ [])

abbrev marks : Parts → List Line
marks m = opening (row_end m) (codes "COLUMNS" ∷ []) (codes "COLUMNS") ∷ mark (suc (row_end m)) (codes "'INTORG'") ∷ []

abbrev front : Parts → List Line
front m = opening 1 (codes "NAME" ∷ []) (codes "NAME") ∷ opening 2 (codes "ROWS" ∷ []) (codes "ROWS") ∷ (row_part m ++ marks m)

abbrev block_part : Parts → List Line
block_part m = lines_from (suc (suc (row_end m))) (codes "COLUMNS") (blocks_of m)

abbrev column_end : Parts → ℕ
column_end m = number_after (suc (suc (row_end m))) (blocks_of m)

abbrev rest : Parts → List Line
rest m = lines_from (column_end m) (codes "COLUMNS") (last_mark ∷ after_columns (sections_of m))

lines_cut : (m : Parts) → IsProgramText m → (length m.columns == 0) ≡ false → lines_in (sections_of m) ≡ front m ++ (block_part m ++ rest m)
lines_cut m h some =
    let s = sections_of m in
    let block : columns_block m ≡ first_mark ∷ (blocks_of m ++ last_mark ∷ []) =
    ap (λ t. if t then [] else first_mark ∷ (blocks_of m ++ last_mark ∷ [])) some in
    ap (λ k. opening 1 (codes "NAME" ∷ []) (codes "NAME") ∷ opening 2 (codes "ROWS" ∷ []) (codes "ROWS") ∷ k)
    (items_first 3 (codes "ROWS") s.rows (after_rows s) ((are_sections m).rows)
    ∙ ap (λ k. row_part m ++ opening (row_end m) (codes "COLUMNS" ∷ []) (codes "COLUMNS") ∷ lines_from (suc (row_end m)) (codes "COLUMNS")
    (k ++ after_columns s)) block
    ∙ ap (λ k. row_part m ++ opening (row_end m) (codes "COLUMNS" ∷ []) (codes "COLUMNS") ∷ mark (suc (row_end m)) (codes "'INTORG'") ∷ k)
    (ap (lines_from (suc (suc (row_end m))) (codes "COLUMNS")) (append_assoc (blocks_of m) (last_mark ∷ []) (after_columns s))
    ∙ items_first (suc (suc (row_end m))) (codes "COLUMNS") (blocks_of m) (last_mark ∷ after_columns s)
    (triples_items (blocks_of m) (blocks_triples m h (enumerate_from 0 m.columns))))
    ∙ sym (append_assoc (row_part m) (marks m) (block_part m ++ rest m)))

front_items : (m : Parts) → items_of (codes "COLUMNS") (front m) ≡ mark (suc (row_end m)) (codes "'INTORG'") ∷ []
front_items m =
    filter-append (λ l. l.is_item && bytes_eq l.section (codes "COLUMNS")) (row_part m) (marks m)
    ∙ ap (λ k. k ++ items_of (codes "COLUMNS") (marks m))
    (items_none 3 (codes "ROWS") (codes "COLUMNS") ((sections_of m).rows) ((are_sections m).rows) refl)

rest_items : (m : Parts) → items_of (codes "COLUMNS") (rest m) ≡ mark (column_end m) (codes "'INTEND'") ∷ []
rest_items m =
    let s = sections_of m in
    let h = are_sections m in
    let a = suc (suc (column_end m)) in
    let b = suc (number_after a s.right_sides) in
    let c = suc (number_after b s.ranges) in
    ap (λ k. mark (column_end m) (codes "'INTEND'") ∷ k)
    (section_part a (codes "RHS") (codes "COLUMNS") s.right_sides (after_right_sides s) h.right_sides
    ∙ section_part b (codes "RANGES") (codes "COLUMNS") s.ranges (after_ranges s) h.ranges
    ∙ section_part c (codes "BOUNDS") (codes "COLUMNS") s.bounds (after_bounds s) h.bounds)

pub none_continuous : (m : Parts) (j : ℕ) (c : Column) → IsProgramText m → AreDistinct (map (λ k. k.name) m.columns)
    → slice_get m.columns j ≡ Some c → continuous_faults (lines_in (sections_of m)) c.name ≡ []
none_continuous m j c h d at =
    let ls = lines_in (sections_of m) in
    let cut = lines_cut m h (some_columns m.columns j c at) in
    let whole = begins_whole c.name (front m) (block_part m) (rest m) text_turned
    (ap (filter (λ l. not (is_marker l))) (front_items m))
    (ap (λ k. option_map_or (λ l. bytes_eq (field l 2) (codes "'INTORG'")) (last_of (filter is_marker k)) false) (front_items m))
    (plain_lines (suc (suc (row_end m))) (blocks_of m) (blocks_triples m h (enumerate_from 0 m.columns)))
    (ap (filter (λ l. not (is_marker l))) (rest_items m))
    (ap (λ k. is_among c.name (column_names k)) (sym cut)
    ∙ ap (is_among c.name) (names_read m h d)
    ∙ named_among (λ (y : Column). y.name) m.columns j c at) in
    ap (λ t. when (not (t || list_any (kind_is (codes "BV" ∷ codes "LI" ∷ codes "UI" ∷ [])) (bounds_on ls c.name))) (Continuous c.name))
    (ap (λ k. list_any (λ p. bytes_eq (column_name p.1) c.name && in_force p.0) (first_lines k)) cut ∙ whole)
