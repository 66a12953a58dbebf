-- A model that is read of a text without a fault is printable but for a column named 'MARKER' and a carriage return inside a name: its
-- rows are not crossed, and its names are fields, which are not empty and have no blank, tab or line feed.
use Rattle.std.specs.Prelude.{◌≡◌, ℕ, ◌==◌, nat_le, ◌-◌, Bool, true, false, ◌&&◌, ◌||◌, not, cond, if◌then◌else◌, List, [], ◌∷◌, ◌++◌}
use Rattle.std.specs.Prelude.{length, take, map, option_map, unwrap_or, slice_index_or, bytes_eq, codes}
use Rattle.std.specs.Prelude.{zero, suc}
use Rattle.std.specs.List.{slice_split, onto_first, list_any, list_all, enumerate_from}
use Rattle.std.proofs.Common.{refl, arith, ap, sym, ◌∙◌, subst}
use Rattle.std.proofs.lemmas.Bool.{eqb-true, ne_eqb}
use Rattle.std.proofs.lemmas.List.Folds.{list_any-append}
use Rattle.std.proofs.lemmas.List.Splits.{slice_split-cons_yes, slice_split-cons_no}
use Rattle.std.proofs.lemmas.Slice.Eq.{bytes_eq-Decides}
use Rattle.ip_defs.specs.Lists.{Each}
use Rattle.ip_defs.specs.declared.programs.Column.{Column}
use Rattle.ip_defs.specs.declared.programs.Row.{Row}
use Rattle.ip_defs.specs.declared.programs.Parts.{Parts}
use Rattle.ip_defs.proofs.BoolLaws.{left_false, right_false, left_true}
use Rattle.ip_defs.proofs.ListLaws.{each_weaker, each_numbered, none_append}
use Rattle.ip_defs.proofs.TextLaws.{text_turned}
use Rattle.mps_defs.specs.Lists.{is_among, with_earlier, through_first}
use Rattle.mps_defs.specs.Records.{Line, is_line_end, is_blank, without_return, fields_of, is_read, numbered, is_end_line, line_of}
use Rattle.mps_defs.specs.Records.{lines_of}
use Rattle.mps_defs.specs.Records.{row_name, row_lines, is_free, column_name}
use Rattle.mps_defs.specs.Records.{column_names, first_lines, is_new_column}
use Rattle.mps_defs.specs.CanonicalText.{is_separator, is_printable_name}
use Rattle.mps_defs.specs.Faults.{line_faults, faults_after, model_of}
use Rattle.mps_defs.proofs.UncrossedLaws.{no_row_crossed}
use Rattle.text_laws.specs.ReadBack.{has_return, ModelsReadArePrintable}
use Rattle.text_laws.proofs.EachLaws.{each_filter, each_kept, each_of_map, each_through, each_those}
use Rattle.text_laws.proofs.DistinctReadLaws.{row_line}
use Rattle.text_laws.proofs.ListLaws.{each_both}
use Rattle.text_laws.proofs.ReadCanonicalLaws.{IsFaultless, bound_lines, faultless, find_each, read_column, read_row}
use Rattle.text_laws.proofs.Utf8ReadLaws.{first_part}

-- ---- parts between the bytes at which a text is cut

-- a part has no byte of a kind that the text has only where it is cut
parts_without : (kind cut : ℕ → Bool) (xs : List ℕ) → Each (λ x. cut x ≡ false → kind x ≡ false) xs
    → Each (λ part. list_any kind part ≡ false) (slice_split cut xs)
parts_without kind cut [] all = (refl, tt)
parts_without kind cut (x ∷ xs) all = by (cut x) refl (parts_without kind cut xs all.1)
  where
    by : (t : Bool) → cut x ≡ t → Each (λ part. list_any kind part ≡ false) (slice_split cut xs)
        → Each (λ part. list_any kind part ≡ false) (slice_split cut (x ∷ xs))
    by true e rest =
        subst (Each (λ part. list_any kind part ≡ false)) (sym (slice_split-cons_yes cut x xs e)) (refl, rest)
    by false e rest =
        let first = first_part cut xs in
        let parts : Each (λ part. list_any kind part ≡ false) (first.0 ∷ first.1) =
        subst (Each (λ part. list_any kind part ≡ false)) first.2 rest in
        subst (Each (λ part. list_any kind part ≡ false)) (sym (slice_split-cons_no cut x xs e ∙ ap (onto_first x) first.2))
        (ap (λ t. t || list_any kind first.0) (all.0 e) ∙ parts.0, parts.1)

each_cut : (cut : ℕ → Bool) (xs : List ℕ) → Each (λ x. cut x ≡ false → cut x ≡ false) xs
each_cut cut [] = tt
each_cut cut (x ∷ xs) = (λ e. e, each_cut cut xs)

each_without : (kind cut : ℕ → Bool) (xs : List ℕ) → list_any kind xs ≡ false → Each (λ x. cut x ≡ false → kind x ≡ false) xs
each_without kind cut [] none = tt
each_without kind cut (x ∷ xs) none = (
  λ e. left_false (kind x) (list_any kind xs) none,
  each_without kind cut xs (right_false (kind x) (list_any kind xs) none),
)

take_without : (kind : ℕ → Bool) (n : ℕ) (xs : List ℕ) → list_any kind xs ≡ false → list_any kind (take n xs) ≡ false
take_without kind zero xs none = refl
take_without kind (suc n) [] none = refl
take_without kind (suc n) (x ∷ xs) none =
    ap (λ t. t || list_any kind (take n xs)) (left_false (kind x) (list_any kind xs) none)
    ∙ take_without kind n xs (right_false (kind x) (list_any kind xs) none)

return_without : (line : List ℕ) → list_any is_line_end line ≡ false → list_any is_line_end (without_return line) ≡ false
return_without line none = by (slice_index_or line (length line - 1) 0 == 13)
  where
    by : (t : Bool) → list_any is_line_end (if t then take (length line - 1) line else line) ≡ false
    by true = take_without is_line_end (length line - 1) line none
    by false = none

-- ---- fields

-- a field is not empty and has no blank, tab or line feed
record IsField (f : List ℕ) : Type 0 where
  some : (length f == 0) ≡ false
  blanks : list_any is_blank f ≡ false
  ends : list_any is_line_end f ≡ false

not_empty : (f : List ℕ) → nat_le 1 (length f) ≡ true → (length f == 0) ≡ false
not_empty [] e = absurd cc
not_empty (b ∷ bs) e = ne_eqb (length (b ∷ bs)) 0 (λ z. omega arith)

abbrev IsCut : List ℕ → Type 0
IsCut f = (list_any is_blank f ≡ false) × (list_any is_line_end f ≡ false)

fields_cut : (line : List ℕ) → list_any is_line_end line ≡ false → Each IsField (fields_of line)
fields_cut line none =
    each_both (λ f. nat_le 1 (length f) ≡ true) IsCut IsField (fields_of line)
    (each_kept (λ f. nat_le 1 (length f)) (slice_split is_blank line))
    (each_filter IsCut (λ f. nat_le 1 (length f)) (slice_split is_blank line)
    (each_both (λ f. list_any is_blank f ≡ false) (λ f. list_any is_line_end f ≡ false) IsCut (slice_split is_blank line)
    (parts_without is_blank is_blank line (each_cut is_blank line))
    (parts_without is_line_end is_blank line (each_without is_line_end is_blank line none)) (λ f b e. (b, e))))
    (λ f e c. record { some = not_empty f e; blanks = c.0; ends = c.1 })

-- a line of a text has fields, and no others
record IsCutLine (l : Line) : Type 0 where
  some : nat_le 1 (length l.fields) ≡ true
  all : Each IsField l.fields

record IsCutText (line : List ℕ) : Type 0 where
  some : nat_le 1 (length (fields_of line)) ≡ true
  all : Each IsField (fields_of line)

lines_cut : (text : List ℕ) → Each IsCutLine (lines_of text)
lines_cut text =
    each_of_map IsCutLine line_of (with_earlier (through_first is_end_line (numbered text)))
    (each_weaker (λ q. IsCutText q.1.1) (λ q. IsCutLine (line_of q)) (with_earlier (through_first is_end_line (numbered text)))
    (λ q h. record { some = h.some; all = h.all }) (each_those (λ p. IsCutText p.1) [] (through_first is_end_line (numbered text))
    (each_through (λ p. IsCutText p.1) is_end_line (numbered text) kept)))
  where
    raw : List (List ℕ)
    raw = slice_split is_line_end text

    plain : Each (λ line. list_any is_line_end line ≡ false) (map without_return raw)
    plain = each_of_map (λ line. list_any is_line_end line ≡ false) without_return raw
        (each_weaker (λ line. list_any is_line_end line ≡ false) (λ line. list_any is_line_end (without_return line) ≡ false) raw
        return_without (parts_without is_line_end is_line_end text (each_cut is_line_end text)))

    kept : Each (λ p. IsCutText p.1) (numbered text)
    kept = each_both (λ p. is_read p ≡ true) (λ p. list_any is_line_end p.1 ≡ false) (λ p. IsCutText p.1) (numbered text)
        (each_kept is_read (enumerate_from 1 (map without_return raw)))
        (each_filter (λ p. list_any is_line_end p.1 ≡ false) is_read (enumerate_from 1 (map without_return raw))
        (each_numbered (λ line. list_any is_line_end line ≡ false) 1 (map without_return raw) plain))
        (λ p e none. record { some = left_true (nat_le 1 (length (fields_of p.1))) _ e; all = fields_cut p.1 none })

-- ---- names

-- of the separators, a field can have carriage returns alone
returns_alone : (f : List ℕ) → list_any is_blank f ≡ false → list_any is_line_end f ≡ false → list_any is_separator f ≡ has_return f
returns_alone [] blanks ends = refl
returns_alone (b ∷ bs) blanks ends =
    by (b == 32) (b == 9) (b == 13) (b == 10) (left_false (is_blank b) (list_any is_blank bs) blanks)
    (left_false (is_line_end b) (list_any is_line_end bs) ends)
    (returns_alone bs (right_false (is_blank b) (list_any is_blank bs) blanks) (right_false (is_line_end b) (list_any is_line_end bs) ends))
  where
    by : (blank tab return end : Bool) → (blank || tab) ≡ false → end ≡ false → list_any is_separator bs ≡ has_return bs
        → ((((blank || tab) || return) || end) || list_any is_separator bs) ≡ (return || has_return bs)
    by false false true false e g same = refl
    by false false false false e g same = same
    by true tab return end e g same = absurd cc
    by false true return end e g same = absurd cc
    by false false return true e g same = absurd cc

abbrev is_marker_name : List ℕ → Bool
is_marker_name name = bytes_eq (codes "'MARKER'") name

-- a field as a name
field_printable : (f : List ℕ) → IsField f → is_printable_name f ≡ (not (is_marker_name f) && not (has_return f))
field_printable f h =
    ap (λ t. not t && not (bytes_eq f (codes "'MARKER'")) && not (list_any is_separator f)) h.some
    ∙ ap (λ t. not t && not (list_any is_separator f)) (text_turned f (codes "'MARKER'"))
    ∙ ap (λ t. not (is_marker_name f) && not t) (returns_alone f h.blanks h.ends)

-- the columns' names
names_printable : {A : Type 0} (name : A → List ℕ) (xs : List A) → Each (λ x. IsField (name x)) xs
    → list_all (λ x. is_printable_name (name x)) xs
    ≡ (not (is_among (codes "'MARKER'") (map name xs)) && not (list_any has_return (map name xs)))
names_printable name [] all = refl
names_printable name (x ∷ xs) all =
    ap (λ t. t && list_all (λ y. is_printable_name (name y)) xs) (field_printable (name x) all.0)
    ∙ ap (λ t. (not (is_marker_name (name x)) && not (has_return (name x))) && t) (names_printable name xs all.1)
    ∙ by (is_marker_name (name x)) (has_return (name x)) (is_among (codes "'MARKER'") (map name xs))
    (list_any has_return (map name xs))
  where
    by : (m r ms rs : Bool) → ((not m && not r) && (not ms && not rs)) ≡ (not (m || ms) && not (r || rs))
    by false false ms rs = refl
    by false true false rs = refl
    by false true true rs = refl
    by true r ms rs = refl

-- ---- rows

-- a line of ROWS has two fields, and the second is not 'MARKER'
record IsNamedRow (l : Line) : Type 0 where
  count : (length l.fields == 2) ≡ true
  plain : bytes_eq (row_name l) (codes "'MARKER'") ≡ false

rows_lines : (before ls : List Line) → faults_after before ls ≡ [] → Each IsNamedRow (row_lines ls)
rows_lines before [] none = tt
rows_lines before (l ∷ ls) none =
    let parts = none_append (line_faults before l) (faults_after (before ++ l ∷ []) ls) none in
    by l.is_item (bytes_eq l.section (codes "ROWS")) refl refl parts.0 (rows_lines (before ++ l ∷ []) ls parts.1)
  where
    by : (t u : Bool) → l.is_item ≡ t → bytes_eq l.section (codes "ROWS") ≡ u → line_faults before l ≡ []
        → Each IsNamedRow (row_lines ls) → Each IsNamedRow (cond (t && u) (l ∷ row_lines ls) (row_lines ls))
    by true true e f none rest =
        let right = row_line before l e ((bytes_eq-Decides l.section (codes "ROWS")).0 f) none in
        (record { count = right.count; plain = right.plain }, rest)
    by true false e f none rest = rest
    by false u e f none rest = rest

-- a row's name is a field, and not 'MARKER'
record IsRowName (name : List ℕ) : Type 0 where
  field : IsField name
  plain : is_marker_name name ≡ false

named_row : (l : Line) → IsCutLine l → IsNamedRow l → IsRowName (row_name l)
named_row l cut row = record {
  field = second l.fields (eqb-true (length l.fields) 2 row.count) cut.all;
  plain = text_turned (codes "'MARKER'") (row_name l) ∙ row.plain;
}
  where
    second : (fs : List (List ℕ)) → length fs ≡ 2 → Each IsField fs → IsField (slice_index_or fs 1 [])
    second [] two all = absurd (omega (arith, two))
    second (f ∷ []) two all = absurd (omega (arith, two))
    second (f ∷ g ∷ fs) two all = (all.1).0

row_printable : (name : List ℕ) → IsRowName name → is_printable_name name ≡ not (has_return name)
row_printable name h = field_printable name h.field ∙ ap (λ t. not t && not (has_return name)) h.plain

rows_printable : {A : Type 0} (name : A → List ℕ) (xs : List A) → Each (λ x. IsRowName (name x)) xs
    → list_all (λ x. is_printable_name (name x)) xs ≡ not (list_any has_return (map name xs))
rows_printable name [] all = refl
rows_printable name (x ∷ xs) all =
    ap (λ t. t && list_all (λ y. is_printable_name (name y)) xs) (row_printable (name x) all.0)
    ∙ ap (λ t. not (has_return (name x)) && t) (rows_printable name xs all.1)
    ∙ by (has_return (name x)) (list_any has_return (map name xs))
  where
    by : (r rs : Bool) → (not r && not rs) ≡ not (r || rs)
    by false rs = refl
    by true rs = refl

-- ---- the law

named_column : (l : Line) → IsCutLine l → IsField (column_name l)
named_column l cut = first l.fields cut.some cut.all
  where
    first : (fs : List (List ℕ)) → nat_le 1 (length fs) ≡ true → Each IsField fs → IsField (slice_index_or fs 0 [])
    first [] some all = absurd cc
    first (f ∷ fs) some all = all.0

pub models_printable : ModelsReadArePrintable
models_printable text how none =
    ap (λ t. not t && is_printable_name m.objective && list_all (λ (c : Column). is_printable_name c.name) m.columns
    && list_all (λ (r : Row). is_printable_name r.name) m.rows) (no_row_crossed text how)
    ∙ ap (λ t. t && list_all (λ (c : Column). is_printable_name c.name) m.columns
    && list_all (λ (r : Row). is_printable_name r.name) m.rows) (row_printable m.objective objective_name)
    ∙ ap (λ t. not (has_return m.objective) && t && list_all (λ (r : Row). is_printable_name r.name) m.rows)
    (names_printable (λ (c : Column). c.name) m.columns columns)
    ∙ ap (λ t. not (has_return m.objective) && (not (is_among (codes "'MARKER'") (map (λ (c : Column). c.name) m.columns))
    && not (list_any has_return (map (λ (c : Column). c.name) m.columns))) && t) (rows_printable (λ (r : Row). r.name) m.rows rows)
    ∙ by (has_return m.objective) (is_among (codes "'MARKER'") names) (list_any has_return names)
    (list_any has_return (map (λ (r : Row). r.name) m.rows))
    ∙ ap (λ t. not (is_among (codes "'MARKER'") names) && not (has_return m.objective || t))
    (sym (list_any-append has_return names (map (λ (r : Row). r.name) m.rows)))
  where
    m : Parts
    m = model_of text how

    names : List (List ℕ)
    names = map (λ (c : Column). c.name) m.columns

    ls : List Line
    ls = lines_of text

    h : IsFaultless text how
    h = faultless text how none

    cut : Each IsCutLine ls
    cut = lines_cut text

    named : Each (λ l. IsRowName (row_name l)) (row_lines ls)
    named = each_both IsCutLine IsNamedRow (λ l. IsRowName (row_name l)) (row_lines ls)
        (each_filter IsCutLine (λ l. l.is_item && bytes_eq l.section (codes "ROWS")) ls cut) (rows_lines [] ls h.lines) named_row

    objective_name : IsRowName m.objective
    objective_name = subst (λ o. IsRowName (unwrap_or (option_map row_name o) [])) (sym (h.objective).1)
        (find_each (λ l. IsRowName (row_name l)) is_free (row_lines ls) (h.objective).0 named (h.objective).1)

    rows : Each (λ (r : Row). IsRowName r.name) m.rows
    rows = each_of_map (λ (r : Row). IsRowName r.name) (read_row how ls) (bound_lines ls)
        (each_filter (λ l. IsRowName (row_name l)) (λ l. not (is_free l)) (row_lines ls) named)

    columns : Each (λ (c : Column). IsField c.name) m.columns
    columns = each_of_map (λ (c : Column). IsField c.name) (read_column how ls) (column_names ls)
        (each_of_map IsField (λ (p : List Line × Line). column_name p.1) (first_lines ls)
        (each_filter (λ (p : List Line × Line). IsField (column_name p.1)) (λ p. is_new_column p.0 p.1) (with_earlier ls)
        (each_weaker (λ (p : List Line × Line). IsCutLine p.1) (λ p. IsField (column_name p.1)) (with_earlier ls)
        (λ p f. named_column p.1 f) (each_those IsCutLine [] ls cut))))

    by : (o mark cs rs : Bool) → (not o && (not mark && not cs) && not rs) ≡ (not mark && not (o || (cs || rs)))
    by false false false rs = refl
    by false false true rs = refl
    by false true cs rs = refl
    by true false cs rs = refl
    by true true cs rs = refl
