-- The names of rows and of columns that are read of lines without a fault differ.
use Rattle.std.specs.Prelude.{◌≡◌, ℕ, ◌==◌, Bool, true, false, ◌&&◌, ◌||◌, not, cond, if◌then◌else◌, List, [], ◌∷◌, ◌++◌, length, drop}
use Rattle.std.specs.Prelude.{map}
use Rattle.std.specs.Prelude.{filter, find, Some, bytes_eq, codes}
use Rattle.std.proofs.Common.{refl, ap, sym, ◌∙◌, subst}
use Rattle.std.proofs.lemmas.Bool.{not-false}
use Rattle.std.proofs.lemmas.List.Folds.{list_any-append}
use Rattle.std.proofs.lemmas.Slice.Eq.{bytes_eq-Decides}
use Rattle.mps_defs.specs.Lists.{is_among, AreDistinct}
use Rattle.ip_defs.specs.Lists.{when, Each}
use Rattle.mps_defs.specs.Records.{Line, items_of, words_of, row_lines, row_kind, row_name, is_marker, column_name, column_names}
use Rattle.mps_defs.specs.Records.{entries_from, entries_of, all_entries, kept_entries, is_kept, is_columns, set_of, names_set, is_free}
use Rattle.mps_defs.specs.Records.{row_names}
use Rattle.mps_defs.specs.Faults.{line_faults, row_faults}
use Rattle.mps_defs.specs.declared.reading.MpsError.TheVariants.{SectionOrder, FieldCount, RowKind, TwiceRow, Marker}
use Rattle.text_laws.proofs.ListLaws.{each_both, each_flat}
use Rattle.text_laws.proofs.SectionLaws.{new_names, names_of, names_are}
use Rattle.text_laws.proofs.EachLaws.{each_filter, each_kept}
use Rattle.text_laws.proofs.SoundLaws.{IsSound, sound_line, sound_next}
use Rattle.text_laws.proofs.KeptReadLaws.{by_parts}
use Rattle.ip_defs.proofs.BoolLaws.{both_true, left_false, right_false, either_true}
use Rattle.ip_defs.proofs.ListLaws.{each_weaker, none_append, none_when}
use Rattle.std.proofs.lemmas.List.{append-nil, append_assoc, map-append}
use Rattle.mps_defs.proofs.LineLaws.{items_of-append}
use Rattle.ip_defs.proofs.TextLaws.{text_self}
use Rattle.mps_defs.proofs.PlaceLaws.{apart_turned}
use Rattle.mps_defs.proofs.ListLaws.{fewer_among}
use Rattle.mps_defs.proofs.ColumnLaws.{names_among}

-- ---- columns

not_first : (name c : List ℕ) (seen : List (List ℕ)) → is_among name (seen ++ c ∷ []) ≡ false
    → (is_among name seen ≡ false) × (bytes_eq name c ≡ false)
not_first name c seen e =
    let both = sym (list_any-append (bytes_eq name) seen (c ∷ [])) ∙ e in (
      left_false (is_among name seen) (is_among name (c ∷ [])) both,
      left_false (bytes_eq name c) false
          (right_false (is_among name seen) (is_among name (c ∷ [])) both),
    )

-- new names did not come before
names_fresh : (seen ns : List (List ℕ)) → Each (λ n. is_among n seen ≡ false) (new_names seen ns)
names_fresh seen [] = tt
names_fresh seen (c ∷ cs) =
    by (is_among c seen) refl
    (each_weaker (λ n. is_among n (seen ++ c ∷ []) ≡ false) (λ n. is_among n seen ≡ false) (new_names (seen ++ c ∷ []) cs)
    (λ n e. (not_first n c seen e).0) (names_fresh (seen ++ c ∷ []) cs))
  where
    by : (t : Bool) → is_among c seen ≡ t → Each (λ n. is_among n seen ≡ false) (new_names (seen ++ c ∷ []) cs)
        → Each (λ n. is_among n seen ≡ false) (when (not t) c ++ new_names (seen ++ c ∷ []) cs)
    by true e rest = rest
    by false e rest = (e, rest)

none_named : (c : List ℕ) (ns : List (List ℕ)) → Each (λ n. bytes_eq n c ≡ false) ns → is_among c ns ≡ false
none_named c [] all = refl
none_named c (n ∷ ns) all = ap (λ t. t || is_among c ns) (apart_turned n c all.0) ∙ none_named c ns all.1

names_distinct : (seen ns : List (List ℕ)) → AreDistinct (new_names seen ns)
names_distinct seen [] = tt
names_distinct seen (c ∷ cs) = by (is_among c seen) (names_distinct (seen ++ c ∷ []) cs)
  where
    by : (t : Bool) → AreDistinct (new_names (seen ++ c ∷ []) cs) → AreDistinct (when (not t) c ++ new_names (seen ++ c ∷ []) cs)
    by true rest = rest
    by false rest = (
      none_named c (new_names (seen ++ c ∷ []) cs)
          (each_weaker (λ n. is_among n (seen ++ c ∷ []) ≡ false) (λ n. bytes_eq n c ≡ false) (new_names (seen ++ c ∷ []) cs)
          (λ n e. (not_first n c seen e).1) (names_fresh (seen ++ c ∷ []) cs)),
      rest,
    )

pub columns_distinct : (ls : List Line) → AreDistinct (column_names ls)
columns_distinct ls = subst AreDistinct (sym (names_are ls)) (names_distinct [] (names_of ls))

-- ---- rows

distinct_more : (xs : List (List ℕ)) (x : List ℕ) → AreDistinct xs → is_among x xs ≡ false → AreDistinct (xs ++ x ∷ [])
distinct_more [] x d e = (refl, tt)
distinct_more (y ∷ ys) x d e = (
  list_any-append (bytes_eq y) ys (x ∷ [])
      ∙ ap (λ t. t || (bytes_eq y x || false)) d.0
      ∙ ap (λ t. t || false) (apart_turned x y (left_false (bytes_eq x y) (is_among x ys) e)),
  distinct_more ys x d.1 (right_false (bytes_eq x y) (is_among x ys) e),
)

-- a line of ROWS has two fields, a name that did not come before, and not the word of a marker line
pub record IsRowLine (before : List Line) (l : Line) : Type 0 where
  pub count : (length l.fields == 2) ≡ true
  pub new : is_among (row_name l) (row_names before) ≡ false
  pub plain : bytes_eq (row_name l) (codes "'MARKER'") ≡ false

pub row_line : (before : List Line) (l : Line) → l.is_item ≡ true → l.section ≡ codes "ROWS" → line_faults before l ≡ []
    → IsRowLine before l
row_line before l item own =
    by_parts (λ k. line_faults before k ≡ [] → IsRowLine before k) l (codes "ROWS") item own
    (parts (record { number = l.number; is_item = true; section = codes "ROWS"; fields = l.fields }))
  where
    parts : (k : Line) → when (not (is_among (codes "ROWS") (words_of before))) (SectionOrder k.number) ++ row_faults before k ≡ []
        → IsRowLine before k
    parts k none =
        let count = when (not (length k.fields == 2)) (FieldCount k.number) in
        let kind = when (not (is_among (row_kind k) (codes "N" ∷ codes "L" ∷ codes "G" ∷ codes "E" ∷ []))) (RowKind k.number) in
        let twice = when (is_among (row_name k) (row_names before)) (TwiceRow k.number) in
        let mark = when (bytes_eq (row_name k) (codes "'MARKER'")) (Marker k.number) in
        let own = none_append (when (not (is_among (codes "ROWS") (words_of before))) (SectionOrder k.number)) (row_faults before k) none in
        let last = none_append (count ++ kind ++ twice) mark own.1 in
        let third = none_append (count ++ kind) twice last.0 in
        let second = none_append count kind third.0 in
        record {
          count = not-false (length k.fields == 2) (none_when (not (length k.fields == 2)) (FieldCount k.number) second.0);
          new = none_when (is_among (row_name k) (row_names before)) (TwiceRow k.number) third.1;
          plain = none_when (bytes_eq (row_name k) (codes "'MARKER'")) (Marker k.number) last.1;
        }

rows_distinct : (word : List ℕ) (before ls : List Line) → IsSound word before ls → AreDistinct (row_names before)
    → AreDistinct (row_names (before ++ ls))
rows_distinct word before [] sound d = subst (λ ks. AreDistinct (row_names ks)) (sym (append-nil before)) d
rows_distinct word before (l ∷ ls) sound d =
    subst (λ ks. AreDistinct (row_names ks)) (append_assoc before (l ∷ []) ls)
    (rows_distinct l.section (before ++ l ∷ []) ls (sound_next word before ls l sound)
    (subst AreDistinct (sym (ap (map row_name) (items_of-append (codes "ROWS") before (l ∷ []))
    ∙ map-append row_name (row_lines before) (row_lines (l ∷ [])))) (by l.is_item (bytes_eq l.section (codes "ROWS")) refl refl)))
  where
    by : (t u : Bool) → l.is_item ≡ t → bytes_eq l.section (codes "ROWS") ≡ u → AreDistinct (row_names before ++ row_names (l ∷ []))
    by true true e f =
        let mine : row_names (l ∷ []) ≡ row_name l ∷ [] =
        ap (λ t. map row_name (cond (t && bytes_eq l.section (codes "ROWS")) (l ∷ []) [])) e
        ∙ ap (λ t. map row_name (cond t (l ∷ []) [])) f in
        subst (λ k. AreDistinct (row_names before ++ k)) (sym mine)
        (distinct_more (row_names before) (row_name l) d
        (row_line before l e ((bytes_eq-Decides l.section (codes "ROWS")).0 f) (sound_line word before ls l sound)).new)
    by true false e f =
        let mine : row_names (l ∷ []) ≡ [] =
        ap (λ t. map row_name (cond (t && bytes_eq l.section (codes "ROWS")) (l ∷ []) [])) e
        ∙ ap (λ t. map row_name (cond t (l ∷ []) [])) f in
        subst (λ k. AreDistinct (row_names before ++ k)) (sym mine) (subst AreDistinct (sym (append-nil (row_names before))) d)
    by false u e f =
        let mine : row_names (l ∷ []) ≡ [] = ap (λ t. map row_name (cond (t && bytes_eq l.section (codes "ROWS")) (l ∷ []) [])) e in
        subst (λ k. AreDistinct (row_names before ++ k)) (sym mine) (subst AreDistinct (sym (append-nil (row_names before))) d)

fewer_distinct : {A : Type 0} (f : A → List ℕ) (keeps : A → Bool) (xs : List A) → AreDistinct (map f xs)
    → AreDistinct (map f (filter keeps xs))
fewer_distinct f keeps [] d = tt
fewer_distinct {A} f keeps (x ∷ xs) d = by (keeps x) (fewer_distinct f keeps xs d.1)
  where
    by : (t : Bool) → AreDistinct (map f (filter keeps xs)) → AreDistinct (map f (cond t (x ∷ filter keeps xs) (filter keeps xs)))
    by true rest = (fewer_among f keeps (f x) xs d.0, rest)
    by false rest = rest

found_among : {A : Type 0} (f : A → List ℕ) (test : A → Bool) (name : List ℕ) (xs : List A) (x : A) → is_among name (map f xs) ≡ false
    → find test xs ≡ Some x → bytes_eq name (f x) ≡ false
found_among f test name [] x e at = absurd cc
found_among {A} f test name (y ∷ ys) x e at =
    by (test y) at (λ g. found_among f test name ys x (right_false (bytes_eq name (f y)) (is_among name (map f ys)) e) g)
  where
    by : (t : Bool) → cond t (Some y) (find test ys) ≡ Some x → (find test ys ≡ Some x → bytes_eq name (f x) ≡ false)
        → bytes_eq name (f x) ≡ false
    by true g rest =
        let same : y ≡ x = cc in ap (λ k. bytes_eq name (f k)) (sym same) ∙ left_false (bytes_eq name (f y)) (is_among name (map f ys)) e
    by false g rest = rest g

first_and_others : {A : Type 0} (f : A → List ℕ) (test : A → Bool) (xs : List A) (x : A) → AreDistinct (map f xs) → find test xs ≡ Some x
    → is_among (f x) (map f (filter (λ k. not (test k)) xs)) ≡ false
first_and_others f test [] x d at = refl
first_and_others {A} f test (y ∷ ys) x d at = by (test y) at (λ g. first_and_others f test ys x d.1 g)
  where
    others : List A
    others = filter (λ k. not (test k)) ys

    by : (t : Bool) → cond t (Some y) (find test ys) ≡ Some x → (find test ys ≡ Some x → is_among (f x) (map f others) ≡ false)
        → is_among (f x) (map f (cond (not t) (y ∷ others) others)) ≡ false
    by true g rest =
        let same : y ≡ x = cc in ap (λ k. is_among (f k) (map f others)) (sym same) ∙ fewer_among f (λ k. not (test k)) (f y) ys d.0
    by false g rest = ap (λ t. t || is_among (f x) (map f others)) (apart_turned (f y) (f x) (found_among f test (f y) ys x d.0 g)) ∙ rest g

-- the objective's name and those of the rows that are no N rows
pub row_names_distinct : (ls : List Line) (l : Line) → IsSound [] [] ls → find is_free (row_lines ls) ≡ Some l
    → AreDistinct (row_name l ∷ map row_name (filter (λ k. not (is_free k)) (row_lines ls)))
row_names_distinct ls l sound at =
    let d = rows_distinct [] [] ls sound tt in
    (first_and_others row_name is_free (row_lines ls) l d at, fewer_distinct row_name (λ k. not (is_free k)) (row_lines ls) d)

-- ---- the owners of entries

-- the owner of each entry of COLUMNS is the name on a line of a column
owned_from : (n : ℕ) (owner : List ℕ) (fs : List (List ℕ)) → Each (λ e. e.owner ≡ owner) (entries_from n owner fs)
owned_from n owner [] = tt
owned_from n owner (f ∷ []) = tt
owned_from n owner (f ∷ g ∷ fs) = (refl, owned_from n owner fs)

abbrev columns_among : List Line → List (List ℕ)
columns_among ls = map column_name (filter (λ k. not (is_marker k)) ls)

lines_among : (ls : List Line) → Each (λ l. is_marker l ≡ false → is_among (column_name l) (columns_among ls) ≡ true) ls
lines_among [] = tt
lines_among (l ∷ ls) = (
  here (is_marker l),
  each_weaker (λ k. is_marker k ≡ false → is_among (column_name k) (columns_among ls) ≡ true)
      (λ k. is_marker k ≡ false → is_among (column_name k) (columns_among (l ∷ ls)) ≡ true) ls (λ k h e. later (is_marker l) k (h e))
      (lines_among ls),
)
  where
    rest : List Line
    rest = filter (λ k. not (is_marker k)) ls

    here : (t : Bool) → t ≡ false → is_among (column_name l) (map column_name (cond (not t) (l ∷ rest) rest)) ≡ true
    here true e = absurd cc
    here false e = ap (λ u. u || is_among (column_name l) (map column_name rest)) (text_self (column_name l))

    later : (t : Bool) (k : Line) → is_among (column_name k) (map column_name rest) ≡ true
        → is_among (column_name k) (map column_name (cond (not t) (l ∷ rest) rest)) ≡ true
    later true k h = h
    later false k h = either_true (bytes_eq (column_name k) (column_name l)) (is_among (column_name k) (map column_name rest)) h

line_owned : (names : List (List ℕ)) (l : Line) → (l.is_item && bytes_eq l.section (codes "COLUMNS")) ≡ true
    → (is_marker l ≡ false → is_among (column_name l) names ≡ true) → Each (λ e. is_among e.owner names ≡ true) (entries_of l)
line_owned names l item h =
    let parts = both_true l.is_item (bytes_eq l.section (codes "COLUMNS")) item in
    by (is_columns l.section) (is_marker l) parts.1 refl
  where
    by : (t u : Bool) → t ≡ true → is_marker l ≡ u
        → Each (λ e. is_among e.owner names ≡ true) (if t then (if u then [] else entries_from l.number (column_name l) (drop 1 l.fields))
        else entries_from l.number (set_of l) (if names_set l then drop 1 l.fields else l.fields))
    by false u e f = absurd cc
    by true true e f = tt
    by true false e f =
        each_weaker (λ k. k.owner ≡ column_name l) (λ k. is_among k.owner names ≡ true)
        (entries_from l.number (column_name l) (drop 1 l.fields)) (λ k g. ap (λ o. is_among o names) g ∙ h f)
        (owned_from l.number (column_name l) (drop 1 l.fields))

-- each entry of COLUMNS is for a column
pub entries_owned : (ls : List Line) → Each (λ e. is_among e.owner (column_names ls) ≡ true) (kept_entries (codes "COLUMNS") ls)
entries_owned ls =
    let items = items_of (codes "COLUMNS") ls in
    let names = column_names ls in
    let own = each_both (λ l. (l.is_item && bytes_eq l.section (codes "COLUMNS")) ≡ true)
    (λ l. is_marker l ≡ false → is_among (column_name l) (columns_among items) ≡ true)
    (λ l. Each (λ e. is_among e.owner names ≡ true) (entries_of l)) items
    (each_kept (λ l. l.is_item && bytes_eq l.section (codes "COLUMNS")) ls) (lines_among items)
    (λ l item h. line_owned names l item (λ e. names_among (column_name l) ls ∙ h e)) in
    each_filter (λ e. is_among e.owner names ≡ true) (is_kept (codes "COLUMNS") ls) (all_entries (codes "COLUMNS") ls)
    (each_flat (λ l. Each (λ e. is_among e.owner names ≡ true) (entries_of l)) (λ e. is_among e.owner names ≡ true) entries_of items own
    (λ l h. h))
