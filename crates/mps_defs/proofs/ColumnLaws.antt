-- The columns of a text as more lines come: which came, which begin, and whether markers are in force.
use Rattle.std.specs.Prelude.{◌≡◌, ℕ, nat_le, Bool, true, false, cond, ◌&&◌, ◌||◌, not, List, [], ◌∷◌, ◌++◌, length, map, filter, bytes_eq}
use Rattle.std.specs.Prelude.{codes}
use Rattle.std.specs.Option.{option_map_or}
use Rattle.std.proofs.Common.{refl, ap, sym, ◌∙◌, subst}
use Rattle.std.proofs.lemmas.List.{append-nil, map-append}
use Rattle.std.proofs.lemmas.List.Folds.{list_any-append}
use Rattle.ip_defs.specs.Lists.{when}
use Rattle.ip_defs.proofs.ListLaws.{filter-append}
use Rattle.ip_defs.proofs.TextLaws.{text_same}
use Rattle.mps_defs.specs.Lists.{last_of, with_earlier, is_among}
use Rattle.mps_defs.specs.Records.{Line, items_of, field, is_marker, in_force, column_lines, column_name, column_names, has_column}
use Rattle.mps_defs.specs.Records.{is_new_column, first_lines}
use Rattle.mps_defs.proofs.ListLaws.{by_last, with_earlier-add, one_kept}
use Rattle.mps_defs.proofs.LineLaws.{items_of-append}

-- ---- the lines of columns

abbrev pub is_column_line : Line → Bool
is_column_line l = (l.is_item && bytes_eq l.section (codes "COLUMNS")) && not (is_marker l)

pub column_lines-append : (xs ys : List Line) → column_lines (xs ++ ys) ≡ column_lines xs ++ column_lines ys
column_lines-append xs ys =
    ap (filter (λ l. not (is_marker l))) (items_of-append (codes "COLUMNS") xs ys)
    ∙ filter-append (λ l. not (is_marker l)) (items_of (codes "COLUMNS") xs) (items_of (codes "COLUMNS") ys)

pub column_line-one : (l : Line) → column_lines (l ∷ []) ≡ when (is_column_line l) l
column_line-one l = by (l.is_item && bytes_eq l.section (codes "COLUMNS")) (is_marker l) refl
  where
    by : (t u : Bool) → is_marker l ≡ u → filter (λ k. not (is_marker k)) (cond t (l ∷ []) []) ≡ when (t && not u) l
    by false u e = refl
    by true true e = ap (λ t. cond (not t) (l ∷ []) []) e
    by true false e = ap (λ t. cond (not t) (l ∷ []) []) e

pub names_on_lines-append : (xs ys : List Line)
    → map column_name (column_lines (xs ++ ys)) ≡ map column_name (column_lines xs) ++ map column_name (column_lines ys)
names_on_lines-append xs ys = ap (map column_name) (column_lines-append xs ys) ∙ map-append column_name (column_lines xs) (column_lines ys)

pub has_column-add : (ls : List Line) (l : Line) (name : List ℕ)
    → has_column (ls ++ l ∷ []) name ≡ (has_column ls name || is_among name (map column_name (column_lines (l ∷ []))))
has_column-add ls l name =
    ap (is_among name) (names_on_lines-append ls (l ∷ []))
    ∙ list_any-append (bytes_eq name) (map column_name (column_lines ls)) (map column_name (column_lines (l ∷ [])))

-- ---- the columns that begin

abbrev pub is_first : List Line × Line → Bool
is_first p = is_new_column p.0 p.1

abbrev pub name_in : List Line × Line → List ℕ
name_in p = column_name p.1

pub first_lines-add : (ls : List Line) (l : Line) → first_lines (ls ++ l ∷ []) ≡ first_lines ls ++ when (is_new_column ls l) (ls, l)
first_lines-add ls l =
    ap (filter is_first) (with_earlier-add ls l)
    ∙ filter-append is_first (with_earlier ls) ((ls, l) ∷ [])
    ∙ ap (λ ps. first_lines ls ++ ps) (one_kept (is_new_column ls l) (ls, l))

pub column_names-add : (ls : List Line) (l : Line)
    → column_names (ls ++ l ∷ []) ≡ column_names ls ++ when (is_new_column ls l) (column_name l)
column_names-add ls l =
    ap (map name_in) (first_lines-add ls l)
    ∙ map-append name_in (first_lines ls) (when (is_new_column ls l) (ls, l))
    ∙ by (is_new_column ls l)
  where
    by : (b : Bool) → column_names ls ++ map name_in (when b (ls, l)) ≡ column_names ls ++ when b (column_name l)
    by true = refl
    by false = refl

-- a column came exactly where it began
pub names_among : (name : List ℕ) (ls : List Line) → is_among name (column_names ls) ≡ has_column ls name
names_among name ls = by_last (λ ks. is_among name (column_names ks) ≡ has_column ks name) refl more ls
  where
    came : (ks : List Line) (l : Line) (t b : Bool) → bytes_eq name (column_name l) ≡ t → has_column ks (column_name l) ≡ b
        → (has_column ks name || is_among name (when (not b) (column_name l))) ≡ (has_column ks name || (t || false))
    came ks l t false e f = ap (λ k. has_column ks name || (k || false)) e
    came ks l false true e f = refl
    came ks l true true e f =
        let there = ap (has_column ks) (text_same name (column_name l) e) ∙ f in
        ap (λ k. k || false) there ∙ sym (ap (λ k. k || true) there)

    -- with the lines of columns that the line is
    GrowsBy : List Line → Line → List Line → Type 0
    GrowsBy ks l own =
        (has_column ks name || is_among name (when (nat_le 1 (length own) && not (has_column ks (column_name l))) (column_name l)))
        ≡ (has_column ks name || is_among name (map column_name own))

    by : (ks : List Line) (l : Line) (t : Bool) → GrowsBy ks l (when t l)
    by ks l true = came ks l (bytes_eq name (column_name l)) (has_column ks (column_name l)) refl refl
    by ks l false = refl

    more : (ks : List Line) (l : Line) → is_among name (column_names ks) ≡ has_column ks name
        → is_among name (column_names (ks ++ l ∷ [])) ≡ has_column (ks ++ l ∷ []) name
    more ks l so_far =
        ap (is_among name) (column_names-add ks l)
        ∙ list_any-append (bytes_eq name) (column_names ks) (when (is_new_column ks l) (column_name l))
        ∙ ap (λ b. b || is_among name (when (is_new_column ks l) (column_name l))) so_far
        ∙ subst (GrowsBy ks l) (sym (column_line-one l)) (by ks l (is_column_line l))
        ∙ sym (has_column-add ks l name)

-- ---- markers

-- a line that is no marker leaves integer columns in force or not
pub in_force-stays : (before : List Line) (l : Line) → is_marker l ≡ false → in_force (before ++ l ∷ []) ≡ in_force before
in_force-stays before l plain =
    ap (λ ls. option_map_or (λ k. bytes_eq (field k 2) (codes "'INTORG'")) (last_of ls) false)
    (ap (filter is_marker) (items_of-append (codes "COLUMNS") before (l ∷ []))
    ∙ filter-append is_marker (items_of (codes "COLUMNS") before) (items_of (codes "COLUMNS") (l ∷ []))
    ∙ ap (λ k. filter is_marker (items_of (codes "COLUMNS") before) ++ k) (by (l.is_item && bytes_eq l.section (codes "COLUMNS")))
    ∙ append-nil (filter is_marker (items_of (codes "COLUMNS") before)))
  where
    by : (t : Bool) → filter is_marker (cond t (l ∷ []) []) ≡ []
    by false = refl
    by true = ap (λ u. cond u (l ∷ []) []) plain
