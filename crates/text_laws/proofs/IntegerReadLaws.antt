-- The columns of a canonical text are integer: each is_first between the markers.
use Rattle.std.specs.Prelude.{◌≡◌, ℕ, Bool, true, false, ◌&&◌, ◌||◌, cond, List, [], ◌∷◌, ◌++◌, map, filter, bytes_eq}
use Rattle.std.specs.List.{list_any}
use Rattle.std.proofs.Common.{refl, ap, sym, ◌∙◌}
use Rattle.std.proofs.lemmas.List.Folds.{list_any-append}
use Rattle.mps_defs.specs.Lists.{is_among, after_those}
use Rattle.mps_defs.specs.Records.{Line, is_marker, in_force, column_lines, column_name, first_lines, column_names}
use Rattle.text_laws.proofs.SectionLaws.{names_of, names_after, names_step, new_names}
use Rattle.ip_defs.proofs.ListLaws.{filter-append}
use Rattle.std.proofs.lemmas.List.{append-nil, map-append}
use Rattle.ip_defs.specs.Lists.{Each}
use Rattle.mps_defs.proofs.ListLaws.{after_append}
use Rattle.mps_defs.proofs.ColumnLaws.{is_first, in_force-stays}

abbrev is_whole : List ℕ → List Line × Line → Bool
is_whole name p = bytes_eq (column_name p.1) name && in_force p.0

-- the names that begin while integer columns are in force
inside : (name : List ℕ) (before ls : List Line) → ((a b : List ℕ) → bytes_eq a b ≡ bytes_eq b a) → Each (λ l. is_marker l ≡ false) ls
    → in_force before ≡ true
    → list_any (is_whole name) (filter is_first (after_those before ls)) ≡ is_among name (names_after before ls)
inside name before [] turned plain e = refl
inside name before (l ∷ ls) turned plain e =
    by (is_first (before, l)) (inside name (before ++ l ∷ []) ls turned plain.1 (in_force-stays before l plain.0 ∙ e))
  where
    later : List (List Line × Line)
    later = filter is_first (after_those (before ++ l ∷ []) ls)

    and_true : (t : Bool) → (t && true) ≡ t
    and_true true = refl
    and_true false = refl

    by : (t : Bool) → list_any (is_whole name) later ≡ is_among name (map (λ p. column_name p.1) later)
        → list_any (is_whole name) (cond t ((before, l) ∷ later) later)
        ≡ is_among name (map (λ p. column_name p.1) (cond t ((before, l) ∷ later) later))
    by false rest = rest
    by true rest =
        ap (λ u. (bytes_eq (column_name l) name && u) || list_any (is_whole name) later) e
        ∙ ap (λ u. u || list_any (is_whole name) later) (and_true (bytes_eq (column_name l) name) ∙ turned (column_name l) name)
        ∙ ap (λ u. bytes_eq name (column_name l) || u) rest

names_append : (before xs ys : List Line) → names_after before (xs ++ ys) ≡ names_after before xs ++ names_after (before ++ xs) ys
names_append before xs ys =
    ap (λ ps. map (λ p. column_name p.1) (filter is_first ps)) (after_append before xs ys)
    ∙ ap (map (λ p. column_name p.1)) (filter-append is_first (after_those before xs) (after_those (before ++ xs) ys))
    ∙ map-append (λ p. column_name p.1) (filter is_first (after_those before xs)) (filter is_first (after_those (before ++ xs) ys))

whole_append : (name : List ℕ) (before xs ys : List Line)
    → list_any (is_whole name) (filter is_first (after_those before (xs ++ ys)))
    ≡ (list_any (is_whole name) (filter is_first (after_those before xs))
    || list_any (is_whole name) (filter is_first (after_those (before ++ xs) ys)))
whole_append name before xs ys =
    ap (λ ps. list_any (is_whole name) (filter is_first ps)) (after_append before xs ys)
    ∙ ap (list_any (is_whole name)) (filter-append is_first (after_those before xs) (after_those (before ++ xs) ys))
    ∙ list_any-append (is_whole name) (filter is_first (after_those before xs)) (filter is_first (after_those (before ++ xs) ys))

-- a column that is_first in lines whose columns all stand between the markers does so while they are in force
pub begins_whole : (name : List ℕ) (front ls rest : List Line) → ((a b : List ℕ) → bytes_eq a b ≡ bytes_eq b a) → column_lines front ≡ []
    → in_force front ≡ true → Each (λ l. is_marker l ≡ false) ls → column_lines rest ≡ []
    → is_among name (column_names (front ++ (ls ++ rest))) ≡ true → list_any (is_whole name) (first_lines (front ++ (ls ++ rest))) ≡ true
begins_whole name front ls rest turned none force plain over here =
    whole_append name [] front (ls ++ rest)
    ∙ ap (λ t. list_any (is_whole name) (filter is_first (after_those [] front)) || t)
    (whole_append name front ls rest
    ∙ ap (λ t. t || list_any (is_whole name) (filter is_first (after_those (front ++ ls) rest)))
    (inside name front ls turned plain force ∙ found))
    ∙ or_true (list_any (is_whole name) (filter is_first (after_those [] front)))
  where
    or_true : (t : Bool) → (t || true) ≡ true
    or_true true = refl
    or_true false = refl

    names : column_names (front ++ (ls ++ rest)) ≡ names_after front ls
    names =
        names_append [] front (ls ++ rest)
        ∙ ap (λ k. k ++ names_after front (ls ++ rest)) (names_step [] front ∙ ap (λ k. new_names [] (map column_name k)) none)
        ∙ names_append front ls rest
        ∙ ap (λ k. names_after front ls ++ k)
        (names_step (front ++ ls) rest ∙ ap (λ k. new_names (names_of (front ++ ls)) (map column_name k)) over)
        ∙ append-nil (names_after front ls)

    found : is_among name (names_after front ls) ≡ true
    found = ap (is_among name) (sym names) ∙ here
