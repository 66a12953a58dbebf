-- The rows, the columns and the entries of the lines of a canonical text.
use Rattle.std.specs.Prelude.{◌≡◌, ℕ, suc, ◌==◌, Bool, true, false, ◌&&◌, ◌||◌, not, cond, if◌then◌else◌, List, [], ◌∷◌, ◌++◌, length, map}
use Rattle.std.specs.Prelude.{filter, flat_map, find, Option, None, Some, option_map, bytes_eq, codes, ℤ, pos, neg_ℤ, ◌-ℤ◌, ⊤}
use Rattle.std.specs.List.{list_any, enumerate_from}
use Rattle.std.specs.Option.{option_map_or}
use Rattle.std.specs.Ordering.{int_eq}
use Rattle.std.proofs.Common.{refl, arith, ap, sym, ◌∙◌, subst}
use Rattle.std.proofs.lemmas.Bool.{ne_eqb, not-true}
use Rattle.mps_defs.specs.Lists.{is_among}
use Rattle.ip_defs.specs.Lists.{when, first_of, Each}
use Rattle.mps_defs.specs.Numbers.{decimal_text}
use Rattle.mps_defs.specs.CanonicalText.{Written, pair, triple, kind_text, is_equation, is_from_below, coef_line, column_block, right_side}
use Rattle.mps_defs.specs.CanonicalText.{rhs_line, constant_line, range_line, is_printable_name, value_text, is_separator, side_line}
use Rattle.mps_defs.specs.CanonicalText.{width_line}
use Rattle.mps_defs.specs.Records.{Line, Entry, items_of, row_lines, row_kind, row_name, is_free, objective, is_objective, is_dropped_row}
use Rattle.mps_defs.specs.Records.{is_marker, entries_of, all_entries, is_kept, is_kept_set, kept_entries, set_of}
use Rattle.ip_defs.specs.declared.programs.Column.{Column}
use Rattle.ip_defs.specs.declared.programs.Row.{Row}
use Rattle.ip_defs.specs.declared.programs.Parts.{Parts}
use Rattle.text_laws.proofs.WrittenLaws.{lines_from}
use Rattle.text_laws.proofs.SectionLaws.{lines_in, columns_at, right_sides_at, data_lines}
use Rattle.text_laws.proofs.SectionLaws.{ranges_at}
use Rattle.text_laws.proofs.CanonicalLaws.{sections_of, are_sections}
use Rattle.text_laws.proofs.ReadableLaws.{IsProgramText, IsRowText}
use Rattle.text_laws.proofs.EntryReadLaws.{bare, listed, IsTriple, AreTriples, of_triple}
use Rattle.text_laws.proofs.ListLaws.{all_flat, each_flat}
use Rattle.text_laws.proofs.EachLineLaws.{first_mark, last_mark, each_coef_line}
use Rattle.ip_defs.proofs.BoolLaws.{both_true}
use Rattle.ip_defs.proofs.TextLaws.{text_self}

-- ---- rows

pub objective_read : (m : Parts) → objective (lines_in (sections_of m)) ≡ Some m.objective
objective_read m = ap (λ ls. option_map row_name (find is_free ls)) (data_lines (sections_of m) (are_sections m)).rows

kind_bound : (r : Row) → bytes_eq (kind_text r) (codes "N") ≡ false
kind_bound r = by (is_equation r) (is_from_below r)
  where
    by : (t u : Bool) → bytes_eq (if t then codes "E" else (if u then codes "G" else codes "L")) (codes "N") ≡ false
    by true u = refl
    by false true = refl
    by false false = refl

-- the lines of the rows after the objective
abbrev pub row_lines_from : ℕ → List Row → List Line
row_lines_from n rs = lines_from n (codes "ROWS") (map (λ r. pair (kind_text r) r.name) rs)

bound_rows : (n : ℕ) (rs : List Row) → filter (λ l. not (is_free l)) (row_lines_from n rs) ≡ row_lines_from n rs
bound_rows n [] = refl
bound_rows n (r ∷ rs) =
    let l : Line = record { number = n; is_item = true; section = codes "ROWS"; fields = kind_text r ∷ r.name ∷ [] } in
    ap (λ t. cond (not t) (l ∷ filter (λ k. not (is_free k)) (row_lines_from (suc n) rs))
    (filter (λ k. not (is_free k)) (row_lines_from (suc n) rs))) (kind_bound r)
    ∙ ap (λ k. l ∷ k) (bound_rows (suc n) rs)

free_rows : (n : ℕ) (rs : List Row) → filter is_free (row_lines_from n rs) ≡ []
free_rows n [] = refl
free_rows n (r ∷ rs) =
    let l : Line = record { number = n; is_item = true; section = codes "ROWS"; fields = kind_text r ∷ r.name ∷ [] } in
    ap (λ t. cond t (l ∷ filter is_free (row_lines_from (suc n) rs)) (filter is_free (row_lines_from (suc n) rs))) (kind_bound r)
    ∙ free_rows (suc n) rs

made_of : {A : Type 0} (f : List ℕ → List ℕ → A) (n : ℕ) (rs : List Row)
    → map (λ l. f (row_kind l) (row_name l)) (row_lines_from n rs) ≡ map (λ r. f (kind_text r) r.name) rs
made_of f n [] = refl
made_of f n (r ∷ rs) = ap (λ k. f (kind_text r) r.name ∷ k) (made_of f (suc n) rs)

-- what is made of the rows
pub rows_read : {A : Type 0} (f : List ℕ → List ℕ → A) (m : Parts)
    → map (λ l. f (row_kind l) (row_name l)) (filter (λ l. not (is_free l)) (row_lines (lines_in (sections_of m))))
    ≡ map (λ r. f (kind_text r) r.name) m.rows
rows_read f m =
    ap (λ ls. map (λ l. f (row_kind l) (row_name l)) (filter (λ l. not (is_free l)) ls)) (data_lines (sections_of m) (are_sections m)).rows
    ∙ ap (map (λ l. f (row_kind l) (row_name l))) (bound_rows 4 m.rows) ∙ made_of f 4 m.rows

free_read : (m : Parts) → map row_name (filter is_free (row_lines (lines_in (sections_of m)))) ≡ m.objective ∷ []
free_read m =
    ap (λ ls. map row_name (filter is_free ls)) (data_lines (sections_of m) (are_sections m)).rows
    ∙ ap (λ k. m.objective ∷ map row_name k) (free_rows 4 m.rows)

pub objective_is : (m : Parts) (name : List ℕ) → is_objective (lines_in (sections_of m)) name ≡ bytes_eq name m.objective
objective_is m name = ap (λ o. option_map_or (bytes_eq name) o false) (objective_read m)

-- no row is dropped
pub none_dropped : (m : Parts) (name : List ℕ) → is_dropped_row (lines_in (sections_of m)) name ≡ false
none_dropped m name =
    ap (λ k. is_among name k && not (is_objective (lines_in (sections_of m)) name)) (free_read m)
    ∙ ap (λ t. is_among name (m.objective ∷ []) && not t) (objective_is m name)
    ∙ by (bytes_eq name m.objective)
  where
    by : (t : Bool) → ((t || false) && not t) ≡ false
    by true = refl
    by false = refl

-- ---- the lines of the columns

pub not_marker : (name : List ℕ) → is_printable_name name ≡ true → bytes_eq name (codes "'MARKER'") ≡ false
not_marker name e =
    let h = both_true (not (length name == 0) && not (bytes_eq name (codes "'MARKER'"))) (not (list_any is_separator name)) e in
    not-true (bytes_eq name (codes "'MARKER'")) (both_true (not (length name == 0)) (not (bytes_eq name (codes "'MARKER'"))) h.0).1

coef_triples : (j : ℕ) (name : List ℕ) (r : Row) → IsRowText r → AreTriples (coef_line j name r)
coef_triples j name r h = each_coef_line IsTriple j name r (λ p e. not_marker r.name h.name)

-- the lines between the markers
abbrev pub blocks_of : Parts → List Written
blocks_of m = flat_map (column_block m) (enumerate_from 0 m.columns)

pub blocks_triples : (m : Parts) → IsProgramText m → (xs : List (ℕ × Column)) → AreTriples (flat_map (column_block m) xs)
blocks_triples m h xs =
    all_flat IsTriple (column_block m) xs
    (λ p. (
      not_marker m.objective h.objective,
      each_flat IsRowText IsTriple (coef_line p.0 p.1.name) m.rows h.rows
          (λ r k. coef_triples p.0 p.1.name r k),
    ))

-- what the entries of COLUMNS are
pub columns_bare : (m : Parts) → IsProgramText m
    → map bare (all_entries (codes "COLUMNS") (lines_in (sections_of m))) ≡ flat_map listed (blocks_of m)
columns_bare m h = ap (λ ls. map bare (flat_map entries_of ls)) (data_lines (sections_of m) (are_sections m)).columns ∙ by m.columns
  where
    first : ℕ
    first = columns_at (sections_of m)

    after : (n : ℕ) (ds : List Written) → AreTriples ds
        → map bare (flat_map entries_of (lines_from n (codes "COLUMNS") (ds ++ last_mark ∷ []))) ≡ flat_map listed ds
    after n [] t = refl
    after n (d ∷ ds) t =
        of_triple (λ w. map bare (flat_map entries_of (lines_from n (codes "COLUMNS") (w ∷ (ds ++ last_mark ∷ []))))
        ≡ flat_map listed (w ∷ ds)) d t.0
        (λ a b c e.
        ap (λ u. map bare ((if u then [] else record { line = n; owner = a; row = b; text = c } ∷ [])
        ++ flat_map entries_of (lines_from (suc n) (codes "COLUMNS") (ds ++ last_mark ∷ [])))) e
        ∙ ap (λ l. record { owner = a; row = b; text = c } ∷ l) (after (suc n) ds t.1))

    by : (cs : List Column)
        → map bare (flat_map entries_of (lines_from first (codes "COLUMNS") (if length cs == 0 then []
        else first_mark ∷ flat_map (column_block m) (enumerate_from 0 cs) ++ last_mark ∷ [])))
        ≡ flat_map listed (flat_map (column_block m) (enumerate_from 0 cs))
    by [] = refl
    by (c ∷ cs) =
        ap (λ t. map bare (flat_map entries_of
        (lines_from first (codes "COLUMNS")
        (if t then [] else first_mark ∷ flat_map (column_block m)
        (enumerate_from 0 (c ∷ cs)) ++ last_mark ∷ [])))) (ne_eqb (length (c ∷ cs)) 0 (λ e. omega arith))
        ∙ after (suc first) (flat_map (column_block m) (enumerate_from 0 (c ∷ cs))) (blocks_triples m h (enumerate_from 0 (c ∷ cs)))

-- ---- kept entries

all_pass : {A : Type 0} (test : A → Bool) (xs : List A) → ((x : A) → test x ≡ true) → filter test xs ≡ xs
all_pass test [] h = refl
all_pass test (x ∷ xs) h = ap (λ t. cond t (x ∷ filter test xs) (filter test xs)) (h x) ∙ ap (λ k. x ∷ k) (all_pass test xs h)

pub columns_kept : (m : Parts) → IsProgramText m
    → map bare (kept_entries (codes "COLUMNS") (lines_in (sections_of m))) ≡ flat_map listed (blocks_of m)
columns_kept m h =
    ap (map bare) (all_pass (is_kept (codes "COLUMNS") (lines_in (sections_of m)))
    (all_entries (codes "COLUMNS") (lines_in (sections_of m))) (λ e. ap (λ t. (not t && true) && true) (none_dropped m e.row)))
    ∙ columns_bare m h

-- lines of one set, whose rows have some property
abbrev pub IsOfSet : List ℕ → (List ℕ → Type 0) → Written → Type 0
IsOfSet set P (true, a ∷ b ∷ c ∷ []) = (a ≡ set) × P b
IsOfSet set P (true, a ∷ b ∷ c ∷ d ∷ fs) = ⊥
IsOfSet set P (true, a ∷ b ∷ []) = ⊥
IsOfSet set P (true, a ∷ []) = ⊥
IsOfSet set P (true, []) = ⊥
IsOfSet set P (false, fs) = ⊥

abbrev pub AreOfSet : List ℕ → (List ℕ → Type 0) → List Written → Type 0
AreOfSet set P ds = Each (IsOfSet set P) ds

set_kept : (word set : List ℕ) (P : List ℕ → Type 0) (ls : List Line) → bytes_eq word (codes "COLUMNS") ≡ false
    → ((e : Entry) → e.owner ≡ set → P e.row → is_kept word ls e ≡ true)
    → (n : ℕ) (ds : List Written) → AreOfSet set P ds
    → map bare (filter (is_kept word ls) (flat_map entries_of (lines_from n word ds))) ≡ flat_map listed ds
set_kept word set P ls other h n [] all = refl
set_kept word set P ls other h n (d ∷ ds) all = one d ds all (set_kept word set P ls other h (suc n) ds all.1)
  where
    one : (w : Written) (ws : List Written) → AreOfSet set P (w ∷ ws)
        → map bare (filter (is_kept word ls) (flat_map entries_of (lines_from (suc n) word ws))) ≡ flat_map listed ws
        → map bare (filter (is_kept word ls) (flat_map entries_of (lines_from n word (w ∷ ws)))) ≡ flat_map listed (w ∷ ws)
    one (true, a ∷ b ∷ c ∷ []) ws k rest =
        let e : Entry = record { line = n; owner = a; row = b; text = c } in
        let l : Line = record { number = n; is_item = true; section = word; fields = a ∷ b ∷ c ∷ [] } in
        let later = flat_map entries_of (lines_from (suc n) word ws) in
        ap (λ u. map bare (filter (is_kept word ls) ((if u then (if is_marker l then [] else e ∷ []) else e ∷ []) ++ later))) other
        ∙ ap (λ u. map bare (cond u (e ∷ filter (is_kept word ls) later) (filter (is_kept word ls) later))) (h e k.0.0 k.0.1)
        ∙ ap (λ y. bare e ∷ y) rest
    one (true, a ∷ b ∷ c ∷ d' ∷ fs) ws k rest = absurd k.0
    one (true, a ∷ b ∷ []) ws k rest = absurd k.0
    one (true, a ∷ []) ws k rest = absurd k.0
    one (true, []) ws k rest = absurd k.0
    one (false, fs) ws k rest = absurd k.0

-- the set that is kept is that of the first line
set_first : (word set : List ℕ) (P : List ℕ → Type 0) (n : ℕ) (d : Written) (ds : List Written) → IsOfSet set P d
    → option_map_or (λ l. bytes_eq (set_of l) set) (first_of (lines_from n word (d ∷ ds))) false ≡ true
set_first word set P n (true, a ∷ b ∷ c ∷ []) ds h = ap (λ k. bytes_eq k set) h.0 ∙ text_self set
set_first word set P n (true, a ∷ b ∷ c ∷ d' ∷ fs) ds h = absurd h
set_first word set P n (true, a ∷ b ∷ []) ds h = absurd h
set_first word set P n (true, a ∷ []) ds h = absurd h
set_first word set P n (true, []) ds h = absurd h
set_first word set P n (false, fs) ds h = absurd h

of_set_append : (set : List ℕ) (P : List ℕ → Type 0) (xs ys : List Written) → AreOfSet set P xs → AreOfSet set P ys
    → AreOfSet set P (xs ++ ys)
of_set_append set P [] ys h k = k
of_set_append set P (x ∷ xs) ys h k = (h.0, of_set_append set P xs ys h.1 k)

of_set_when : (set : List ℕ) (P : List ℕ → Type 0) (t : Bool) (w : Written) → IsOfSet set P w → AreOfSet set P (when t w)
of_set_when set P true w h = (h, tt)
of_set_when set P false w h = tt

of_set_flat : (set : List ℕ) (P : List ℕ → Type 0) (Q : Row → Type 0) (f : Row → List Written) (rs : List Row) → Each Q rs
    → ((r : Row) → Q r → AreOfSet set P (f r)) → AreOfSet set P (flat_map f rs)
of_set_flat set P Q f [] all h = tt
of_set_flat set P Q f (r ∷ rs) all h = of_set_append set P (f r) (flat_map f rs) (h r all.0) (of_set_flat set P Q f rs all.1 h)

rhs_set : (r : Row) → AreOfSet (codes "RHS") (λ b. ⊤) (rhs_line r)
rhs_set r = by (right_side r)
  where
    by : (o : Option ℤ)
        → AreOfSet (codes "RHS") (λ b. ⊤) (option_map_or (side_line r) o (triple (codes "RHS") r.name (codes "1e30") ∷ []))
    by None = ((refl, tt), tt)
    by (Some b) =
        of_set_when (codes "RHS") (λ y. ⊤) (not (int_eq b (pos 0))) (triple (codes "RHS") r.name (decimal_text b r.decimals)) (refl, tt)

range_set : (P : List ℕ → Type 0) (r : Row) → P r.name → AreOfSet (codes "RNG") P (range_line r)
range_set P r h = by r.low r.high
  where
    by : (o p : Option ℤ)
        → AreOfSet (codes "RNG") P (option_map_or (λ low. option_map_or (width_line r low) p []) o [])
    by None p = tt
    by (Some low) None = tt
    by (Some low) (Some high) =
        of_set_when (codes "RNG") P (not (int_eq low high)) (triple (codes "RNG") r.name (decimal_text (high -ℤ low) r.decimals)) (refl, h)

each_any : (rs : List Row) → Each (λ r. ⊤) rs
each_any [] = tt
each_any (r ∷ rs) = (tt, each_any rs)

right_sides_set : (m : Parts) → AreOfSet (codes "RHS") (λ b. ⊤) (constant_line m ++ flat_map rhs_line m.rows)
right_sides_set m =
    of_set_append (codes "RHS") (λ b. ⊤) (constant_line m) (flat_map rhs_line m.rows)
    (of_set_when (codes "RHS") (λ b. ⊤) (not (int_eq m.constant (pos 0)))
    (triple (codes "RHS") m.objective (value_text m (neg_ℤ m.constant))) (refl, tt))
    (of_set_flat (codes "RHS") (λ b. ⊤) (λ r. ⊤) rhs_line m.rows (each_any m.rows) (λ r t. rhs_set r))

pub right_sides_kept : (m : Parts)
    → map bare (kept_entries (codes "RHS") (lines_in (sections_of m))) ≡ flat_map listed (constant_line m ++ flat_map rhs_line m.rows)
right_sides_kept m =
    ap (λ ls. map bare (filter (is_kept (codes "RHS") (lines_in (sections_of m))) (flat_map entries_of ls))) items
    ∙ by (constant_line m ++ flat_map rhs_line m.rows) refl (right_sides_set m)
  where
    at : ℕ
    at = right_sides_at (sections_of m)

    items : items_of (codes "RHS") (lines_in (sections_of m)) ≡ lines_from at (codes "RHS") (constant_line m ++ flat_map rhs_line m.rows)
    items = (data_lines (sections_of m) (are_sections m)).right_sides

    by : (ds : List Written) → constant_line m ++ flat_map rhs_line m.rows ≡ ds
        → AreOfSet (codes "RHS") (λ b. ⊤) (constant_line m ++ flat_map rhs_line m.rows)
        → map bare (filter (is_kept (codes "RHS") (lines_in (sections_of m))) (flat_map entries_of
        (lines_from at (codes "RHS") (constant_line m ++ flat_map rhs_line m.rows))))
        ≡ flat_map listed (constant_line m ++ flat_map rhs_line m.rows)
    by [] e all =
        ap (λ ds. map bare (filter (is_kept (codes "RHS") (lines_in (sections_of m)))
        (flat_map entries_of (lines_from at (codes "RHS") ds)))) e
        ∙ sym (ap (flat_map listed) e)
    by (d ∷ ds) e all =
        let here = subst (AreOfSet (codes "RHS") (λ b. ⊤)) e all in
        let kept : is_kept_set (codes "RHS") (lines_in (sections_of m)) (codes "RHS") ≡ true =
        ap (λ ls. option_map_or (λ l. bytes_eq (set_of l) (codes "RHS")) (first_of ls) false) (items ∙ ap (lines_from at (codes "RHS")) e)
        ∙ set_first (codes "RHS") (codes "RHS") (λ b. ⊤) at d ds here.0 in
        set_kept (codes "RHS") (codes "RHS") (λ b. ⊤) (lines_in (sections_of m)) refl
        (λ x o t. ap (λ u. (not u && is_kept_set (codes "RHS") (lines_in (sections_of m)) x.owner) && true) (none_dropped m x.row)
        ∙ ap (λ k. is_kept_set (codes "RHS") (lines_in (sections_of m)) k && true) o
        ∙ ap (λ u. u && true) kept)
        at (constant_line m ++ flat_map rhs_line m.rows) all

-- a name that is not the objective's
abbrev pub IsApart : Parts → List ℕ → Type 0
IsApart m name = bytes_eq name m.objective ≡ false

pub ranges_kept : (m : Parts) → Each (λ r. IsApart m r.name) m.rows
    → map bare (kept_entries (codes "RANGES") (lines_in (sections_of m))) ≡ flat_map listed (flat_map range_line m.rows)
ranges_kept m apart =
    ap (λ ls. map bare (filter (is_kept (codes "RANGES") (lines_in (sections_of m))) (flat_map entries_of ls))) items
    ∙ by (flat_map range_line m.rows) refl
    (of_set_flat (codes "RNG") (IsApart m) (λ r. IsApart m r.name) range_line m.rows apart (λ r h. range_set (IsApart m) r h))
  where
    at : ℕ
    at = ranges_at (sections_of m)

    items : items_of (codes "RANGES") (lines_in (sections_of m)) ≡ lines_from at (codes "RANGES") (flat_map range_line m.rows)
    items = (data_lines (sections_of m) (are_sections m)).ranges

    by : (ds : List Written) → flat_map range_line m.rows ≡ ds → AreOfSet (codes "RNG") (IsApart m) (flat_map range_line m.rows)
        → map bare (filter (is_kept (codes "RANGES") (lines_in (sections_of m)))
        (flat_map entries_of (lines_from at (codes "RANGES") (flat_map range_line m.rows))))
        ≡ flat_map listed (flat_map range_line m.rows)
    by [] e all =
        ap (λ ds. map bare (filter (is_kept (codes "RANGES") (lines_in (sections_of m)))
        (flat_map entries_of (lines_from at (codes "RANGES") ds)))) e
        ∙ sym (ap (flat_map listed) e)
    by (d ∷ ds) e all =
        let here = subst (AreOfSet (codes "RNG") (IsApart m)) e all in
        let kept : is_kept_set (codes "RANGES") (lines_in (sections_of m)) (codes "RNG") ≡ true =
        ap (λ ls. option_map_or (λ l. bytes_eq (set_of l) (codes "RNG")) (first_of ls) false)
        (items ∙ ap (lines_from at (codes "RANGES")) e)
        ∙ set_first (codes "RANGES") (codes "RNG") (IsApart m) at d ds here.0 in
        set_kept (codes "RANGES") (codes "RNG") (IsApart m) (lines_in (sections_of m)) refl
        (λ x o t. ap (λ u. (not u && is_kept_set (codes "RANGES") (lines_in (sections_of m)) x.owner)
        && not (is_objective (lines_in (sections_of m)) x.row)) (none_dropped m x.row)
        ∙ ap (λ k. is_kept_set (codes "RANGES") (lines_in (sections_of m)) k && not (is_objective (lines_in (sections_of m)) x.row)) o
        ∙ ap (λ u. u && not (is_objective (lines_in (sections_of m)) x.row)) kept
        ∙ ap not (objective_is m x.row ∙ t))
        at (flat_map range_line m.rows) all
