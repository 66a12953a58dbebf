-- The table of columns after a line of COLUMNS: a marker, a line of the last column, or one that begins a column.
use Rattle.std.specs.Prelude.{◌≡◌, ℕ, zero, suc, ◌+◌, ◌==◌, Bool, true, false, cond, not, ◌&&◌, ◌||◌, if◌then◌else◌, List, [], ◌∷◌, ◌++◌}
use Rattle.std.specs.Prelude.{length, map, filter, position, slice_get, Option, None, Some, option_map, option_and_then, bytes_eq}
use Rattle.std.specs.Prelude.{string_bytes, codes, refl}
use Rattle.std.specs.Option.{option_map_or, option_or, is_some}
use Rattle.std.specs.List.{list_any}
use Rattle.std.proofs.Common.{length-append, arith, ap, sym, ◌∙◌, subst}
use Rattle.std.proofs.lemmas.Bool.{eqb-true, eq-eqb, true≢false, false_from_ne_true}
use Rattle.std.proofs.lemmas.List.Folds.{list_any-append}
use Rattle.std.proofs.lemmas.Option.{slice_get_within}
use Rattle.ip_defs.specs.Lists.{first_of, when}
use Rattle.mps_defs.specs.Lists.{last_of, is_among}
use Rattle.mps_defs.specs.Records.{Line, field, items_of, column_name, column_names, first_lines, has_column, in_force, is_marker}
use Rattle.mps_defs.specs.Records.{bounds_on, bound_set, bound_column}
use Rattle.mps_defs.specs.Faults.{is_split}
use Rattle.mps_defs.specs.TextModels.{lower_by, sets_lower, sets_upper, kind_is}
use Rattle.mps_reader.specs.declared.draft.ColumnDraft.{ColumnDraft}
use Rattle.mps_reader.specs.declared.draft.ColumnTable.{ColumnTable}
use Rattle.mps_reader.specs.Internal.Progress.{AreApart, ColumnsStand, ColumnStands, BoundsStand, column_of, upper_said}
use Rattle.mps_reader.specs.Internal.Taking.{IsLast, IsColumnAdded, IsColumnOpen, IsMarked}
use Rattle.mps_reader.proofs.StayLaws.{column_names_stay, first_lines_stay, bounds_on_stay}
use Rattle.mps_reader.proofs.NameLaws.{same_tests}
use Rattle.mps_reader.proofs.PlaceLaws.{get_of_more, apart_more}
use Rattle.mps_reader.proofs.ColumnLaws.{column_item, marker_none, newness}
use Rattle.ip_defs.proofs.BoolLaws.{left_false, right_false}
use Rattle.ip_defs.proofs.TextLaws.{text_self, text_same, text_turned}
use Rattle.ip_defs.proofs.ListLaws.{filter-append}
use Rattle.std.proofs.lemmas.List.{append-nil, map-append}
use Rattle.mps_defs.proofs.LineLaws.{items_of-append}
use Rattle.mps_defs.proofs.ListLaws.{last_of-add}
use Rattle.mps_defs.proofs.ColumnLaws.{name_in, first_lines-add, names_among, in_force-stays}
use Rattle.mps_defs.proofs.PlaceLaws.{position_found, among_at, position_append, place_where_any, known, unknown}
use Rattle.std.proofs.Math.Bool.{or-false}

-- the last line of COLUMNS
last_line : (before : List Line) (n : ℕ) (fields : List (List ℕ))
    → last_of (items_of (codes "COLUMNS") (before ++ column_item n fields ∷ [])) ≡ Some (column_item n fields)
last_line before n fields =
    ap last_of (items_of-append (codes "COLUMNS") before ((column_item n fields) ∷ []))
    ∙ last_of-add (items_of (codes "COLUMNS") before) (column_item n fields)

abbrev pub forces : Option Line → Bool
forces o = option_map_or (λ l. bytes_eq (field l 2) (codes "'INTORG'")) o false

force_marked : (before : List Line) (n : ℕ) (fields : List (List ℕ)) → is_marker (column_item n fields) ≡ true
    → in_force (before ++ column_item n fields ∷ []) ≡ bytes_eq (field (column_item n fields) 2) (codes "'INTORG'")
force_marked before n fields h =
    let markers = filter is_marker (items_of (codes "COLUMNS") before) in
    ap (λ ks. forces (last_of (filter is_marker ks))) (items_of-append (codes "COLUMNS") before (column_item n fields ∷ []))
    ∙ ap (λ ks. forces (last_of ks)) (filter-append is_marker (items_of (codes "COLUMNS") before) (column_item n fields ∷ []))
    ∙ ap (λ b. forces (last_of (markers ++ cond b (column_item n fields ∷ []) []))) h
    ∙ ap forces (last_of-add markers (column_item n fields))

-- what is known of the columns stays where no column begins and no bound comes
bounds_rest : (before : List Line) (l : Line) (cs : List ColumnDraft) → first_lines (before ++ l ∷ []) ≡ first_lines before
    → items_of (codes "BOUNDS") (l ∷ []) ≡ [] → BoundsStand before cs → BoundsStand (before ++ l ∷ []) cs
bounds_rest before l cs firsts none h j name c at there =
    let was = h j name c (ap (λ ps. slice_get (map name_in ps) j) (sym firsts) ∙ at) there in
    let on = sym (bounds_on_stay before l name none) in record {
      integer =
          was.integer
          ∙ ap (λ ps. list_any (λ p. bytes_eq (column_name p.1) name && in_force p.0) ps || list_any
          (kind_is (codes "BV" ∷ codes "LI" ∷ codes "UI" ∷ [])) (bounds_on before name)) (sym firsts)
          ∙ ap (λ ks. list_any (λ p. bytes_eq (column_name p.1) name && in_force p.0) (first_lines (before ++ l ∷ [])) || list_any
          (kind_is (codes "BV" ∷ codes "LI" ∷ codes "UI" ∷ [])) ks) on;
      lower = was.lower ∙ ap (λ ks. option_map lower_by (last_of (filter sets_lower ks))) on;
      upper = was.upper ∙ ap (λ ks. option_map upper_said (last_of (filter sets_upper ks))) on;
    }

-- ---- a marker

pub marked_columns : (before : List Line) (n : ℕ) (fields : List (List ℕ)) (t new : ColumnTable) → is_marker (column_item n fields) ≡ true
    → ColumnsStand before t → IsMarked t new (field (column_item n fields) 2) → ColumnsStand (before ++ column_item n fields ∷ []) new
marked_columns before n fields t new marker h is =
    let l = column_item n fields in
    let names = sym (column_names_stay before l (marker_none n fields marker)) in
    subst (ColumnsStand (before ++ l ∷ [])) (sym is) (record {
      names = h.names ∙ names;
      count = h.count ∙ ap length names;
      apart = subst AreApart names h.apart;
      in_integers = sym (force_marked before n fields marker);
      open_is = sym (ap (option_and_then (column_of (column_names (before ++ l ∷ [])))) (last_line before n fields)
          ∙ ap (λ b. if b then None else position (bytes_eq (column_name l)) (column_names (before ++ l ∷ []))) marker);
      open_last = λ j e. absurd (cc e);
    })

pub marked_bounds : (before : List Line) (n : ℕ) (fields : List (List ℕ)) (t new : ColumnTable) → is_marker (column_item n fields) ≡ true
    → BoundsStand before t.columns.items → IsMarked t new (field (column_item n fields) 2)
    → BoundsStand (before ++ column_item n fields ∷ []) new.columns.items
marked_bounds before n fields t new marker h is =
    subst (λ (k : ColumnTable). BoundsStand (before ++ column_item n fields ∷ []) k.columns.items) (sym is)
    (bounds_rest before (column_item n fields) t.columns.items
    (first_lines_stay before (column_item n fields) (marker_none n fields marker)) refl h)

-- ---- a line of a column

-- the column of the last line, where that is no marker
abbrev pub same_as_last : Line → Line → Bool
same_as_last l k = not (is_marker k) && bytes_eq (column_name k) (column_name l)

-- where a column is the last one by its place
last_split : {A : Type 0} (xs : List A) (j : ℕ) (x : A) → slice_get xs j ≡ Some x → suc j ≡ length xs
    → (front : List A) × (xs ≡ front ++ x ∷ []) × (j ≡ length front)
last_split [] j x at size = absurd (cc at)
last_split (y ∷ []) zero x at size = ([], ap (λ k. k ∷ []) (cc at), refl)
last_split (y ∷ z ∷ ys) zero x at size = absurd (omega arith)
last_split (y ∷ ys) (suc j) x at size =
    let shorter : suc j ≡ length ys = omega arith in
    let rest = last_split ys j x at shorter in
    (y ∷ rest.0, ap (λ k. y ∷ k) rest.1, ap suc rest.2)

at_end : {A : Type 0} (front : List A) (x : A) → slice_get (front ++ x ∷ []) (length front) ≡ Some x
at_end [] x = refl
at_end (y ∷ front) x = at_end front x

-- the last of names that are apart stands nowhere else
last_once : (front : List (List ℕ)) (name : List ℕ) → AreApart (front ++ name ∷ []) → is_among name front ≡ false
last_once front name apart =
    false_from_ne_true (is_among name front) (λ h. by (position (bytes_eq name) front) refl (place_where_any (bytes_eq name) front ∙ h))
  where
    by : (o : Option ℕ) → position (bytes_eq name) front ≡ o → is_some o ≡ true → ⊥
    by None e h = true≢false (sym h)
    by (Some k) e h =
        let early =
        position_append (bytes_eq name) front (name ∷ [])
        ∙ ap (λ o. option_or o (option_map (λ i. length front + i) (position (bytes_eq name) (name ∷ [])))) e in
        let late = apart (length front) name (at_end front name) in
        let same : k ≡ length front = cc (early, late) in
        let within = slice_get_within front k name (position_found name front k e) in
        omega arith

last_of_apart : (names : List (List ℕ)) (name : List ℕ) (j : ℕ) → AreApart names → slice_get names j ≡ Some name → suc j ≡ length names
    → IsLast names name j
last_of_apart names name j apart at size =
    let parts = last_split names j name at size in
    record { front = parts.0; columns_are = parts.1; number_is = parts.2; once = last_once parts.0 name (subst AreApart parts.1 apart) }

-- the column of the line comes last, if any
open_now : (before : List Line) (n : ℕ) (fields : List (List ℕ)) → is_marker (column_item n fields) ≡ false
    → option_and_then (column_of (column_names (before ++ column_item n fields ∷ [])))
    (last_of (items_of (codes "COLUMNS") (before ++ column_item n fields ∷ [])))
    ≡ position (bytes_eq (column_name (column_item n fields))) (column_names (before ++ column_item n fields ∷ []))
open_now before n fields plain =
    ap (option_and_then (column_of (column_names (before ++ column_item n fields ∷ [])))) (last_line before n fields)
    ∙ ap (λ b. if b then None else position (bytes_eq (column_name (column_item n fields)))
    (column_names (before ++ column_item n fields ∷ []))) plain

-- the number of a column that came
here_before : (before : List Line) (t : ColumnTable) (name : List ℕ) (j : ℕ) → ColumnsStand before t
    → position (bytes_eq name) (map string_bytes t.names.keys) ≡ Some j → position (bytes_eq name) (column_names before) ≡ Some j
here_before before t name j h at = ap (position (bytes_eq name)) (sym h.names) ∙ at

came : (before : List Line) (t : ColumnTable) (name : List ℕ) (j : ℕ) → ColumnsStand before t
    → position (bytes_eq name) (map string_bytes t.names.keys) ≡ Some j → has_column before name ≡ true
came before t name j h at = sym (names_among name before) ∙ known name (column_names before) j (here_before before t name j h at)

-- the last line is one of the column where the column is open
last_is : (before : List Line) (t : ColumnTable) (n : ℕ) (fields : List (List ℕ)) (j : ℕ) → ColumnsStand before t
    → position (bytes_eq (column_name (column_item n fields))) (map string_bytes t.names.keys) ≡ Some j
    → (b : Bool) → option_map_or (λ i. i == j) t.open false ≡ b
    → option_map_or (same_as_last (column_item n fields)) (last_of (items_of (codes "COLUMNS") before)) false ≡ b
last_is before t n fields j h at b is =
    sym (by (last_of (items_of (codes "COLUMNS") before))) ∙ ap (λ o. option_map_or (λ i. i == j) o false) (sym h.open_is) ∙ is
  where
    l : Line
    l = column_item n fields

    there : position (bytes_eq (column_name l)) (column_names before) ≡ Some j
    there = here_before before t (column_name l) j h at

    same : (k : Line) (o : Option ℕ) → position (bytes_eq (column_name k)) (column_names before) ≡ o
        → option_map_or (λ i. i == j) o false ≡ bytes_eq (column_name k) (column_name l)
    same k None e =
        sym (false_from_ne_true (bytes_eq (column_name k) (column_name l)) (λ g. cc (sym e
        ∙ ap (λ x. position (bytes_eq x) (column_names before)) (text_same (column_name k) (column_name l) g)
        ∙ there)))
    same k (Some i) e = same_tests (i == j) (bytes_eq (column_name k) (column_name l))
        (λ g. (let here = eqb-true i j g in let one : column_name k ≡ column_name l = cc
        (sym (position_found (column_name k) (column_names before) i e)
        ∙ ap (slice_get (column_names before)) here
        ∙ position_found (column_name l) (column_names before) j there) in ap (bytes_eq (column_name k)) (sym one)
        ∙ text_self (column_name k)))
        (λ g. eq-eqb i j (cc (sym e
        ∙ ap (λ x. position (bytes_eq x) (column_names before)) (text_same (column_name k) (column_name l) g)
        ∙ there)))

    with_marker : (k : Line) (m : Bool)
        → option_map_or (λ i. i == j) (if m then None else position (bytes_eq (column_name k)) (column_names before)) false
        ≡ (not m && bytes_eq (column_name k) (column_name l))
    with_marker k true = refl
    with_marker k false = same k (position (bytes_eq (column_name k)) (column_names before)) refl

    by : (o : Option Line)
        → option_map_or (λ i. i == j) (option_and_then (column_of (column_names before)) o) false ≡ option_map_or (same_as_last l) o false
    by None = refl
    by (Some k) = with_marker k (is_marker k)

-- whether the column is split
pub split_or_not : (before : List Line) (t : ColumnTable) (n : ℕ) (fields : List (List ℕ)) (j : ℕ) (b : Bool) → ColumnsStand before t
    → position (bytes_eq (column_name (column_item n fields))) (map string_bytes t.names.keys) ≡ Some j
    → option_map_or (λ i. i == j) t.open false ≡ b → is_split before (column_item n fields) ≡ not b
split_or_not before t n fields j b h at is =
    ap (λ c. c && not (option_map_or (same_as_last (column_item n fields)) (last_of (items_of (codes "COLUMNS") before)) false))
    (came before t (column_name (column_item n fields)) j h at)
    ∙ ap not (last_is before t n fields j h at b is)

-- the columns after a line that goes on with the last one
pub went_on : (before : List Line) (t : ColumnTable) (n : ℕ) (fields : List (List ℕ)) (j : ℕ) → is_marker (column_item n fields) ≡ false
    → ColumnsStand before t → BoundsStand before t.columns.items
    → position (bytes_eq (column_name (column_item n fields))) (map string_bytes t.names.keys) ≡ Some j → t.open ≡ Some j
    → IsColumnOpen before (column_item n fields) j t
went_on before t n fields j plain h bounds at is = record {
  columns = record {
    names = h.names ∙ names;
    count = h.count ∙ ap length names;
    apart = subst AreApart names h.apart;
    in_integers = h.in_integers ∙ sym (in_force-stays before (column_item n fields) plain);
    open_is = is ∙ sym (open_now before n fields plain ∙ ap (position (bytes_eq (column_name l))) (sym names) ∙ there);
    open_last = λ i e. h.open_last i e ∙ ap length names;
  };
  bounds = bounds_rest before l t.columns.items firsts refl bounds;
  last = subst (λ k. IsLast k (column_name l) j) names
      (last_of_apart (column_names before) (column_name l) j h.apart (position_found (column_name l) (column_names before) j there)
      (h.open_last j is));
}
  where
    l : Line
    l = column_item n fields

    there : position (bytes_eq (column_name l)) (column_names before) ≡ Some j
    there = here_before before t (column_name l) j h at

    this : List Line × Line
    this = (before, l)

    old : when (not (has_column before (column_name l))) this ≡ []
    old = ap (λ b. when (not b) this) (came before t (column_name l) j h at)

    firsts : first_lines (before ++ l ∷ []) ≡ first_lines before
    firsts =
        first_lines-add before l
        ∙ ap (λ b. first_lines before ++ when b this) (newness before n fields plain)
        ∙ ap (λ k. first_lines before ++ k) old
        ∙ append-nil (first_lines before)

    names : column_names before ≡ column_names (before ++ l ∷ [])
    names = ap (map name_in) (sym firsts)

-- a column that is new
not_yet : (before : List Line) (t : ColumnTable) (name : List ℕ) → ColumnsStand before t
    → position (bytes_eq name) (map string_bytes t.names.keys) ≡ None → has_column before name ≡ false
not_yet before t name h at =
    sym (names_among name before) ∙ unknown name (column_names before) (ap (position (bytes_eq name)) (sym h.names) ∙ at)

pub begun_faultless : (before : List Line) (t : ColumnTable) (n : ℕ) (fields : List (List ℕ)) → ColumnsStand before t
    → position (bytes_eq (column_name (column_item n fields))) (map string_bytes t.names.keys) ≡ None
    → is_split before (column_item n fields) ≡ false
begun_faultless before t n fields h at =
    ap (λ c. c && not (option_map_or (same_as_last (column_item n fields)) (last_of (items_of (codes "COLUMNS") before)) false))
    (not_yet before t (column_name (column_item n fields)) h at)

-- no first line of a column that did not come
no_first : (name : List ℕ) (force : List Line × Line → Bool) (ps : List (List Line × Line)) → is_among name (map name_in ps) ≡ false
    → list_any (λ p. bytes_eq (column_name p.1) name && force p) ps ≡ false
no_first name force [] h = refl
no_first name force (p ∷ ps) h =
    ap (λ b. (b && force p) || list_any (λ q. bytes_eq (column_name q.1) name && force q) ps)
    (text_turned (column_name p.1) name ∙ left_false (bytes_eq name (column_name p.1)) (is_among name (map name_in ps)) h)
    ∙ no_first name force ps (right_false (bytes_eq name (column_name p.1)) (is_among name (map name_in ps)) h)

-- the columns after a line that begins one
pub begun : (before : List Line) (t new : ColumnTable) (n : ℕ) (fields : List (List ℕ)) → is_marker (column_item n fields) ≡ false
    → ColumnsStand before t → BoundsStand before t.columns.items → items_of (codes "BOUNDS") before ≡ []
    → position (bytes_eq (column_name (column_item n fields))) (map string_bytes t.names.keys) ≡ None
    → IsColumnAdded (column_name (column_item n fields)) t new → IsColumnOpen before (column_item n fields) (length t.columns.items) new
begun before t new n fields plain h bounds no_bounds at added = record {
  columns = record {
    names = added.names ∙ ap (λ k. k ++ name ∷ []) h.names ∙ sym names;
    count = ap length added.columns
        ∙ length-append t.columns.items (fresh ∷ [])
        ∙ ap (λ k. k + 1) h.count
        ∙ sym (length-append (column_names before) (name ∷ []))
        ∙ sym (ap length names);
    apart = apart;
    in_integers = added.in_integers ∙ h.in_integers ∙ sym (in_force-stays before (column_item n fields) plain);
    open_is = added.open_is
        ∙ ap Some h.count
        ∙ sym (open_now before n fields plain
        ∙ apart (length (column_names before)) name
        (ap (λ k. slice_get k (length (column_names before))) names ∙ at_end (column_names before) name));
    open_last = λ i e. (let same : i ≡ length t.columns.items = cc (e, added.open_is) in let size = ap length names
        ∙ length-append (column_names before) (name ∷ []) in let count = h.count in omega arith);
  };
  bounds = known_columns;
  last = record { front = column_names before; columns_are = names; number_is = h.count; once = names_among name before ∙ new_name };
}
  where
    l : Line
    l = column_item n fields

    name : List ℕ
    name = column_name l

    fresh : ColumnDraft
    fresh = record { is_integer = t.in_integers; lower = None; upper = None }

    this : List Line × Line
    this = (before, l)

    new_name : has_column before name ≡ false
    new_name = not_yet before t name h at

    firsts : first_lines (before ++ l ∷ []) ≡ first_lines before ++ this ∷ []
    firsts = first_lines-add before l ∙ ap (λ b. first_lines before ++ when b this) (newness before n fields plain ∙ ap not new_name)

    names : column_names (before ++ l ∷ []) ≡ column_names before ++ name ∷ []
    names = ap (map name_in) firsts ∙ map-append name_in (first_lines before) (this ∷ [])

    apart : AreApart (column_names (before ++ l ∷ []))
    apart = subst AreApart (sym names) (apart_more (column_names before) name h.apart (names_among name before ∙ new_name))

    bounds_none : (other : List ℕ) → bounds_on (before ++ l ∷ []) other ≡ bounds_on before other
    bounds_none other = bounds_on_stay before l other refl

    starts : List Line × Line → Bool
    starts p = in_force p.0

    firsts_any : (other : List ℕ)
        → list_any (λ p. bytes_eq (column_name p.1) other && starts p) (first_lines (before ++ l ∷ []))
        ≡ (list_any (λ p. bytes_eq (column_name p.1) other && starts p) (first_lines before) || (bytes_eq name other && in_force before))
    firsts_any other =
        ap (list_any (λ p. bytes_eq (column_name p.1) other && starts p)) firsts
        ∙ list_any-append (λ p. bytes_eq (column_name p.1) other && starts p) (first_lines before) (this ∷ [])
        ∙ ap (λ b. list_any (λ p. bytes_eq (column_name p.1) other && starts p) (first_lines before) || b)
        (or-false (bytes_eq name other && in_force before))

    old_column : (j : ℕ) (other : List ℕ) (c : ColumnDraft) → slice_get (column_names before) j ≡ Some other
        → slice_get t.columns.items j ≡ Some c → ColumnStands (before ++ l ∷ []) other c
    old_column j other c here there =
        let was = bounds j other c here there in
        let away : bytes_eq name other ≡ false =
        false_from_ne_true (bytes_eq name other)
        (λ g. true≢false (sym (among_at (column_names before) j other here)
        ∙ ap (λ x. is_among x (column_names before)) (sym (text_same name other g))
        ∙ names_among name before
        ∙ new_name)) in
        let on = sym (bounds_none other) in
        record {
          integer =
              was.integer
              ∙ ap (λ b. b || list_any (kind_is (codes "BV" ∷ codes "LI" ∷ codes "UI" ∷ [])) (bounds_on before other))
              (sym (firsts_any other
              ∙ ap (λ b. list_any (λ p. bytes_eq (column_name p.1) other && starts p) (first_lines before) || (b && in_force before)) away
              ∙ or-false (list_any (λ p. bytes_eq (column_name p.1) other && starts p) (first_lines before))))
              ∙ ap (λ ks. list_any (λ p. bytes_eq (column_name p.1) other && starts p) (first_lines (before ++ l ∷ [])) || list_any
              (kind_is (codes "BV" ∷ codes "LI" ∷ codes "UI" ∷ [])) ks) on;
          lower = was.lower ∙ ap (λ ks. option_map lower_by (last_of (filter sets_lower ks))) on;
          upper = was.upper ∙ ap (λ ks. option_map upper_said (last_of (filter sets_upper ks))) on;
        }

    none_on : bounds_on (before ++ l ∷ []) name ≡ []
    none_on =
        bounds_none name
        ∙ ap (λ ks. filter (λ k. option_map_or (λ f. bytes_eq (bound_set f) (bound_set k)) (first_of ks) false && bytes_eq
        (bound_column k) name) ks) no_bounds

    new_column : ColumnStands (before ++ l ∷ []) name fresh
    new_column = record {
      integer =
          h.in_integers
          ∙ sym (ap (λ ks. list_any (λ p. bytes_eq (column_name p.1) name && starts p) (first_lines (before ++ l ∷ [])) || list_any
          (kind_is (codes "BV" ∷ codes "LI" ∷ codes "UI" ∷ [])) ks) none_on
          ∙ ap (λ b. b || false)
          (firsts_any name
          ∙ ap (λ b. b || (bytes_eq name name && in_force before))
          (no_first name starts (first_lines before) (names_among name before ∙ new_name))
          ∙ ap (λ b. b && in_force before) (text_self name))
          ∙ or-false (in_force before));
      lower = sym (ap (λ ks. option_map lower_by (last_of (filter sets_lower ks))) none_on);
      upper = sym (ap (λ ks. option_map upper_said (last_of (filter sets_upper ks))) none_on);
    }

    known_columns : BoundsStand (before ++ l ∷ []) new.columns.items
    known_columns j other c here there =
        get_of_more (column_names before) name j other (ColumnStands (before ++ l ∷ []) other c)
        (ap (λ k. slice_get k j) (sym names) ∙ here)
        (λ old. get_of_more t.columns.items fresh j c (ColumnStands (before ++ l ∷ []) other c) (ap (λ k. slice_get k j) (sym added.columns)
        ∙ there)
        (λ was. old_column j other c old was)
        (λ size _. absurd (let within = slice_get_within (column_names before) j other old in let count = h.count in omega arith)))
        (λ size is. get_of_more t.columns.items fresh j c (ColumnStands (before ++ l ∷ []) other c)
        (ap (λ k. slice_get k j) (sym added.columns)
        ∙ there)
        (λ was. absurd (let within = slice_get_within t.columns.items j c was in let count = h.count in omega arith))
        (λ _ made. subst (λ x. ColumnStands (before ++ l ∷ []) x c) is (subst (ColumnStands (before ++ l ∷ []) name) made new_column)))

-- a number that an option has
pub opened_at : (o : Option ℕ) (j : ℕ) → option_map_or (λ i. i == j) o false ≡ true → o ≡ Some j
opened_at None j h = absurd (true≢false (sym h))
opened_at (Some i) j h = ap Some (eqb-true i j h)
