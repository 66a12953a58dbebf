-- How a draft grows by a line of BOUNDS.
use Rattle.std.specs.Prelude.{◌≡◌, ℕ, zero, suc, Bool, true, false, cond, List, [], ◌∷◌, ◌++◌, length, map, filter, position, slice_get}
use Rattle.std.specs.Prelude.{slice_set, Option, Some, option_map, unwrap_or, not, ◌&&◌, ◌||◌, bytes_eq, codes, string_bytes, refl}
use Rattle.std.specs.Option.{option_map_or, is_none, is_some}
use Rattle.std.specs.List.{list_any}
use Rattle.std.proofs.Common.{◌<◌, get_or, sym, ◌∙◌, ap, subst, arith}
use Rattle.std.proofs.lemmas.Option.{get_or_from_slice_get}
use Rattle.std.proofs.lemmas.List.Quantifiers.{position-Some}
use Rattle.std.proofs.lemmas.List.{length-set, append-nil}
use Rattle.std.proofs.lemmas.List.Folds.{list_any-append}
use Rattle.std.proofs.lemmas.Slice.Eq.{bytes_eq-Decides}
use Rattle.ip_defs.specs.Lists.{Each, first_of, when}
use Rattle.mps_defs.specs.Lists.{last_of, is_among, where_true}
use Rattle.std.specs.Option.{option_or}
use Rattle.mps_defs.specs.Numbers.{is_number, number_of}
use Rattle.mps_defs.specs.Records.{Line, items_of, words_of, set_of, kept_entries, bound_kind, bound_set, bound_column, bound_text}
use Rattle.mps_defs.specs.Records.{bounds_on, takes_number, takes_none, column_name, column_names, first_lines, has_column, in_force, item}
use Rattle.mps_defs.specs.Records.{row_names}
use Rattle.mps_defs.specs.Faults.{line_faults, bound_faults}
use Rattle.mps_defs.specs.TextModels.{is_integer, kind_is, lower_by, lower_entry, no_number, sets_lower, sets_upper, upper_entry}
use Rattle.mps_defs.specs.TextModels.{number_or_zero}
use Rattle.mps_defs.specs.declared.reading.Number.{Number}
use Rattle.mps_defs.specs.declared.reading.MpsError.TheVariants.{SectionOrder, BoundKind as WrongKind, FieldCount, UnknownColumn}
use Rattle.mps_defs.specs.declared.reading.MpsError.TheVariants.{Number as NoNumber}
use Rattle.mps_reader.specs.declared.bounds.BoundKind.{BoundKind}
use Rattle.mps_reader.specs.declared.bounds.BoundKind.TheVariants.{Lower, LowerInteger, Upper, UpperInteger, Fixed, Free, NoLower, NoUpper}
use Rattle.mps_reader.specs.declared.bounds.BoundKind.TheVariants.{Binary}
use Rattle.mps_reader.specs.declared.draft.ColumnDraft.{ColumnDraft}
use Rattle.mps_reader.specs.declared.draft.ColumnTable.{ColumnTable}
use Rattle.mps_reader.specs.declared.draft.Draft.{Draft}
use Rattle.mps_reader.specs.Internal.BoundWords.{IsBound, Says, after_bound, bound_word, has_right_count, integer_words, lower_of}
use Rattle.mps_reader.specs.Internal.BoundWords.{numbered_words, plain_words, upper_of}
use Rattle.mps_reader.specs.Internal.Progress.{upper_said, AreApart, Stands, SectionsStand, RowsStand, EntriesStand, ColumnsStand}
use Rattle.mps_reader.specs.Internal.Progress.{ColumnStands, BoundsStand}
use Rattle.mps_reader.proofs.StayLaws.{first_lines_stay, column_names_stay, sections_stay, rows_stand_stay, entries_stay}
use Rattle.mps_reader.proofs.StayLaws.{columns_stand_stay}
use Rattle.text_lines.proofs.NameLaws.{place_of_name}
use Rattle.ip_defs.proofs.ListLaws.{filter-append}
use Rattle.std.proofs.lemmas.Bool.{true≢false}
use Rattle.mps_defs.proofs.FaultLaws.{faults-add}
use Rattle.mps_defs.proofs.LineLaws.{items_of-append, items_stay}
use Rattle.mps_defs.proofs.ListLaws.{last_of-add, mapped_or, element_at, one_kept}
use Rattle.mps_defs.proofs.ColumnLaws.{names_among}
use Rattle.mps_defs.proofs.PlaceLaws.{place_where_any}
use Rattle.std.proofs.Math.Bool.{or-false, or_assoc}

abbrev pub bound_item : ℕ → List (List ℕ) → Line
bound_item n fields = item (codes "BOUNDS") n fields

-- ---- kinds

-- what holds of each kind
abbrev kinds : List BoundKind
kinds = Lower ∷ LowerInteger ∷ Upper ∷ UpperInteger ∷ Fixed ∷ Free ∷ NoLower ∷ NoUpper ∷ Binary ∷ []

of_kind : (P : BoundKind → Type 0) (k : BoundKind) → Each P kinds → P k
of_kind P Lower all = all.0
of_kind P LowerInteger all = all.1.0
of_kind P Upper all = all.1.1.0
of_kind P UpperInteger all = all.1.1.1.0
of_kind P Fixed all = all.1.1.1.1.0
of_kind P Free all = all.1.1.1.1.1.0
of_kind P NoLower all = all.1.1.1.1.1.1.0
of_kind P NoUpper all = all.1.1.1.1.1.1.1.0
of_kind P Binary all = all.1.1.1.1.1.1.1.1.0

pub known_bound : (k : BoundKind) → (is_among (bound_word k) numbered_words || is_among (bound_word k) plain_words) ≡ true
known_bound k =
    of_kind (λ j. (is_among (bound_word j) numbered_words || is_among (bound_word j) plain_words) ≡ true) k
    (refl, (refl, (refl, (refl, (refl, (refl, (refl, (refl, (refl, tt)))))))))

-- a kind without a number says the same whatever the number is
abbrev SaysSame : Number → Number → BoundKind → Type 0
SaysSame n m k = is_among (bound_word k) numbered_words ≡ false
    → (lower_of (bound_word k) n ≡ lower_of (bound_word k) m) × (upper_of (bound_word k) n ≡ upper_of (bound_word k) m)

plain_bound : (k : BoundKind) (n m : Number) → SaysSame n m k
plain_bound k n m =
    of_kind (SaysSame n m) k (
      λ h. absurd (true≢false h),
      (λ h. absurd (true≢false h), (λ h. absurd (true≢false h), (λ h. absurd (true≢false h), (λ h. absurd (true≢false h), plain)))),
    )
  where
    plain : Each (SaysSame n m) (Free ∷ NoLower ∷ NoUpper ∷ Binary ∷ [])
    plain = (λ h. (refl, refl), (λ h. (refl, refl), (λ h. (refl, refl), (λ h. (refl, refl), tt))))

-- what a line says of its column
pub record LineSays (l : Line) (s : ColumnDraft) : Type 0 where
  pub integer : s.is_integer ≡ kind_is (codes "BV" ∷ codes "LI" ∷ codes "UI" ∷ []) l
  pub lower : s.lower ≡ option_map lower_by (where_true (sets_lower l) l)
  pub upper : s.upper ≡ option_map upper_said (where_true (sets_upper l) l)

mapped : {A B : Type 0} (f : A → B) (t : Bool) (x : A) → where_true t (f x) ≡ option_map f (where_true t x)
mapped f true x = refl
mapped f false x = refl

pub line_says : (l : Line) (k : BoundKind) (n : Number) (s : ColumnDraft) → bound_kind l ≡ bound_word k
    → (takes_number l ≡ true → n ≡ number_or_zero (bound_text l)) → Says (bound_word k) n s → LineSays l s
line_says l k n s is counts h = record {
  integer = h.integer ∙ ap (λ w. is_among w integer_words) (sym is);
  lower = h.lower
      ∙ same_lower (takes_number l) refl
      ∙ ap (λ w. lower_of w (number_or_zero (bound_text l))) (sym is)
      ∙ mapped lower_by (sets_lower l) l;
  upper = h.upper
      ∙ same_upper (takes_number l) refl
      ∙ ap (λ w. upper_of w (number_or_zero (bound_text l))) (sym is)
      ∙ mapped upper_said (sets_upper l) l;
}
  where
    same_lower : (t : Bool) → takes_number l ≡ t → lower_of (bound_word k) n ≡ lower_of (bound_word k) (number_or_zero (bound_text l))
    same_lower true e = ap (lower_of (bound_word k)) (counts e)
    same_lower false e = (plain_bound k n (number_or_zero (bound_text l)) (ap (λ w. is_among w numbered_words) (sym is) ∙ e)).0

    same_upper : (t : Bool) → takes_number l ≡ t → upper_of (bound_word k) n ≡ upper_of (bound_word k) (number_or_zero (bound_text l))
    same_upper true e = ap (upper_of (bound_word k)) (counts e)
    same_upper false e = (plain_bound k n (number_or_zero (bound_text l)) (ap (λ w. is_among w numbered_words) (sym is) ∙ e)).1

-- ---- faults

pub bound_faults_are : (before : List Line) (n : ℕ) (fields : List (List ℕ)) → is_among (codes "ROWS") (words_of before) ≡ true
    → line_faults before (bound_item n fields) ≡ bound_faults before (bound_item n fields)
bound_faults_are before n fields there = ap (λ t. when (not t) (SectionOrder n) ++ bound_faults before (bound_item n fields)) there

pub wrong_kind : (before : List Line) (n : ℕ) (fields : List (List ℕ)) → is_among (codes "ROWS") (words_of before) ≡ true
    → (takes_number (bound_item n fields) || takes_none (bound_item n fields)) ≡ false
    → first_of (line_faults before (bound_item n fields)) ≡ Some (WrongKind n)
wrong_kind before n fields there wrong =
    ap first_of (bound_faults_are before n fields there)
    ∙ ap (λ t. first_of (when (not t) (WrongKind n) ++ when (not (has_right_count (bound_item n fields))) (FieldCount n)
    ++ when (not (has_column before (bound_column (bound_item n fields)))) (UnknownColumn n)
    ++ when (takes_number (bound_item n fields) && not (is_number (bound_text (bound_item n fields)))) (NoNumber n))) wrong

right_kind : (before : List Line) (n : ℕ) (fields : List (List ℕ)) (k : BoundKind) → is_among (codes "ROWS") (words_of before) ≡ true
    → bound_kind (bound_item n fields) ≡ bound_word k
    → line_faults before (bound_item n fields) ≡ when (not (has_right_count (bound_item n fields))) (FieldCount n)
    ++ when (not (has_column before (bound_column (bound_item n fields)))) (UnknownColumn n)
    ++ when (takes_number (bound_item n fields) && not (is_number (bound_text (bound_item n fields)))) (NoNumber n)
right_kind before n fields k there is =
    bound_faults_are before n fields there
    ∙ ap (λ t. when (not t) (WrongKind n) ++ when (not (has_right_count (bound_item n fields))) (FieldCount n)
    ++ when (not (has_column before (bound_column (bound_item n fields)))) (UnknownColumn n)
    ++ when (takes_number (bound_item n fields) && not (is_number (bound_text (bound_item n fields)))) (NoNumber n))
    (ap (λ w. is_among w numbered_words || is_among w plain_words) is ∙ known_bound k)

pub wrong_count : (before : List Line) (n : ℕ) (fields : List (List ℕ)) (k : BoundKind) → is_among (codes "ROWS") (words_of before) ≡ true
    → bound_kind (bound_item n fields) ≡ bound_word k
    → has_right_count (bound_item n fields) ≡ false → first_of (line_faults before (bound_item n fields)) ≡ Some (FieldCount n)
wrong_count before n fields k there is wrong =
    ap first_of (right_kind before n fields k there is)
    ∙ ap (λ t. first_of (when (not t) (FieldCount n) ++ when (not (has_column before (bound_column (bound_item n fields))))
    (UnknownColumn n) ++ when (takes_number (bound_item n fields) && not (is_number (bound_text (bound_item n fields))))
    (NoNumber n))) wrong

-- the faults of a bound of a right kind with the right number of fields
pub right_count : (before : List Line) (n : ℕ) (fields : List (List ℕ)) (k : BoundKind) → is_among (codes "ROWS") (words_of before) ≡ true
    → bound_kind (bound_item n fields) ≡ bound_word k → has_right_count (bound_item n fields) ≡ true
    → line_faults before (bound_item n fields) ≡ when (not (has_column before (bound_column (bound_item n fields))))
    (UnknownColumn n) ++ when (takes_number (bound_item n fields) && not (is_number (bound_text (bound_item n fields)))) (NoNumber n)
right_count before n fields k there is right =
    right_kind before n fields k there is
    ∙ ap (λ t. when (not t) (FieldCount n) ++ when (not (has_column before (bound_column (bound_item n fields)))) (UnknownColumn n)
    ++ when (takes_number (bound_item n fields) && not (is_number (bound_text (bound_item n fields)))) (NoNumber n)) right

-- ---- the bounds of a column

bounds_more : (before : List Line) (n : ℕ) (fields : List (List ℕ))
    → items_of (codes "BOUNDS") (before ++ bound_item n fields ∷ []) ≡ items_of (codes "BOUNDS") before ++ bound_item n fields ∷ []
bounds_more before n fields = items_of-append (codes "BOUNDS") before ((bound_item n fields) ∷ [])

-- a bound is of the set of the first one
abbrev of_first : List Line → Line → Bool
of_first items l = option_map_or (λ f. bytes_eq (bound_set f) (bound_set l)) (first_of items) false

abbrev bounds_in : List Line → List ℕ → List Line
bounds_in items name = filter (λ k. of_first items k && bytes_eq (bound_column k) name) items

bounds_in_more : (items : List Line) (l : Line) (name : List ℕ)
    → bounds_in (items ++ l ∷ []) name ≡ bounds_in items name ++ when (of_first (items ++ l ∷ []) l && bytes_eq (bound_column l) name) l
bounds_in_more [] l name = one_kept (bytes_eq (bound_set l) (bound_set l) && bytes_eq (bound_column l) name) l
bounds_in_more (f ∷ items) l name =
    filter-append (λ k. bytes_eq (bound_set f) (bound_set k) && bytes_eq (bound_column k) name) (f ∷ items) (l ∷ [])
    ∙ ap (λ ks. bounds_in (f ∷ items) name ++ ks) (one_kept (bytes_eq (bound_set f) (bound_set l) && bytes_eq (bound_column l) name) l)

-- the kept set is that of the first bound
pub kept_set_more : (items : List Line) (l : Line)
    → Some (unwrap_or (option_map bound_set (first_of items)) (bound_set l)) ≡ option_map bound_set (first_of (items ++ l ∷ []))
kept_set_more [] l = refl
kept_set_more (f ∷ items) l = refl

pub of_kept_set : (items : List Line) (l : Line)
    → bytes_eq (unwrap_or (option_map bound_set (first_of items)) (bound_set l)) (bound_set l) ≡ of_first (items ++ l ∷ []) l
of_kept_set [] l = refl
of_kept_set (f ∷ items) l = refl

last_more : (test : Line → Bool) (ks : List Line) (l : Line)
    → last_of (filter test (ks ++ l ∷ [])) ≡ option_or (where_true (test l) l) (last_of (filter test ks))
last_more test ks l = ap last_of (filter-append test ks (l ∷ [])) ∙ by (test l)
  where
    by : (t : Bool) → last_of (filter test ks ++ cond t (l ∷ []) []) ≡ option_or (where_true t l) (last_of (filter test ks))
    by true = last_of-add (filter test ks) l
    by false = ap last_of (append-nil (filter test ks))

abbrev names_integer : List Line → Bool
names_integer ks = list_any (kind_is (codes "BV" ∷ codes "LI" ∷ codes "UI" ∷ [])) ks

abbrev begins_integer : List Line → List ℕ → Bool
begins_integer ls name = list_any (λ p. bytes_eq (column_name p.1) name && in_force p.0) (first_lines ls)

-- a column after a bound of it in the kept set
column_with : (before : List Line) (n : ℕ) (fields : List (List ℕ)) (name : List ℕ) (c s : ColumnDraft)
    → (of_first (items_of (codes "BOUNDS") before ++ bound_item n fields ∷ []) (bound_item n fields)
    && bytes_eq (bound_column (bound_item n fields)) name)
    ≡ true
    → LineSays (bound_item n fields) s → ColumnStands before name c
    → ColumnStands (before ++ bound_item n fields ∷ []) name (after_bound c s)
column_with before n fields name c s counts says h = record {
  integer =
      ap (λ t. t || s.is_integer) h.integer ∙ ap (λ t. is_integer before name || t) says.integer
      ∙ or_assoc (begins_integer before name) (names_integer (bounds_on before name))
      (kind_is (codes "BV" ∷ codes "LI" ∷ codes "UI" ∷ []) l)
      ∙ sym (ap (λ ps. list_any (λ p. bytes_eq (column_name p.1) name && in_force p.0) ps || names_integer (bounds_on after name))
      (first_lines_stay before l refl)
      ∙ ap (λ ks. begins_integer before name || names_integer ks) on
      ∙ ap (λ t. begins_integer before name || t)
      (list_any-append (kind_is (codes "BV" ∷ codes "LI" ∷ codes "UI" ∷ [])) (bounds_on before name) (l ∷ [])
      ∙ ap (λ t. names_integer (bounds_on before name) || t) (or-false (kind_is (codes "BV" ∷ codes "LI" ∷ codes "UI" ∷ []) l))));
  lower =
      ap (λ o. option_or s.lower o) h.lower ∙ ap (λ o. option_or o (option_map lower_by (lower_entry before name))) says.lower
      ∙ sym (mapped_or lower_by (where_true (sets_lower l) l) (lower_entry before name))
      ∙ ap (option_map lower_by)
      (sym (last_more sets_lower (bounds_on before name) l) ∙ ap (λ ks. last_of (filter sets_lower ks)) (sym on));
  upper =
      ap (λ o. option_or s.upper o) h.upper ∙ ap (λ o. option_or o (option_map upper_said (upper_entry before name))) says.upper
      ∙ sym (mapped_or upper_said (where_true (sets_upper l) l) (upper_entry before name))
      ∙ ap (option_map upper_said)
      (sym (last_more sets_upper (bounds_on before name) l) ∙ ap (λ ks. last_of (filter sets_upper ks)) (sym on));
}
  where
    l : Line
    l = bound_item n fields

    after : List Line
    after = before ++ l ∷ []

    on : bounds_on after name ≡ bounds_on before name ++ l ∷ []
    on =
        ap (λ ks. bounds_in ks name) (bounds_more before n fields)
        ∙ bounds_in_more (items_of (codes "BOUNDS") before) l name
        ∙ ap (λ t. bounds_on before name ++ when t l) counts

-- a column that a bound says nothing of
column_without : (before : List Line) (n : ℕ) (fields : List (List ℕ)) (name : List ℕ) (c : ColumnDraft)
    → (of_first (items_of (codes "BOUNDS") before ++ bound_item n fields ∷ []) (bound_item n fields)
    && bytes_eq (bound_column (bound_item n fields)) name)
    ≡ false
    → ColumnStands before name c → ColumnStands (before ++ bound_item n fields ∷ []) name c
column_without before n fields name c none h = record {
  integer = h.integer
      ∙ sym (ap (λ ps. list_any (λ p. bytes_eq (column_name p.1) name && in_force p.0) ps || names_integer
      (bounds_on (before ++ l ∷ []) name))
      (first_lines_stay before l refl)
      ∙ ap (λ ks. begins_integer before name || names_integer ks) on);
  lower = h.lower ∙ ap (λ ks. option_map lower_by (last_of (filter sets_lower ks))) (sym on);
  upper = h.upper ∙ ap (λ ks. option_map upper_said (last_of (filter sets_upper ks))) (sym on);
}
  where
    l : Line
    l = bound_item n fields

    on : bounds_on (before ++ l ∷ []) name ≡ bounds_on before name
    on =
        ap (λ ks. bounds_in ks name) (bounds_more before n fields)
        ∙ bounds_in_more (items_of (codes "BOUNDS") before) l name
        ∙ ap (λ t. bounds_on before name ++ when t l) none
        ∙ append-nil (bounds_on before name)

-- ---- the columns of a draft

-- an element of a list in which one is set is that one or was there
get_of_set : {A : Type 0} (xs : List A) (i : ℕ) (y : A) (j : ℕ) (z : A) (P : Type 0) → slice_get (slice_set xs i y) j ≡ Some z
    → (j ≡ i → y ≡ z → P) → ((j ≡ i → ⊥) → slice_get xs j ≡ Some z → P) → P
get_of_set [] i y j z P at here other = absurd (cc at)
get_of_set (x ∷ xs) zero y zero z P at here other = here refl (cc at)
get_of_set (x ∷ xs) zero y (suc j) z P at here other = other (λ e. omega (arith, e)) at
get_of_set (x ∷ xs) (suc i) y zero z P at here other = other (λ e. omega (arith, e)) at
get_of_set (x ∷ xs) (suc i) y (suc j) z P at here other =
    get_of_set xs i y j z P at (λ e. here (ap suc e)) (λ e. other (λ f. e (omega (arith, f))))

-- a column after a bound stands, and the others as they were
pub columns_noted : (before : List Line) (n : ℕ) (fields : List (List ℕ)) (cs new : List ColumnDraft) (place : ℕ) (s : ColumnDraft)
    → of_first (items_of (codes "BOUNDS") before ++ bound_item n fields ∷ []) (bound_item n fields) ≡ true
    → length cs ≡ length (column_names before) → AreApart (column_names before)
    → position (bytes_eq (bound_column (bound_item n fields))) (column_names before) ≡ Some place
    → LineSays (bound_item n fields) s → ((c : ColumnDraft) → slice_get cs place ≡ Some c → new ≡ slice_set cs place (after_bound c s))
    → BoundsStand before cs → BoundsStand (before ++ bound_item n fields ∷ []) new
columns_noted before n fields cs new place s kept count apart found says noted h j name c at there =
    get_of_set cs place (after_bound old.0 s) j c (ColumnStands (before ++ l ∷ []) name c)
    (sym (ap (λ xs. slice_get xs j) (noted old.0 old.1)) ∙ there)
    (λ e f. subst (ColumnStands (before ++ l ∷ []) name) f
    (column_with before n fields name old.0 s
    (ap (λ t. t && bytes_eq (bound_column l) name) kept
    ∙ ap (bytes_eq (bound_column l)) (sym (get_or_from_slice_get names place name [] (ap (slice_get names) (sym e) ∙ named)))
    ∙ is.1)
    says (h place name old.0 (ap (slice_get names) (sym e) ∙ named) old.1)))
    (λ e f. column_without before n fields name c (ap (λ t. t && bytes_eq (bound_column l) name) kept
    ∙ other (bytes_eq (bound_column l) name) refl e) (h j name c named f))
  where
    l : Line
    l = bound_item n fields

    names : List (List ℕ)
    names = column_names before

    named : slice_get names j ≡ Some name
    named = ap (λ ns. slice_get ns j) (sym (column_names_stay before l refl)) ∙ at

    is : (place < length names) × (bytes_eq (bound_column l) (get_or names place []) ≡ true) ×
        ((k : ℕ) → k < place → bytes_eq (bound_column l) (get_or names k []) ≡ false)
    is = position-Some (bytes_eq (bound_column l)) names place [] found

    old : (c : ColumnDraft) × (slice_get cs place ≡ Some c)
    old = element_at cs place (omega (arith, count, is.0))

    other : (t : Bool) → bytes_eq (bound_column l) name ≡ t → (j ≡ place → ⊥) → t ≡ false
    other true e apart_from =
        let is_place : Some place ≡ Some j =
        sym found ∙ ap (λ w. position (bytes_eq w) names) ((bytes_eq-Decides (bound_column l) name).0 e) ∙ apart j name named in
        absurd (apart_from (sym (cc is_place)))
    other false e apart_from = refl

-- a bound of another set is dropped
pub columns_kept : (before : List Line) (n : ℕ) (fields : List (List ℕ)) (cs : List ColumnDraft)
    → of_first (items_of (codes "BOUNDS") before ++ bound_item n fields ∷ []) (bound_item n fields) ≡ false
    → BoundsStand before cs → BoundsStand (before ++ bound_item n fields ∷ []) cs
columns_kept before n fields cs dropped h j name c at there =
    column_without before n fields name c (ap (λ t. t && bytes_eq (bound_column (bound_item n fields)) name) dropped)
    (h j name c (ap (λ ns. slice_get ns j) (sym (column_names_stay before (bound_item n fields) refl)) ∙ at) there)

-- a draft stands for a bound too, once its columns and its kept set do
pub bound_stands : (before : List Line) (d new : Draft) (n : ℕ) (fields : List (List ℕ)) → Stands before d
    → line_faults before (bound_item n fields) ≡ [] → is_among (codes "BOUNDS") (words_of before) ≡ true
    → new.sections ≡ d.sections → new.rows ≡ d.rows → new.columns.names ≡ d.columns.names → new.columns.in_integers ≡ d.columns.in_integers
    → new.columns.open ≡ d.columns.open
    → new.sets.right_sides ≡ d.sets.right_sides → new.sets.ranges ≡ d.sets.ranges
    → length new.columns.columns.items ≡ length d.columns.columns.items
    → BoundsStand (before ++ bound_item n fields ∷ []) new.columns.columns.items
    → option_map string_bytes new.sets.bounds
    ≡ option_map bound_set (first_of (items_of (codes "BOUNDS") before ++ bound_item n fields ∷ []))
    → Stands (before ++ bound_item n fields ∷ []) new
bound_stands before d new n fields h right there sections rows names in_integers open_is right_sides ranges count bounds kept =
    let l = bound_item n fields in
    let after = before ++ l ∷ [] in
    let columns = columns_stand_stay before l d.columns refl h.columns in
    record {
      no_fault = faults-add before l ∙ ap (λ fs. fs ++ line_faults before l) h.no_fault ∙ right;
      sections = subst (λ s. SectionsStand after s.items) (sym sections) (sections_stay before l d.sections.items refl there h.sections);
      rows = subst (RowsStand after) (sym rows) (rows_stand_stay before l d.rows refl h.rows);
      entries =
          subst (λ t. EntriesStand (kept_entries (codes "COLUMNS") after) (kept_entries (codes "RHS") after)
          (kept_entries (codes "RANGES") after) (column_names after) (row_names after) t.rows.items) (sym rows)
          (entries_stay before l d.rows.rows.items refl refl refl refl h.entries);
      columns = record {
        names = ap (λ s. map string_bytes s.keys) names ∙ columns.names;
        count = count ∙ columns.count;
        apart = columns.apart;
        in_integers = in_integers ∙ columns.in_integers;
        open_is = open_is ∙ columns.open_is;
        open_last = λ j e. columns.open_last j (sym open_is ∙ e);
      };
      bounds = bounds;
      sets = record {
        right_sides = ap (option_map string_bytes) right_sides
            ∙ h.sets.right_sides
            ∙ ap (λ ks. option_map set_of (first_of ks)) (sym (items_stay (codes "RHS") before (l ∷ []) refl));
        ranges = ap (option_map string_bytes) ranges
            ∙ h.sets.ranges
            ∙ ap (λ ks. option_map set_of (first_of ks)) (sym (items_stay (codes "RANGES") before (l ∷ []) refl));
        bounds = kept ∙ ap (λ ks. option_map bound_set (first_of ks)) (sym (bounds_more before n fields));
      };
    }

-- ---- what the look-ups of a bound answer

pub column_found : (before : List Line) (t : ColumnTable) (name other : List ℕ) (o : Option ℕ) → ColumnsStand before t → name ≡ other
    → o ≡ position (λ k. bytes_eq other (string_bytes k)) t.names.keys → position (bytes_eq name) (column_names before) ≡ o
column_found before t name other o h is e =
    ap (λ w. position (bytes_eq w) (column_names before)) is
    ∙ ap (position (bytes_eq other)) (sym h.names)
    ∙ sym (place_of_name t.names.keys other)
    ∙ sym e

pub has_column_where : (before : List Line) (name : List ℕ) (o : Option ℕ) → position (bytes_eq name) (column_names before) ≡ o
    → has_column before name ≡ is_some o
has_column_where before name o e =
    sym (names_among name before) ∙ sym (place_where_any (bytes_eq name) (column_names before)) ∙ ap is_some e

pub number_fault : (l : Line) (k : BoundKind) (text : List ℕ) (o : Option Number) → bound_kind l ≡ bound_word k → bound_text l ≡ text
    → (is_among (bound_word k) numbered_words ≡ true → o ≡ number_of text)
    → (is_among (bound_word k) numbered_words ≡ false → o ≡ Some no_number)
    → (takes_number l && not (is_number (bound_text l))) ≡ is_none o
number_fault l k text o is text_is some none = by (takes_number l) refl
  where
    takes : takes_number l ≡ is_among (bound_word k) numbered_words
    takes = ap (λ w. is_among w numbered_words) is

    where_none : {A : Type 0} (t : Bool) (x : A) → not t ≡ is_none (where_true t x)
    where_none true x = refl
    where_none false x = refl

    by : (t : Bool) → takes_number l ≡ t → (t && not (is_number (bound_text l))) ≡ is_none o
    by true e = ap (λ w. not (is_number w)) text_is ∙ where_none (is_number text) _ ∙ ap is_none (sym (some (sym takes ∙ e)))
    by false e = ap is_none (sym (none (sym takes ∙ e)))

pub number_counts : (l : Line) (k : BoundKind) (text : List ℕ) (o : Option Number) (n : Number) → bound_kind l ≡ bound_word k
    → bound_text l ≡ text
    → (is_among (bound_word k) numbered_words ≡ true → o ≡ number_of text) → o ≡ Some n → takes_number l ≡ true
    → n ≡ number_or_zero (bound_text l)
number_counts l k text o n is text_is some e takes =
    ap (λ p. unwrap_or p no_number) (sym e ∙ some (sym (ap (λ w. is_among w numbered_words) is) ∙ takes)) ∙ ap number_or_zero (sym text_is)

pub unknown_column : (before : List Line) (n : ℕ) (fields : List (List ℕ)) (k : BoundKind)
    → is_among (codes "ROWS") (words_of before) ≡ true → bound_kind (bound_item n fields) ≡ bound_word k
    → has_right_count (bound_item n fields) ≡ true → has_column before (bound_column (bound_item n fields)) ≡ false
    → first_of (line_faults before (bound_item n fields)) ≡ Some (UnknownColumn n)
unknown_column before n fields k there is right none =
    ap first_of (right_count before n fields k there is right)
    ∙ ap (λ t. first_of (when (not t) (UnknownColumn n)
    ++ when (takes_number (bound_item n fields) && not (is_number (bound_text (bound_item n fields)))) (NoNumber n))) none

-- the faults of a bound by what the look-ups answer
pub faults_by : (before : List Line) (n : ℕ) (fields : List (List ℕ)) (k : BoundKind) (place : Option ℕ) (number : Option Number)
    → is_among (codes "ROWS") (words_of before) ≡ true → bound_kind (bound_item n fields) ≡ bound_word k
    → has_right_count (bound_item n fields) ≡ true → has_column before (bound_column (bound_item n fields)) ≡ is_some place
    → (takes_number (bound_item n fields) && not (is_number (bound_text (bound_item n fields)))) ≡ is_none number
    → line_faults before (bound_item n fields) ≡ when (not (is_some place)) (UnknownColumn n) ++ when (is_none number) (NoNumber n)
faults_by before n fields k place number there is right found counted =
    right_count before n fields k there is right
    ∙ ap (λ t. when (not t) (UnknownColumn n)
    ++ when (takes_number (bound_item n fields) && not (is_number (bound_text (bound_item n fields)))) (NoNumber n)) found
    ∙ ap (λ t. when (not (is_some place)) (UnknownColumn n) ++ when t (NoNumber n)) counted

-- where the look-up of its column answers, a number alone can be wrong
pub found_faults : (before : List Line) (n : ℕ) (fields : List (List ℕ)) (k : BoundKind) (set name text : List ℕ) (t : ColumnTable)
    (place : ℕ) (number : Option Number)
    → ColumnsStand before t → is_among (codes "ROWS") (words_of before) ≡ true → IsBound (bound_item n fields) k set name text
    → Some place ≡ position (λ c. bytes_eq name (string_bytes c)) t.names.keys
    → (is_among (bound_word k) numbered_words ≡ true → number ≡ number_of text)
    → (is_among (bound_word k) numbered_words ≡ false → number ≡ Some no_number)
    → line_faults before (bound_item n fields) ≡ when (is_none number) (NoNumber n)
found_faults before n fields k set name text t place number h rows bound at some none =
    let l = bound_item n fields in
    let found = column_found before t (bound_column l) name (Some place) h bound.column_is at in
    faults_by before n fields k (Some place) number rows bound.kind_is bound.count
    (has_column_where before (bound_column l) (Some place) found)
    (number_fault l k text number bound.kind_is bound.text_is some none)

pub noted_count : (cs new : List ColumnDraft) (names : List (List ℕ)) (name : List ℕ) (place : ℕ) (s : ColumnDraft)
    → length cs ≡ length names → position (bytes_eq name) names ≡ Some place
    → ((c : ColumnDraft) → slice_get cs place ≡ Some c → new ≡ slice_set cs place (after_bound c s)) → length new ≡ length cs
noted_count cs new names name place s count found noted =
    let is = position-Some (bytes_eq name) names place [] found in
    let old = element_at cs place (omega (arith, count, is.0)) in
    ap length (noted old.0 old.1) ∙ length-set cs place (after_bound old.0 s)
