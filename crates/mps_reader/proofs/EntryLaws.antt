-- What an entry changes in what is written for a row.
use Rattle.std.specs.Prelude.{◌≡◌, ℕ, ◌+◌, ◌==◌, ◌<◌, ◌≤◌, max, Bool, true, false, cond, ◌&&◌, ◌||◌, if◌then◌else◌, List, [], ◌∷◌, ◌++◌}
use Rattle.std.specs.Prelude.{length, map, filter, filter_map, find, Option, None, Some, bytes_eq, codes, refl}
use Rattle.std.specs.List.{list_any, enumerate_from, cons_option}
use Rattle.std.specs.Option.{option_map, option_map_or, option_or, is_some}
use Rattle.std.proofs.Common.{arith, ap, sym, ◌∙◌, subst}
use Rattle.std.proofs.lemmas.Bool.{eqb-true, eq-eqb, true≢false, false_from_ne_true, and_from}
use Rattle.ip_defs.specs.Lists.{when}
use Rattle.mps_defs.specs.Lists.{last_of}
use Rattle.mps_defs.specs.Numbers.{decimals_of}
use Rattle.mps_defs.specs.Records.{Line, Entry, is_kept, is_kept_set, kept_entries, column_names}
use Rattle.mps_defs.specs.Faults.{same_place}
use Rattle.mps_defs.specs.TextModels.{written_at, written_in, written_for, decimals_in, largest, placed, number_or_zero}
use Rattle.mps_defs.specs.declared.reading.Number.{Number}
use Rattle.mps_reader.specs.declared.draft.RowDraft.{RowDraft}
use Rattle.mps_reader.specs.declared.entries.Owner.{Owner}
use Rattle.mps_reader.specs.declared.entries.Owner.TheVariants.{Column, RightSides, Ranges}
use Rattle.mps_reader.specs.Internal.Progress.{RowStands}
use Rattle.mps_reader.specs.Internal.Taking.{IsLast, Owns, IsPut, owner_word, counted, has_number}
use Rattle.mps_reader.proofs.GrowthLaws.{written_at-other, written_in-add}
use Rattle.mps_reader.proofs.NameLaws.{same_tests}
use Rattle.ip_defs.proofs.BoolLaws.{left_true, right_true}
use Rattle.ip_defs.proofs.TextLaws.{text_self, text_same, text_turned}
use Rattle.ip_defs.proofs.ListLaws.{filter-append, find-append, enumerate-append, or_none, unmapped}
use Rattle.std.proofs.lemmas.List.{append-nil, map-append}
use Rattle.std.proofs.lemmas.List.Elements.{filter_map-append}
use Rattle.mps_defs.proofs.ListLaws.{last_of-add}
use Rattle.mps_defs.proofs.NumberLaws.{largest-append, largest-from}
use Rattle.mps_defs.proofs.EntryLaws.{one_set, kept_in_set}

-- ---- the most decimals

-- the most decimals of entries on a row
abbrev pub most : List Entry → List ℕ → ℕ
most es name = largest 0 (decimals_in es name)

most-append : (es fs : List Entry) (name : List ℕ) → most (es ++ fs) name ≡ max (most es name) (most fs name)
most-append es fs name =
    ap (λ k. largest 0 (map (λ e. decimals_of (number_or_zero e.text)) k)) (filter-append (λ e. bytes_eq e.row name) es fs)
    ∙ ap (largest 0) (map-append (λ e. decimals_of (number_or_zero e.text)) (filter (λ e. bytes_eq e.row name) es)
    (filter (λ e. bytes_eq e.row name) fs))
    ∙ largest-append 0 (decimals_in es name) (decimals_in fs name)
    ∙ largest-from (most es name) (decimals_in fs name)

most_of_three : (a b c : List Entry) (name : List ℕ) → most (a ++ b ++ c) name ≡ max (max (most a name) (most b name)) (most c name)
most_of_three a b c name = most-append (a ++ b) c name ∙ ap (λ n. max n (most c name)) (most-append a b name)

most_of_one : (e : Entry) (name : List ℕ) (t : Bool) → bytes_eq e.row name ≡ t
    → most (e ∷ []) name ≡ (if t then decimals_of (number_or_zero e.text) else 0)
most_of_one e name t h = ap (λ b. largest 0 (map (λ k. decimals_of (number_or_zero k.text)) (cond b (e ∷ []) []))) h ∙ by t
  where
    by : (b : Bool)
        → largest 0 (map (λ k. decimals_of (number_or_zero k.text)) (cond b (e ∷ []) []))
        ≡ (if b then decimals_of (number_or_zero e.text) else 0)
    by true = omega arith
    by false = refl

-- ---- one more entry on another row

filter_map-same : {A B : Type 0} (f g : A → Option B) (xs : List A) → ((x : A) → f x ≡ g x) → filter_map f xs ≡ filter_map g xs
filter_map-same f g [] h = refl
filter_map-same f g (x ∷ xs) h = ap (λ o. cons_option o (filter_map f xs)) (h x) ∙ ap (cons_option (g x)) (filter_map-same f g xs h)

written_in-other : (es : List Entry) (e : Entry) (cs : List (List ℕ)) (row : List ℕ) → bytes_eq e.row row ≡ false
    → written_in (es ++ e ∷ []) cs row ≡ written_in es cs row
written_in-other es e cs row h =
    filter_map-same (placed (es ++ e ∷ []) row) (placed es row) (enumerate_from 0 cs)
    (λ p. ap (option_map (λ n. (p.0, n))) (written_at-other es e row p.1 (ap (λ b. b && bytes_eq e.owner p.1) h)))

find-more : {A : Type 0} (test : A → Bool) (xs : List A) (x : A) (t : Bool) → test x ≡ t
    → find test (xs ++ x ∷ []) ≡ option_or (find test xs) (if t then Some x else None)
find-more test xs x t h = find-append test xs (x ∷ []) ∙ ap (λ b. option_or (find test xs) (cond b (Some x) None)) h ∙ by t
  where
    by : (b : Bool) → option_or (find test xs) (cond b (Some x) None) ≡ option_or (find test xs) (if b then Some x else None)
    by true = refl
    by false = refl

written_for-other : (es : List Entry) (e : Entry) (row : List ℕ) → bytes_eq e.row row ≡ false
    → written_for (es ++ e ∷ []) row ≡ written_for es row
written_for-other es e row h =
    ap (option_map (λ k. number_or_zero k.text))
    (find-more (λ k. bytes_eq k.row row) es e false h ∙ or_none (find (λ k. bytes_eq k.row row) es))

most-other : (es : List Entry) (e : Entry) (name : List ℕ) → bytes_eq e.row name ≡ false → most (es ++ e ∷ []) name ≡ most es name
most-other es e name h =
    let all = most-append es (e ∷ []) name in
    let one = most_of_one e name false h in
    omega arith

pub other_entry : (a b c : List Entry) (cs : List (List ℕ)) (name : List ℕ) (r : RowDraft) (e : Entry) → bytes_eq e.row name ≡ false
    → RowStands a b c cs name r → RowStands (a ++ e ∷ []) b c cs name r
other_entry a b c cs name r e h stands = record {
  entries_are = stands.entries_are ∙ sym (written_in-other a e cs name h);
  right_side = stands.right_side;
  range = stands.range;
  decimals = (let was = most_of_three a b c name in let is = most_of_three
      (a ++ e ∷ []) b c name in let more = most-other a e name h in let d = stands.decimals in omega arith);
  few = stands.few;
}

pub other_right_side : (a b c : List Entry) (cs : List (List ℕ)) (name : List ℕ) (r : RowDraft) (e : Entry) → bytes_eq e.row name ≡ false
    → RowStands a b c cs name r → RowStands a (b ++ e ∷ []) c cs name r
other_right_side a b c cs name r e h stands = record {
  entries_are = stands.entries_are;
  right_side = stands.right_side ∙ sym (written_for-other b e name h);
  range = stands.range;
  decimals = (let was = most_of_three a b c name in let is = most_of_three a
      (b ++ e ∷ []) c name in let more = most-other b e name h in let d = stands.decimals in omega arith);
  few = stands.few;
}

pub other_range : (a b c : List Entry) (cs : List (List ℕ)) (name : List ℕ) (r : RowDraft) (e : Entry) → bytes_eq e.row name ≡ false
    → RowStands a b c cs name r → RowStands a b (c ++ e ∷ []) cs name r
other_range a b c cs name r e h stands = record {
  entries_are = stands.entries_are;
  right_side = stands.right_side;
  range = stands.range ∙ sym (written_for-other c e name h);
  decimals = (let was = most_of_three a b c name in let is = most_of_three a b
      (c ++ e ∷ []) name in let more = most-other c e name h in let d = stands.decimals in omega arith);
  few = stands.few;
}

-- ---- one more entry on its own row

most-own : (es : List Entry) (e : Entry) (name : List ℕ) → bytes_eq e.row name ≡ true
    → most (es ++ e ∷ []) name ≡ max (most es name) (decimals_of (number_or_zero e.text))
most-own es e name h =
    let all = most-append es (e ∷ []) name in
    let one = most_of_one e name true h in
    omega arith

pub written_in-snoc : (es : List Entry) (row : List ℕ) (cs : List (List ℕ)) (c : List ℕ)
    → written_in es (cs ++ c ∷ []) row ≡ written_in es cs row ++ cons_option (placed es row (0 + length cs, c)) []
written_in-snoc es row cs c =
    ap (filter_map (placed es row)) (enumerate-append 0 cs (c ∷ []))
    ∙ filter_map-append (placed es row) (enumerate_from 0 cs) ((0 + length cs, c) ∷ [])

written_at-own : (es : List Entry) (e : Entry) (row : List ℕ) → bytes_eq e.row row ≡ true → written_at es row e.owner ≡ None
    → written_at (es ++ e ∷ []) row e.owner ≡ Some (number_or_zero e.text)
written_at-own es e row h none =
    let test : Entry → Bool = λ k. bytes_eq k.row row && bytes_eq k.owner e.owner in
    ap (option_map (λ k. number_or_zero k.text))
    (find-more test es e true (and_from (bytes_eq e.row row) (bytes_eq e.owner e.owner) h (text_self e.owner))
    ∙ ap (λ o. option_or o (Some e)) (unmapped (λ k. number_or_zero k.text) (find test es) none))

written_in-own : (es : List Entry) (e : Entry) (row : List ℕ) (cs : List (List ℕ)) (number : ℕ) → IsLast cs e.owner number
    → bytes_eq e.row row ≡ true → written_at es row e.owner ≡ None
    → written_in (es ++ e ∷ []) cs row ≡ written_in es cs row ++ (number, number_or_zero e.text) ∷ []
written_in-own es e row cs number last h none =
    let with_one =
    ap (λ o. written_in es last.front row ++ cons_option (option_map (λ n. (0 + length last.front, n)) o) [])
    (written_at-own es e row h none) in
    let with_none = ap (λ o. written_in es last.front row ++ cons_option (option_map (λ n. (0 + length last.front, n)) o) []) none in
    let place : 0 + length last.front ≡ number = omega (arith, last.number_is) in
    ap (λ l. written_in (es ++ e ∷ []) l row) last.columns_are
    ∙ written_in-add es e row e.owner last.front last.once
    ∙ with_one
    ∙ ap (λ k. written_in es last.front row ++ (k, number_or_zero e.text) ∷ []) place
    ∙ ap (λ l. l ++ (number, number_or_zero e.text) ∷ [])
    (sym (append-nil (written_in es last.front row))
    ∙ sym with_none
    ∙ sym (written_in-snoc es row last.front e.owner)
    ∙ sym (ap (λ l. written_in es l row) last.columns_are))

written_for-own : (es : List Entry) (e : Entry) (row : List ℕ) → bytes_eq e.row row ≡ true → written_for es row ≡ None
    → written_for (es ++ e ∷ []) row ≡ Some (number_or_zero e.text)
written_for-own es e row h none =
    ap (option_map (λ k. number_or_zero k.text))
    (find-more (λ k. bytes_eq k.row row) es e true h
    ∙ ap (λ o. option_or o (Some e)) (unmapped (λ k. number_or_zero k.text) (find (λ k. bytes_eq k.row row) es) none))

-- ---- whether a row has a number of an entry's owner

any-same : {A : Type 0} (f g : A → Bool) (xs : List A) → ((x : A) → f x ≡ g x) → list_any f xs ≡ list_any g xs
any-same f g [] h = refl
any-same f g (x ∷ xs) h = ap (λ b. b || list_any f xs) (h x) ∙ ap (λ b. g x || b) (any-same f g xs h)

any_kept : {A : Type 0} (keeps test : A → Bool) (xs : List A) → list_any test (filter keeps xs) ≡ list_any (λ x. keeps x && test x) xs
any_kept keeps test [] = refl
any_kept keeps test (x ∷ xs) = by (keeps x) (any_kept keeps test xs)
  where
    by : (b : Bool) → list_any test (filter keeps xs) ≡ list_any (λ y. keeps y && test y) xs
        → list_any test (cond b (x ∷ filter keeps xs) (filter keeps xs)) ≡ ((b && test x) || list_any (λ y. keeps y && test y) xs)
    by true h = ap (λ b. test x || b) h
    by false h = h

any_found : {A B : Type 0} (f : A → B) (test : A → Bool) (xs : List A) → is_some (option_map f (find test xs)) ≡ list_any test xs
any_found f test [] = refl
any_found f test (x ∷ xs) = by (test x) (any_found f test xs)
  where
    by : (b : Bool) → is_some (option_map f (find test xs)) ≡ list_any test xs
        → is_some (option_map f (cond b (Some x) (find test xs))) ≡ (b || list_any test xs)
    by true h = refl
    by false h = h

-- an entry counts by its row and its owner
kept_alike : (word : List ℕ) (ls : List Line) (e f : Entry) → e.row ≡ f.row → e.owner ≡ f.owner → is_kept word ls e ≡ is_kept word ls f
kept_alike word ls e f row owner =
    ap (λ x. is_kept word ls (record { line = e.line; owner = e.owner; row = x; text = e.text })) row
    ∙ ap (λ x. is_kept word ls (record { line = e.line; owner = x; row = f.row; text = e.text })) owner

-- among entries of one owner that count, an entry on the same row is at the same place
on_column : (word : List ℕ) (ls : List Line) (e : Entry) (es : List Entry) → is_kept word ls e ≡ true
    → list_any (same_place e) es ≡ list_any (λ f. bytes_eq f.row e.row && bytes_eq f.owner e.owner) (filter (is_kept word ls) es)
on_column word ls e es kept =
    any-same (same_place e) (λ f. is_kept word ls f && (bytes_eq f.row e.row && bytes_eq f.owner e.owner)) es
    (λ f. same_tests (same_place e f) (is_kept word ls f && (bytes_eq f.row e.row && bytes_eq f.owner e.owner)) (there f) (back f))
    ∙ sym (any_kept (is_kept word ls) (λ f. bytes_eq f.row e.row && bytes_eq f.owner e.owner) es)
  where
    there : (f : Entry) → same_place e f ≡ true → (is_kept word ls f && (bytes_eq f.row e.row && bytes_eq f.owner e.owner)) ≡ true
    there f h =
        let owner = left_true (bytes_eq e.owner f.owner) (bytes_eq e.row f.row) h in
        let row = right_true (bytes_eq e.owner f.owner) (bytes_eq e.row f.row) h in
        and_from (is_kept word ls f) (bytes_eq f.row e.row && bytes_eq f.owner e.owner)
        (sym (kept_alike word ls e f (text_same e.row f.row row) (text_same e.owner f.owner owner)) ∙ kept)
        (and_from (bytes_eq f.row e.row) (bytes_eq f.owner e.owner) (text_turned f.row e.row ∙ row) (text_turned f.owner e.owner ∙ owner))

    back : (f : Entry) → (is_kept word ls f && (bytes_eq f.row e.row && bytes_eq f.owner e.owner)) ≡ true → same_place e f ≡ true
    back f h =
        let both = right_true (is_kept word ls f) (bytes_eq f.row e.row && bytes_eq f.owner e.owner) h in
        and_from (bytes_eq e.owner f.owner) (bytes_eq e.row f.row)
        (text_turned e.owner f.owner ∙ right_true (bytes_eq f.row e.row) (bytes_eq f.owner e.owner) both)
        (text_turned e.row f.row ∙ left_true (bytes_eq f.row e.row) (bytes_eq f.owner e.owner) both)

on_set : (word : List ℕ) (ls : List Line) (e : Entry) (es : List Entry) → is_kept word ls e ≡ true
    → ((f : Entry) → is_kept word ls f ≡ true → is_kept_set word ls f.owner ≡ true)
    → list_any (same_place e) es ≡ list_any (λ f. bytes_eq f.row e.row) (filter (is_kept word ls) es)
on_set word ls e es kept in_set =
    any-same (same_place e) (λ f. is_kept word ls f && bytes_eq f.row e.row) es
    (λ f. same_tests (same_place e f) (is_kept word ls f && bytes_eq f.row e.row) (there f) (back f))
    ∙ sym (any_kept (is_kept word ls) (λ f. bytes_eq f.row e.row) es)
  where
    there : (f : Entry) → same_place e f ≡ true → (is_kept word ls f && bytes_eq f.row e.row) ≡ true
    there f h =
        let owner = left_true (bytes_eq e.owner f.owner) (bytes_eq e.row f.row) h in
        let row = right_true (bytes_eq e.owner f.owner) (bytes_eq e.row f.row) h in
        and_from (is_kept word ls f) (bytes_eq f.row e.row)
        (sym (kept_alike word ls e f (text_same e.row f.row row) (text_same e.owner f.owner owner)) ∙ kept)
        (text_turned f.row e.row ∙ row)

    back : (f : Entry) → (is_kept word ls f && bytes_eq f.row e.row) ≡ true → same_place e f ≡ true
    back f h =
        let counts = left_true (is_kept word ls f) (bytes_eq f.row e.row) h in
        let same = one_set word ls e.owner f.owner (in_set e kept) (in_set f counts) in
        and_from (bytes_eq e.owner f.owner) (bytes_eq e.row f.row)
        (ap (bytes_eq e.owner) (sym same) ∙ text_self e.owner)
        (text_turned e.row f.row ∙ right_true (is_kept word ls f) (bytes_eq f.row e.row) h)

-- the columns that are written are below the count of columns
below_count : (es : List Entry) (row : List ℕ) (n : ℕ) (cs : List (List ℕ)) (p : ℕ × Number)
    → last_of (filter_map (placed es row) (enumerate_from n cs)) ≡ Some p → p.0 < n + length cs
below_count es row n [] p h = absurd (cc h)
below_count es row n (c ∷ cs) p h =
    by (written_at es row c) (filter_map (placed es row) (enumerate_from (n + 1) cs))
    (λ q g. (let rest = below_count es row (n + 1) cs q g in omega arith)) p h
  where
    by : (o : Option Number) (rest : List (ℕ × Number)) → ((q : ℕ × Number) → last_of rest ≡ Some q → q.0 < n + length (c ∷ cs))
        → (q : ℕ × Number) → last_of (cons_option (option_map (λ k. (n, k)) o) rest) ≡ Some q → q.0 < n + length (c ∷ cs)
    by None rest later q g = later q g
    by (Some k) [] later q g = (let same : (n, k) ≡ q = cc g in let at : n ≡ q.0 = ap {A = ℕ × Number} (λ r. r.0) same in omega arith)
    by (Some k) (x ∷ rest) later q g = later q g

last_number : (xs : List (ℕ × Number)) (number : ℕ) → ((p : ℕ × Number) → last_of xs ≡ Some p → p.0 < number) → (o : Option Number)
    → option_map_or (λ p. p.0 == number) (last_of (xs ++ cons_option (option_map (λ n. (number, n)) o) [])) false ≡ is_some o
last_number xs number below None = ap (λ l. option_map_or (λ p. p.0 == number) (last_of l) false) (append-nil xs) ∙ by (last_of xs) below
  where
    by : (o : Option (ℕ × Number)) → ((p : ℕ × Number) → o ≡ Some p → p.0 < number) → option_map_or (λ p. p.0 == number) o false ≡ false
    by None below = refl
    by (Some p) below =
        false_from_ne_true (p.0 == number) (λ h. (let small = below p refl in let same = eqb-true p.0 number h in omega arith))
last_number xs number below (Some n) =
    ap (λ o. option_map_or (λ p. p.0 == number) o false) (last_of-add xs (number, n)) ∙ eq-eqb number number refl

-- the last column written for a row is the last of the columns where it has a number
last_written : (es : List Entry) (row : List ℕ) (cs : List (List ℕ)) (name : List ℕ) (number : ℕ) → IsLast cs name number
    → option_map_or (λ p. p.0 == number) (last_of (written_in es cs row)) false ≡ is_some (written_at es row name)
last_written es row cs name number last =
    let place : 0 + length last.front ≡ number = omega (arith, last.number_is) in
    ap (λ l. option_map_or (λ p. p.0 == number) (last_of (written_in es l row)) false) last.columns_are
    ∙ ap (λ l. option_map_or (λ p. p.0 == number) (last_of l) false) (written_in-snoc es row last.front name)
    ∙ ap (λ k. option_map_or (λ p. p.0 == number)
    (last_of (written_in es last.front row ++ cons_option (option_map (λ n. (k, n)) (written_at es row name)) [])) false) place
    ∙ last_number (written_in es last.front row) number (λ p h. (let small = below_count es row 0 last.front p h in omega arith))
    (written_at es row name)

-- the entries that count in each section, where those of the owner's section are es so far
abbrev pub RowHas : List Line → Owner → List Entry → List ℕ → RowDraft → Type 0
RowHas ls owner es name r =
    RowStands (counted ls owner es (codes "COLUMNS")) (counted ls owner es (codes "RHS")) (counted ls owner es (codes "RANGES"))
    (column_names ls) name r

-- a row has a number of the owner exactly where an entry at the same place came before
pub has_same_place : (ls : List Line) (owner : Owner) (es : List Entry) (r : RowDraft) (e : Entry) → Owns ls owner e.owner
    → is_kept (owner_word owner) ls e ≡ true → RowHas ls owner es e.row r
    → has_number owner r ≡ list_any (same_place e) es
has_same_place ls (Column number) es r e owns kept has =
    ap (λ l. option_map_or (λ p. p.0 == number) (last_of l) false) has.entries_are
    ∙ last_written (filter (is_kept (codes "COLUMNS") ls) es) e.row (column_names ls) e.owner number owns
    ∙ any_found (λ k. number_or_zero k.text) (λ f. bytes_eq f.row e.row && bytes_eq f.owner e.owner)
    (filter (is_kept (codes "COLUMNS") ls) es)
    ∙ sym (on_column (codes "COLUMNS") ls e es kept)
has_same_place ls (RightSides is_set) es r e owns kept has =
    ap is_some has.right_side
    ∙ any_found (λ k. number_or_zero k.text) (λ f. bytes_eq f.row e.row) (filter (is_kept (codes "RHS") ls) es)
    ∙ sym (on_set (codes "RHS") ls e es kept (λ f counts. kept_in_set (codes "RHS") ls f refl counts))
has_same_place ls (Ranges is_set) es r e owns kept has =
    ap is_some has.range
    ∙ any_found (λ k. number_or_zero k.text) (λ f. bytes_eq f.row e.row) (filter (is_kept (codes "RANGES") ls) es)
    ∙ sym (on_set (codes "RANGES") ls e es kept (λ f counts. kept_in_set (codes "RANGES") ls f refl counts))

-- one more entry counts or does not
counted_more : (word : List ℕ) (ls : List Line) (es : List Entry) (e : Entry) (t : Bool) → is_kept word ls e ≡ t
    → filter (is_kept word ls) (es ++ e ∷ []) ≡ filter (is_kept word ls) es ++ when t e
counted_more word ls es e t h =
    filter-append (is_kept word ls) es (e ∷ []) ∙ ap (λ b. filter (is_kept word ls) es ++ cond b (e ∷ []) []) h ∙ by t
  where
    by : (b : Bool) → filter (is_kept word ls) es ++ cond b (e ∷ []) [] ≡ filter (is_kept word ls) es ++ when b e
    by true = refl
    by false = refl

-- an entry that does not count changes nothing
pub idle_entry : (ls : List Line) (owner : Owner) (es : List Entry) (name : List ℕ) (r : RowDraft) (e : Entry)
    → is_kept (owner_word owner) ls e ≡ false → RowHas ls owner es name r → RowHas ls owner (es ++ e ∷ []) name r
idle_entry ls (Column number) es name r e h has =
    subst (λ l. RowStands l (kept_entries (codes "RHS") ls) (kept_entries (codes "RANGES") ls) (column_names ls) name r)
    (sym (counted_more (codes "COLUMNS") ls es e false h ∙ append-nil (filter (is_kept (codes "COLUMNS") ls) es))) has
idle_entry ls (RightSides is_set) es name r e h has =
    subst (λ l. RowStands (kept_entries (codes "COLUMNS") ls) l (kept_entries (codes "RANGES") ls) (column_names ls) name r)
    (sym (counted_more (codes "RHS") ls es e false h ∙ append-nil (filter (is_kept (codes "RHS") ls) es))) has
idle_entry ls (Ranges is_set) es name r e h has =
    subst (λ l. RowStands (kept_entries (codes "COLUMNS") ls) (kept_entries (codes "RHS") ls) l (column_names ls) name r)
    (sym (counted_more (codes "RANGES") ls es e false h ∙ append-nil (filter (is_kept (codes "RANGES") ls) es))) has

-- an entry that counts changes nothing on another row
pub other_row : (ls : List Line) (owner : Owner) (es : List Entry) (name : List ℕ) (r : RowDraft) (e : Entry)
    → is_kept (owner_word owner) ls e ≡ true → bytes_eq e.row name ≡ false → RowHas ls owner es name r
    → RowHas ls owner (es ++ e ∷ []) name r
other_row ls (Column number) es name r e h other has =
    subst (λ l. RowStands l (kept_entries (codes "RHS") ls) (kept_entries (codes "RANGES") ls) (column_names ls) name r)
    (sym (counted_more (codes "COLUMNS") ls es e true h))
    (other_entry (filter (is_kept (codes "COLUMNS") ls) es) (kept_entries (codes "RHS") ls) (kept_entries (codes "RANGES") ls)
    (column_names ls) name r e other has)
other_row ls (RightSides is_set) es name r e h other has =
    subst (λ l. RowStands (kept_entries (codes "COLUMNS") ls) l (kept_entries (codes "RANGES") ls) (column_names ls) name r)
    (sym (counted_more (codes "RHS") ls es e true h))
    (other_right_side (kept_entries (codes "COLUMNS") ls) (filter (is_kept (codes "RHS") ls) es) (kept_entries (codes "RANGES") ls)
    (column_names ls) name r e other has)
other_row ls (Ranges is_set) es name r e h other has =
    subst (λ l. RowStands (kept_entries (codes "COLUMNS") ls) (kept_entries (codes "RHS") ls) l (column_names ls) name r)
    (sym (counted_more (codes "RANGES") ls es e true h))
    (other_range (kept_entries (codes "COLUMNS") ls) (kept_entries (codes "RHS") ls) (filter (is_kept (codes "RANGES") ls) es)
    (column_names ls) name r e other has)

none_there : {A : Type 0} (o : Option A) → is_some o ≡ false → o ≡ None
none_there None h = refl
none_there (Some x) h = absurd (true≢false h)

-- on its own row it is written
pub own_row : (ls : List Line) (owner : Owner) (es : List Entry) (r new : RowDraft) (e : Entry) (n : Number) → Owns ls owner e.owner
    → is_kept (owner_word owner) ls e ≡ true → has_number owner r ≡ false
    → number_or_zero e.text ≡ n → decimals_of n ≤ 9 → IsPut owner n r new → RowHas ls owner es e.row r
    → RowHas ls owner (es ++ e ∷ []) e.row new
own_row ls (Column number) es r new e n owns h fresh is few put has =
    let a = filter (is_kept (codes "COLUMNS") ls) es in
    let b = kept_entries (codes "RHS") ls in
    let c = kept_entries (codes "RANGES") ls in
    let none =
    none_there (written_at a e.row e.owner)
    (sym (ap (λ l. option_map_or (λ p. p.0 == number) (last_of l) false) has.entries_are
    ∙ last_written a e.row (column_names ls) e.owner number owns)
    ∙ fresh) in
    subst (λ l. RowStands l b c (column_names ls) e.row new) (sym (counted_more (codes "COLUMNS") ls es e true h))
    (record {
      entries_are = put.entries_are
          ∙ ap (λ l. l ++ (number, n) ∷ []) has.entries_are
          ∙ ap (λ k. written_in a (column_names ls) e.row ++ (number, k) ∷ []) (sym is)
          ∙ sym (written_in-own a e e.row (column_names ls) number owns (text_self e.row) none);
      right_side = put.right_side ∙ has.right_side;
      range = put.range ∙ has.range;
      decimals = (let was = most_of_three a b c e.row in let now = most_of_three (a ++ e ∷ []) b c e.row in let more = most-own a e e.row
          (text_self e.row) in let same = ap decimals_of is in let d = has.decimals in let p = put.decimals in omega arith);
      few = (let p = put.decimals in let f = has.few in omega arith);
    })
own_row ls (RightSides is_set) es r new e n owns h fresh is few put has =
    let a = kept_entries (codes "COLUMNS") ls in
    let b = filter (is_kept (codes "RHS") ls) es in
    let c = kept_entries (codes "RANGES") ls in
    let none = none_there (written_for b e.row) (sym (ap is_some has.right_side) ∙ fresh) in
    subst (λ l. RowStands a l c (column_names ls) e.row new) (sym (counted_more (codes "RHS") ls es e true h))
    (record {
      entries_are = put.entries_are ∙ has.entries_are;
      right_side = put.right_side ∙ ap Some (sym is) ∙ sym (written_for-own b e e.row (text_self e.row) none);
      range = put.range ∙ has.range;
      decimals = (let was = most_of_three a b c e.row in let now = most_of_three a (b ++ e ∷ []) c e.row in let more = most-own b e e.row
          (text_self e.row) in let same = ap decimals_of is in let d = has.decimals in let p = put.decimals in omega arith);
      few = (let p = put.decimals in let f = has.few in omega arith);
    })
own_row ls (Ranges is_set) es r new e n owns h fresh is few put has =
    let a = kept_entries (codes "COLUMNS") ls in
    let b = kept_entries (codes "RHS") ls in
    let c = filter (is_kept (codes "RANGES") ls) es in
    let none = none_there (written_for c e.row) (sym (ap is_some has.range) ∙ fresh) in
    subst (λ l. RowStands a b l (column_names ls) e.row new) (sym (counted_more (codes "RANGES") ls es e true h))
    (record {
      entries_are = put.entries_are ∙ has.entries_are;
      right_side = put.right_side ∙ has.right_side;
      range = put.range ∙ ap Some (sym is) ∙ sym (written_for-own c e e.row (text_self e.row) none);
      decimals = (let was = most_of_three a b c e.row in let now = most_of_three a b (c ++ e ∷ []) e.row in let more = most-own c e e.row
          (text_self e.row) in let same = ap decimals_of is in let d = has.decimals in let p = put.decimals in omega arith);
      few = (let p = put.decimals in let f = has.few in omega arith);
    })
