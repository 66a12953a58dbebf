-- The entries that are kept of lines without a fault: each has at most nine decimals, and none stands at a place where one came before.
use Rattle.std.specs.Prelude.{◌≡◌, ℕ, ◌≤◌, ◌==◌, drop, nat_lt, nat_le, Bool, true, false, ◌&&◌, ◌||◌, not, cond, if◌then◌else◌, List, []}
use Rattle.std.specs.Prelude.{◌∷◌, ◌++◌, length, flat_map, bytes_eq, codes}
use Rattle.std.specs.List.{list_any}
use Rattle.std.proofs.Common.{refl, ap, sym, ◌∙◌, subst}
use Rattle.std.proofs.lemmas.Bool.{ltb-false}
use Rattle.std.proofs.lemmas.Slice.Eq.{bytes_eq-Decides}
use Rattle.mps_defs.specs.Lists.{is_among, after_those, with_earlier}
use Rattle.ip_defs.specs.Lists.{when}
use Rattle.mps_defs.specs.Numbers.{is_number, decimals_of}
use Rattle.mps_defs.specs.Records.{Line, Entry, items_of, words_of, is_marker, column_name, entries_from, entries_of, all_entries, is_kept}
use Rattle.mps_defs.specs.Records.{row_names}
use Rattle.mps_defs.specs.Faults.{line_faults, marker_faults, column_faults, set_faults, is_split, pair_faults, entry_faults, same_place}
use Rattle.mps_defs.specs.declared.reading.MpsError.{MpsError}
use Rattle.mps_defs.specs.declared.reading.MpsError.TheVariants.{SectionOrder, FieldCount, SplitColumn, UnknownRow, Number, Digits}
use Rattle.mps_defs.specs.declared.reading.MpsError.TheVariants.{TwiceEntry}
use Rattle.text_laws.proofs.EachLaws.{EachAfter, each_after_append}
use Rattle.text_laws.proofs.SoundLaws.{IsSound, is_late, sound_line, sound_next, kept_alike}
use Rattle.ip_defs.proofs.ListLaws.{none_append, none_when, filter-append}
use Rattle.std.proofs.lemmas.List.{append-nil, append_assoc}
use Rattle.std.proofs.lemmas.Grind.{flat_map-append}
use Rattle.mps_defs.proofs.LineLaws.{items_of-append}
use Rattle.mps_defs.specs.TextModels.{number_or_zero}

-- no entry before stands at the place of this one, and it has few decimals
pub record IsNewEntry (before : List Entry) (e : Entry) : Type 0 where
  pub once : list_any (same_place e) before ≡ false
  pub few : decimals_of (number_or_zero e.text) ≤ 9

-- an entry without a fault is such a one where it is kept
entry_new : (word : List ℕ) (ls : List Line) (before : List Entry) (e : Entry) → entry_faults word ls before e ≡ []
    → is_kept word ls e ≡ true → IsNewEntry before e
entry_new word ls before e none kept =
    let row = when (not (is_among e.row (row_names ls))) (UnknownRow e.line) in
    let number = when (not (is_number e.text)) (Number e.line) in
    let digits = when (is_kept word ls e && nat_lt 9 (decimals_of (number_or_zero e.text))) (Digits e.line) in
    let twice = when (is_kept word ls e && list_any (same_place e) before) (TwiceEntry e.line) in
    let last = none_append (row ++ number ++ digits) twice none in
    let third = none_append (row ++ number) digits last.0 in
    record {
      once = ap (λ t. t && list_any (same_place e) before) (sym kept)
          ∙ none_when (is_kept word ls e && list_any (same_place e) before) (TwiceEntry e.line) last.1;
      few = ltb-false 9 (decimals_of (number_or_zero e.text))
          (ap (λ t. t && nat_lt 9 (decimals_of (number_or_zero e.text))) (sym kept)
          ∙ none_when (is_kept word ls e && nat_lt 9 (decimals_of (number_or_zero e.text))) (Digits e.line) third.1);
    }

-- elements without a fault, each after those before it
pairs_after : (faults : List Entry → Entry → List MpsError) (P : List Entry → Entry → Type 0)
    → ((s : List Entry) (e : Entry) → faults s e ≡ [] → P s e) → (seen done es : List Entry)
    → flat_map (λ p. faults (seen ++ p.0) p.1) (after_those done es) ≡ [] → EachAfter P (seen ++ done) es
pairs_after faults P h seen done [] none = tt
pairs_after faults P h seen done (e ∷ es) none =
    let parts = none_append (faults (seen ++ done) e) (flat_map (λ p. faults (seen ++ p.0) p.1) (after_those (done ++ e ∷ []) es)) none in (
      h (seen ++ done) e parts.0,
      subst (λ s. EachAfter P s es) (sym (append_assoc seen done (e ∷ [])))
          (pairs_after faults P h seen (done ++ e ∷ []) es parts.1),
    )

-- the lines of a section whose faults have those of their entries
abbrev pub HasPairs : List ℕ → Type 0
HasPairs word =
    (before : List Line) (n : ℕ) (fs : List (List ℕ))
    → line_faults before (record { number = n; is_item = true; section = word; fields = fs }) ≡ []
    → pair_faults before (record { number = n; is_item = true; section = word; fields = fs }) ≡ []

-- what holds of a data line of a section, by its number and its fields
pub by_parts : (P : Line → Type 0) (l : Line) (word : List ℕ) → l.is_item ≡ true → l.section ≡ word
    → P (record { number = l.number; is_item = true; section = word; fields = l.fields }) → P l
by_parts P l word item own h =
    subst (λ t. P (record { number = l.number; is_item = t; section = l.section; fields = l.fields })) (sym item)
    (subst (λ w. P (record { number = l.number; is_item = true; section = w; fields = l.fields })) (sym own) h)

pairs_of : (before : List Line) (l : Line) (word : List ℕ) → HasPairs word → l.is_item ≡ true → l.section ≡ word → line_faults before l ≡ []
    → pair_faults before l ≡ []
pairs_of before l word has item own =
    by_parts (λ k. line_faults before k ≡ [] → pair_faults before k ≡ []) l word item own (has before l.number l.fields)

-- kept at the end, and new
abbrev pub IsNewKept : List ℕ → List Line → List Entry → Entry → Type 0
IsNewKept word all seen e = is_kept word all e ≡ true → IsNewEntry seen e

line_new : (word : List ℕ) (before ls : List Line) (l : Line) → HasPairs word → is_late word ≡ true → IsSound word before (l ∷ ls)
    → l.is_item ≡ true → l.section ≡ word
    → EachAfter (IsNewKept word (before ++ l ∷ ls)) (all_entries word before) (entries_of l)
line_new word before ls l has late sound item own =
    subst (λ s. EachAfter (IsNewKept word (before ++ l ∷ ls)) s (entries_of l)) (append-nil (all_entries word before))
    (pairs_after (entry_faults word (before ++ l ∷ [])) (IsNewKept word (before ++ l ∷ ls))
    (λ s e none kept. entry_new word (before ++ l ∷ []) s e none (sym (kept_alike word before ls l e sound item own late) ∙ kept))
    (all_entries word before) [] (entries_of l)
    (subst (λ w. flat_map (λ p. entry_faults w (before ++ l ∷ []) (all_entries w before ++ p.0) p.1)
    (after_those [] (entries_of l)) ≡ []) own (pairs_of before l word has item own (sound_line word before ls l sound))))

-- all entries of a section, after those before
pub entries_new : (word current : List ℕ) (before ls all : List Line) → HasPairs word → is_late word ≡ true → IsSound current before ls
    → all ≡ before ++ ls
    → EachAfter (IsNewKept word all) (all_entries word before) (all_entries word ls)
entries_new word current before [] all has late sound is = tt
entries_new word current before (l ∷ ls) all has late sound is =
    by l.is_item (bytes_eq l.section word) refl refl
    (entries_new word l.section (before ++ l ∷ []) ls all has late (sound_next current before ls l sound) (is
    ∙ sym (append_assoc before (l ∷ []) ls)))
  where
    seen : List Entry
    seen = all_entries word before

    grown : all_entries word (before ++ l ∷ []) ≡ seen ++ all_entries word (l ∷ [])
    grown =
        ap (flat_map entries_of) (items_of-append word before (l ∷ []))
        ∙ flat_map-append entries_of (items_of word before) (items_of word (l ∷ []))

    one : all_entries word (l ∷ ls) ≡ all_entries word (l ∷ []) ++ all_entries word ls
    one =
        ap (flat_map entries_of) (filter-append (λ k. k.is_item && bytes_eq k.section word) (l ∷ []) ls)
        ∙ flat_map-append entries_of (items_of word (l ∷ [])) (items_of word ls)

    skipped : all_entries word (l ∷ []) ≡ [] → EachAfter (IsNewKept word all) (all_entries word (before ++ l ∷ [])) (all_entries word ls)
        → EachAfter (IsNewKept word all) seen (all_entries word (l ∷ ls))
    skipped none rest =
        subst (EachAfter (IsNewKept word all) seen) (sym (one ∙ ap (λ k. k ++ all_entries word ls) none))
        (subst (λ s. EachAfter (IsNewKept word all) s (all_entries word ls)) (grown ∙ ap (λ k. seen ++ k) none ∙ append-nil seen) rest)

    by : (t u : Bool) → l.is_item ≡ t → bytes_eq l.section word ≡ u
        → EachAfter (IsNewKept word all) (all_entries word (before ++ l ∷ [])) (all_entries word ls)
        → EachAfter (IsNewKept word all) seen (all_entries word (l ∷ ls))
    by true true e f rest =
        let own = (bytes_eq-Decides l.section word).0 f in
        let sections = sound.sections in
        let here = subst (λ w. IsSound w before (l ∷ ls)) (sym (sections.0 e) ∙ own) sound in
        let mine : all_entries word (l ∷ []) ≡ entries_of l =
        ap (λ t. flat_map entries_of (cond (t && bytes_eq l.section word) (l ∷ []) [])) e
        ∙ ap (λ t. flat_map entries_of (cond t (l ∷ []) [])) f
        ∙ append-nil (entries_of l) in
        subst (EachAfter (IsNewKept word all) seen) (sym one)
        (each_after_append (IsNewKept word all) seen (all_entries word (l ∷ [])) (all_entries word ls)
        (subst (EachAfter (IsNewKept word all) seen) (sym mine)
        (subst (λ k. EachAfter (IsNewKept word k) seen (entries_of l)) (sym is) (line_new word before ls l has late here e own)))
        (subst (λ s. EachAfter (IsNewKept word all) s (all_entries word ls)) grown rest))
    by true false e f rest =
        let mine : all_entries word (l ∷ []) ≡ [] =
        ap (λ t. flat_map entries_of (cond (t && bytes_eq l.section word) (l ∷ []) [])) e
        ∙ ap (λ t. flat_map entries_of (cond t (l ∷ []) [])) f in
        skipped mine rest
    by false u e f rest =
        let mine : all_entries word (l ∷ []) ≡ [] = ap (λ t. flat_map entries_of (cond (t && bytes_eq l.section word) (l ∷ []) [])) e in
        skipped mine rest

-- ---- the three sections with entries

pub column_pairs : HasPairs (codes "COLUMNS")
column_pairs before n fs none =
    let own = none_append (when (not (is_among (codes "ROWS") (words_of before))) (SectionOrder n)) (column_faults before l) none in
    let columns =
    none_append (when (not ((length fs == 3) || ((length fs == 5) && not (is_marker l)))) (FieldCount n))
    (if is_marker l then marker_faults before l else when (is_split before l) (SplitColumn n) ++ pair_faults before l) own.1 in
    by (is_marker l) refl columns.1
  where
    l : Line
    l = record { number = n; is_item = true; section = codes "COLUMNS"; fields = fs }

    by : (t : Bool) → is_marker l ≡ t
        → (if t then marker_faults before l else when (is_split before l) (SplitColumn n) ++ pair_faults before l) ≡ []
        → pair_faults before l ≡ []
    by true e h =
        ap (λ t. flat_map (λ p. entry_faults (codes "COLUMNS") (before ++ l ∷ []) (all_entries (codes "COLUMNS") before ++ p.0) p.1)
        (with_earlier (if t then [] else entries_from n (column_name l) (drop 1 fs)))) e
    by false e h = let parts = none_append (when (is_split before l) (SplitColumn n)) (pair_faults before l) h in parts.1

set_pairs : (before : List Line) (n : ℕ) (l : Line)
    → when (not (is_among (codes "ROWS") (words_of before))) (SectionOrder n) ++ set_faults before l ≡ [] → pair_faults before l ≡ []
set_pairs before n l none =
    let own = none_append (when (not (is_among (codes "ROWS") (words_of before))) (SectionOrder n)) (set_faults before l) none in
    let parts =
    none_append (when (not (nat_le 2 (length l.fields) && nat_le (length l.fields) 5)) (FieldCount l.number))
    (pair_faults before l) own.1 in
    parts.1

pub right_side_pairs : HasPairs (codes "RHS")
right_side_pairs before n fs none = set_pairs before n (record { number = n; is_item = true; section = codes "RHS"; fields = fs }) none

pub range_pairs : HasPairs (codes "RANGES")
range_pairs before n fs none = set_pairs before n (record { number = n; is_item = true; section = codes "RANGES"; fields = fs }) none
