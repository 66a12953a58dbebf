-- The order of the sections.
use Rattle.std.specs.Prelude.{◌≡◌, ℕ, nat_lt, Bool, true, false, cond, List, [], ◌∷◌, ◌++◌, map, Option, None, Some, option_map, not, ◌&&◌}
use Rattle.std.specs.Prelude.{◌||◌, bytes_eq, codes, refl}
use Rattle.std.specs.List.{list_all}
use Rattle.std.specs.Option.{option_map_or, is_none}
use Rattle.std.proofs.Common.{sym, ◌∙◌, ap, subst, arith}
use Rattle.std.proofs.lemmas.Bool.{le-ltb, ltb-true, true≢false, or_from, or_left}
use Rattle.std.proofs.lemmas.Slice.Eq.{bytes_eq-Decides}
use Rattle.mps_defs.specs.Lists.{is_among, last_of}
use Rattle.mps_defs.specs.Records.{Line, items_of, words_of, column_names, kept_entries, opening, row_names}
use Rattle.mps_defs.specs.Faults.{all_line_faults, line_faults, is_before, may_come, section_place}
use Rattle.mps_reader.specs.declared.sections.Section.{Section}
use Rattle.mps_reader.specs.declared.sections.Section.TheVariants as Sections
use Rattle.mps_reader.specs.declared.draft.Draft.{Draft}
use Rattle.mps_reader.specs.Internal.Progress.{section_word, Stands, SectionsStand, RowsStand, EntriesStand, ColumnsStand, BoundsStand}
use Rattle.mps_reader.specs.Internal.Progress.{SetsStand}
use Rattle.mps_reader.proofs.StayLaws.{rows_stand_stay, columns_stand_stay, bounds_stand_stay, sets_stay, entries_stay}
use Rattle.ip_defs.proofs.BoolLaws.{left_true, right_true, left_false, either_true}
use Rattle.std.proofs.lemmas.List.{map-append}
use Rattle.mps_defs.proofs.ListLaws.{last_of-add, by_last}
use Rattle.ip_defs.proofs.ListLaws.{none_append}
use Rattle.mps_defs.proofs.FaultLaws.{faults-add, opening_came, earlier_all, opening_right}
use Rattle.mps_defs.proofs.LineLaws.{words_stay, words_grow, items_stay}

-- no section comes before one that is not after it
pub not_before_back : (word later : List ℕ) → is_before word later ≡ true → is_before later word ≡ false
not_before_back word later h = by (section_place word) (section_place later) refl refl
  where
    both : Option ℕ → Option ℕ → Bool
    both o p = option_map_or (λ i. option_map_or (nat_lt i) p false) o false

    by : (o p : Option ℕ) → section_place word ≡ o → section_place later ≡ p → is_before later word ≡ false
    by None p e f = absurd (true≢false (sym h ∙ ap (λ t. both t (section_place later)) e))
    by (Some i) None e f = ap (λ t. both t (section_place word)) f
    by (Some i) (Some j) e f =
        let less : nat_lt i j ≡ true = sym (ap (λ t. both t (section_place later)) e ∙ ap (both (Some i)) f) ∙ h in
        let back : nat_lt j i ≡ false = le-ltb j i (omega (arith, ltb-true i j less)) in
        ap (λ t. both t (section_place word)) f ∙ ap (both (Some j)) e ∙ back

-- what all are before is not before any of them
pub none_after : (words : List (List ℕ)) (word later : List ℕ) → list_all (λ earlier. is_before earlier word) words ≡ true
    → is_before word later ≡ true → is_among later words ≡ false
none_after [] word later all h = refl
none_after (w ∷ words) word later all h =
    by (bytes_eq later w) refl
    (none_after words word later (right_true (is_before w word) (list_all (λ earlier. is_before earlier word) words) all) h)
  where
    by : (t : Bool) → bytes_eq later w ≡ t → is_among later words ≡ false → is_among later (w ∷ words) ≡ false
    by true e rest =
        let is : later ≡ w = (bytes_eq-Decides later w).0 e in
        let first : is_before later word ≡ true =
        ap (λ k. is_before k word) is ∙ left_true (is_before w word) (list_all (λ earlier. is_before earlier word) words) all in
        absurd (true≢false (sym h ∙ not_before_back later word first))
    by false e rest = ap (λ t. t || is_among later words) e ∙ rest

-- no section later than the last one came
abbrev pub AreInOrder : List (List ℕ) → Type 0
AreInOrder words = (last later : List ℕ) → last_of words ≡ Some last → is_before last later ≡ true → is_among later words ≡ false

among-add : (word last : List ℕ) (words : List (List ℕ)) → is_among word (words ++ last ∷ []) ≡ (is_among word words || bytes_eq word last)
among-add word last [] = by (bytes_eq word last)
  where
    by : (t : Bool) → (t || false) ≡ t
    by true = refl
    by false = refl
among-add word last (w ∷ words) = ap (λ t. bytes_eq word w || t) (among-add word last words) ∙ by (bytes_eq word w)
  where
    by : (t : Bool) → (t || (is_among word words || bytes_eq word last)) ≡ ((t || is_among word words) || bytes_eq word last)
    by true = refl
    by false = refl

pub order-add : (words : List (List ℕ)) (word : List ℕ) → may_come words word ≡ true → AreInOrder (words ++ word ∷ [])
order-add words word come last later is h =
    let last_is : word ≡ last = cc (sym (last_of-add words word) ∙ is) in
    let after : is_before word later ≡ true = ap (λ k. is_before k later) last_is ∙ h in
    let earlier : list_all (λ w. is_before w word) words ≡ true = earlier_all words word come in
    among-add later word words
    ∙ or_from (is_among later words) (bytes_eq later word) (none_after words word later earlier after) (by (bytes_eq later word) refl after)
  where
    by : (t : Bool) → bytes_eq later word ≡ t → is_before word later ≡ true → t ≡ false
    by true e after =
        let same : is_before word word ≡ true = ap (is_before word) (sym ((bytes_eq-Decides later word).0 e)) ∙ after in
        absurd (true≢false (sym same ∙ not_before_back word word same))
    by false e after = refl

-- ---- a section line

has_place : (s : Section) → is_none (section_place (section_word s)) ≡ false
has_place Sections.Name = refl
has_place Sections.Rows = refl
has_place Sections.Columns = refl
has_place Sections.RightSides = refl
has_place Sections.Ranges = refl
has_place Sections.Bounds = refl
has_place Sections.End = refl

sections_grow : (before : List Line) (l : Line) (sections more : List Section) (s : Section) → l.is_item ≡ false
    → section_word s ≡ l.section → more ≡ sections ++ s ∷ []
    → SectionsStand before sections → SectionsStand (before ++ l ∷ []) more
sections_grow before l sections more s opens word is h = record {
  words = ap (map section_word) is
      ∙ map-append section_word sections (s ∷ [])
      ∙ ap (λ w. map section_word sections ++ w ∷ []) word
      ∙ ap (λ ws. ws ++ l.section ∷ []) h.words
      ∙ sym (words_grow before l opens);
  items = λ w out. items_stay w before (l ∷ []) (no_item w)
      ∙ h.items w (left_false (is_among w (words_of before)) (bytes_eq w l.section) (sym (among-add w l.section (words_of before))
      ∙ ap (is_among w) (sym (words_grow before l opens))
      ∙ out));
}
  where
    no_item : (w : List ℕ) → items_of w (l ∷ []) ≡ []
    no_item w = ap (λ t. cond (t && bytes_eq l.section w) (l ∷ []) []) opens

-- a draft stands for it too, once its section is added
pub opening_stands : (before : List Line) (n : ℕ) (fields : List (List ℕ)) (word : List ℕ) (s : Section) (d new : Draft)
    → section_word s ≡ word → may_come (words_of before) word ≡ true → new.sections.items ≡ d.sections.items ++ s ∷ []
    → new.rows ≡ d.rows → new.columns ≡ d.columns → new.sets ≡ d.sets
    → Stands before d → Stands (before ++ opening n fields word ∷ []) new
opening_stands before n fields word s d new word_is come more rows columns sets h =
    let l = opening n fields word in record {
      no_fault = faults-add before l
          ∙ ap (λ fs. fs ++ line_faults before l) h.no_fault
          ∙ opening_right before n fields word (subst (λ w. is_none (section_place w) ≡ false) word_is (has_place s)) come;
      sections = sections_grow before l d.sections.items new.sections.items s refl word_is more h.sections;
      rows = subst (RowsStand (before ++ l ∷ [])) (sym rows) (rows_stand_stay before l d.rows refl h.rows);
      entries = subst (λ t. EntriesStand (kept_entries (codes "COLUMNS") (before ++ l ∷ [])) (kept_entries (codes "RHS") (before ++ l ∷ []))
          (kept_entries (codes "RANGES") (before ++ l ∷ [])) (column_names (before ++ l ∷ []))
          (row_names (before ++ l ∷ [])) t.rows.items) (sym rows) (entries_stay before l d.rows.rows.items refl refl refl refl h.entries);
      columns = subst (ColumnsStand (before ++ l ∷ [])) (sym columns) (columns_stand_stay before l d.columns refl h.columns);
      bounds = subst (λ t. BoundsStand (before ++ l ∷ []) t.columns.items) (sym columns)
          (bounds_stand_stay before l d.columns.columns.items refl refl h.bounds);
      sets = subst (SetsStand (before ++ l ∷ [])) (sym sets) (sets_stay before l d.sets refl refl refl h.sets);
    }

-- ---- the order of the sections of lines without a fault

-- what holds of no words, and of one more where it may come after the others, holds of the words of lines without a fault
by_words : (P : List (List ℕ) → Type 0) → P []
    → ((words : List (List ℕ)) (word : List ℕ) → P words → may_come words word ≡ true → P (words ++ word ∷ [])) → (ls : List Line)
    → all_line_faults ls ≡ [] → P (words_of ls)
by_words P none one_more ls right = by_last (λ ks. all_line_faults ks ≡ [] → P (words_of ks)) (λ e. none) more ls right
  where
    by : (before : List Line) (l : Line) (t : Bool) → l.is_item ≡ t → line_faults before l ≡ [] → P (words_of before)
        → P (words_of (before ++ l ∷ []))
    by before l true item right h = subst P (sym (words_stay before l item)) h
    by before l false item right h =
        subst P (sym (words_grow before l item)) (one_more (words_of before) l.section h (opening_came before l item right))

    more : (before : List Line) (l : Line) → (all_line_faults before ≡ [] → P (words_of before)) → all_line_faults (before ++ l ∷ []) ≡ []
        → P (words_of (before ++ l ∷ []))
    more before l h e =
        let none = none_append (all_line_faults before) (line_faults before l) (sym (faults-add before l) ∙ e) in
        by before l l.is_item refl none.1 (h none.0)

pub in_order : (ls : List Line) → all_line_faults ls ≡ [] → AreInOrder (words_of ls)
in_order ls none = by_words AreInOrder (λ last later is h. absurd (cc is)) (λ words word h come. order-add words word come) ls none

-- ROWS came where a later section did
abbrev HaveRows : List (List ℕ) → Type 0
HaveRows words = (word : List ℕ) → is_among word words ≡ true → is_before (codes "ROWS") word ≡ true → is_among (codes "ROWS") words ≡ true

rows_before : (words : List (List ℕ)) (word : List ℕ) → may_come words word ≡ true → is_before (codes "ROWS") word ≡ true
    → is_among (codes "ROWS") words ≡ true
rows_before words word come after =
    second (list_all (λ w. is_before w word) words) (is_before (codes "ROWS") word) (is_among (codes "ROWS") words)
    (not (is_before (codes "COLUMNS") word) || is_among (codes "COLUMNS") words) come after
  where
    second : (a b c d : Bool) → (a && (not b || c) && d) ≡ true → b ≡ true → c ≡ true
    second true true true d h e = refl
    second true true false d h e = absurd (true≢false (sym h))
    second true false c d h e = absurd (true≢false (sym e))
    second false b c d h e = absurd (true≢false (sym h))

pub have_rows : (ls : List Line) → all_line_faults ls ≡ [] → HaveRows (words_of ls)
have_rows ls none = by_words HaveRows (λ word there after. there) more ls none
  where
    more : (words : List (List ℕ)) (last : List ℕ) → HaveRows words → may_come words last ≡ true → HaveRows (words ++ last ∷ [])
    more words last h come word there after =
        among-add (codes "ROWS") last words
        ∙ or_left (is_among (codes "ROWS") words) (bytes_eq (codes "ROWS") last)
        (by (is_among word words) (bytes_eq word last) refl refl (sym (among-add word last words) ∙ there))
      where
        by : (t u : Bool) → is_among word words ≡ t → bytes_eq word last ≡ u → (is_among word words || bytes_eq word last) ≡ true
            → is_among (codes "ROWS") words ≡ true
        by true u e f either = h word e after
        by false true e f either =
            rows_before words last come (ap (is_before (codes "ROWS")) (sym ((bytes_eq-Decides word last).0 f)) ∙ after)
        by false false e f either = absurd (true≢false (sym either ∙ or_from (is_among word words) (bytes_eq word last) e f))

-- ---- the last section

pub last_of_map : {A B : Type 0} (f : A → B) (xs : List A) → last_of (map f xs) ≡ option_map f (last_of xs)
last_of_map f [] = refl
last_of_map f (x ∷ []) = refl
last_of_map f (x ∷ y ∷ xs) = last_of_map f (y ∷ xs)

pub last_word_is : (ls : List Line) (sections : List Section) → SectionsStand ls sections
    → last_of (words_of ls) ≡ option_map section_word (last_of sections)
last_word_is ls sections h = ap last_of (sym h.words) ∙ last_of_map section_word sections

pub last_is_among : (words : List (List ℕ)) (word : List ℕ) → last_of words ≡ Some word → is_among word words ≡ true
last_is_among [] word h = absurd (cc h)
last_is_among (w ∷ []) word h = or_left (bytes_eq word w) false ((bytes_eq-Decides word w).1 (cc h))
last_is_among (w ∷ v ∷ words) word h = either_true (bytes_eq word w) (is_among word (v ∷ words)) (last_is_among (v ∷ words) word h)

pub none_is_among : (words : List (List ℕ)) (word : List ℕ) → last_of words ≡ None → is_among word words ≡ false
none_is_among [] word h = refl
none_is_among (w ∷ []) word h = absurd (cc h)
none_is_among (w ∷ v ∷ words) word h = absurd (none_of v words h)
  where
    none_of : (v : List ℕ) (ws : List (List ℕ)) → last_of (v ∷ ws) ≡ None → ⊥
    none_of v [] e = cc e
    none_of v (w ∷ ws) e = none_of w ws e

-- a section later than the last one has no line
pub later_is_empty : (ls : List Line) (d : Draft) (last later : List ℕ) → Stands ls d → last_of (words_of ls) ≡ Some last
    → is_before last later ≡ true → items_of later ls ≡ []
later_is_empty ls d last later h is after = h.sections.items later (in_order ls h.no_fault last later is after)
