-- Lines without a fault, in the order in which they are read: no line of ROWS comes after a later section, so that what is kept at a
-- line is kept at the end.
use Rattle.std.specs.Prelude.{◌≡◌, ℕ, nat_lt, Bool, true, false, ◌&&◌, ◌||◌, not, cond, if◌then◌else◌, List, [], ◌∷◌, ◌++◌, map, Option}
use Rattle.std.specs.Prelude.{None, Some, bytes_eq, codes, ⊤}
use Rattle.std.specs.List.{list_any, list_all}
use Rattle.std.specs.Option.{option_map_or}
use Rattle.std.proofs.Common.{refl, arith, ap, sym, ◌∙◌}
use Rattle.std.proofs.lemmas.Bool.{ltb-true, lt-ltb, not-true}
use Rattle.std.proofs.lemmas.List.Folds.{list_any-append}
use Rattle.std.proofs.lemmas.Slice.Eq.{bytes_eq-Decides}
use Rattle.mps_defs.specs.Lists.{after_those, through_first}
use Rattle.ip_defs.specs.Lists.{first_of}
use Rattle.mps_defs.specs.Records.{Line, Entry, items_of, words_of, row_lines, is_kept, is_section_line, first_field, last_word, line_of}
use Rattle.mps_defs.specs.Records.{is_end_line, numbered, lines_of}
use Rattle.mps_defs.specs.Faults.{all_line_faults, line_faults, is_before, section_place, faults_after}
use Rattle.ip_defs.proofs.BoolLaws.{both_true, either_true}
use Rattle.ip_defs.proofs.ListLaws.{none_append}
use Rattle.std.proofs.lemmas.List.{append-nil, append_assoc}
use Rattle.mps_defs.proofs.LineLaws.{last_word-add, words_of-append, items_of-append}
use Rattle.mps_defs.proofs.EntryLaws.{kept_by}
use Rattle.mps_defs.proofs.FaultLaws.{opening_came, earlier_all}

-- the section of each line: a section line has its own word, a data line the word before it
abbrev pub InSections : List ℕ → List Line → Type 0
InSections word [] = ⊤
InSections word (l ∷ ls) = (l.is_item ≡ true → l.section ≡ word) × InSections l.section ls

pub sections_read : (before ps : List (ℕ × List ℕ)) → InSections (last_word before) (map line_of (after_those before ps))
sections_read before [] = tt
sections_read before (p ∷ ps) = (
  λ item. last_word-add before p
      ∙ ap (λ t. if t then first_field p else last_word before) (not-true (is_section_line p) item),
  sections_read (before ++ p ∷ []) ps,
)

-- the word of a section that comes after ROWS
abbrev pub is_late : List ℕ → Bool
is_late word = is_before (codes "ROWS") word

before_next : (a b c : List ℕ) → is_before a b ≡ true → is_before b c ≡ true → is_before a c ≡ true
before_next a b c h k = by (section_place a) (section_place b) (section_place c) h k
  where
    by : (o p q : Option ℕ) → option_map_or (λ i. option_map_or (nat_lt i) p false) o false ≡ true
        → option_map_or (λ i. option_map_or (nat_lt i) q false) p false ≡ true
        → option_map_or (λ i. option_map_or (nat_lt i) q false) o false ≡ true
    by None p q e f = absurd cc
    by (Some i) None q e f = absurd cc
    by (Some i) (Some j) None e f = absurd cc
    by (Some i) (Some j) (Some k) e f = lt-ltb i k (omega (arith, ltb-true i j e, ltb-true j k f))

-- a section that comes after all others comes after ROWS where one of them does
late_after : (words : List (List ℕ)) (word : List ℕ) → list_all (λ earlier. is_before earlier word) words ≡ true
    → list_any is_late words ≡ true → is_late word ≡ true
late_after [] word all some = absurd cc
late_after (w ∷ ws) word all some =
    let h = both_true (is_before w word) (list_all (λ earlier. is_before earlier word) ws) all in
    by (is_late w) refl some h.0 (λ g. late_after ws word h.1 g)
  where
    by : (t : Bool) → is_late w ≡ t → (t || list_any is_late ws) ≡ true → is_before w word ≡ true
        → (list_any is_late ws ≡ true → is_late word ≡ true) → is_late word ≡ true
    by true e f first rest = before_next (codes "ROWS") w word e first
    by false e f first rest = rest f

-- lines that are read without a fault after others, in a section
pub record IsSound (word : List ℕ) (before ls : List Line) : Type 0 where
  pub sections : InSections word ls
  pub faultless : faults_after before ls ≡ []
  pub begun : is_late word ≡ true → list_any is_late (words_of before) ≡ true

pub sound_line : (word : List ℕ) (before ls : List Line) (l : Line) → IsSound word before (l ∷ ls) → line_faults before l ≡ []
sound_line word before ls l h = let parts = none_append (line_faults before l) (faults_after (before ++ l ∷ []) ls) h.faultless in parts.0

pub sound_next : (word : List ℕ) (before ls : List Line) (l : Line) → IsSound word before (l ∷ ls) → IsSound l.section (before ++ l ∷ []) ls
sound_next word before ls l h = record {
  sections = let s = h.sections in s.1;
  faultless = let parts = none_append (line_faults before l) (faults_after (before ++ l ∷ []) ls) h.faultless in parts.1;
  begun = λ late. ap (list_any is_late) (words_of-append before (l ∷ []))
      ∙ list_any-append is_late (words_of before) (words_of (l ∷ []))
      ∙ by l.is_item refl late;
}
  where
    by : (t : Bool) → l.is_item ≡ t → is_late l.section ≡ true
        → (list_any is_late (words_of before) || list_any is_late (map (λ k. k.section) (cond (not l.is_item) (l ∷ []) []))) ≡ true
    by true e late =
        let s = h.sections in
        let same = ap is_late (sym (s.0 e)) ∙ late in
        ap (λ t. t || list_any is_late (map (λ k. k.section) (cond (not l.is_item) (l ∷ []) []))) (h.begun same)
    by false e late =
        either_true (list_any is_late (words_of before)) (list_any is_late (map (λ k. k.section) (cond (not l.is_item) (l ∷ []) [])))
        (ap (λ t. list_any is_late (map (λ k. k.section) (cond (not t) (l ∷ []) []))) e ∙ ap (λ t. t || false) late)

-- after a section that comes after ROWS only such sections come
pub late_next : (word : List ℕ) (before ls : List Line) (l : Line) → IsSound word before (l ∷ ls) → is_late word ≡ true
    → is_late l.section ≡ true
late_next word before ls l h late = by l.is_item refl
  where
    by : (t : Bool) → l.is_item ≡ t → is_late l.section ≡ true
    by true e = let s = h.sections in ap is_late (s.0 e) ∙ late
    by false e =
        let come = opening_came before l e (sound_line word before ls l h) in
        late_after (words_of before) l.section (earlier_all (words_of before) l.section come) (h.begun late)

late_other : (word : List ℕ) → is_late word ≡ true → bytes_eq word (codes "ROWS") ≡ false
late_other word late = by (bytes_eq word (codes "ROWS")) refl
  where
    by : (t : Bool) → bytes_eq word (codes "ROWS") ≡ t → t ≡ false
    by true e =
        absurd (let same = (bytes_eq-Decides word (codes "ROWS")).0 e in let never : is_late (codes "ROWS") ≡ true = ap is_late (sym same)
        ∙ late in cc)
    by false e = refl

-- no line of ROWS comes after such a section
pub rows_over : (word : List ℕ) (before ls : List Line) → IsSound word before ls → is_late word ≡ true → items_of (codes "ROWS") ls ≡ []
rows_over word before [] h late = refl
rows_over word before (l ∷ ls) h late =
    let later = late_next word before ls l h late in
    by (l.is_item) (bytes_eq l.section (codes "ROWS")) (late_other l.section later)
    (rows_over l.section (before ++ l ∷ []) ls (sound_next word before ls l h) later)
  where
    by : (t u : Bool) → u ≡ false → items_of (codes "ROWS") ls ≡ []
        → cond (t && u) (l ∷ items_of (codes "ROWS") ls) (items_of (codes "ROWS") ls) ≡ []
    by t true e rest = absurd cc
    by true false e rest = rest
    by false false e rest = rest

-- ---- what is kept

first_kept : {A : Type 0} (xs ys zs : List A) (x : A) → xs ≡ zs ++ x ∷ [] → first_of (xs ++ ys) ≡ first_of xs
first_kept [] ys [] x e = absurd cc
first_kept [] ys (z ∷ zs) x e = absurd cc
first_kept (y ∷ xs) ys zs x e = refl

-- what is kept at a line of a section is kept at the end, and nothing else
pub kept_alike : (word : List ℕ) (before ls : List Line) (l : Line) (e : Entry) → IsSound word before (l ∷ ls) → l.is_item ≡ true
    → l.section ≡ word → is_late word ≡ true
    → is_kept word (before ++ l ∷ ls) e ≡ is_kept word (before ++ l ∷ []) e
kept_alike word before ls l e h item own late =
    ap (λ ks. is_kept word ks e) (sym (append_assoc before (l ∷ []) ls))
    ∙ ap (λ rs. kept_by word rs (first_of (items_of word (front ++ ls))) e)
    (items_of-append (codes "ROWS") front ls
    ∙ ap (λ rs. row_lines front ++ rs) (rows_over l.section front ls (sound_next word before ls l h) (ap is_late own ∙ late))
    ∙ append-nil (row_lines front))
    ∙ ap (λ o. kept_by word (row_lines front) o e)
    (ap first_of (items_of-append word front ls)
    ∙ first_kept (items_of word front) (items_of word ls) (items_of word before) l
    (items_of-append word before (l ∷ []) ∙ ap (λ k. items_of word before ++ k) own_item))
  where
    front : List Line
    front = before ++ l ∷ []

    own_item : items_of word (l ∷ []) ≡ l ∷ []
    own_item =
        ap (λ t. cond (t && bytes_eq l.section word) (l ∷ []) []) item
        ∙ ap (λ t. cond t (l ∷ []) []) ((bytes_eq-Decides l.section word).1 own)

-- the lines of a text without a fault
pub sound_read : (text : List ℕ) → all_line_faults (lines_of text) ≡ [] → IsSound [] [] (lines_of text)
sound_read text e =
    record { sections = sections_read [] (through_first is_end_line (numbered text)); faultless = e; begun = λ late. absurd cc }
