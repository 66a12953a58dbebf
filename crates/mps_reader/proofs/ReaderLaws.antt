-- Going through the lines of a text.
use Rattle.std.specs.Prelude.{◌≡◌, ℕ, Bool, true, false, cond, List, [], ◌∷◌, ◌++◌, length, map, filter, Option, None, Some, option_map}
use Rattle.std.specs.Prelude.{unwrap_or, not, ◌&&◌, ◌||◌, nat_le, bytes_eq, codes, slice_get, slice_index_or, if◌then◌else◌, Result, Ok}
use Rattle.std.specs.Prelude.{Err, refl}
use Rattle.std.specs.Option.{option_map_or}
use Rattle.std.specs.List.{list_any}
use Rattle.std.proofs.Common.{sym, ◌∙◌, ap, subst, arith, Bor}
use Rattle.std.proofs.lemmas.Bool.{le-leb, true≢false}
use Rattle.ip_defs.specs.Lists.{first_of, when}
use Rattle.mps_defs.specs.Lists.{last_of, is_among}
use Rattle.mps_defs.specs.Records.{Line, items_of, words_of, first_field, is_section_line, is_end_line, last_word, line_of, fields_of}
use Rattle.mps_defs.specs.Records.{is_star, is_blank, begins_with, item, opening, is_read, without_return}
use Rattle.mps_defs.specs.Faults.{all_line_faults, line_faults, is_before}
use Rattle.mps_defs.specs.declared.reading.MpsError.{MpsError}
use Rattle.mps_defs.specs.declared.reading.MpsError.TheVariants.{SectionOrder}
use Rattle.mps_reader.specs.declared.sections.Section.{Section}
use Rattle.mps_reader.specs.declared.draft.Draft.{Draft}
use Rattle.mps_reader.specs.Internal.Progress.{section_word, Stands, IsTaken, IsFirstFault}
use Rattle.mps_reader.specs.Internal.Reading.{lines_by, last_section, IsLineTaken}
use Rattle.mps_reader.proofs.GrowthLaws.{lines-add}
use Rattle.mps_reader.proofs.SectionLaws.{in_order, have_rows, last_word_is, last_is_among, last_of_map, later_is_empty}
use Rattle.ip_defs.proofs.TextLaws.{text_turned}
use Rattle.ip_defs.proofs.ListLaws.{filter-append}
use Rattle.std.proofs.lemmas.List.{append-nil, map-append}
use Rattle.mps_defs.proofs.FaultLaws.{faults-add}
use Rattle.mps_defs.proofs.LineLaws.{last_word-add, words_stay, words_grow}
use Rattle.mps_defs.proofs.ListLaws.{by_last}

-- ---- a data line by its section

pub at_section : (before : List Line) (n : ℕ) (fields : List (List ℕ)) (new : Draft) (result : Result (Unit {0}) MpsError) (word : List ℕ)
    → last_of (words_of before) ≡ Some word
    → IsTaken before (item word n fields) new result → IsTaken before (item (last_section (words_of before)) n fields) new result
at_section before n fields new result word last h =
    subst (λ w. IsTaken before (item w n fields) new result) (sym (ap (λ o. unwrap_or o []) last)) h

-- before ROWS it is out of order
pub before_rows : (before : List Line) (word : List ℕ) (n : ℕ) (fields : List (List ℕ)) → is_among (codes "ROWS") (words_of before) ≡ false
    → first_of (line_faults before (item word n fields)) ≡ Some (SectionOrder n)
before_rows before word n fields none = lead (is_among (codes "ROWS") (words_of before)) (SectionOrder n) _ none
  where
    lead : (t : Bool) (e : MpsError) (rest : List MpsError) → t ≡ false → first_of (when (not t) e ++ rest) ≡ Some e
    lead true e rest h = absurd (true≢false h)
    lead false e rest h = refl

-- what is known of the lines before a data line by the last section
pub record BelongsTo (before : List Line) (s : Section) : Type 0 where
  pub last : last_of (words_of before) ≡ Some (section_word s)
  pub there : is_among (section_word s) (words_of before) ≡ true
  pub rows : is_before (codes "ROWS") (section_word s) ≡ true → is_among (codes "ROWS") (words_of before) ≡ true
  pub later : (word : List ℕ) → is_before (section_word s) word ≡ true → is_among word (words_of before) ≡ false
  pub none_later : (word : List ℕ) → is_before (section_word s) word ≡ true → items_of word before ≡ []

pub belongs : (before : List Line) (d : Draft) (o : Option Section) (s : Section) → Stands before d → o ≡ last_of d.sections.items
    → o ≡ Some s → BelongsTo before s
belongs before d o s h is e =
    let last : last_of (words_of before) ≡ Some (section_word s) =
    last_word_is before d.sections.items h.sections ∙ ap (option_map section_word) (sym is ∙ e) in
    let there = last_is_among (words_of before) (section_word s) last in
    record {
      last = last;
      there = there;
      rows = λ after. have_rows before h.no_fault (section_word s) there after;
      later = λ word after. in_order before h.no_fault (section_word s) word last after;
      none_later = λ word after. later_is_empty before d (section_word s) word h last after;
    }

-- ---- the lines that numbered lines say

abbrev field_when : Bool → ℕ × List ℕ → List (List ℕ)
field_when t p = when t (first_field p)

-- the words of sections are the first fields of section lines
pub words_are : (ps : List (ℕ × List ℕ)) → words_of (lines_by ps) ≡ map first_field (filter is_section_line ps)
words_are ps = by_last (λ qs. words_of (lines_by qs) ≡ map first_field (filter is_section_line qs)) refl more ps
  where
    by : (qs : List (ℕ × List ℕ)) (p : ℕ × List ℕ) (t : Bool) → is_section_line p ≡ t
        → words_of (lines_by qs) ≡ map first_field (filter is_section_line qs)
        → words_of (lines_by qs ++ line_of (qs, p) ∷ []) ≡ map first_field (filter is_section_line qs) ++ field_when t p
    by qs p true e h =
        words_grow (lines_by qs) (line_of (qs, p)) (ap not e)
        ∙ ap (λ w. words_of (lines_by qs) ++ w ∷ []) (last_word-add qs p ∙ ap (λ t. if t then first_field p else last_word qs) e)
        ∙ ap (λ ws. ws ++ first_field p ∷ []) h
    by qs p false e h = words_stay (lines_by qs) (line_of (qs, p)) (ap not e) ∙ h
        ∙ sym (append-nil (map first_field (filter is_section_line qs)))

    one : (p : ℕ × List ℕ) (t : Bool) → field_when t p ≡ map first_field (cond t (p ∷ []) [])
    one p true = refl
    one p false = refl

    more : (qs : List (ℕ × List ℕ)) (p : ℕ × List ℕ) → words_of (lines_by qs) ≡ map first_field (filter is_section_line qs)
        → words_of (lines_by (qs ++ p ∷ [])) ≡ map first_field (filter is_section_line (qs ++ p ∷ []))
    more qs p h =
        ap words_of (lines-add qs p)
        ∙ by qs p (is_section_line p) refl h
        ∙ ap (λ ws. map first_field (filter is_section_line qs) ++ ws) (one p (is_section_line p))
        ∙ sym (map-append first_field (filter is_section_line qs) (filter is_section_line (p ∷ [])))
        ∙ ap (map first_field) (sym (filter-append is_section_line qs (p ∷ [])))

-- the word of the last section is that of the last section line
pub last_word_of : (ps : List (ℕ × List ℕ)) → last_section (words_of (lines_by ps)) ≡ last_word ps
last_word_of ps =
    ap last_section (words_are ps) ∙ ap (λ o. unwrap_or o []) (last_of_map first_field (filter is_section_line ps))
    ∙ by (last_of (filter is_section_line ps))
  where
    by : (o : Option (ℕ × List ℕ)) → unwrap_or (option_map first_field o) [] ≡ option_map_or first_field o []
    by None = refl
    by (Some p) = refl

-- ENDATA is a word where one of the lines is the ENDATA line
pub ended_where : (ps : List (ℕ × List ℕ)) → is_among (codes "ENDATA") (words_of (lines_by ps)) ≡ list_any is_end_line ps
ended_where ps = ap (is_among (codes "ENDATA")) (words_are ps) ∙ all ps
  where
    by : (p : ℕ × List ℕ) (qs : List (ℕ × List ℕ)) (t : Bool)
        → is_among (codes "ENDATA") (map first_field (cond t (p ∷ filter is_section_line qs) (filter is_section_line qs)))
        ≡ ((t && bytes_eq (codes "ENDATA") (first_field p)) || is_among (codes "ENDATA") (map first_field (filter is_section_line qs)))
    by p qs true = refl
    by p qs false = refl

    all : (qs : List (ℕ × List ℕ)) → is_among (codes "ENDATA") (map first_field (filter is_section_line qs)) ≡ list_any is_end_line qs
    all [] = refl
    all (p ∷ qs) =
        by p qs (is_section_line p)
        ∙ ap (λ t. (is_section_line p && t) || is_among (codes "ENDATA") (map first_field (filter is_section_line qs)))
        (text_turned (codes "ENDATA") (first_field p))
        ∙ ap (λ t. is_end_line p || t) (all qs)

item_line : (ps : List (ℕ × List ℕ)) (p : ℕ × List ℕ) → is_section_line p ≡ false
    → line_of (ps, p) ≡ item (last_section (words_of (lines_by ps))) p.0 (fields_of p.1)
item_line ps p e =
    ap (λ t. made (not t) (last_word (ps ++ p ∷ []))) e
    ∙ ap (made true) (last_word-add ps p ∙ ap (λ t. if t then first_field p else last_word ps) e ∙ sym (last_word_of ps))
  where
    made : Bool → List ℕ → Line
    made t word = record { number = p.0; is_item = t; section = word; fields = fields_of p.1 }

opening_line : (ps : List (ℕ × List ℕ)) (p : ℕ × List ℕ) → is_section_line p ≡ true
    → line_of (ps, p) ≡ opening p.0 (fields_of p.1) (first_field p)
opening_line ps p e =
    ap (λ t. made (not t) (last_word (ps ++ p ∷ []))) e
    ∙ ap (made false) (last_word-add ps p ∙ ap (λ t. if t then first_field p else last_word ps) e)
  where
    made : Bool → List ℕ → Line
    made t word = record { number = p.0; is_item = t; section = word; fields = fields_of p.1 }

-- ---- taking a numbered line

pub skipped : (ps : List (ℕ × List ℕ)) (p : ℕ × List ℕ) (d : Draft) → is_read p ≡ false → Stands (lines_by ps) d
    → IsLineTaken ps p d (Ok false)
skipped ps p d e h =
    (ap (λ t. t && is_end_line p) (sym e), subst (λ qs. Stands (lines_by qs) d) (sym (ap (λ t. ps ++ when t p) e ∙ append-nil ps)) h)

-- a line that is read, said as l
pub read_as : (ps : List (ℕ × List ℕ)) (p : ℕ × List ℕ) (l : Line) (new : Draft) → is_read p ≡ true → line_of (ps, p) ≡ l
    → Stands (lines_by ps ++ l ∷ []) new → IsLineTaken ps p new (Ok (is_end_line p))
read_as ps p l new e is h = (
  ap (λ t. t && is_end_line p) (sym e),
  subst (λ ls. Stands ls new) (sym (ap (λ t. lines_by (ps ++ when t p)) e
      ∙ lines-add ps p
      ∙ ap (λ k. lines_by ps ++ k ∷ []) is)) h,
)

pub refused_as : (ps : List (ℕ × List ℕ)) (p : ℕ × List ℕ) (l : Line) (d new : Draft) (error : MpsError) → is_read p ≡ true
    → line_of (ps, p) ≡ l → Stands (lines_by ps) d → IsFirstFault (line_faults (lines_by ps) l) error → IsLineTaken ps p new (Err error)
refused_as ps p l d new error e is h fault =
    subst (λ fs. IsFirstFault fs error)
    (sym (ap all_line_faults (ap (λ t. lines_by (ps ++ when t p)) e ∙ lines-add ps p ∙ ap (λ k. lines_by ps ++ k ∷ []) is)
    ∙ faults-add (lines_by ps) l
    ∙ ap (λ fs. fs ++ line_faults (lines_by ps) l) h.no_fault))
    fault

pub item_said : (ps : List (ℕ × List ℕ)) (p : ℕ × List ℕ) (fields : List (List ℕ)) → begins_with is_blank p.1 ≡ true
    → fields_of p.1 ≡ fields → line_of (ps, p) ≡ item (last_section (words_of (lines_by ps))) p.0 fields
item_said ps p fields e is = item_line ps p (ap not e) ∙ ap (item (last_section (words_of (lines_by ps))) p.0) is

pub opening_said : (ps : List (ℕ × List ℕ)) (p : ℕ × List ℕ) (word : List ℕ) (others : List (List ℕ)) → begins_with is_blank p.1 ≡ false
    → fields_of p.1 ≡ word ∷ others → line_of (ps, p) ≡ opening p.0 (word ∷ others) word
opening_said ps p word others e is =
    opening_line ps p (ap not e) ∙ ap (λ fs. opening p.0 fs (slice_index_or fs 0 [])) is

-- a list that has an element at its head
pub head_is : {A : Type 0} (xs : List A) (x : A) → slice_get xs 0 ≡ Some x → (ys : List A) × (xs ≡ x ∷ ys)
head_is [] x h = absurd (cc h)
head_is (y ∷ ys) x h = (ys, ap (λ z. z ∷ ys) (cc h))

-- a line of a word and others that is no comment is read
pub is_read_by : (p : ℕ × List ℕ) (word : List ℕ) (others : List (List ℕ)) → begins_with is_star p.1 ≡ false → fields_of p.1 ≡ word ∷ others
    → is_read p ≡ true
is_read_by p word others star is =
    ap (λ fs. nat_le 1 (length fs) && not (begins_with is_star p.1)) is ∙ ap (λ t. some && not t) star ∙ there
  where
    some : Bool
    some = nat_le 1 (length (word ∷ others))

    there : (some && true) ≡ true
    there = ap (λ t. t && true) (le-leb 1 (length (word ∷ others)) (omega arith))

pub item_is_no_end : (p : ℕ × List ℕ) → begins_with is_blank p.1 ≡ true → is_end_line p ≡ false
item_is_no_end p e = ap (λ t. not t && bytes_eq (first_field p) (codes "ENDATA")) e

pub end_by_word : (p : ℕ × List ℕ) (word : List ℕ) (others : List (List ℕ)) → begins_with is_blank p.1 ≡ false
    → fields_of p.1 ≡ word ∷ others → is_end_line p ≡ bytes_eq word (codes "ENDATA")
end_by_word p word others e is =
    ap (λ t. not t && bytes_eq (first_field p) (codes "ENDATA")) e ∙ ap (λ fs. bytes_eq (slice_index_or fs 0 []) (codes "ENDATA")) is

-- ---- taking a line of a word and others

-- what is known of a line that is read: it is no comment, it is indented or not, and its fields
pub record IsOfWords (p : ℕ × List ℕ) (indented : Bool) (word : List ℕ) (others : List (List ℕ)) : Type 0 where
  pub star : begins_with is_star p.1 ≡ false
  pub blank : begins_with is_blank p.1 ≡ indented
  pub words : fields_of p.1 ≡ word ∷ others

-- by the tests and the fields of its bytes without a return
pub words_read : (number : ℕ) (text bytes : List ℕ) (fields items : List (Bor (List ℕ))) (word : Bor (List ℕ)) (comment indented t : Bool)
    → bytes ≡ without_return text → (comment ≡ begins_with is_star bytes) × (comment ≡ false)
    → (indented ≡ begins_with is_blank bytes) × (indented ≡ t)
    → map (λ f. f.now) fields ≡ fields_of bytes → items ≡ fields → slice_get items 0 ≡ Some word
    → (others : List (List ℕ)) × IsOfWords (number, without_return text) t word.now others
words_read number text bytes fields items word comment indented t cut star blank are same first =
    let head = head_is items word first in (
      map (λ f. f.now) head.0,
      record {
        star = ap (begins_with is_star) (sym cut) ∙ sym star.0 ∙ star.1;
        blank = ap (begins_with is_blank) (sym cut) ∙ sym blank.0 ∙ blank.1;
        words = ap fields_of (sym cut) ∙ sym are ∙ ap (map (λ f. f.now)) (sym same ∙ head.1);
      },
    )

-- the answer on a line by that on what it is: whether it ended the text
abbrev pub answer_of : Result (Unit {0}) MpsError → Bool → Result Bool MpsError
answer_of (Ok x) ended = Ok ended
answer_of (Err e) ended = Err e

pub item_taken : (ps : List (ℕ × List ℕ)) (p : ℕ × List ℕ) (word : List ℕ) (others fields : List (List ℕ)) (d new : Draft)
    (r : Result (Unit {0}) MpsError) → IsOfWords p true word others → fields_of p.1 ≡ fields → Stands (lines_by ps) d
    → IsTaken (lines_by ps) (item (last_section (words_of (lines_by ps))) p.0 fields) new r → IsLineTaken ps p new (answer_of r false)
item_taken ps p word others fields d new (Ok x) of is h taken =
    let l = item (last_section (words_of (lines_by ps))) p.0 fields in
    subst (IsLineTaken ps p new) (ap Ok (item_is_no_end p of.blank))
    (read_as ps p l new (is_read_by p word others of.star of.words) (item_said ps p fields of.blank is) taken)
item_taken ps p word others fields d new (Err e) of is h taken =
    let l = item (last_section (words_of (lines_by ps))) p.0 fields in
    refused_as ps p l d new e (is_read_by p word others of.star of.words) (item_said ps p fields of.blank is) h taken

pub opening_taken : (ps : List (ℕ × List ℕ)) (p : ℕ × List ℕ) (word : List ℕ) (others : List (List ℕ)) (d new : Draft)
    (r : Result (Unit {0}) MpsError) → IsOfWords p false word others → Stands (lines_by ps) d
    → IsTaken (lines_by ps) (opening p.0 (word ∷ others) word) new r → IsLineTaken ps p new (answer_of r (bytes_eq word (codes "ENDATA")))
opening_taken ps p word others d new (Ok x) of h taken =
    subst (IsLineTaken ps p new) (ap Ok (end_by_word p word others of.blank of.words))
    (read_as ps p (opening p.0 (word ∷ others) word) new (is_read_by p word others of.star of.words)
    (opening_said ps p word others of.blank of.words) taken)
opening_taken ps p word others d new (Err e) of h taken =
    refused_as ps p (opening p.0 (word ∷ others) word) d new e (is_read_by p word others of.star of.words)
    (opening_said ps p word others of.blank of.words) h taken
