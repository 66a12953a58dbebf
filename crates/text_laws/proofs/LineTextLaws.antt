-- A written text is read as its lines: each with its number, its section and its fields.
use Rattle.std.specs.Prelude.{◌≡◌, ℕ, suc, ◌+◌, ◌-◌, ◌==◌, nat_le, Bool, true, false, ◌&&◌, ◌||◌, not, cond, if◌then◌else◌, List, [], ◌∷◌}
use Rattle.std.specs.Prelude.{◌++◌, length, take, map, filter, flat_map, slice_index_or, bytes_eq, codes}
use Rattle.std.specs.List.{slice_split, onto_first, list_any, list_all, enumerate_from, concat}
use Rattle.std.proofs.Common.{refl, arith, ap, sym, ◌∙◌, le-leb}
use Rattle.std.proofs.lemmas.List.Folds.{list_any-append}
use Rattle.std.proofs.lemmas.List.Splits.{slice_split-cons_yes, slice_split-cons_no}
use Rattle.ip_defs.specs.Lists.{Each}
use Rattle.mps_defs.specs.Lists.{with_earlier, after_those, through_first}
use Rattle.mps_defs.specs.CanonicalText.{Written, written_text, newline, is_separator}
use Rattle.mps_defs.specs.Records.{Line, is_blank, is_star, begins_with, without_return, fields_of, numbered, is_section_line, is_end_line}
use Rattle.mps_defs.specs.Records.{first_field, last_word, line_of, lines_of, is_line_end, is_read}
use Rattle.text_laws.proofs.WrittenLaws.{is_field, is_readable, section_word, section_after, lines_from, is_last}
use Rattle.ip_defs.proofs.BoolLaws.{both_true}
use Rattle.std.proofs.lemmas.List.{append-nil, append_assoc}
use Rattle.mps_defs.proofs.LineLaws.{last_word-add}
use Rattle.std.proofs.lemmas.Bool.{not-true}

-- a text that has none of some bytes, and another after it
pub split_joined : (test : ℕ → Bool) (xs ys a : List ℕ) (more : List (List ℕ)) → list_any test xs ≡ false → slice_split test ys ≡ a ∷ more
    → slice_split test (xs ++ ys) ≡ (xs ++ a) ∷ more
split_joined test [] ys a more none e = e
split_joined test (x ∷ xs) ys a more none e = by (test x) refl none (λ h. split_joined test xs ys a more h e)
  where
    by : (t : Bool) → test x ≡ t → (t || list_any test xs) ≡ false
        → (list_any test xs ≡ false → slice_split test (xs ++ ys) ≡ (xs ++ a) ∷ more)
        → slice_split test (x ∷ xs ++ ys) ≡ (x ∷ xs ++ a) ∷ more
    by true f h rest = absurd cc
    by false f h rest = slice_split-cons_no test x (xs ++ ys) f ∙ ap (onto_first x) (rest h)

-- the text of a line, without its line feed
abbrev pub line_text : Written → List ℕ
line_text w = if w.0 then flat_map (λ f. 32 ∷ f) w.1 else concat w.1

-- ---- fields

none_weaker : (p q : ℕ → Bool) (xs : List ℕ) → ((b : ℕ) → p b ≡ false → q b ≡ false) → list_any p xs ≡ false → list_any q xs ≡ false
none_weaker p q [] h e = refl
none_weaker p q (x ∷ xs) h e = by (p x) refl e (none_weaker p q xs h)
  where
    by : (t : Bool) → p x ≡ t → (t || list_any p xs) ≡ false → (list_any p xs ≡ false → list_any q xs ≡ false)
        → (q x || list_any q xs) ≡ false
    by true f g rest = absurd cc
    by false f g rest = ap (λ t. t || list_any q xs) (h x f) ∙ rest g

even_parts : (a b c d : Bool) → (a || b || c || d) ≡ false → (a ≡ false) × (b ≡ false) × (c ≡ false) × (d ≡ false)
even_parts true b c d h = absurd cc
even_parts false true c d h = absurd cc
even_parts false false true d h = absurd cc
even_parts false false false true h = absurd cc
even_parts false false false false h = (refl, refl, refl, refl)

no_blank : (b : ℕ) → is_separator b ≡ false → is_blank b ≡ false
no_blank b e = let h = even_parts (b == 32) (b == 9) (b == 13) (b == 10) e in ap (λ t. t || (b == 9)) h.0 ∙ h.1

abbrev is_return : ℕ → Bool
is_return b = b == 13

no_return : (b : ℕ) → is_separator b ≡ false → is_return b ≡ false
no_return b e = (even_parts (b == 32) (b == 9) (b == 13) (b == 10) e).2

no_end : (b : ℕ) → is_separator b ≡ false → is_line_end b ≡ false
no_end b e = (even_parts (b == 32) (b == 9) (b == 13) (b == 10) e).3

field_even : (f : List ℕ) → is_field f ≡ true → list_any is_separator f ≡ false
field_even f e = not-true (list_any is_separator f) (both_true (not (length f == 0)) (not (list_any is_separator f)) e).1

field_there : (f : List ℕ) → is_field f ≡ true → nat_le 1 (length f) ≡ true
field_there [] e = absurd cc
field_there (b ∷ bs) e = le-leb 1 (length (b ∷ bs)) (omega arith)

kept_fields : (fs : List (List ℕ)) → list_all is_field fs ≡ true → filter (λ f. nat_le 1 (length f)) fs ≡ fs
kept_fields [] e = refl
kept_fields (f ∷ fs) e =
    let h = both_true (is_field f) (list_all is_field fs) e in
    ap (λ t. cond t (f ∷ filter (λ g. nat_le 1 (length g)) fs) (filter (λ g. nat_le 1 (length g)) fs)) (field_there f h.0)
    ∙ ap (λ l. f ∷ l) (kept_fields fs h.1)

split_fields : (fs : List (List ℕ)) → list_all is_field fs ≡ true → slice_split is_blank (flat_map (λ f. 32 ∷ f) fs) ≡ [] ∷ fs
split_fields [] e = refl
split_fields (f ∷ fs) e =
    let h = both_true (is_field f) (list_all is_field fs) e in
    let plain = none_weaker is_separator is_blank f no_blank (field_even f h.0) in
    slice_split-cons_yes is_blank 32 (f ++ flat_map (λ g. 32 ∷ g) fs) refl
    ∙ ap (λ l. [] ∷ l) (split_joined is_blank f (flat_map (λ g. 32 ∷ g) fs) [] fs plain (split_fields fs h.1)
    ∙ ap (λ g. g ∷ fs) (append-nil f))

-- a readable line says its fields
pub fields_read : (w : Written) → is_readable w ≡ true → fields_of (line_text w) ≡ w.1
fields_read (true, []) e = absurd cc
fields_read (true, f ∷ fs) e = ap (filter (λ g. nat_le 1 (length g))) (split_fields (f ∷ fs) e) ∙ kept_fields (f ∷ fs) e
fields_read (false, []) e = absurd cc
fields_read (false, [] ∷ fs) e = absurd cc
fields_read (false, (b ∷ bs) ∷ g ∷ gs) e = absurd cc
fields_read (false, (b ∷ bs) ∷ []) e =
    let h = (both_true (is_field (b ∷ bs)) (not (b == 42)) e).0 in
    let plain = none_weaker is_separator is_blank (b ∷ bs) no_blank (field_even (b ∷ bs) h) in
    ap (filter (λ g. nat_le 1 (length g))) (split_joined is_blank (b ∷ bs) [] [] [] plain refl ∙ ap (λ g. g ∷ []) (append-nil (b ∷ bs)))
    ∙ ap (λ t. cond t ((b ∷ bs) ∷ []) []) (le-leb 1 (length (b ∷ bs)) (omega arith))

-- ---- bytes that a line has not

none_in_fields : (test : ℕ → Bool) (fs : List (List ℕ)) → test 32 ≡ false → ((b : ℕ) → is_separator b ≡ false → test b ≡ false)
    → list_all is_field fs ≡ true → list_any test (flat_map (λ f. 32 ∷ f) fs) ≡ false
none_in_fields test [] blank h e = refl
none_in_fields test (f ∷ fs) blank h e =
    let parts = both_true (is_field f) (list_all is_field fs) e in
    ap (λ t. t || list_any test (f ++ flat_map (λ g. 32 ∷ g) fs)) blank
    ∙ list_any-append test f (flat_map (λ g. 32 ∷ g) fs)
    ∙ ap (λ t. t || list_any test (flat_map (λ g. 32 ∷ g) fs)) (none_weaker is_separator test f h (field_even f parts.0))
    ∙ none_in_fields test fs blank h parts.1

none_in_line : (test : ℕ → Bool) (w : Written) → test 32 ≡ false → ((b : ℕ) → is_separator b ≡ false → test b ≡ false)
    → is_readable w ≡ true → list_any test (line_text w) ≡ false
none_in_line test (true, []) blank h e = refl
none_in_line test (true, f ∷ fs) blank h e = none_in_fields test (f ∷ fs) blank h e
none_in_line test (false, []) blank h e = refl
none_in_line test (false, [] ∷ fs) blank h e = absurd cc
none_in_line test (false, (b ∷ bs) ∷ g ∷ gs) blank h e = absurd cc
none_in_line test (false, (b ∷ bs) ∷ []) blank h e =
    let word = (both_true (is_field (b ∷ bs)) (not (b == 42)) e).0 in
    ap (list_any test) (append-nil (b ∷ bs)) ∙ none_weaker is_separator test (b ∷ bs) h (field_even (b ∷ bs) word)

-- a line without a carriage return stays as it is
last_none : (test : ℕ → Bool) (b : ℕ) (bs : List ℕ) → list_any test (b ∷ bs) ≡ false → test (slice_index_or (b ∷ bs) (length bs) 0) ≡ false
last_none test b [] e = by (test b) e
  where
    by : (t : Bool) → (t || false) ≡ false → t ≡ false
    by true h = absurd cc
    by false h = refl
last_none test b (c ∷ cs) e = by (test b) e (last_none test c cs)
  where
    by : (t : Bool) → (t || list_any test (c ∷ cs)) ≡ false
        → (list_any test (c ∷ cs) ≡ false → test (slice_index_or (c ∷ cs) (length cs) 0) ≡ false)
        → test (slice_index_or (c ∷ cs) (length cs) 0) ≡ false
    by true h rest = absurd cc
    by false h rest = rest h

stays : (line : List ℕ) → list_any is_return line ≡ false → without_return line ≡ line
stays [] none = refl
stays (b ∷ bs) none =
    let size : length (b ∷ bs) - 1 ≡ length bs = omega arith in
    ap (λ n. if slice_index_or (b ∷ bs) n 0 == 13 then take n (b ∷ bs) else b ∷ bs) size
    ∙ ap (λ t. if t then take (length bs) (b ∷ bs) else b ∷ bs) (last_none is_return b bs none)

-- ---- the lines of a text

-- each line is readable
abbrev pub IsReadable : Written → Type 0
IsReadable w = is_readable w ≡ true

abbrev pub AreReadable : List Written → Type 0
AreReadable ws = Each IsReadable ws

written_is : (w : Written) (ys : List ℕ) → written_text w ++ ys ≡ line_text w ++ 10 ∷ ys
written_is w ys = append_assoc (line_text w) newline ys

pub text_split : (ws : List Written) → AreReadable ws → slice_split is_line_end (flat_map written_text ws) ≡ map line_text ws ++ [] ∷ []
text_split [] h = refl
text_split (w ∷ ws) h =
    ap (slice_split is_line_end) (written_is w (flat_map written_text ws))
    ∙ split_joined is_line_end (line_text w) (10 ∷ flat_map written_text ws) [] (slice_split is_line_end (flat_map written_text ws))
    (none_in_line is_line_end w refl no_end h.0) (slice_split-cons_yes is_line_end 10 (flat_map written_text ws) refl)
    ∙ ap (λ l. l ∷ slice_split is_line_end (flat_map written_text ws)) (append-nil (line_text w))
    ∙ ap (λ l. line_text w ∷ l) (text_split ws h.1)

returns_none : (ws : List Written) → AreReadable ws → map without_return (map line_text ws ++ [] ∷ []) ≡ map line_text ws ++ [] ∷ []
returns_none [] h = refl
returns_none (w ∷ ws) h =
    ap (λ l. l ∷ map without_return (map line_text ws ++ [] ∷ [])) (stays (line_text w) (none_in_line is_return w refl no_return h.0))
    ∙ ap (λ l. line_text w ∷ l) (returns_none ws h.1)

-- a line with its number
abbrev pub numbered_from : ℕ → List Written → List (ℕ × List ℕ)
numbered_from n [] = []
numbered_from n (w ∷ ws) = (n, line_text w) ∷ numbered_from (suc n) ws

has_fields : (w : Written) → is_readable w ≡ true → nat_le 1 (length w.1) ≡ true
has_fields (true, []) e = absurd cc
has_fields (true, f ∷ fs) e = le-leb 1 (length (f ∷ fs)) (omega arith)
has_fields (false, []) e = absurd cc
has_fields (false, f ∷ fs) e = le-leb 1 (length (f ∷ fs)) (omega arith)

no_comment : (w : Written) → is_readable w ≡ true → begins_with is_star (line_text w) ≡ false
no_comment (true, []) e = refl
no_comment (true, f ∷ fs) e = refl
no_comment (false, []) e = refl
no_comment (false, [] ∷ fs) e = absurd cc
no_comment (false, (b ∷ bs) ∷ []) e = not-true (b == 42) (both_true (is_field (b ∷ bs)) (not (b == 42)) e).1
no_comment (false, (b ∷ bs) ∷ g ∷ gs) e = absurd cc

line_said : (n : ℕ) (w : Written) → is_readable w ≡ true → is_read (n, line_text w) ≡ true
line_said n w e =
    ap (λ l. nat_le 1 (length l) && not (begins_with is_star (line_text w))) (fields_read w e)
    ∙ ap (λ t. t && not (begins_with is_star (line_text w))) (has_fields w e)
    ∙ ap not (no_comment w e)

all_said : (n : ℕ) (ws : List Written) → AreReadable ws
    → filter is_read (enumerate_from n (map line_text ws ++ [] ∷ [])) ≡ numbered_from n ws
all_said n [] h = refl
all_said n (w ∷ ws) h =
    let next : n + 1 ≡ suc n = omega arith in
    ap (λ t. cond t ((n, line_text w) ∷ filter is_read (enumerate_from (n + 1) (map line_text ws ++ [] ∷ [])))
    (filter is_read (enumerate_from (n + 1) (map line_text ws ++ [] ∷ [])))) (line_said n w h.0)
    ∙ ap (λ k. (n, line_text w) ∷ filter is_read (enumerate_from k (map line_text ws ++ [] ∷ []))) next
    ∙ ap (λ l. (n, line_text w) ∷ l) (all_said (suc n) ws h.1)

pub text_numbered : (ws : List Written) → AreReadable ws → numbered (flat_map written_text ws) ≡ numbered_from 1 ws
text_numbered ws h =
    ap (λ l. filter is_read (enumerate_from 1 (map without_return l))) (text_split ws h)
    ∙ ap (λ l. filter is_read (enumerate_from 1 l)) (returns_none ws h)
    ∙ all_said 1 ws h

-- ---- sections

line_opens : (n : ℕ) (w : Written) → is_readable w ≡ true → is_section_line (n, line_text w) ≡ not w.0
line_opens n (true, []) e = absurd cc
line_opens n (true, f ∷ fs) e = refl
line_opens n (false, []) e = absurd cc
line_opens n (false, [] ∷ fs) e = absurd cc
line_opens n (false, (b ∷ bs) ∷ g ∷ gs) e = absurd cc
line_opens n (false, (b ∷ bs) ∷ []) e =
    let word = (both_true (is_field (b ∷ bs)) (not (b == 42)) e).0 in
    ap not (first_even b bs (field_even (b ∷ bs) word))
  where
    first_even : (c : ℕ) (cs : List ℕ) → list_any is_separator (c ∷ cs) ≡ false → is_blank c ≡ false
    first_even c cs h = by (is_separator c) refl h
      where
        by : (t : Bool) → is_separator c ≡ t → (t || list_any is_separator cs) ≡ false → is_blank c ≡ false
        by true f g = absurd cc
        by false f g = no_blank c f

line_word : (n : ℕ) (w : Written) → is_readable w ≡ true → w.0 ≡ false → first_field (n, line_text w) ≡ section_word w
line_word n (true, fs) e item = absurd cc
line_word n (false, []) e item = absurd cc
line_word n (false, [] ∷ fs) e item = absurd cc
line_word n (false, (b ∷ bs) ∷ g ∷ gs) e item = absurd cc
line_word n (false, (b ∷ bs) ∷ []) e item =
    ap (λ l. slice_index_or l 0 []) (fields_read (false, (b ∷ bs) ∷ []) e) ∙ sym (append-nil (b ∷ bs))

-- the section that a line stands in
line_section : (before : List (ℕ × List ℕ)) (n : ℕ) (w : Written) → is_readable w ≡ true
    → last_word (before ++ (n, line_text w) ∷ []) ≡ section_after (last_word before) w
line_section before n w e =
    last_word-add before (n, line_text w)
    ∙ ap (λ t. if t then first_field (n, line_text w) else last_word before) (line_opens n w e)
    ∙ by w.0 refl
  where
    by : (t : Bool) → w.0 ≡ t
        → (if not t then first_field (n, line_text w) else last_word before) ≡ (if t then last_word before else section_word w)
    by true f = refl
    by false f = line_word n w e f

pub lines_are : (before : List (ℕ × List ℕ)) (n : ℕ) (word : List ℕ) (ws : List Written) → AreReadable ws → last_word before ≡ word
    → map line_of (after_those before (numbered_from n ws)) ≡ lines_from n word ws
lines_are before n word [] h e = refl
lines_are before n word (w ∷ ws) h e =
    let section = line_section before n w h.0 ∙ ap (λ l. section_after l w) e in
    let item : not (is_section_line (n, line_text w)) ≡ w.0 = ap not (line_opens n w h.0) ∙ twice w.0 in
    let rest = lines_are (before ++ (n, line_text w) ∷ []) (suc n) (section_after word w) ws h.1 section in
    ap (λ l. l ∷ map line_of (after_those (before ++ (n, line_text w) ∷ []) (numbered_from (suc n) ws)))
    (ap (λ t. made t (last_word (before ++ (n, line_text w) ∷ [])) (fields_of (line_text w))) item
    ∙ ap (λ s. made w.0 s (fields_of (line_text w))) section
    ∙ ap (made w.0 (section_after word w)) (fields_read w h.0))
    ∙ ap (λ l. made w.0 (section_after word w) w.1 ∷ l) rest
  where
    twice : (t : Bool) → not (not t) ≡ t
    twice true = refl
    twice false = refl

    made : Bool → List ℕ → List (List ℕ) → Line
    made item' section' fields' = record { number = n; is_item = item'; section = section'; fields = fields' }

-- ---- up to the ENDATA line

line_ends : (n : ℕ) (w : Written) → is_readable w ≡ true → is_end_line (n, line_text w) ≡ is_last w
line_ends n w e = ap (λ t. t && bytes_eq (first_field (n, line_text w)) (codes "ENDATA")) (line_opens n w e) ∙ by w.0 refl
  where
    by : (t : Bool) → w.0 ≡ t
        → (not t && bytes_eq (first_field (n, line_text w)) (codes "ENDATA")) ≡ (not t && bytes_eq (section_word w) (codes "ENDATA"))
    by true f = refl
    by false f = ap (λ l. bytes_eq l (codes "ENDATA")) (line_word n w e f)

-- the last line is ENDATA, and none before it
abbrev pub EndsOnce : List Written → Type 0
EndsOnce [] = ⊥
EndsOnce (w ∷ []) = is_last w ≡ true
EndsOnce (w ∷ v ∷ ws) = (is_last w ≡ false) × EndsOnce (v ∷ ws)

all_through : (n : ℕ) (ws : List Written) → AreReadable ws → EndsOnce ws
    → through_first is_end_line (numbered_from n ws) ≡ numbered_from n ws
all_through n [] h e = absurd e
all_through n (w ∷ []) h e = ap (λ t. if t then (n, line_text w) ∷ [] else (n, line_text w) ∷ []) (line_ends n w h.0 ∙ e)
all_through n (w ∷ v ∷ ws) h e =
    ap (λ t. if t then (n, line_text w) ∷ [] else (n, line_text w) ∷ through_first is_end_line (numbered_from (suc n) (v ∷ ws)))
    (line_ends n w h.0 ∙ e.0)
    ∙ ap (λ l. (n, line_text w) ∷ l) (all_through (suc n) (v ∷ ws) h.1 e.1)

-- a written text is read as its lines
pub text_lines : (ws : List Written) → AreReadable ws → EndsOnce ws → lines_of (flat_map written_text ws) ≡ lines_from 1 [] ws
text_lines ws h e =
    ap (λ ps. map line_of (with_earlier (through_first is_end_line ps))) (text_numbered ws h)
    ∙ ap (λ ps. map line_of (with_earlier ps)) (all_through 1 ws h e)
    ∙ lines_are [] 1 [] ws h refl
