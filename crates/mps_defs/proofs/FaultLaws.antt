-- The faults of lines as more lines come, and what a section line without a fault says of the order of sections.
use Rattle.std.specs.Prelude.{◌≡◌, ℕ, true, false, ◌&&◌, ◌||◌, not, if◌then◌else◌, List, [], ◌∷◌, ◌++◌, flat_map, codes}
use Rattle.std.specs.List.{list_all}
use Rattle.std.specs.Option.{is_none}
use Rattle.std.proofs.Common.{ap, sym, ◌∙◌}
use Rattle.std.proofs.lemmas.Bool.{not-false}
use Rattle.std.proofs.lemmas.Grind.{flat_map-append}
use Rattle.std.proofs.lemmas.List.{append-nil}
use Rattle.ip_defs.specs.Lists.{when}
use Rattle.ip_defs.proofs.BoolLaws.{left_true}
use Rattle.ip_defs.proofs.ListLaws.{none_append, none_when}
use Rattle.mps_defs.specs.Lists.{after_those, is_among}
use Rattle.mps_defs.specs.Records.{Line, opening, words_of}
use Rattle.mps_defs.specs.Faults.{line_faults, item_faults, section_faults, faults_after, all_line_faults, section_place, is_before}
use Rattle.mps_defs.specs.Faults.{may_come}
use Rattle.mps_defs.specs.declared.reading.MpsError.TheVariants.{SectionOrder, UnknownSection}
use Rattle.mps_defs.proofs.ListLaws.{after_append}

pub faults_append : (before xs ys : List Line) → faults_after before (xs ++ ys) ≡ faults_after before xs ++ faults_after (before ++ xs) ys
faults_append before xs ys =
    ap (flat_map (λ p. line_faults p.0 p.1)) (after_append before xs ys)
    ∙ flat_map-append (λ p. line_faults p.0 p.1) (after_those before xs) (after_those (before ++ xs) ys)

-- the faults of one more line come last, and are those of the line after the others
pub faults-add : (ls : List Line) (l : Line) → all_line_faults (ls ++ l ∷ []) ≡ all_line_faults ls ++ line_faults ls l
faults-add ls l = faults_append [] ls (l ∷ []) ∙ ap (λ k. all_line_faults ls ++ k) (append-nil (line_faults ls l))

-- no fault so far and none in the line
pub no_fault_more : (before : List Line) (l : Line) → all_line_faults before ≡ [] → line_faults before l ≡ []
    → all_line_faults (before ++ l ∷ []) ≡ []
no_fault_more before l none here = faults-add before l ∙ ap (λ k. k ++ line_faults before l) none ∙ here

-- ---- section lines

-- one has no fault where its word has a place and may come
pub opening_right : (before : List Line) (n : ℕ) (fields : List (List ℕ)) (word : List ℕ) → is_none (section_place word) ≡ false
    → may_come (words_of before) word ≡ true → line_faults before (opening n fields word) ≡ []
opening_right before n fields word here come =
    ap (λ t. when t (UnknownSection n) ++ when (not (may_come (words_of before) word)) (SectionOrder n)) here
    ∙ ap (λ t. when (not t) (SectionOrder n)) come

-- and where it has none it may come
pub opening_came : (before : List Line) (l : Line) → l.is_item ≡ false → line_faults before l ≡ []
    → may_come (words_of before) l.section ≡ true
opening_came before l item e =
    let known = when (is_none (section_place l.section)) (UnknownSection l.number) in
    let order = when (not (may_come (words_of before) l.section)) (SectionOrder l.number) in
    let own : section_faults before l ≡ [] = ap (λ t. if t then item_faults before l else section_faults before l) (sym item) ∙ e in
    let parts = none_append known order own in
    let may = may_come (words_of before) l.section in
    not-false may (none_when (not may) (SectionOrder l.number) parts.1)

-- the sections before one that may come are earlier in the order
pub earlier_all : (words : List (List ℕ)) (word : List ℕ) → may_come words word ≡ true → list_all (λ w. is_before w word) words ≡ true
earlier_all words word come =
    let all = list_all (λ w. is_before w word) words in
    let rows = not (is_before (codes "ROWS") word) || is_among (codes "ROWS") words in
    let columns = not (is_before (codes "COLUMNS") word) || is_among (codes "COLUMNS") words in
    left_true all rows (left_true (all && rows) columns come)
