-- The lines of a written text before one of its lines: their section words, and their data lines by section.
use Rattle.std.specs.Prelude.{◌≡◌, ℕ, List, [], ◌∷◌, ◌++◌, map, codes}
use Rattle.std.proofs.Common.{refl, ap, ◌∙◌}
use Rattle.mps_defs.specs.CanonicalText.{Written}
use Rattle.mps_defs.specs.Records.{Line, items_of, words_of, opening}
use Rattle.mps_defs.specs.Faults.{line_faults, faults_after}
use Rattle.text_laws.proofs.WrittenLaws.{lines_from}
use Rattle.text_laws.proofs.SectionLaws.{AreItems, number_after, items_first, items_all, items_none}
use Rattle.text_laws.proofs.FaultFreeLaws.{no_words}
use Rattle.std.proofs.lemmas.List.{append-nil}
use Rattle.mps_defs.proofs.FaultLaws.{faults_append}
use Rattle.mps_defs.proofs.LineLaws.{words_of-append, items_of-append, items_stay}

-- the data lines of a section, and what comes after them
pub section_faultless : (before : List Line) (n : ℕ) (word : List ℕ) (ds ws : List Written) → AreItems ds
    → faults_after before (lines_from n word ds) ≡ []
    → faults_after (before ++ lines_from n word ds) (lines_from (number_after n ds) word ws) ≡ []
    → faults_after before (lines_from n word (ds ++ ws)) ≡ []
section_faultless before n word ds ws h own rest =
    ap (faults_after before) (items_first n word ds ws h)
    ∙ faults_append before (lines_from n word ds) (lines_from (number_after n ds) word ws)
    ∙ ap (λ k. k ++ faults_after (before ++ lines_from n word ds) (lines_from (number_after n ds) word ws)) own
    ∙ rest

-- a line, and what comes after it
pub line_faultless : (before : List Line) (l : Line) (ls : List Line) → line_faults before l ≡ [] → faults_after (before ++ l ∷ []) ls ≡ []
    → faults_after before (l ∷ ls) ≡ []
line_faultless before l ls own rest = ap (λ k. k ++ faults_after (before ++ l ∷ []) ls) own ∙ rest

-- the section words of lines, and their data lines
pub record Known (before : List Line) (words : List (List ℕ)) (rows columns right_sides ranges : List Line) : Type 0 where
  pub words_are : words_of before ≡ words
  pub rows_are : items_of (codes "ROWS") before ≡ rows
  pub columns_are : items_of (codes "COLUMNS") before ≡ columns
  pub right_sides_are : items_of (codes "RHS") before ≡ right_sides
  pub ranges_are : items_of (codes "RANGES") before ≡ ranges

none_more : (word : List ℕ) (xs ys found : List Line) → items_of word xs ≡ found → items_of word ys ≡ [] → items_of word (xs ++ ys) ≡ found
none_more word xs ys found e none = items_stay word xs ys none ∙ e

own_more : (word : List ℕ) (xs ys : List Line) → items_of word xs ≡ [] → items_of word ys ≡ ys → items_of word (xs ++ ys) ≡ ys
own_more word xs ys none e = items_of-append word xs ys ∙ ap (λ k. k ++ items_of word ys) none ∙ e

pub words_kept : (before : List Line) (words : List (List ℕ)) (n : ℕ) (word : List ℕ) (ds : List Written) → AreItems ds
    → words_of before ≡ words → words_of (before ++ lines_from n word ds) ≡ words
words_kept before words n word ds h e =
    words_of-append before (lines_from n word ds)
    ∙ ap (λ k. words_of before ++ map (λ (l : Line). l.section) k) (no_words n word ds h)
    ∙ append-nil (words_of before)
    ∙ e

-- after a section line
pub after_opening : (before : List Line) (words : List (List ℕ)) (rs cs hs gs : List Line) (n : ℕ) (word : List ℕ)
    → Known before words rs cs hs gs → Known (before ++ opening n (word ∷ []) word ∷ []) (words ++ word ∷ []) rs cs hs gs
after_opening before words rs cs hs gs n word h = record {
  words_are = words_of-append before (opening n (word ∷ []) word ∷ []) ∙ ap (λ k. k ++ word ∷ []) h.words_are;
  rows_are = none_more (codes "ROWS") before (opening n (word ∷ []) word ∷ []) rs h.rows_are refl;
  columns_are = none_more (codes "COLUMNS") before (opening n (word ∷ []) word ∷ []) cs h.columns_are refl;
  right_sides_are = none_more (codes "RHS") before (opening n (word ∷ []) word ∷ []) hs h.right_sides_are refl;
  ranges_are = none_more (codes "RANGES") before (opening n (word ∷ []) word ∷ []) gs h.ranges_are refl;
}

-- after the data lines of each section
pub after_row_lines : (before : List Line) (words : List (List ℕ)) (n : ℕ) (ds : List Written) → AreItems ds
    → Known before words [] [] [] [] → Known (before ++ lines_from n (codes "ROWS") ds) words (lines_from n (codes "ROWS") ds) [] [] []
after_row_lines before words n ds h k =
    let ls = lines_from n (codes "ROWS") ds in
    record {
      words_are = words_kept before words n (codes "ROWS") ds h k.words_are;
      rows_are = own_more (codes "ROWS") before ls k.rows_are (items_all n (codes "ROWS") (codes "ROWS") ds h refl);
      columns_are = none_more (codes "COLUMNS") before ls [] k.columns_are (items_none n (codes "ROWS") (codes "COLUMNS") ds h refl);
      right_sides_are = none_more (codes "RHS") before ls [] k.right_sides_are (items_none n (codes "ROWS") (codes "RHS") ds h refl);
      ranges_are = none_more (codes "RANGES") before ls [] k.ranges_are (items_none n (codes "ROWS") (codes "RANGES") ds h refl);
    }

pub after_column_lines : (before : List Line) (words : List (List ℕ)) (rs : List Line) (n : ℕ) (ds : List Written) → AreItems ds
    → Known before words rs [] [] []
    → Known (before ++ lines_from n (codes "COLUMNS") ds) words rs (lines_from n (codes "COLUMNS") ds) [] []
after_column_lines before words rs n ds h k =
    let ls = lines_from n (codes "COLUMNS") ds in
    record {
      words_are = words_kept before words n (codes "COLUMNS") ds h k.words_are;
      rows_are = none_more (codes "ROWS") before ls rs k.rows_are (items_none n (codes "COLUMNS") (codes "ROWS") ds h refl);
      columns_are = own_more (codes "COLUMNS") before ls k.columns_are (items_all n (codes "COLUMNS") (codes "COLUMNS") ds h refl);
      right_sides_are = none_more (codes "RHS") before ls [] k.right_sides_are (items_none n (codes "COLUMNS") (codes "RHS") ds h refl);
      ranges_are = none_more (codes "RANGES") before ls [] k.ranges_are (items_none n (codes "COLUMNS") (codes "RANGES") ds h refl);
    }

pub after_right_lines : (before : List Line) (words : List (List ℕ)) (rs cs : List Line) (n : ℕ) (ds : List Written) → AreItems ds
    → Known before words rs cs [] []
    → Known (before ++ lines_from n (codes "RHS") ds) words rs cs (lines_from n (codes "RHS") ds) []
after_right_lines before words rs cs n ds h k =
    let ls = lines_from n (codes "RHS") ds in
    record {
      words_are = words_kept before words n (codes "RHS") ds h k.words_are;
      rows_are = none_more (codes "ROWS") before ls rs k.rows_are (items_none n (codes "RHS") (codes "ROWS") ds h refl);
      columns_are = none_more (codes "COLUMNS") before ls cs k.columns_are (items_none n (codes "RHS") (codes "COLUMNS") ds h refl);
      right_sides_are = own_more (codes "RHS") before ls k.right_sides_are (items_all n (codes "RHS") (codes "RHS") ds h refl);
      ranges_are = none_more (codes "RANGES") before ls [] k.ranges_are (items_none n (codes "RHS") (codes "RANGES") ds h refl);
    }

pub after_range_lines : (before : List Line) (words : List (List ℕ)) (rs cs hs : List Line) (n : ℕ) (ds : List Written) → AreItems ds
    → Known before words rs cs hs []
    → Known (before ++ lines_from n (codes "RANGES") ds) words rs cs hs (lines_from n (codes "RANGES") ds)
after_range_lines before words rs cs hs n ds h k =
    let ls = lines_from n (codes "RANGES") ds in
    record {
      words_are = words_kept before words n (codes "RANGES") ds h k.words_are;
      rows_are = none_more (codes "ROWS") before ls rs k.rows_are (items_none n (codes "RANGES") (codes "ROWS") ds h refl);
      columns_are = none_more (codes "COLUMNS") before ls cs k.columns_are (items_none n (codes "RANGES") (codes "COLUMNS") ds h refl);
      right_sides_are = none_more (codes "RHS") before ls hs k.right_sides_are (items_none n (codes "RANGES") (codes "RHS") ds h refl);
      ranges_are = own_more (codes "RANGES") before ls k.ranges_are (items_all n (codes "RANGES") (codes "RANGES") ds h refl);
    }
