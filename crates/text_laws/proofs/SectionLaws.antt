-- The data lines of the sections of a written text.
use Rattle.std.specs.Prelude.{◌≡◌, ℕ, suc, nat_le, Bool, true, false, ◌&&◌, not, cond, if◌then◌else◌, List, [], ◌∷◌, ◌++◌}
use Rattle.std.specs.Prelude.{length, map, filter, bytes_eq, codes}
use Rattle.std.proofs.Common.{refl, ap, sym, ◌∙◌}
use Rattle.mps_defs.specs.Lists.{after_those, is_among}
use Rattle.ip_defs.specs.Lists.{when, Each}
use Rattle.mps_defs.specs.CanonicalText.{Written, head}
use Rattle.mps_defs.specs.Records.{Line, items_of, column_lines, column_name, column_names, has_column}
use Rattle.text_laws.proofs.WrittenLaws.{lines_from}
use Rattle.ip_defs.proofs.ListLaws.{filter-append}
use Rattle.std.proofs.lemmas.List.{append-nil}
use Rattle.mps_defs.proofs.ColumnLaws.{is_column_line, names_on_lines-append, column_line-one, is_first, column_lines-append}

-- data lines
abbrev pub IsItem : Written → Type 0
IsItem w = w.0 ≡ true

abbrev pub AreItems : List Written → Type 0
AreItems ws = Each IsItem ws

-- the number after some lines
abbrev pub number_after : ℕ → List Written → ℕ
number_after n [] = n
number_after n (w ∷ ws) = number_after (suc n) ws

-- data lines stand in the section before them
pub items_first : (n : ℕ) (word : List ℕ) (ds ws : List Written) → AreItems ds
    → lines_from n word (ds ++ ws) ≡ lines_from n word ds ++ lines_from (number_after n ds) word ws
items_first n word [] ws h = refl
items_first n word ((true, fs) ∷ ds) ws h =
    ap (λ l. record { number = n; is_item = true; section = word; fields = fs } ∷ l) (items_first (suc n) word ds ws h.1)
items_first n word ((false, fs) ∷ ds) ws h = absurd cc

pub items_all : (n : ℕ) (word w : List ℕ) (ds : List Written) → AreItems ds → bytes_eq word w ≡ true
    → items_of w (lines_from n word ds) ≡ lines_from n word ds
items_all n word w [] h e = refl
items_all n word w ((true, fs) ∷ ds) h e =
    let l : Line = record { number = n; is_item = true; section = word; fields = fs } in
    ap (λ t. cond t (l ∷ items_of w (lines_from (suc n) word ds)) (items_of w (lines_from (suc n) word ds))) e
    ∙ ap (λ k. l ∷ k) (items_all (suc n) word w ds h.1 e)
items_all n word w ((false, fs) ∷ ds) h e = absurd cc

pub items_none : (n : ℕ) (word w : List ℕ) (ds : List Written) → AreItems ds → bytes_eq word w ≡ false
    → items_of w (lines_from n word ds) ≡ []
items_none n word w [] h e = refl
items_none n word w ((true, fs) ∷ ds) h e =
    let l : Line = record { number = n; is_item = true; section = word; fields = fs } in
    ap (λ t. cond t (l ∷ items_of w (lines_from (suc n) word ds)) (items_of w (lines_from (suc n) word ds))) e
    ∙ items_none (suc n) word w ds h.1 e
items_none n word w ((false, fs) ∷ ds) h e = absurd cc

-- the sections of a written text
pub record Sections : Type 0 where
  pub rows : List Written
  pub columns : List Written
  pub right_sides : List Written
  pub ranges : List Written
  pub bounds : List Written

pub record AreSections (s : Sections) : Type 0 where
  pub rows : AreItems s.rows
  pub columns : AreItems s.columns
  pub right_sides : AreItems s.right_sides
  pub ranges : AreItems s.ranges
  pub bounds : AreItems s.bounds

-- the number of the first line of each section
abbrev pub columns_at : Sections → ℕ
columns_at s = suc (number_after 3 s.rows)

abbrev pub right_sides_at : Sections → ℕ
right_sides_at s = suc (number_after (columns_at s) s.columns)

abbrev pub ranges_at : Sections → ℕ
ranges_at s = suc (number_after (right_sides_at s) s.right_sides)

abbrev pub bounds_at : Sections → ℕ
bounds_at s = suc (number_after (ranges_at s) s.ranges)

abbrev pub after_bounds : Sections → List Written
after_bounds s = head (codes "ENDATA") ∷ []

abbrev pub after_ranges : Sections → List Written
after_ranges s = head (codes "BOUNDS") ∷ s.bounds ++ after_bounds s

abbrev pub after_right_sides : Sections → List Written
after_right_sides s = head (codes "RANGES") ∷ s.ranges ++ after_ranges s

abbrev pub after_columns : Sections → List Written
after_columns s = head (codes "RHS") ∷ s.right_sides ++ after_right_sides s

abbrev pub after_rows : Sections → List Written
after_rows s = head (codes "COLUMNS") ∷ s.columns ++ after_columns s

abbrev pub section_lines : Sections → List Written
section_lines s = head (codes "NAME") ∷ head (codes "ROWS") ∷ (s.rows ++ after_rows s)

abbrev pub lines_in : Sections → List Line
lines_in s = lines_from 1 [] (section_lines s)

-- the data lines of a section that are those of a word
abbrev pub part : ℕ → List ℕ → List ℕ → List Written → List Line
part n word w ds = if bytes_eq word w then lines_from n word ds else []

pub section_part : (n : ℕ) (word w : List ℕ) (ds ws : List Written) → AreItems ds
    → items_of w (lines_from n word (ds ++ ws)) ≡ part n word w ds ++ items_of w (lines_from (number_after n ds) word ws)
section_part n word w ds ws h =
    ap (items_of w) (items_first n word ds ws h)
    ∙ filter-append (λ l. l.is_item && bytes_eq l.section w) (lines_from n word ds) (lines_from (number_after n ds) word ws)
    ∙ ap (λ k. k ++ items_of w (lines_from (number_after n ds) word ws)) (by (bytes_eq word w) refl)
  where
    by : (t : Bool) → bytes_eq word w ≡ t → items_of w (lines_from n word ds) ≡ (if t then lines_from n word ds else [])
    by true e = items_all n word w ds h e
    by false e = items_none n word w ds h e

-- so the lines of a word are those of each section that is of the word
parts_are : (s : Sections) (w : List ℕ) → AreSections s
    → items_of w (lines_in s)
    ≡ part 3 (codes "ROWS") w s.rows ++ (part (columns_at s) (codes "COLUMNS") w s.columns ++
    (part (right_sides_at s) (codes "RHS") w s.right_sides ++ (part (ranges_at s) (codes "RANGES") w s.ranges ++
    (part (bounds_at s) (codes "BOUNDS") w s.bounds ++ []))))
parts_are s w h =
    section_part 3 (codes "ROWS") w s.rows (after_rows s) h.rows
    ∙ ap (λ k. part 3 (codes "ROWS") w s.rows ++ k) (section_part (columns_at s) (codes "COLUMNS") w s.columns (after_columns s) h.columns
    ∙ ap (λ k. part (columns_at s) (codes "COLUMNS") w s.columns ++ k)
    (section_part (right_sides_at s) (codes "RHS") w s.right_sides (after_right_sides s) h.right_sides
    ∙ ap (λ k. part (right_sides_at s) (codes "RHS") w s.right_sides ++ k)
    (section_part (ranges_at s) (codes "RANGES") w s.ranges (after_ranges s) h.ranges
    ∙ ap (λ k. part (ranges_at s) (codes "RANGES") w s.ranges ++ k)
    (section_part (bounds_at s) (codes "BOUNDS") w s.bounds (after_bounds s) h.bounds))))

-- the data lines of each section
pub record AreDataLines (s : Sections) : Type 0 where
  pub rows : items_of (codes "ROWS") (lines_in s) ≡ lines_from 3 (codes "ROWS") s.rows
  pub columns : items_of (codes "COLUMNS") (lines_in s) ≡ lines_from (columns_at s) (codes "COLUMNS") s.columns
  pub right_sides : items_of (codes "RHS") (lines_in s) ≡ lines_from (right_sides_at s) (codes "RHS") s.right_sides
  pub ranges : items_of (codes "RANGES") (lines_in s) ≡ lines_from (ranges_at s) (codes "RANGES") s.ranges
  pub bounds : items_of (codes "BOUNDS") (lines_in s) ≡ lines_from (bounds_at s) (codes "BOUNDS") s.bounds

pub data_lines : (s : Sections) → AreSections s → AreDataLines s
data_lines s h = record {
  rows = parts_are s (codes "ROWS") h ∙ append-nil (lines_from 3 (codes "ROWS") s.rows);
  columns = parts_are s (codes "COLUMNS") h ∙ append-nil (lines_from (columns_at s) (codes "COLUMNS") s.columns);
  right_sides = parts_are s (codes "RHS") h ∙ append-nil (lines_from (right_sides_at s) (codes "RHS") s.right_sides);
  ranges = parts_are s (codes "RANGES") h ∙ append-nil (lines_from (ranges_at s) (codes "RANGES") s.ranges);
  bounds = parts_are s (codes "BOUNDS") h ∙ append-nil (lines_from (bounds_at s) (codes "BOUNDS") s.bounds);
}

-- ---- columns

-- the names that did not come before, in order
abbrev pub new_names : List (List ℕ) → List (List ℕ) → List (List ℕ)
new_names seen [] = []
new_names seen (c ∷ cs) = when (not (is_among c seen)) c ++ new_names (seen ++ c ∷ []) cs

-- the names on the lines of columns
abbrev pub names_of : List Line → List (List ℕ)
names_of ls = map column_name (column_lines ls)

-- the names that begin on lines, after others
abbrev pub names_after : List Line → List Line → List (List ℕ)
names_after before ls = map (λ p. column_name p.1) (filter is_first (after_those before ls))

-- the names that lines begin, after others
pub names_step : (before ls : List Line) → names_after before ls ≡ new_names (names_of before) (names_of ls)
names_step before [] = refl
names_step before (l ∷ ls) =
    ap (λ k. map (λ p. column_name p.1) (cond (nat_le 1 (length k) && not (has_column before (column_name l))) ((before, l) ∷ later) later))
    (column_line-one l)
    ∙ by (is_column_line l) refl
    (names_step (before ++ l ∷ []) ls
    ∙ ap (λ k. new_names k (names_of ls))
    (names_on_lines-append before (l ∷ []) ∙ ap (λ k. names_of before ++ map column_name k) (column_line-one l)))
    ∙ sym (ap (λ k. new_names (names_of before) (map column_name k)) ((column_lines-append (l ∷ []) ls
    ∙ ap (λ k. k ++ column_lines ls) (column_line-one l))))
  where
    later : List (List Line × Line)
    later = filter is_first (after_those (before ++ l ∷ []) ls)

    by : (t : Bool) → is_column_line l ≡ t
        → map (λ p. column_name p.1) later ≡ new_names (names_of before ++ map column_name (when (is_column_line l) l)) (names_of ls)
        → map (λ p. column_name p.1)
        (cond (nat_le 1 (length (when t l)) && not (has_column before (column_name l))) ((before, l) ∷ later) later)
        ≡ new_names (names_of before) (map column_name (when t l ++ column_lines ls))
    by false e rest =
        rest
        ∙ ap (λ t. new_names (names_of before ++ map column_name (when t l)) (names_of ls)) e
        ∙ ap (λ k. new_names k (names_of ls)) (append-nil (names_of before))
    by true e rest =
        cases (has_column before (column_name l))
        (rest ∙ ap (λ t. new_names (names_of before ++ map column_name (when t l)) (names_of ls)) e)
      where
        cases : (u : Bool) → map (λ p. column_name p.1) later ≡ new_names (names_of before ++ column_name l ∷ []) (names_of ls)
            → map (λ p. column_name p.1) (cond (nat_le 1 (length (l ∷ [])) && not u) ((before, l) ∷ later) later)
            ≡ when (not u) (column_name l) ++ new_names (names_of before ++ column_name l ∷ []) (names_of ls)
        cases true r = r
        cases false r = ap (λ k. column_name l ∷ k) r

pub names_are : (ls : List Line) → column_names ls ≡ new_names [] (map column_name (column_lines ls))
names_are ls = names_step [] ls
