-- The lines of a text as more lines come: the section word, the words of the section lines and the data lines of a section.
use Rattle.std.specs.Prelude.{◌≡◌, ℕ, Bool, true, false, cond, ◌&&◌, not, List, [], ◌∷◌, ◌++◌, map, filter, bytes_eq, codes, if◌then◌else◌}
use Rattle.std.specs.Option.{option_map_or}
use Rattle.std.proofs.Common.{ap, ◌∙◌}
use Rattle.std.proofs.lemmas.List.{append-nil, map-append}
use Rattle.ip_defs.proofs.ListLaws.{filter-append}
use Rattle.mps_defs.specs.Lists.{last_of}
use Rattle.mps_defs.specs.Records.{Line, is_section_line, first_field, last_word, items_of, words_of, row_lines}
use Rattle.mps_defs.proofs.ListLaws.{last_of-add}

-- the section word after one more line
pub last_word-add : (ps : List (ℕ × List ℕ)) (p : ℕ × List ℕ)
    → last_word (ps ++ p ∷ []) ≡ (if is_section_line p then first_field p else last_word ps)
last_word-add ps p = ap (λ l. option_map_or first_field (last_of l) []) (filter-append is_section_line ps (p ∷ [])) ∙ by (is_section_line p)
  where
    by : (b : Bool) → option_map_or first_field (last_of (filter is_section_line ps ++ cond b (p ∷ []) [])) []
        ≡ (if b then first_field p else last_word ps)
    by true = ap (λ o. option_map_or first_field o []) (last_of-add (filter is_section_line ps) p)
    by false = ap (λ l. option_map_or first_field (last_of l) []) (append-nil (filter is_section_line ps))

-- ---- the words of the section lines

pub words_of-append : (xs ys : List Line) → words_of (xs ++ ys) ≡ words_of xs ++ words_of ys
words_of-append xs ys =
    ap (map (λ l. l.section)) (filter-append (λ l. not l.is_item) xs ys)
    ∙ map-append (λ l. l.section) (filter (λ l. not l.is_item) xs) (filter (λ l. not l.is_item) ys)

-- a data line adds none, a section line its own
pub words_stay : (ls : List Line) (l : Line) → l.is_item ≡ true → words_of (ls ++ l ∷ []) ≡ words_of ls
words_stay ls l item =
    words_of-append ls (l ∷ [])
    ∙ ap (λ t. words_of ls ++ map (λ (k : Line). k.section) (cond (not t) (l ∷ []) [])) item
    ∙ append-nil (words_of ls)

pub words_grow : (ls : List Line) (l : Line) → l.is_item ≡ false → words_of (ls ++ l ∷ []) ≡ words_of ls ++ l.section ∷ []
words_grow ls l section =
    words_of-append ls (l ∷ [])
    ∙ ap (λ t. words_of ls ++ map (λ (k : Line). k.section) (cond (not t) (l ∷ []) [])) section

-- ---- the data lines of a section

pub items_of-append : (word : List ℕ) (xs ys : List Line) → items_of word (xs ++ ys) ≡ items_of word xs ++ items_of word ys
items_of-append word xs ys = filter-append (λ l. l.is_item && bytes_eq l.section word) xs ys

-- lines without one of the section leave them
pub items_stay : (word : List ℕ) (xs ys : List Line) → items_of word ys ≡ [] → items_of word (xs ++ ys) ≡ items_of word xs
items_stay word xs ys none = items_of-append word xs ys ∙ ap (λ k. items_of word xs ++ k) none ∙ append-nil (items_of word xs)

pub rows_stay : (ls : List Line) (l : Line) → items_of (codes "ROWS") (l ∷ []) ≡ [] → row_lines (ls ++ l ∷ []) ≡ row_lines ls
rows_stay ls l none = items_stay (codes "ROWS") ls (l ∷ []) none
