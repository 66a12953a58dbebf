-- How the definitions of a text grow by one line, for a reader that goes through it once.
use Rattle.std.specs.Prelude.{◌≡◌, ℕ, Bool, true, false, cond, List, [], ◌∷◌, ◌++◌, map, None, Some, ◌&&◌, filter_map, find, ◌+◌, bytes_eq}
use Rattle.std.specs.Prelude.{codes, length, refl}
use Rattle.std.specs.Option.{option_or, option_map}
use Rattle.std.specs.List.{enumerate_from, cons_option}
use Rattle.std.proofs.Common.{◌∙◌, ap}
use Rattle.ip_defs.specs.Lists.{first_of}
use Rattle.mps_defs.specs.Lists.{with_earlier, is_among}
use Rattle.mps_defs.specs.Records.{is_kept, Line, Entry, items_of, row_lines, line_of}
use Rattle.mps_defs.specs.TextModels.{written_in, written_at, placed, number_or_zero}
use Rattle.ip_defs.proofs.BoolLaws.{left_false, right_false}
use Rattle.ip_defs.proofs.ListLaws.{find-append, enumerate-append, or_none}
use Rattle.std.proofs.lemmas.List.{map-append}
use Rattle.std.proofs.lemmas.List.Elements.{filter_map-append}
use Rattle.std.proofs.lemmas.Bool.{true≢false, and_right}
use Rattle.mps_defs.proofs.ListLaws.{with_earlier-add, first_stays}
use Rattle.mps_defs.proofs.LineLaws.{items_of-append, rows_stay}
use Rattle.mps_defs.proofs.EntryLaws.{kept_by}

-- lines of a text

pub lines-add : (ps : List (ℕ × List ℕ)) (p : ℕ × List ℕ)
    → map line_of (with_earlier (ps ++ p ∷ [])) ≡ map line_of (with_earlier ps) ++ line_of (ps, p) ∷ []
lines-add ps p = ap (map line_of) (with_earlier-add ps p) ∙ map-append line_of (with_earlier ps) ((ps, p) ∷ [])

-- entries

-- one more entry changes nothing at other places, and is found at its own where none was
pub written_at-other : (es : List Entry) (e : Entry) (row column : List ℕ) → (bytes_eq e.row row && bytes_eq e.owner column) ≡ false
    → written_at (es ++ e ∷ []) row column ≡ written_at es row column
written_at-other es e row column h =
    ap (option_map (λ k. number_or_zero k.text))
    (find-append (λ k. bytes_eq k.row row && bytes_eq k.owner column) es (e ∷ []) ∙ by (bytes_eq e.row row && bytes_eq e.owner column) h)
  where
    by : (b : Bool) → b ≡ false
        → option_or (find (λ k. bytes_eq k.row row && bytes_eq k.owner column) es) (cond b (Some e) None)
        ≡ find (λ k. bytes_eq k.row row && bytes_eq k.owner column) es
    by true h' = absurd (true≢false h')
    by false h' = or_none (find (λ k. bytes_eq k.row row && bytes_eq k.owner column) es)

-- an entry of a later column leaves what is written for the columns before it
pub placed-same : (es : List Entry) (e : Entry) (row : List ℕ) (n : ℕ) (cs : List (List ℕ)) → is_among e.owner cs ≡ false
    → filter_map (placed (es ++ e ∷ []) row) (enumerate_from n cs) ≡ filter_map (placed es row) (enumerate_from n cs)
placed-same es e row n [] h = refl
placed-same es e row n (c ∷ cs) h =
    let here =
    written_at-other es e row c
    (and_right (bytes_eq e.row row) (bytes_eq e.owner c) (left_false (bytes_eq e.owner c) (is_among e.owner cs) h)) in
    let rest = placed-same es e row (n + 1) cs (right_false (bytes_eq e.owner c) (is_among e.owner cs) h) in
    ap (λ o. cons_option (option_map (λ k. (n, k)) o) (filter_map (placed (es ++ e ∷ []) row) (enumerate_from (n + 1) cs))) here
    ∙ ap (cons_option (placed es row (n, c))) rest

-- so a row's list grows at its end alone
pub written_in-add : (es : List Entry) (e : Entry) (row c : List ℕ) (cs : List (List ℕ)) → is_among e.owner cs ≡ false
    → written_in (es ++ e ∷ []) (cs ++ c ∷ []) row ≡ written_in es cs row ++ cons_option (placed (es ++ e ∷ []) row (0 + length cs, c)) []
written_in-add es e row c cs h =
    ap (filter_map (placed (es ++ e ∷ []) row)) (enumerate-append 0 cs (c ∷ []))
    ∙ filter_map-append (placed (es ++ e ∷ []) row) (enumerate_from 0 cs) ((0 + length cs, c) ∷ [])
    ∙ ap (λ l. l ++ cons_option (placed (es ++ e ∷ []) row (0 + length cs, c)) []) (placed-same es e row 0 cs h)

-- what is kept stays kept, once ROWS is over and the section has its first line
pub kept_stays : (word : List ℕ) (ls : List Line) (l f : Line) (e : Entry) → items_of (codes "ROWS") (l ∷ []) ≡ []
    → first_of (items_of word ls) ≡ Some f
    → is_kept word (ls ++ l ∷ []) e ≡ is_kept word ls e
kept_stays word ls l f e over first =
    ap (λ rows. kept_by word rows (first_of (items_of word (ls ++ l ∷ []))) e) (rows_stay ls l over)
    ∙ ap (λ o. kept_by word (row_lines ls) o e)
    (ap first_of (items_of-append word ls (l ∷ [])) ∙ first_stays (items_of word ls) (items_of word (l ∷ [])) f first)
