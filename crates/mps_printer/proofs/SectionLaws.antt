-- The canonical text is that of its sections, one after the other.
use Rattle.std.specs.Prelude.{◌≡◌, ℕ, ◌==◌, false, if◌then◌else◌, List, [], ◌∷◌, ◌++◌, length, flat_map, codes, refl}
use Rattle.std.specs.List.{enumerate_from}
use Rattle.std.proofs.Common.{ap, sym, ◌∙◌, append_assoc}
use Rattle.std.proofs.lemmas.Grind.{flat_map-append}
use Rattle.mps_defs.specs.CanonicalText.{Written, written_text, head, triple, column_block, constant_line, rhs_line, canonical_text}
use Rattle.ip_defs.specs.declared.programs.Parts.{Parts}
use Rattle.mps_printer.specs.Internal.Sections.{lines_text, row_section, column_section, side_section, range_section, bound_section}
use Rattle.mps_printer.proofs.LineLaws.{one_line, text_longer}

-- lines after a text of lines
joined : (text : List ℕ) (xs ys : List Written) → text ≡ lines_text xs → text ++ lines_text ys ≡ lines_text (xs ++ ys)
joined text xs ys h = ap (λ bs. bs ++ lines_text ys) h ∙ sym (flat_map-append written_text xs ys)

six : (x1 x2 x3 x4 x5 x6 : List Written) (line : Written)
    → ((((lines_text x1 ++ lines_text x2) ++ lines_text (x3 ++ x4)) ++ lines_text x5) ++ lines_text x6) ++ written_text line
    ≡ lines_text ((((((x1 ++ x2) ++ x3) ++ x4) ++ x5) ++ x6) ++ line ∷ [])
six x1 x2 x3 x4 x5 x6 line =
    let two = joined (lines_text x1) x1 x2 refl in
    let four = joined _ (x1 ++ x2) (x3 ++ x4) two ∙ ap lines_text (sym (append_assoc (x1 ++ x2) x3 x4)) in
    let five = joined _ (((x1 ++ x2) ++ x3) ++ x4) x5 four in
    let all = joined _ ((((x1 ++ x2) ++ x3) ++ x4) ++ x5) x6 five in
    one_line _ line ∙ joined _ (((((x1 ++ x2) ++ x3) ++ x4) ++ x5) ++ x6) (line ∷ []) all

pub sections_are : (m : Parts)
    → ((((lines_text (row_section m) ++ lines_text (column_section m)) ++ lines_text (side_section m)) ++ lines_text (range_section m))
    ++ lines_text (bound_section m)) ++ written_text (head (codes "ENDATA"))
    ≡ canonical_text m
sections_are m =
    six (row_section m) (column_section m) (head (codes "RHS") ∷ constant_line m) (flat_map rhs_line m.rows) (range_section m)
    (bound_section m) (head (codes "ENDATA"))

between : (start : List ℕ) (word first last : Written) (blocks : List Written)
    → (((start ++ written_text word) ++ written_text first) ++ lines_text blocks) ++ written_text last
    ≡ start ++ lines_text (word ∷ (first ∷ blocks ++ last ∷ []))
between start word first last blocks =
    let one = one_line start word in
    let two =
    one_line (start ++ written_text word) first
    ∙ ap (λ bs. bs ++ lines_text (first ∷ [])) one
    ∙ text_longer start (word ∷ []) (first ∷ []) in
    let more = ap (λ bs. bs ++ lines_text blocks) two ∙ text_longer start (word ∷ first ∷ []) blocks in
    one_line _ last ∙ ap (λ bs. bs ++ lines_text (last ∷ [])) more ∙ text_longer start (word ∷ first ∷ blocks) (last ∷ [])

-- COLUMNS where there is a column: the blocks of lines between the marker lines
pub columns_are : (m : Parts) (start : List ℕ) → (length m.columns == 0) ≡ false
    → (((start ++ written_text (head (codes "COLUMNS"))) ++ written_text (triple (codes "M") (codes "'MARKER'") (codes "'INTORG'")))
    ++ lines_text (flat_map (column_block m) (enumerate_from 0 m.columns)))
    ++ written_text (triple (codes "M") (codes "'MARKER'") (codes "'INTEND'"))
    ≡ start ++ lines_text (column_section m)
columns_are m start e =
    let first = triple (codes "M") (codes "'MARKER'") (codes "'INTORG'") in
    let last = triple (codes "M") (codes "'MARKER'") (codes "'INTEND'") in
    let blocks = flat_map (column_block m) (enumerate_from 0 m.columns) in
    between start (head (codes "COLUMNS")) first last blocks
    ∙ ap (λ t. start ++ lines_text (head (codes "COLUMNS") ∷ (if t then [] else first ∷ blocks ++ last ∷ []))) (sym e)
