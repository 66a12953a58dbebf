-- The entries of a section as more lines come, and which of them are kept.
use Rattle.std.specs.Prelude.{◌≡◌, Bool, true, false, ◌&&◌, ◌||◌, not, ℕ, List, ◌++◌, map, filter, flat_map, find, Option, None, Some}
use Rattle.std.specs.Prelude.{option_map, bytes_eq, codes}
use Rattle.std.specs.Option.{option_map_or}
use Rattle.std.proofs.Common.{ap, sym, ◌∙◌}
use Rattle.std.proofs.lemmas.Grind.{flat_map-append}
use Rattle.ip_defs.specs.Lists.{first_of}
use Rattle.ip_defs.proofs.BoolLaws.{left_true, right_true}
use Rattle.ip_defs.proofs.TextLaws.{text_same}
use Rattle.mps_defs.specs.Lists.{is_among}
use Rattle.mps_defs.specs.Records.{Line, Entry, items_of, row_name, is_free, is_objective, is_dropped_row, is_columns, set_of, entries_of}
use Rattle.mps_defs.specs.Records.{all_entries, is_kept, is_kept_set}
use Rattle.mps_defs.proofs.LineLaws.{items_of-append}

pub all_entries-append : (word : List ℕ) (xs ys : List Line) → all_entries word (xs ++ ys) ≡ all_entries word xs ++ all_entries word ys
all_entries-append word xs ys =
    ap (flat_map entries_of) (items_of-append word xs ys) ∙ flat_map-append entries_of (items_of word xs) (items_of word ys)

-- the lines of ROWS and the first line of the section decide what is kept
abbrev pub objective_in : List Line → List ℕ → Bool
objective_in rows name = option_map_or (bytes_eq name) (option_map row_name (find is_free rows)) false

abbrev pub kept_by : List ℕ → List Line → Option Line → Entry → Bool
kept_by word rows first e =
    not (is_among e.row (map row_name (filter is_free rows)) && not (objective_in rows e.row))
    && (is_columns word || option_map_or (λ l. bytes_eq (set_of l) e.owner) first false)
    && not (bytes_eq word (codes "RANGES") && objective_in rows e.row)

-- ---- sets

-- one set of a section is kept
pub one_set : (word : List ℕ) (ls : List Line) (x y : List ℕ) → is_kept_set word ls x ≡ true → is_kept_set word ls y ≡ true → x ≡ y
one_set word ls x y h g = by (first_of (items_of word ls)) h g
  where
    by : (o : Option Line) → option_map_or (λ l. bytes_eq (set_of l) x) o false ≡ true
        → option_map_or (λ l. bytes_eq (set_of l) y) o false ≡ true → x ≡ y
    by None h g = absurd cc
    by (Some l) h g = sym (text_same (set_of l) x h) ∙ text_same (set_of l) y g

-- what is kept of RHS or RANGES is of that set
pub kept_in_set : (word : List ℕ) (ls : List Line) (e : Entry) → is_columns word ≡ false → is_kept word ls e ≡ true
    → is_kept_set word ls e.owner ≡ true
kept_in_set word ls e other kept =
    let row = not (is_dropped_row ls e.row) in
    let set = is_columns word || is_kept_set word ls e.owner in
    let range = not (bytes_eq word (codes "RANGES") && is_objective ls e.row) in
    ap (λ t. t || is_kept_set word ls e.owner) (sym other) ∙ right_true row set (left_true (row && set) range kept)
