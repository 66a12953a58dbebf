-- The lines of an MPS text, up to the ENDATA line, and what they write: rows, columns, entries and bounds.
use Rattle.std.specs.Prelude.{ℕ, ◌-◌, ◌%◌, ◌==◌, nat_le, Bool, true, false, ◌&&◌, ◌||◌, not, if◌then◌else◌, List, [], ◌∷◌, ◌++◌, length}
use Rattle.std.specs.Prelude.{take, drop, map, filter, flat_map, find, Option, option_map, slice_index_or, bytes_eq, codes}
use Rattle.std.specs.List.{slice_split, enumerate_from}
use Rattle.std.specs.Option.{option_map_or}
use Rattle.mps_defs.specs.Lists.{with_earlier, through_first, is_among, last_of}
use Rattle.ip_defs.specs.Lists.{first_of}

-- a line with fields: its number, the word of the section that it stands in or begins, and its fields
pub record Line : Type 0 where
  pub number : ℕ
  pub is_item : Bool
  pub section : List ℕ
  pub fields : List (List ℕ)

-- a data line, and a section line
abbrev pub item : List ℕ → ℕ → List (List ℕ) → Line
item word number fields = record { number = number; is_item = true; section = word; fields = fields }

abbrev pub opening : ℕ → List (List ℕ) → List ℕ → Line
opening number fields word = record { number = number; is_item = false; section = word; fields = fields }

abbrev pub is_line_end : ℕ → Bool
is_line_end b = b == 10

abbrev pub is_blank : ℕ → Bool
is_blank b = (b == 32) || (b == 9)

abbrev pub is_star : ℕ → Bool
is_star b = b == 42

abbrev pub begins_with : (ℕ → Bool) → List ℕ → Bool
begins_with test [] = false
begins_with test (b ∷ bs) = test b

-- one CR at the end is dropped
abbrev pub without_return : List ℕ → List ℕ
without_return bs = if slice_index_or bs (length bs - 1) 0 == 13 then take (length bs - 1) bs else bs

abbrev pub fields_of : List ℕ → List (List ℕ)
fields_of line = filter (λ f. nat_le 1 (length f)) (slice_split is_blank line)

-- a numbered line is read: it has a field and is no comment
abbrev pub is_read : ℕ × List ℕ → Bool
is_read p = nat_le 1 (length (fields_of p.1)) && not (begins_with is_star p.1)

-- the lines that are read, by number
abbrev pub numbered : List ℕ → List (ℕ × List ℕ)
numbered text = filter is_read (enumerate_from 1 (map without_return (slice_split is_line_end text)))

abbrev pub first_field : ℕ × List ℕ → List ℕ
first_field p = slice_index_or (fields_of p.1) 0 []

-- a line is a section line
abbrev pub is_section_line : ℕ × List ℕ → Bool
is_section_line p = not (begins_with is_blank p.1)

abbrev pub is_end_line : ℕ × List ℕ → Bool
is_end_line p = is_section_line p && bytes_eq (first_field p) (codes "ENDATA")

-- the word of the last section line, none before the first
abbrev pub last_word : List (ℕ × List ℕ) → List ℕ
last_word ps = option_map_or first_field (last_of (filter is_section_line ps)) []

abbrev pub line_of : List (ℕ × List ℕ) × (ℕ × List ℕ) → Line
line_of p = record { number = p.1.0; is_item = not (is_section_line p.1); section = last_word (p.0 ++ p.1 ∷ []); fields = fields_of p.1.1 }

-- up to the ENDATA line
abbrev pub lines_of : List ℕ → List Line
lines_of text = map line_of (with_earlier (through_first is_end_line (numbered text)))

abbrev pub field : Line → ℕ → List ℕ
field l i = slice_index_or l.fields i []

-- the data lines of a section
abbrev pub items_of : List ℕ → List Line → List Line
items_of word ls = filter (λ l. l.is_item && bytes_eq l.section word) ls

-- the words of the section lines
abbrev pub words_of : List Line → List (List ℕ)
words_of ls = map (λ l. l.section) (filter (λ l. not l.is_item) ls)

-- ROWS

abbrev pub row_kind : Line → List ℕ
row_kind l = field l 0

abbrev pub row_name : Line → List ℕ
row_name l = field l 1

abbrev pub row_lines : List Line → List Line
row_lines ls = items_of (codes "ROWS") ls

abbrev pub row_names : List Line → List (List ℕ)
row_names ls = map row_name (row_lines ls)

abbrev pub is_free : Line → Bool
is_free l = bytes_eq (row_kind l) (codes "N")

-- the name of the first N row
abbrev pub objective : List Line → Option (List ℕ)
objective ls = option_map row_name (find is_free (row_lines ls))

abbrev pub is_objective : List Line → List ℕ → Bool
is_objective ls name = option_map_or (bytes_eq name) (objective ls) false

-- a further N row
abbrev pub is_dropped_row : List Line → List ℕ → Bool
is_dropped_row ls name = is_among name (map row_name (filter is_free (row_lines ls))) && not (is_objective ls name)

-- COLUMNS

abbrev pub is_marker : Line → Bool
is_marker l = bytes_eq (field l 1) (codes "'MARKER'")

-- the last marker begins integer columns
abbrev pub in_force : List Line → Bool
in_force ls =
    option_map_or (λ l. bytes_eq (field l 2) (codes "'INTORG'")) (last_of (filter is_marker (items_of (codes "COLUMNS") ls))) false

abbrev pub column_lines : List Line → List Line
column_lines ls = filter (λ l. not (is_marker l)) (items_of (codes "COLUMNS") ls)

abbrev pub column_name : Line → List ℕ
column_name l = field l 0

abbrev pub has_column : List Line → List ℕ → Bool
has_column ls name = is_among name (map column_name (column_lines ls))

-- a line is of a column that did not come before
abbrev pub is_new_column : List Line → Line → Bool
is_new_column before l = nat_le 1 (length (column_lines (l ∷ []))) && not (has_column before (column_name l))

-- the first line of each column, with the lines before it
abbrev pub first_lines : List Line → List (List Line × Line)
first_lines ls = filter (λ p. is_new_column p.0 p.1) (with_earlier ls)

abbrev pub column_names : List Line → List (List ℕ)
column_names ls = map (λ p. column_name p.1) (first_lines ls)

-- entries: a row and a number that a line writes for a column, or in a set of RHS or RANGES

pub record Entry : Type 0 where
  pub line : ℕ
  pub owner : List ℕ
  pub row : List ℕ
  pub text : List ℕ

abbrev pub entry_of : ℕ → List ℕ → List ℕ → List ℕ → Entry
entry_of line owner row text = record { line = line; owner = owner; row = row; text = text }

abbrev pub entries_from : ℕ → List ℕ → List (List ℕ) → List Entry
entries_from n owner [] = []
entries_from n owner (f ∷ []) = []
entries_from n owner (f ∷ g ∷ fs) = entry_of n owner f g ∷ entries_from n owner fs

-- whether the first field of a line of RHS or RANGES names a set
abbrev pub names_set : Line → Bool
names_set l = length l.fields % 2 == 1

abbrev pub set_of : Line → List ℕ
set_of l = if names_set l then field l 0 else []

abbrev pub is_columns : List ℕ → Bool
is_columns word = bytes_eq word (codes "COLUMNS")

-- the entries of a line of COLUMNS, RHS or RANGES
abbrev pub entries_of : Line → List Entry
entries_of l =
    if is_columns l.section then (if is_marker l then [] else entries_from l.number (column_name l) (drop 1 l.fields))
    else entries_from l.number (set_of l) (if names_set l then drop 1 l.fields else l.fields)

abbrev pub all_entries : List ℕ → List Line → List Entry
all_entries word ls = flat_map entries_of (items_of word ls)

-- the set of the first data line
abbrev pub is_kept_set : List ℕ → List Line → List ℕ → Bool
is_kept_set word ls set = option_map_or (λ l. bytes_eq (set_of l) set) (first_of (items_of word ls)) false

-- an entry counts: its row is kept, its set is the kept one, and a range is not on the objective
abbrev pub is_kept : List ℕ → List Line → Entry → Bool
is_kept word ls e =
    not (is_dropped_row ls e.row) && (is_columns word || is_kept_set word ls e.owner)
    && not (bytes_eq word (codes "RANGES") && is_objective ls e.row)

abbrev pub kept_entries : List ℕ → List Line → List Entry
kept_entries word ls = filter (is_kept word ls) (all_entries word ls)

-- BOUNDS

abbrev pub bound_kind : Line → List ℕ
bound_kind l = field l 0

-- the kinds with a number, and those without
abbrev pub takes_number : Line → Bool
takes_number l = is_among (bound_kind l) (codes "LO" ∷ codes "LI" ∷ codes "UP" ∷ codes "UI" ∷ codes "FX" ∷ [])

abbrev pub takes_none : Line → Bool
takes_none l = is_among (bound_kind l) (codes "FR" ∷ codes "MI" ∷ codes "PL" ∷ codes "BV" ∷ [])

abbrev pub bound_has_set : Line → Bool
bound_has_set l = if takes_number l then length l.fields == 4 else nat_le 3 (length l.fields)

abbrev pub bound_set : Line → List ℕ
bound_set l = if bound_has_set l then field l 1 else []

abbrev pub bound_column : Line → List ℕ
bound_column l = if bound_has_set l then field l 2 else field l 1

abbrev pub bound_text : Line → List ℕ
bound_text l = field l (length l.fields - 1)

abbrev pub is_kept_bound : List Line → Line → Bool
is_kept_bound ls l = option_map_or (λ f. bytes_eq (bound_set f) (bound_set l)) (first_of (items_of (codes "BOUNDS") ls)) false

-- the bounds of a column, in order
abbrev pub bounds_on : List Line → List ℕ → List Line
bounds_on ls name = filter (λ l. is_kept_bound ls l && bytes_eq (bound_column l) name) (items_of (codes "BOUNDS") ls)
