-- What a draft has of the lines of a text that were read so far.
use Rattle.std.specs.Prelude.{◌≡◌, ◌≤◌, ℕ, suc, false, if◌then◌else◌, List, [], ◌∷◌, ◌++◌, length, map, position, slice_get, Option, None}
use Rattle.std.specs.Prelude.{Some, option_map, option_and_then, bytes_eq, string_bytes, codes, Result, Ok, Err}
use Rattle.ip_defs.specs.Lists.{first_of}
use Rattle.mps_defs.specs.Lists.{last_of, is_among, where_true}
use Rattle.std.specs.Option.{option_or}
use Rattle.mps_defs.specs.Records.{row_names, Line, Entry, items_of, words_of, row_lines, row_kind, is_free, is_marker, in_force}
use Rattle.mps_defs.specs.Records.{column_name, column_names, set_of, bound_set, kept_entries}
use Rattle.mps_defs.specs.TextModels.{written_in, written_for, decimals_in, largest, is_integer, lower_entry, upper_entry, lower_by}
use Rattle.mps_defs.specs.TextModels.{upper_by}
use Rattle.mps_defs.specs.Faults.{IsFirst, line_faults, all_line_faults, is_negative_upper}
use Rattle.mps_defs.specs.declared.reading.MpsError.{MpsError}
use Rattle.mps_reader.specs.declared.sections.Section.{Section}
use Rattle.mps_reader.specs.declared.sections.Section.TheVariants as Sections
use Rattle.mps_reader.specs.declared.draft.RowKind.{RowKind}
use Rattle.mps_reader.specs.declared.draft.RowKind.TheVariants.{Free, AtMost, AtLeast, Equal}
use Rattle.mps_reader.specs.declared.draft.RowDraft.{RowDraft}
use Rattle.mps_reader.specs.declared.draft.RowTable.{RowTable}
use Rattle.mps_reader.specs.declared.draft.UpperBound.{UpperBound}
use Rattle.mps_reader.specs.declared.draft.ColumnDraft.{ColumnDraft}
use Rattle.mps_reader.specs.declared.draft.ColumnTable.{ColumnTable}
use Rattle.mps_reader.specs.declared.draft.Sets.{Sets}
use Rattle.mps_reader.specs.declared.draft.Draft.{Draft}

-- the word of a section
abbrev pub section_word : Section → List ℕ
section_word Sections.Name = codes "NAME"
section_word Sections.Rows = codes "ROWS"
section_word Sections.Columns = codes "COLUMNS"
section_word Sections.RightSides = codes "RHS"
section_word Sections.Ranges = codes "RANGES"
section_word Sections.Bounds = codes "BOUNDS"
section_word Sections.End = codes "ENDATA"

-- the word of a kind of row
abbrev pub kind_word : RowKind → List ℕ
kind_word Free = codes "N"
kind_word AtMost = codes "L"
kind_word AtLeast = codes "G"
kind_word Equal = codes "E"

-- each name of a list stands there once
abbrev pub AreApart : List (List ℕ) → Type 0
AreApart names = (i : ℕ) (name : List ℕ) → slice_get names i ≡ Some name → position (bytes_eq name) names ≡ Some i

-- the sections so far; data lines stand in these alone
pub record SectionsStand (ls : List Line) (sections : List Section) : Type 0 where
  pub words : map section_word sections ≡ words_of ls
  pub items : (word : List ℕ) → is_among word (words_of ls) ≡ false → items_of word ls ≡ []

-- the rows so far by name and kind, and the objective
pub record RowsStand (ls : List Line) (t : RowTable) : Type 0 where
  pub names : map string_bytes t.names.keys ≡ row_names ls
  pub kinds : map (λ r. kind_word r.kind) t.rows.items ≡ map row_kind (row_lines ls)
  pub objective : t.objective ≡ position is_free (row_lines ls)
  pub apart : AreApart (row_names ls)

-- a row of which nothing is written
pub record IsNewRow (kind : RowKind) (r : RowDraft) : Type 0 where
  pub kind_is : r.kind ≡ kind
  pub entries : r.entries.items ≡ []
  pub right_side : r.right_side ≡ None
  pub range : r.range ≡ None
  pub decimals : r.decimals ≡ 0

-- the same rows and a new one at their end
pub record IsWithRow (t new : RowTable) (kind : RowKind) (name : List ℕ) : Type 0 where
  pub names : map string_bytes new.names.keys ≡ map string_bytes t.names.keys ++ name ∷ []
  pub row : RowDraft
  pub is_new : IsNewRow kind row
  pub rows : new.rows.items ≡ t.rows.items ++ row ∷ []
  pub objective : new.objective ≡ option_or t.objective (where_true (bytes_eq (kind_word kind) (codes "N")) (length t.rows.items))

-- what is written for a row by kept entries: those of COLUMNS, RHS and RANGES
pub record RowStands (entries right_sides ranges : List Entry) (columns : List (List ℕ)) (name : List ℕ) (r : RowDraft) : Type 0 where
  pub entries_are : r.entries.items ≡ written_in entries columns name
  pub right_side : r.right_side ≡ written_for right_sides name
  pub range : r.range ≡ written_for ranges name
  pub decimals : r.decimals ≡ largest 0 (decimals_in (entries ++ right_sides ++ ranges) name)
  pub few : r.decimals ≤ 9

-- the same of each row
abbrev pub EntriesStand : List Entry → List Entry → List Entry → List (List ℕ) → List (List ℕ) → List RowDraft → Type 0
EntriesStand entries right_sides ranges columns names rows =
    (i : ℕ) (name : List ℕ) (r : RowDraft) → slice_get names i ≡ Some name → slice_get rows i ≡ Some r
    → RowStands entries right_sides ranges columns name r

-- the number of the column of a line of COLUMNS, where that is no marker
abbrev pub column_of : List (List ℕ) → Line → Option ℕ
column_of names l = if is_marker l then None else position (bytes_eq (column_name l)) names

-- the columns so far by name, the last marker, and the column of the last line of COLUMNS, which is the last column
pub record ColumnsStand (ls : List Line) (t : ColumnTable) : Type 0 where
  pub names : map string_bytes t.names.keys ≡ column_names ls
  pub count : length t.columns.items ≡ length (column_names ls)
  pub apart : AreApart (column_names ls)
  pub in_integers : t.in_integers ≡ in_force ls
  pub open_is : t.open ≡ option_and_then (column_of (column_names ls)) (last_of (items_of (codes "COLUMNS") ls))
  pub open_last : (j : ℕ) → t.open ≡ Some j → suc j ≡ length (column_names ls)

-- what a bound for an upper side says
abbrev pub upper_said : Line → UpperBound
upper_said l = record { side = upper_by l; is_negative = is_negative_upper l }

-- what is known of a column: whether it is integer, and its last bounds
pub record ColumnStands (ls : List Line) (name : List ℕ) (c : ColumnDraft) : Type 0 where
  pub integer : c.is_integer ≡ is_integer ls name
  pub lower : c.lower ≡ option_map lower_by (lower_entry ls name)
  pub upper : c.upper ≡ option_map upper_said (upper_entry ls name)

-- the same of each column
abbrev pub BoundsStand : List Line → List ColumnDraft → Type 0
BoundsStand ls columns =
    (j : ℕ) (name : List ℕ) (c : ColumnDraft) → slice_get (column_names ls) j ≡ Some name → slice_get columns j ≡ Some c
    → ColumnStands ls name c

-- the kept sets
pub record SetsStand (ls : List Line) (s : Sets) : Type 0 where
  pub right_sides : option_map string_bytes s.right_sides ≡ option_map set_of (first_of (items_of (codes "RHS") ls))
  pub ranges : option_map string_bytes s.ranges ≡ option_map set_of (first_of (items_of (codes "RANGES") ls))
  pub bounds : option_map string_bytes s.bounds ≡ option_map bound_set (first_of (items_of (codes "BOUNDS") ls))

-- a draft has all that lines without a fault say
pub record Stands (ls : List Line) (d : Draft) : Type 0 where
  pub no_fault : all_line_faults ls ≡ []
  pub sections : SectionsStand ls d.sections.items
  pub rows : RowsStand ls d.rows
  pub entries : EntriesStand (kept_entries (codes "COLUMNS") ls) (kept_entries (codes "RHS") ls) (kept_entries (codes "RANGES") ls)
      (column_names ls) (row_names ls) d.rows.rows.items
  pub columns : ColumnsStand ls d.columns
  pub bounds : BoundsStand ls d.columns.columns.items
  pub sets : SetsStand ls d.sets

-- an error is the first of some faults; being out of memory is free
abbrev pub IsFirstFault : List MpsError → MpsError → Type 0
IsFirstFault faults e = IsFirst (first_of faults) e

-- what taking a line answers, after the lines before it: the draft stands for it too, or its first fault is the answer
abbrev pub IsTaken : List Line → Line → Draft → Result (Unit {0}) MpsError → Type 0
IsTaken before l new (Ok done) = Stands (before ++ l ∷ []) new
IsTaken before l new (Err e) = IsFirstFault (line_faults before l) e
