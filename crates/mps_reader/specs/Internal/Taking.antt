-- What taking a part of a line owes: an entry, a marker, a column, a set.
use Rattle.std.specs.Prelude.{◌≡◌, ◌⊎◌, ℕ, ◌==◌, max, nat_le, ◌%◌, drop, Bool, true, false, ◌&&◌, ◌||◌, not, if◌then◌else◌, List, [], ◌∷◌}
use Rattle.std.specs.Prelude.{◌++◌, length, map, filter, flat_map, position, Option, None, Some, option_map, unwrap_or, string_bytes}
use Rattle.std.specs.Prelude.{bytes_eq, codes, Result, Ok, Err}
use Rattle.std.specs.Option.{option_map_or, is_some}
use Rattle.ip_defs.specs.Lists.{first_of, when}
use Rattle.mps_defs.specs.Lists.{last_of, is_among, after_those}
use Rattle.mps_defs.specs.Numbers.{decimals_of, is_number, number_of}
use Rattle.mps_defs.specs.Faults.{entry_faults}
use Rattle.mps_defs.specs.Records.{row_names, Line, Entry, set_of, column_name, column_names, is_kept, is_kept_set, kept_entries}
use Rattle.mps_defs.specs.declared.reading.Number.{Number}
use Rattle.mps_defs.specs.declared.reading.MpsError.{MpsError}
use Rattle.mps_defs.specs.declared.reading.MpsError.TheVariants as Out
use Rattle.mps_reader.specs.declared.sections.Section.{Section}
use Rattle.mps_reader.specs.declared.sections.Section.TheVariants as Sections
use Rattle.mps_reader.specs.declared.draft.RowDraft.{RowDraft}
use Rattle.mps_reader.specs.declared.draft.RowTable.{RowTable}
use Rattle.mps_reader.specs.declared.draft.ColumnTable.{ColumnTable}
use Rattle.mps_reader.specs.declared.draft.Sets.{Sets}
use Rattle.mps_reader.specs.declared.entries.Owner.{Owner}
use Rattle.mps_reader.specs.declared.entries.Owner.TheVariants.{Column, RightSides, Ranges}
use Rattle.mps_reader.specs.Internal.Progress.{RowsStand, EntriesStand, ColumnsStand, BoundsStand}

-- what taking a part of a line answers: it has none of its faults and then P holds, or its first fault is the answer; being out of
-- memory is free
abbrev pub IsDone : {A : Type 0} → List MpsError → (A → Type 0) → Result A MpsError → Type 0
IsDone faults P (Ok x) = (faults ≡ []) × P x
IsDone faults P (Err e) = (e ≡ Out.Memory) ⊎ (first_of faults ≡ Some e)

-- a name is that of the last column alone, which has this number
pub record IsLast (columns : List (List ℕ)) (name : List ℕ) (number : ℕ) : Type 0 where
  pub front : List (List ℕ)
  pub columns_are : columns ≡ front ++ name ∷ []
  pub number_is : number ≡ length front
  pub once : is_among name front ≡ false

-- the section of an owner
abbrev pub owner_word : Owner → List ℕ
owner_word (Column number) = codes "COLUMNS"
owner_word (RightSides is_kept) = codes "RHS"
owner_word (Ranges is_kept) = codes "RANGES"

-- an owner writes the entries under a name: of the last column, or of a set that is the kept one or not
abbrev pub Owns : List Line → Owner → List ℕ → Type 0
Owns ls (Column number) name = IsLast (column_names ls) name number
Owns ls (RightSides is_kept) name = is_kept_set (codes "RHS") ls name ≡ is_kept
Owns ls (Ranges is_kept) name = is_kept_set (codes "RANGES") ls name ≡ is_kept

-- the entries of a section that count, where those of the owner's section are es so far
abbrev pub counted : List Line → Owner → List Entry → List ℕ → List Entry
counted ls owner es word = if bytes_eq (owner_word owner) word then filter (is_kept word ls) es else kept_entries word ls

-- the rows stand, and have all of these
pub record RowsHave (ls : List Line) (owner : Owner) (es : List Entry) (t : RowTable) : Type 0 where
  pub rows : RowsStand ls t
  pub entries : EntriesStand (counted ls owner es (codes "COLUMNS")) (counted ls owner es (codes "RHS"))
      (counted ls owner es (codes "RANGES"))
      (column_names ls) (row_names ls) t.rows.items

-- whether an entry of an owner counts on a row that is free or not, and the objective or not
abbrev pub counts_on : Owner → Bool → Bool → Bool
counts_on (Column number) is_free is_objective = not is_free || is_objective
counts_on (RightSides is_kept) is_free is_objective = is_kept && (not is_free || is_objective)
counts_on (Ranges is_kept) is_free is_objective = is_kept && not is_free

-- whether a row has a number of an owner
abbrev pub has_number : Owner → RowDraft → Bool
has_number (Column number) r = option_map_or (λ p. p.0 == number) (last_of r.entries.items) false
has_number (RightSides is_kept) r = is_some r.right_side
has_number (Ranges is_kept) r = is_some r.range

-- the entries, the right side and the range with one more number of an owner
abbrev pub entries_with : Owner → Number → List (ℕ × Number) → List (ℕ × Number)
entries_with (Column number) n ps = ps ++ (number, n) ∷ []
entries_with (RightSides is_kept) n ps = ps
entries_with (Ranges is_kept) n ps = ps

abbrev pub right_side_with : Owner → Number → Option Number → Option Number
right_side_with (Column number) n o = o
right_side_with (RightSides is_kept) n o = Some n
right_side_with (Ranges is_kept) n o = o

abbrev pub range_with : Owner → Number → Option Number → Option Number
range_with (Column number) n o = o
range_with (RightSides is_kept) n o = o
range_with (Ranges is_kept) n o = Some n

-- a row gets one more number of an owner
pub record IsPut (owner : Owner) (n : Number) (old new : RowDraft) : Type 0 where
  pub kind : new.kind ≡ old.kind
  pub entries_are : new.entries.items ≡ entries_with owner n old.entries.items
  pub right_side : new.right_side ≡ right_side_with owner n old.right_side
  pub range : new.range ≡ range_with owner n old.range
  pub decimals : new.decimals ≡ max old.decimals (decimals_of n)

-- the number of a row by its name, and the number that a text is: the row is looked up first
abbrev pub IsRead : List (List ℕ) → ℕ → List ℕ → List ℕ → Result (ℕ × Number) MpsError → Type 0
IsRead names line row text (Ok p) = (position (bytes_eq row) names ≡ Some p.0) × (number_of text ≡ Some p.1)
IsRead names line row text (Err e) =
    first_of (when (not (is_among row names)) (Out.UnknownRow line) ++ when (not (is_number text)) (Out.Number line)) ≡ Some e

-- an entry is taken after the entries es: the rows have it too
abbrev pub IsEntryTaken : List Line → Owner → List Entry → RowTable → Entry → Result (Unit {0}) MpsError → Type 0
IsEntryTaken ls owner es new e result = IsDone (entry_faults (owner_word owner) ls es e) (λ _. RowsHave ls owner (es ++ e ∷ []) new) result

-- the faults of entries that come after the entries es
abbrev pub entry_faults_after : List Line → Owner → List Entry → List Entry → List MpsError
entry_faults_after ls owner es more = flat_map (λ p. entry_faults (owner_word owner) ls p.0 p.1) (after_those es more)

-- further entries are taken
abbrev pub AreEntriesTaken : List Line → Owner → List Entry → RowTable → List Entry → Result (Unit {0}) MpsError → Type 0
AreEntriesTaken ls owner es new more result = IsDone (entry_faults_after ls owner es more) (λ _. RowsHave ls owner (es ++ more) new) result

-- the set of a line of RHS or RANGES, and its fields for entries
pub record IsSetLine (fields : List (List ℕ)) (set : List ℕ) (entries : List (List ℕ)) : Type 0 where
  pub count : nat_le 2 (length fields) && nat_le (length fields) 5 ≡ true
  pub set_is : set ≡ set_of (record { number = 0; is_item = true; section = []; fields = fields })
  pub entries_are : entries ≡ (if length fields % 2 == 1 then drop 1 fields else fields)

-- the owner of the entries of a set, which is the kept one where it has the kept name or none is kept
abbrev pub set_owner : Section → Sets → List ℕ → Owner
set_owner Sections.Ranges s set = Ranges (bytes_eq (unwrap_or (option_map string_bytes s.ranges) set) set)
set_owner section s set = RightSides (bytes_eq (unwrap_or (option_map string_bytes s.right_sides) set) set)

-- the first set of a section is kept
abbrev pub IsSetKept : Section → List ℕ → Sets → Sets → Type 0
IsSetKept Sections.Ranges set old new =
    (new.right_sides ≡ old.right_sides)
    × (option_map string_bytes new.ranges ≡ Some (unwrap_or (option_map string_bytes old.ranges) set))
    × (new.bounds ≡ old.bounds)
IsSetKept section set old new =
    (option_map string_bytes new.right_sides ≡ Some (unwrap_or (option_map string_bytes old.right_sides) set))
    × (new.ranges ≡ old.ranges)
    × (new.bounds ≡ old.bounds)

-- the columns after a marker
abbrev pub IsMarked : ColumnTable → ColumnTable → List ℕ → Type 0
IsMarked old new word = new ≡ record old { in_integers = bytes_eq word (codes "'INTORG'"); «open» = None }

-- a column is begun
pub record IsColumnAdded (name : List ℕ) (old new : ColumnTable) : Type 0 where
  pub names : map string_bytes new.names.keys ≡ map string_bytes old.names.keys ++ name ∷ []
  pub columns : new.columns.items ≡ old.columns.items ++ record { is_integer = old.in_integers; lower = None; upper = None } ∷ []
  pub in_integers : new.in_integers ≡ old.in_integers
  pub open_is : new.open ≡ Some (length old.columns.items)

-- the columns stand after a line of the last column, by its number
pub record IsColumnOpen (before : List Line) (l : Line) (number : ℕ) (t : ColumnTable) : Type 0 where
  pub columns : ColumnsStand (before ++ l ∷ []) t
  pub bounds : BoundsStand (before ++ l ∷ []) t.columns.items
  pub last : IsLast (column_names (before ++ l ∷ [])) (column_name l) number
