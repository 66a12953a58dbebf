-- What is wrong with an MPS text, in the order in which refusals are answered: line by line, each line judged from itself and the
-- lines before it; then the end of the text, the objective, the columns, and the limits of the model.
use Rattle.std.specs.Prelude.{◌≡◌, ℕ, ◌==◌, nat_lt, nat_le, Bool, false, ◌&&◌, ◌||◌, not, if◌then◌else◌, List, [], ◌∷◌, ◌++◌, length, map}
use Rattle.std.specs.Prelude.{flat_map, position, Option, None, Some, bytes_eq, codes, ℤ, neg_ℤ, Result, Ok, Err}
use Rattle.std.specs.List.{list_any, list_all}
use Rattle.std.specs.Option.{option_map_or, is_none}
use Rattle.std.specs.Str.{is_utf8}
use Rattle.std.specs.Int.Signed.{lt_z}
use Rattle.ip_defs.specs.Lists.{when, first_of}
use Rattle.mps_defs.specs.Lists.{last_of, after_those, with_earlier, is_among}
use Rattle.mps_defs.specs.Numbers.{is_number, decimals_of}
use Rattle.mps_defs.specs.Records.{Line, Entry, lines_of, field, items_of, words_of, row_kind, row_name, row_names, objective, is_marker}
use Rattle.mps_defs.specs.Records.{in_force, column_name, column_names, has_column, entries_of, all_entries, is_kept, takes_number}
use Rattle.mps_defs.specs.Records.{takes_none, bound_column, bound_text}
use Rattle.mps_defs.specs.TextModels.{is_negative_number, lower_side, upper_side, lower_entry, upper_entry, is_integer, kind_is}
use Rattle.mps_defs.specs.TextModels.{model_from}
use Rattle.mps_defs.specs.TextModels.{number_or_zero}
use Rattle.ip_defs.specs.Limits.{limits_of}
use Rattle.mps_defs.specs.declared.reading.How.{How}
use Rattle.ip_defs.specs.declared.programs.Parts.{Parts}
use Rattle.mps_defs.specs.declared.reading.Side.TheVariants.{Lower, Upper}
use Rattle.mps_defs.specs.declared.reading.MpsError.{MpsError}
use Rattle.mps_defs.specs.declared.reading.MpsError.TheVariants as Out
use Rattle.mps_defs.specs.declared.reading.MpsError.TheVariants.{NotUtf8, SectionOrder, UnknownSection, FieldCount, RowKind, TwiceRow}
use Rattle.mps_defs.specs.declared.reading.MpsError.TheVariants.{UnknownRow, SplitColumn, TwiceEntry, Number, Marker, BoundKind}
use Rattle.mps_defs.specs.declared.reading.MpsError.TheVariants.{UnknownColumn, Continuous, NoBound, NegativeUpper, Limit, NoObjective}
use Rattle.mps_defs.specs.declared.reading.MpsError.TheVariants.{NoEnd, Digits}

-- section lines

abbrev pub section_words : List (List ℕ)
section_words =
    codes "NAME" ∷ codes "ROWS" ∷ codes "COLUMNS" ∷ codes "RHS" ∷ codes "RANGES" ∷ codes "BOUNDS" ∷ codes "ENDATA" ∷ []

-- the place of a word in the order of sections
abbrev pub section_place : List ℕ → Option ℕ
section_place word = position (bytes_eq word) section_words

abbrev pub is_before : List ℕ → List ℕ → Bool
is_before word later = option_map_or (λ i. option_map_or (nat_lt i) (section_place later) false) (section_place word) false

-- a section may come after those before it: each is earlier in the order, and none that it needs is missing
abbrev pub may_come : List (List ℕ) → List ℕ → Bool
may_come words word =
    list_all (λ earlier. is_before earlier word) words
    && (not (is_before (codes "ROWS") word) || is_among (codes "ROWS") words)
    && (not (is_before (codes "COLUMNS") word) || is_among (codes "COLUMNS") words)

abbrev pub section_faults : List Line → Line → List MpsError
section_faults before l =
    when (is_none (section_place l.section)) (UnknownSection l.number)
    ++ when (not (may_come (words_of before) l.section)) (SectionOrder l.number)

-- data lines

abbrev pub row_faults : List Line → Line → List MpsError
row_faults before l =
    when (not (length l.fields == 2)) (FieldCount l.number)
    ++ when (not (is_among (row_kind l) (codes "N" ∷ codes "L" ∷ codes "G" ∷ codes "E" ∷ []))) (RowKind l.number)
    ++ when (is_among (row_name l) (row_names before)) (TwiceRow l.number)
    ++ when (bytes_eq (row_name l) (codes "'MARKER'")) (Marker l.number)

-- a marker's word begins what is not in force, or ends what is
abbrev pub is_right_marker : Bool → List ℕ → Bool
is_right_marker in_force word = (bytes_eq word (codes "'INTORG'") && not in_force) || (bytes_eq word (codes "'INTEND'") && in_force)

abbrev pub marker_faults : List Line → Line → List MpsError
marker_faults before l = when (not (is_right_marker (in_force before) (field l 2))) (Marker l.number)

-- the last data line of COLUMNS is one of this column
abbrev pub is_last_column : List Line → List ℕ → Bool
is_last_column ls name =
    option_map_or (λ k. not (is_marker k) && bytes_eq (column_name k) name) (last_of (items_of (codes "COLUMNS") ls)) false

-- the column came before, and another line of COLUMNS came since
abbrev pub is_split : List Line → Line → Bool
is_split before l = has_column before (column_name l) && not (is_last_column before (column_name l))

abbrev pub same_place : Entry → Entry → Bool
same_place e f = bytes_eq e.owner f.owner && bytes_eq e.row f.row

-- an entry among the lines ls, after the entries before it
abbrev pub entry_faults : List ℕ → List Line → List Entry → Entry → List MpsError
entry_faults word ls before e =
    when (not (is_among e.row (row_names ls))) (UnknownRow e.line)
    ++ when (not (is_number e.text)) (Number e.line)
    ++ when (is_kept word ls e && nat_lt 9 (decimals_of (number_or_zero e.text))) (Digits e.line)
    ++ when (is_kept word ls e && list_any (same_place e) before) (TwiceEntry e.line)

-- the entries of a line, one by one
abbrev pub pair_faults : List Line → Line → List MpsError
pair_faults before l =
    flat_map (λ p. entry_faults l.section (before ++ l ∷ []) (all_entries l.section before ++ p.0) p.1) (with_earlier (entries_of l))

abbrev pub column_faults : List Line → Line → List MpsError
column_faults before l =
    when (not (length l.fields == 3 || (length l.fields == 5 && not (is_marker l)))) (FieldCount l.number)
    ++ (if is_marker l then marker_faults before l else when (is_split before l) (SplitColumn l.number) ++ pair_faults before l)

abbrev pub set_faults : List Line → Line → List MpsError
set_faults before l = when (not (nat_le 2 (length l.fields) && nat_le (length l.fields) 5)) (FieldCount l.number) ++ pair_faults before l

abbrev pub bound_faults : List Line → Line → List MpsError
bound_faults before l =
    when (not (takes_number l || takes_none l)) (BoundKind l.number)
    ++ when (not (nat_le (if takes_number l then 3 else 2) (length l.fields) && nat_le (length l.fields) 4)) (FieldCount l.number)
    ++ when (not (has_column before (bound_column l))) (UnknownColumn l.number)
    ++ when (takes_number l && not (is_number (bound_text l))) (Number l.number)

abbrev pub item_faults : List Line → Line → List MpsError
item_faults before l =
    when (not (is_among (codes "ROWS") (words_of before))) (SectionOrder l.number)
    ++ (if bytes_eq l.section (codes "ROWS") then row_faults before l
    else (if bytes_eq l.section (codes "COLUMNS") then column_faults before l
    else (if bytes_eq l.section (codes "BOUNDS") then bound_faults before l
    else set_faults before l)))

-- what is wrong with a line, after the lines before it, in order
abbrev pub line_faults : List Line → Line → List MpsError
line_faults before l = if l.is_item then item_faults before l else section_faults before l

-- what is wrong with lines that come after others, line by line
abbrev pub faults_after : List Line → List Line → List MpsError
faults_after before ls = flat_map (λ p. line_faults p.0 p.1) (after_those before ls)

-- what is wrong with all lines
abbrev pub all_line_faults : List Line → List MpsError
all_line_faults ls = faults_after [] ls

-- columns

abbrev pub continuous_faults : List Line → List ℕ → List MpsError
continuous_faults ls name = when (not (is_integer ls name)) (Continuous name)

-- the side is absent, and the box side is absent too or lies beyond the other side, which is present
abbrev pub lower_is_missing : Option ℤ → Option ℤ → Option ℤ → Bool
lower_is_missing box_side lower upper =
    is_none lower
    && (is_none box_side || option_map_or (λ b. option_map_or (λ u. lt_z u (neg_ℤ b)) upper false) box_side false)

abbrev pub upper_is_missing : Option ℤ → Option ℤ → Option ℤ → Bool
upper_is_missing box_side lower upper =
    is_none upper
    && (is_none box_side || option_map_or (λ b. option_map_or (λ l. lt_z b l) lower false) box_side false)

abbrev pub bound_missing : List Line → How → List ℕ → List MpsError
bound_missing ls how name =
    when (lower_is_missing how.box_side (lower_side ls name) (upper_side ls name)) (NoBound name Lower)
    ++ when (upper_is_missing how.box_side (lower_side ls name) (upper_side ls name)) (NoBound name Upper)

-- the entry is UP or UI with a negative number
abbrev pub is_negative_upper : Line → Bool
is_negative_upper l = kind_is (codes "UP" ∷ codes "UI" ∷ []) l && is_negative_number (number_or_zero (bound_text l))

-- the last upper entry is such a one, and no entry is for the lower side
abbrev pub upper_faults : List Line → List ℕ → List MpsError
upper_faults ls name =
    when (is_none (lower_entry ls name) && option_map_or is_negative_upper (upper_entry ls name) false) (NegativeUpper name)

abbrev pub is_ended : List Line → Bool
is_ended ls = is_among (codes "ENDATA") (words_of ls)

abbrev pub limit_faults : Parts → List MpsError
limit_faults m = map Limit (limits_of m)

-- all that is wrong with the lines, in order
abbrev pub faults_of_lines : List Line → How → List MpsError
faults_of_lines ls how =
    all_line_faults ls
    ++ when (not (is_ended ls)) NoEnd
    ++ when (is_none (objective ls)) NoObjective
    ++ flat_map (continuous_faults ls) (column_names ls)
    ++ flat_map (bound_missing ls how) (column_names ls)
    ++ flat_map (upper_faults ls) (column_names ls)
    ++ limit_faults (model_from ls how)

-- the fault of a text: its first refusal, or none. A byte that is no UTF-8 is one wherever it stands
abbrev pub mps_fault : List ℕ → How → Option MpsError
mps_fault text how = if is_utf8 text then first_of (faults_of_lines (lines_of text) how) else Some NotUtf8

-- the model of a text, where it has no fault
abbrev pub model_of : List ℕ → How → Parts
model_of text how = model_from (lines_of text) how

-- an error is the first fault; being out of memory is free
abbrev pub IsFirst : Option MpsError → MpsError → Type 0
IsFirst o Out.Memory = Unit {0}
IsFirst o e = o ≡ Some e

-- what reading a text owes: the model of the text, or its first refusal; being out of memory is free
abbrev pub ReadMeets : List ℕ → How → Result Parts MpsError → Type 0
ReadMeets text how (Ok m) = (mps_fault text how ≡ None) × (m ≡ model_of text how)
ReadMeets text how (Err e) = IsFirst (mps_fault text how) e
