-- The model that a draft says, and what is wrong with the whole of it.
use Rattle.std.specs.Prelude.{◌≡◌, Result, Ok, Err, ℕ, suc, ◌==◌, max, Bool, false, not, ◌&&◌, if◌then◌else◌, List, [], ◌∷◌, ◌++◌}
use Rattle.std.specs.Prelude.{map, filter, string_bytes, bytes_eq, codes, Option, None, Some, option_and_then, unwrap_or, ℤ, pos, neg_ℤ}
use Rattle.std.specs.Int.RustNames.{unsigned_abs}
use Rattle.std.specs.Option.{is_none}
use Rattle.ip_defs.specs.Lists.{when, first_of}
use Rattle.mps_defs.specs.Lists.{is_among}
use Rattle.mps_reader.specs.declared.column_rules.Rule.{Rule}
use Rattle.mps_reader.specs.declared.column_rules.Rule.TheVariants.{Integer, Bounded, NotNegative}
use Rattle.mps_defs.specs.Faults.{IsFirst, lower_is_missing, upper_is_missing}
use Rattle.mps_defs.specs.TextModels.{units, no_number, row_sides, box_low, box_high}
use Rattle.mps_defs.specs.declared.reading.Number.{Number}
use Rattle.mps_defs.specs.declared.reading.How.{How}
use Rattle.mps_defs.specs.declared.reading.Side.TheVariants.{Lower, Upper}
use Rattle.mps_defs.specs.declared.reading.MpsError.{MpsError}
use Rattle.mps_defs.specs.declared.reading.MpsError.TheVariants.{Continuous, NoBound, NegativeUpper}
use Rattle.ip_defs.specs.declared.programs.Column.{Column}
use Rattle.ip_defs.specs.declared.programs.Row.{Row}
use Rattle.ip_defs.specs.declared.programs.Parts.{Parts}
use Rattle.mps_reader.specs.declared.sections.Section.{Section}
use Rattle.mps_reader.specs.declared.draft.RowKind.{RowKind}
use Rattle.mps_reader.specs.declared.draft.RowDraft.{RowDraft}
use Rattle.mps_reader.specs.declared.draft.UpperBound.{UpperBound}
use Rattle.mps_reader.specs.declared.draft.ColumnDraft.{ColumnDraft}
use Rattle.mps_reader.specs.declared.draft.Draft.{Draft}
use Rattle.mps_reader.specs.Internal.Progress.{kind_word, section_word}

-- ---- rows

abbrev pub is_free_kind : RowKind → Bool
is_free_kind kind = bytes_eq (kind_word kind) (codes "N")

-- the decimals of a row
abbrev pub drafted_decimals : How → RowDraft → ℕ
drafted_decimals how r = max how.digits r.decimals

-- the entries that are not 0, in units
abbrev pub drafted_coefs : ℕ → List (ℕ × Number) → List (ℕ × ℤ)
drafted_coefs k entries = filter (λ p. not (unsigned_abs p.1 == 0)) (map (λ p. (p.0, units k p.1)) entries)

abbrev pub drafted_sides : How → RowDraft → Option ℤ × Option ℤ
drafted_sides how r = row_sides (kind_word r.kind) (drafted_decimals how r) (unwrap_or r.right_side no_number) r.range

abbrev pub drafted_row : How → List ℕ → RowDraft → Row
drafted_row how name r = record {
  name = name;
  decimals = drafted_decimals how r;
  coefs = drafted_coefs (drafted_decimals how r) r.entries.items;
  low = (drafted_sides how r).0;
  high = (drafted_sides how r).1;
}

-- the rows that are not free, each with its name
abbrev pub drafted_rows : How → List (List ℕ) → List RowDraft → List Row
drafted_rows how [] rs = []
drafted_rows how (name ∷ names) [] = []
drafted_rows how (name ∷ names) (r ∷ rs) = when (not (is_free_kind r.kind)) (drafted_row how name r) ++ drafted_rows how names rs

-- ---- columns

-- the cost of column j where costs by column number begin there, and the costs after it
abbrev pub cost_head : ℕ → List (ℕ × Number) → Option Number
cost_head j [] = None
cost_head j (p ∷ ps) = if p.0 == j then Some p.1 else None

abbrev pub cost_rest : ℕ → List (ℕ × Number) → List (ℕ × Number)
cost_rest j [] = []
cost_rest j (p ∷ ps) = if p.0 == j then ps else p ∷ ps

abbrev pub drafted_lower : ColumnDraft → Option ℤ
drafted_lower c = unwrap_or c.lower (Some (pos 0))

abbrev pub drafted_upper : ColumnDraft → Option ℤ
drafted_upper c = option_and_then (λ u. u.side) c.upper

abbrev pub drafted_column : How → ℕ → List ℕ → Option Number → ColumnDraft → Column
drafted_column how k name cost c = record {
  name = name;
  cost = units k (unwrap_or cost no_number);
  lo = unwrap_or (drafted_lower c) (box_low how);
  hi = unwrap_or (drafted_upper c) (box_high how);
}

-- the columns from number j on, each with its name and the cost that is written for it
abbrev pub drafted_columns : How → ℕ → ℕ → List (ℕ × Number) → List (List ℕ) → List ColumnDraft → List Column
drafted_columns how k j costs [] cs = []
drafted_columns how k j costs (name ∷ names) [] = []
drafted_columns how k j costs (name ∷ names) (c ∷ cs) =
    drafted_column how k name (cost_head j costs) c ∷ drafted_columns how k (suc j) (cost_rest j costs) names cs

-- ---- the whole

abbrev pub drafted_row_names : Draft → List (List ℕ)
drafted_row_names d = map string_bytes d.rows.names.keys

abbrev pub drafted_column_names : Draft → List (List ℕ)
drafted_column_names d = map string_bytes d.columns.names.keys

-- the model of a draft with this objective
abbrev pub drafted_model : Draft → How → List ℕ → RowDraft → Parts
drafted_model d how name r =
    let k = drafted_decimals how r in
    record {
      objective = name;
      cost_decimals = k;
      constant = neg_ℤ (units k (unwrap_or r.right_side no_number));
      columns = drafted_columns how k 0 r.entries.items (drafted_column_names d) d.columns.columns.items;
      rows = drafted_rows how (drafted_row_names d) d.rows.rows.items;
    }

-- ---- what is wrong with the whole

-- the faults of columns with their names, in order
abbrev pub column_faults : (List ℕ → ColumnDraft → List MpsError) → List (List ℕ) → List ColumnDraft → List MpsError
column_faults f [] cs = []
column_faults f (name ∷ names) [] = []
column_faults f (name ∷ names) (c ∷ cs) = f name c ++ column_faults f names cs

abbrev pub continuous_fault : List ℕ → ColumnDraft → List MpsError
continuous_fault name c = when (not c.is_integer) (Continuous name)

abbrev pub missing_sides : How → List ℕ → ColumnDraft → List MpsError
missing_sides how name c =
    when (lower_is_missing how.box_side (drafted_lower c) (drafted_upper c)) (NoBound name Lower)
    ++ when (upper_is_missing how.box_side (drafted_lower c) (drafted_upper c)) (NoBound name Upper)

-- the last bound for the upper side is negative
abbrev pub is_negative_bound : Option UpperBound → Bool
is_negative_bound None = false
is_negative_bound (Some u) = u.is_negative

abbrev pub negative_fault : List ℕ → ColumnDraft → List MpsError
negative_fault name c = when (is_none c.lower && is_negative_bound c.upper) (NegativeUpper name)

-- ENDATA is among the sections
abbrev pub has_end : List Section → Bool
has_end sections = is_among (codes "ENDATA") (map section_word sections)

-- what is wrong with the columns, in order
abbrev pub drafted_column_faults : Draft → How → List MpsError
drafted_column_faults d how =
    column_faults continuous_fault (drafted_column_names d) d.columns.columns.items
    ++ column_faults (missing_sides how) (drafted_column_names d) d.columns.columns.items
    ++ column_faults negative_fault (drafted_column_names d) d.columns.columns.items

-- what is asked of each column in turn
abbrev pub asked : Rule → How → List ℕ → ColumnDraft → List MpsError
asked Integer how name c = continuous_fault name c
asked Bounded how name c = missing_sides how name c
asked NotNegative how name c = negative_fault name c

-- an answer to faults: the first of them, and none where there is none
abbrev pub AnswersFaults : List MpsError → Result (Unit {0}) MpsError → Type 0
AnswersFaults faults (Ok done) = first_of faults ≡ None
AnswersFaults faults (Err e) = IsFirst (first_of faults) e
