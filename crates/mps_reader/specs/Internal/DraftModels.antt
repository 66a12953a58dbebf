-- What a draft of all lines is answered by: its model, or the first fault.
use Rattle.std.specs.Prelude.{◌≡◌, ℕ, List, [], ◌++◌, length, None, Some, Result, Ok, Err}
use Rattle.ip_defs.specs.Lists.{first_of}
use Rattle.ip_defs.specs.Limits.{limits_of}
use Rattle.mps_defs.specs.Faults.{limit_faults, faults_of_lines}
use Rattle.mps_defs.specs.Records.{Line}
use Rattle.mps_defs.specs.TextModels.{model_from}
use Rattle.ip_defs.specs.declared.programs.Parts.{Parts}
use Rattle.mps_defs.specs.declared.reading.How.{How}
use Rattle.mps_defs.specs.declared.reading.MpsError.{MpsError}
use Rattle.mps_reader.specs.declared.draft.RowDraft.{RowDraft}
use Rattle.mps_reader.specs.declared.draft.Draft.{Draft}
use Rattle.mps_defs.specs.Faults.{IsFirst}
use Rattle.mps_reader.specs.Internal.Drafted.{drafted_column_faults, drafted_model}

-- there are as many names as rows, and as many as columns
pub record HasCounts (d : Draft) : Type 0 where
  pub rows : length d.rows.names.keys ≡ length d.rows.rows.items
  pub columns : length d.columns.names.keys ≡ length d.columns.columns.items

-- the model of parts, or the first limit that they exceed
abbrev pub IsMade : Parts → Result Parts MpsError → Type 0
IsMade parts (Ok m) = (limits_of parts ≡ []) × (m ≡ parts)
IsMade parts (Err e) = first_of (limit_faults parts) ≡ Some e

-- the same of a program whose numbers may be too large for 64 bits; being out of memory is free
abbrev pub IsLimited : Parts → Result Parts MpsError → Type 0
IsLimited m (Ok made) = (limits_of m ≡ []) × (made ≡ m)
IsLimited m (Err e) = IsFirst (first_of (limit_faults m)) e

-- the model of a draft with an objective, or the first fault of its columns and limits
abbrev pub IsDrafted : Draft → How → List ℕ → RowDraft → Result Parts MpsError → Type 0
IsDrafted d how name r (Ok m) =
    (first_of (drafted_column_faults d how ++ limit_faults (drafted_model d how name r)) ≡ None) × (m ≡ drafted_model d how name r)
IsDrafted d how name r (Err e) = IsFirst (first_of (drafted_column_faults d how ++ limit_faults (drafted_model d how name r))) e

-- the model of lines, or their first fault
abbrev pub IsFinished : List Line → How → Result Parts MpsError → Type 0
IsFinished ls how (Ok m) = (first_of (faults_of_lines ls how) ≡ None) × (m ≡ model_from ls how)
IsFinished ls how (Err e) = IsFirst (first_of (faults_of_lines ls how)) e
