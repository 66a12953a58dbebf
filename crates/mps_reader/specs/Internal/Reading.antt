-- What going through the lines of a text answers.
use Rattle.std.specs.Prelude.{◌≡◌, ℕ, Bool, ◌&&◌, List, [], ◌++◌, map, unwrap_or, Result, Ok, Err}
use Rattle.mps_defs.specs.Lists.{with_earlier, last_of}
use Rattle.ip_defs.specs.Lists.{when}
use Rattle.mps_defs.specs.Records.{Line, line_of, is_end_line, is_read}
use Rattle.mps_defs.specs.Faults.{all_line_faults}
use Rattle.mps_defs.specs.declared.reading.MpsError.{MpsError}
use Rattle.mps_reader.specs.declared.draft.Draft.{Draft}
use Rattle.mps_reader.specs.Internal.Progress.{Stands, IsFirstFault}

-- what numbered lines say
abbrev pub lines_by : List (ℕ × List ℕ) → List Line
lines_by ps = map line_of (with_earlier ps)

-- the word of the last section, none before the first
abbrev pub last_section : List (List ℕ) → List ℕ
last_section words = unwrap_or (last_of words) []

-- a draft has what lines without a fault say, or their first fault is the answer; being out of memory is free
abbrev pub IsDraftOf : List Line → Result Draft MpsError → Type 0
IsDraftOf ls (Ok d) = Stands ls d
IsDraftOf ls (Err e) = IsFirstFault (all_line_faults ls) e

-- what taking a numbered line answers, after those read before it: whether it is the ENDATA line, and its draft or the first fault
abbrev pub IsLineTaken : List (ℕ × List ℕ) → ℕ × List ℕ → Draft → Result Bool MpsError → Type 0
IsLineTaken ps p new (Ok ended) = (ended ≡ (is_read p && is_end_line p)) × Stands (lines_by (ps ++ when (is_read p) p)) new
IsLineTaken ps p new (Err e) = IsFirstFault (all_line_faults (lines_by (ps ++ when (is_read p) p))) e
