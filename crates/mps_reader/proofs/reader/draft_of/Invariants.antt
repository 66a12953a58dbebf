use Rattle.std.specs.Prelude.{◌≡◌, false, map, take}
use Rattle.std.specs.List.{list_any}
use Rattle.mps_defs.specs.Records.{is_end_line}
use Rattle.mps_reader.specs.Internal.Progress.{Stands}
use Rattle.mps_reader.specs.Internal.Reading.{lines_by}
use Rattle.mps_reader.proofs.TextLaws.{read_from}
use Rattle.mps_reader.proofs.reader.draft_of.Given as goal

abbrev pub invariant-loop-line : goal.invariant-loop-line
invariant-loop-line l =
    (number : l.number ≡ l.line-index)
    × (going : list_any is_end_line (read_from 1 (take l.line-index (map (λ x. x.now) l.line-items))) ≡ false)
    × Stands (lines_by (read_from 1 (take l.line-index (map (λ x. x.now) l.line-items)))) l.draft
