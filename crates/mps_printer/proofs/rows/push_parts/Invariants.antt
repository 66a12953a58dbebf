use Rattle.std.proofs.Common.{◌≡◌, ◌++◌, take}
use Rattle.std.specs.Prelude.{flat_map, string_bytes}
use Rattle.mps_printer.specs.Internal.Sections.{lines_text, part_lines}
use Rattle.mps_printer.proofs.rows.push_parts.Given as goal

abbrev pub invariant-loop-row : goal.invariant-loop-row
invariant-loop-row l = string_bytes l.text
    ≡ string_bytes l.initial.text ++ lines_text (flat_map (part_lines l.part) (take l.row-index l.rows))
