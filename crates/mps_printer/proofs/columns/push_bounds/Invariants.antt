use Rattle.std.proofs.Common.{◌≡◌, ◌++◌, take}
use Rattle.std.specs.Prelude.{flat_map, string_bytes}
use Rattle.mps_printer.specs.Internal.Sections.{bound_lines, lines_text}
use Rattle.mps_printer.proofs.columns.push_bounds.Given as goal

abbrev pub invariant-loop-column : goal.invariant-loop-column
invariant-loop-column l =
    string_bytes l.text ≡ string_bytes l.initial.text ++ lines_text (flat_map bound_lines (take l.column-index l.columns))
