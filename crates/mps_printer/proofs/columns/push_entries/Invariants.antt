use Rattle.std.proofs.Common.{◌≡◌, ◌++◌, take}
use Rattle.std.specs.Prelude.{flat_map, string_bytes}
use Rattle.mps_printer.specs.Internal.Entries.{entry_line}
use Rattle.mps_printer.specs.Internal.Sections.{lines_text}
use Rattle.mps_printer.proofs.columns.push_entries.Given as goal

abbrev pub invariant-loop-i : goal.invariant-loop-i
invariant-loop-i l =
    string_bytes l.text ≡ string_bytes l.initial.text ++ lines_text (flat_map (entry_line l.name l.rows) (take l.i-index l.entries))
