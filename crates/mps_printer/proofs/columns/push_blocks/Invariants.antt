use Rattle.std.proofs.Common.{◌≡◌, ◌++◌, take}
use Rattle.std.specs.Prelude.{flat_map, string_bytes}
use Rattle.std.specs.List.{enumerate_from}
use Rattle.mps_defs.specs.CanonicalText.{column_block}
use Rattle.mps_printer.specs.Internal.Sections.{lines_text}
use Rattle.mps_printer.proofs.columns.push_blocks.Given as goal

abbrev pub invariant-loop-j : goal.invariant-loop-j
invariant-loop-j l =
    string_bytes l.text ≡ string_bytes l.initial.text ++ lines_text
    (flat_map (column_block l.parts) (take l.j (enumerate_from 0 l.parts.columns)))
