use Rattle.std.proofs.Common.{◌≡◌, ◌++◌, take}
use Rattle.std.specs.Prelude.{[], ◌∷◌, flat_map, string_bytes}
use Rattle.mps_printer.specs.Internal.Sections.{kind_line, lines_text}
use Rattle.mps_printer.proofs.rows.push_kinds.Given as goal

abbrev pub invariant-loop-row : goal.invariant-loop-row
invariant-loop-row l =
    string_bytes l.text ≡ string_bytes l.initial.text ++ lines_text (flat_map (λ r. kind_line r ∷ []) (take l.row-index l.rows))
