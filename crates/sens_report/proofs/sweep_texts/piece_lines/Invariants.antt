use Rattle.std.proofs.Common.{◌≡◌, take}
use Rattle.std.specs.Prelude.{flat_map, string_bytes}
use Rattle.sens_report.specs.SweepTexts.{piece_line}
use Rattle.sens_report.proofs.sweep_texts.piece_lines.Given as goal

abbrev pub invariant-loop-piece : goal.invariant-loop-piece
invariant-loop-piece l = string_bytes l.text ≡ flat_map (piece_line l.model) (take l.piece-index l.pieces)
