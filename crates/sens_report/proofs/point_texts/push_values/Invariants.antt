use Rattle.std.proofs.Common.{◌≡◌, ◌++◌, take}
use Rattle.std.specs.Prelude.{flat_map, string_bytes, zip}
use Rattle.sens_report.specs.AnswerTexts.{value_line}
use Rattle.sens_report.proofs.point_texts.push_values.Given as goal

abbrev pub invariant-loop-j : goal.invariant-loop-j
invariant-loop-j l = string_bytes l.text ≡ string_bytes l.initial.text ++ flat_map value_line (take l.j (zip l.columns l.point))
