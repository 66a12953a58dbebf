use Rattle.std.proofs.Common.{◌≡◌, take}
use Rattle.std.specs.Prelude.{flat_map, string_bytes}
use Rattle.std.specs.List.{enumerate_from}
use Rattle.sens_report.specs.ReplyTexts.{reply_line}
use Rattle.sens_report.proofs.replies.all_lines.Given as goal

abbrev pub invariant-loop-j : goal.invariant-loop-j
invariant-loop-j l = string_bytes l.text ≡ flat_map reply_line (take l.j (enumerate_from 1 l.replies))
