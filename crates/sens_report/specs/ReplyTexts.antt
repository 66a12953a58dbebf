-- The printed text of the replies to questions: a line for each, numbered from 1.
use Rattle.std.specs.Prelude.{ℕ, List, ◌++◌, codes, decimal, flat_map, Option, Some, None, ℤ}
use Rattle.std.specs.List.{enumerate_from}
use Rattle.mps_defs.specs.CanonicalText.{newline}
use Rattle.mps_defs.specs.Numbers.{decimal_text}
use Rattle.sens_report.specs.AmountTexts.{bound_text}
use Rattle.sens_report.specs.declared.replies.Reply.{Reply}
use Rattle.sens_report.specs.declared.replies.Reply.TheVariants.{Bound, Range}

-- a range from its least change to its greatest, or that there is none
abbrev pub range_text : Option (ℤ × ℤ) → ℕ → List ℕ
range_text (Some run) decimals = decimal_text run.0 decimals ++ codes " " ++ decimal_text run.1 decimals
range_text None decimals = codes "none"

-- what follows the number of a question
abbrev pub reply_text : Reply → List ℕ
reply_text (Bound bound decimals) = codes " bound " ++ bound_text bound decimals
reply_text (Range run decimals) = codes " range " ++ range_text run decimals

-- the line of a question by its number
abbrev pub reply_line : ℕ × Reply → List ℕ
reply_line p = decimal p.0 ++ reply_text p.1 ++ newline

abbrev pub reply_lines : List Reply → List ℕ
reply_lines replies = flat_map reply_line (enumerate_from 1 replies)
