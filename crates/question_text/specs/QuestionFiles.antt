-- Question files: a `bound` question is the edits between `bound` and `end`, a `range` question is one line.
use Rattle.std.specs.Prelude.{ℕ, ◌<◌, ◌^◌, ◌==◌, Bool, ◌||◌, if◌then◌else◌, List, [], ◌∷◌, ◌++◌, length, drop, filter, flat_map}
use Rattle.std.specs.Prelude.{Option, None, Some, option_and_then, bytes_eq, codes, Result, Ok, Err}
use Rattle.std.specs.List.{before_first}
use Rattle.std.specs.Option.{is_some}
use Rattle.std.specs.Str.{is_utf8}
use Rattle.ip_defs.specs.Lists.{Each, when}
use Rattle.mps_defs.specs.Lists.{where_true, last_of, after_those}
use Rattle.mps_defs.specs.declared.reading.Number.{Number}
use Rattle.decimals.specs.Decimals.{IsBelowLarge}
use Rattle.perturbation.specs.Edits.{AreBelowLarge}
use Rattle.perturbation.specs.declared.edits.Datum.{Datum}
use Rattle.perturbation.specs.declared.edits.Change.{Change}
use Rattle.perturbation.specs.declared.edits.Change.TheVariants.{Set, Add}
use Rattle.perturbation.specs.declared.edits.Edit.{Edit}
use Rattle.question_text.specs.Lines.{Line, lines_of, line_after, is_word, begins, is_end, datum_in, after_datum}
use Rattle.question_text.specs.Lines.{made_of, with_number, faults_in, read_in, due}
use Rattle.question_text.specs.declared.errors.TextError.{TextError}
use Rattle.question_text.specs.declared.errors.TextError.TheVariants as Refused
use Rattle.question_text.specs.declared.questions.AimText.{AimText}
use Rattle.question_text.specs.declared.questions.AimText.TheVariants.{Best, Keep}
use Rattle.question_text.specs.declared.questions.Question.{Question}
use Rattle.question_text.specs.declared.questions.Question.TheVariants.{Ask, Range}

-- ---- one line

-- what becomes of a number: `set` or `add`, and a number
abbrev pub is_change : List ℕ → Bool
is_change word = bytes_eq word (codes "set") || bytes_eq word (codes "add")

abbrev pub change_by : List ℕ → Number → Change
change_by word number = if bytes_eq word (codes "set") then Set number else Add number

abbrev pub change_in : ℕ → List (List ℕ) → Result Change TextError
change_in n (word ∷ text ∷ []) = if is_change word then with_number n (change_by word) text else Err (Refused.Word n)
change_in n ws = Err (Refused.Word n)

-- an edit line: a datum and what becomes of it
abbrev pub edit_by : ℕ → Option Datum → Result Change TextError → Result Edit TextError
edit_by n None r = Err (Refused.Word n)
edit_by n (Some datum) r = made_of (λ c. record { datum = datum; change = c }) r

abbrev pub edit_in : ℕ → List (List ℕ) → Result Edit TextError
edit_in n ws = edit_by n (datum_in ws) (change_in n (after_datum ws))

-- what a range is to keep: `best`, or `keep` and a number
abbrev pub aim_in : ℕ → List (List ℕ) → Result AimText TextError
aim_in n (word ∷ []) = if bytes_eq word (codes "best") then Ok Best else Err (Refused.Word n)
aim_in n (word ∷ text ∷ []) = if bytes_eq word (codes "keep") then with_number n Keep text else Err (Refused.Word n)
aim_in n ws = Err (Refused.Word n)

-- a `range` line: `range`, a datum, and an aim
abbrev pub range_by : ℕ → Option Datum → Result AimText TextError → Result Question TextError
range_by n None r = Err (Refused.Word n)
range_by n (Some datum) r = made_of (Range datum) r

abbrev pub range_in : ℕ → List (List ℕ) → Result Question TextError
range_in n ws =
    if begins (codes "range") ws then range_by n (datum_in (drop 1 ws)) (aim_in n (after_datum (drop 1 ws))) else Err (Refused.Word n)

abbrev pub is_bound : Line → Bool
is_bound l = is_word (codes "bound") l.words

-- ---- the faults

-- the number of the `bound` line of the question in which lines end
abbrev pub open_line : List Line → Option ℕ
open_line ls = option_and_then (λ l. where_true (is_bound l) l.number) (last_of (filter (λ l. is_bound l || is_end l) ls))

-- what is wrong with a line inside a `bound` question, and outside
abbrev pub inside_faults : Line → List TextError
inside_faults l = if is_end l then [] else faults_in (edit_in l.number l.words)

abbrev pub outside_faults : Line → List TextError
outside_faults l = if is_bound l then [] else faults_in (range_in l.number l.words)

-- what is wrong with a line, after those before it
abbrev pub line_faults : List Line → Line → List TextError
line_faults before l = if is_some (open_line before) then inside_faults l else outside_faults l

-- a question that is not ended
abbrev pub unended : Option ℕ → List TextError
unended None = []
unended (Some n) = Refused.Unended n ∷ []

-- ---- the questions

-- the edits that lines write
abbrev pub edits_in : List Line → List Edit
edits_in ls = flat_map (λ l. read_in (edit_in l.number l.words)) ls

-- the question that a line begins, with the lines after it
abbrev pub begun : Line → List Line → List Question
begun l ls = if is_bound l then Ask (edits_in (before_first is_end ls)) ∷ [] else read_in (range_in l.number l.words)

-- the questions that lines write
abbrev pub questions_in : List Line → List Question
questions_in [] = []
questions_in (l ∷ ls) = begun l ls ++ questions_in ls

-- ---- the whole text

-- what is wrong with a text: each line that is read, in order, then that there is no question, then that one is not ended
abbrev pub question_faults : List ℕ → List TextError
question_faults text =
    flat_map (λ p. line_faults p.0 p.1) (after_those [] (lines_of text))
    ++ when (length (questions_in (lines_of text)) == 0) (Refused.Word (line_after text))
    ++ unended (open_line (lines_of text))

-- the questions of a text, or its first fault
abbrev pub questions_of : List ℕ → Result (List Question) TextError
questions_of text = if is_utf8 text then due (question_faults text) (questions_in (lines_of text)) else Err (Refused.Word 0)

-- a question can be tried: its edits can be applied, and its number is one that is read
abbrev pub IsKeptBelow : AimText → Type 0
IsKeptBelow Best = Unit {0}
IsKeptBelow (Keep number) = IsBelowLarge number

abbrev pub IsAskable : Question → Type 0
IsAskable (Ask edits) = (length edits < 2 ^ 32) × AreBelowLarge edits
IsAskable (Range datum aim) = IsKeptBelow aim

abbrev pub AreAskable : List Question → Type 0
AreAskable questions = Each IsAskable questions
