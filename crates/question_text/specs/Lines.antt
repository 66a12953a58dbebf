-- The lines of question and sweep files, the data that words name, and what reading a text owes.
use Rattle.std.specs.Prelude.{◌≡◌, ℕ, ◌+◌, ◌-◌, ◌==◌, Bool, false, not, if◌then◌else◌, List, [], ◌∷◌, length, drop, filter_map}
use Rattle.std.specs.Prelude.{Option, None, Some, option_map, slice_index_or, bytes_eq, codes, Result, Ok, Err}
use Rattle.std.specs.List.{slice_split, enumerate_from}
use Rattle.std.specs.Option.{option_map_or}
use Rattle.ip_defs.specs.Lists.{first_of}
use Rattle.mps_defs.specs.Lists.{where_true}
use Rattle.mps_defs.specs.Numbers.{number_of}
use Rattle.mps_defs.specs.Records.{begins_with, is_star, is_line_end, fields_of, without_return}
use Rattle.mps_defs.specs.declared.reading.Number.{Number}
use Rattle.perturbation.specs.declared.edits.Datum.{Datum}
use Rattle.perturbation.specs.declared.edits.Datum.TheVariants.{Cost, Low, High, Coef, Lower, Upper}
use Rattle.question_text.specs.declared.errors.TextError.{TextError}
use Rattle.question_text.specs.declared.errors.TextError.TheVariants as Refused

-- ---- lines

-- a line: its number, from 1, and its words
pub record Line : Type 0 where
  pub number : ℕ
  pub words : List (List ℕ)

-- the words of a line, where it has any and the first one does not begin a comment
abbrev pub are_read : List (List ℕ) → Bool
are_read ws = option_map_or (λ w. not (begins_with is_star w)) (first_of ws) false

abbrev pub read_words : List ℕ → Option (List (List ℕ))
read_words text = where_true (are_read (fields_of (without_return text))) (fields_of (without_return text))

abbrev pub line_of : ℕ → List (List ℕ) → Line
line_of n ws = record { number = n; words = ws }

-- the lines that are read among lines of a text, the first of which has the number n
abbrev pub line_in : ℕ × List ℕ → Option Line
line_in p = option_map (line_of p.0) (read_words p.1)

abbrev pub lines_from : ℕ → List (List ℕ) → List Line
lines_from n texts = filter_map line_in (enumerate_from n texts)

-- the lines of a text that are read
abbrev pub lines_of : List ℕ → List Line
lines_of text = lines_from 1 (slice_split is_line_end text)

-- the number of the line after the last one; what follows a final line end is no line where it is empty
abbrev pub line_after : List ℕ → ℕ
line_after text = length (slice_split is_line_end text) + (if slice_index_or text (length text - 1) 10 == 10 then 0 else 1)

-- a line is one word
abbrev pub is_word : List ℕ → List (List ℕ) → Bool
is_word word (w ∷ []) = bytes_eq w word
is_word word ws = false

-- a line begins with a word
abbrev pub begins : List ℕ → List (List ℕ) → Bool
begins word [] = false
begins word (w ∷ ws) = bytes_eq w word

abbrev pub is_end : Line → Bool
is_end l = is_word (codes "end") l.words

-- ---- data

-- the datum of a word and one name
abbrev pub named_datum : List ℕ → List ℕ → Option Datum
named_datum word name =
    if bytes_eq word (codes "cost") then Some (Cost name)
    else (if bytes_eq word (codes "low") then Some (Low name)
    else (if bytes_eq word (codes "high") then Some (High name)
    else (if bytes_eq word (codes "lower") then Some (Lower name)
    else (if bytes_eq word (codes "upper") then Some (Upper name) else None))))

-- the datum that words begin with
abbrev pub datum_in : List (List ℕ) → Option Datum
datum_in [] = None
datum_in (word ∷ []) = None
datum_in (word ∷ name ∷ []) = named_datum word name
datum_in (word ∷ name ∷ column ∷ rest) = if bytes_eq word (codes "coef") then Some (Coef name column) else named_datum word name

-- the words after it
abbrev pub after_datum : List (List ℕ) → List (List ℕ)
after_datum ws = drop (if begins (codes "coef") ws then 3 else 2) ws

-- ---- answers

-- what a number makes of the text that must be one, in line n
abbrev pub with_number : {A : Type 0} → ℕ → (Number → A) → List ℕ → Result A TextError
with_number n f text = option_map_or (λ x. Ok (f x)) (number_of text) (Err (Refused.Number n))

-- what a part is made into
abbrev pub made_of : {A B : Type 0} → (A → B) → Result A TextError → Result B TextError
made_of f (Ok x) = Ok (f x)
made_of f (Err e) = Err e

-- what is wrong with a part of a text, and what the part is
abbrev pub faults_in : {A : Type 0} → Result A TextError → List TextError
faults_in (Ok x) = []
faults_in (Err e) = e ∷ []

abbrev pub read_in : {A : Type 0} → Result A TextError → List A
read_in (Ok x) = x ∷ []
read_in (Err e) = []

-- the answer that is due: the first fault, or what is written where there is none
abbrev pub due : {A : Type 0} → List TextError → A → Result A TextError
due [] x = Ok x
due (e ∷ es) x = Err e

-- that nothing is wrong, or the first fault
abbrev pub allowed : List TextError → Result (Unit {0}) TextError
allowed faults = due faults (tt {0})

-- an answer is the one that is due, unless memory ran out
abbrev pub Answers : {A : Type 0} → Result A TextError → Result A TextError → Type 0
Answers wanted (Ok x) = wanted ≡ Ok x
Answers wanted (Err (Refused.Word n)) = wanted ≡ Err (Refused.Word n)
Answers wanted (Err (Refused.Number n)) = wanted ≡ Err (Refused.Number n)
Answers wanted (Err (Refused.Unended n)) = wanted ≡ Err (Refused.Unended n)
Answers wanted (Err (Refused.Direction n)) = wanted ≡ Err (Refused.Direction n)
Answers wanted (Err (Refused.Interval n)) = wanted ≡ Err (Refused.Interval n)
Answers wanted (Err Refused.Memory) = Unit {0}
