-- Sweep files: a head, the directions of columns or of row sides, and `end`.
use Rattle.std.specs.Prelude.{ℕ, ◌≡◌, ◌^◌, ◌==◌, nat_le, Bool, true, false, ◌&&◌, ◌||◌, not, if◌then◌else◌, List, [], ◌∷◌, ◌++◌, length}
use Rattle.std.specs.Prelude.{drop, map, flat_map, Option, None, Some, slice_index_or, bytes_eq, codes, ℤ, pos, ◌-ℤ◌, Result, Ok, Err}
use Rattle.std.specs.List.{before_first, list_all, list_any}
use Rattle.std.specs.Str.{is_utf8}
use Rattle.std.specs.Int.RustNames.{unsigned_abs}
use Rattle.std.specs.Int.Signed.{lt_z}
use Rattle.ip_defs.specs.Lists.{Each, when}
use Rattle.mps_defs.specs.Lists.{where_true, after_those, is_among}
use Rattle.mps_defs.specs.Numbers.{digits_value, is_digit, is_minus, number_of, signed}
use Rattle.mps_defs.specs.TextModels.{is_negative_number}
use Rattle.mps_defs.specs.declared.reading.Number.{Number}
use Rattle.mps_defs.specs.declared.reading.Number.TheVariants.{Dec, Large}
use Rattle.decimals.specs.Decimals.{IsBelowLarge}
use Rattle.perturbation.specs.declared.edits.Datum.{Datum}
use Rattle.perturbation.specs.declared.edits.Datum.TheVariants.{Low, High}
use Rattle.question_text.specs.Lines.{Line, lines_of, line_after, begins, is_end, made_of, with_number, faults_in, read_in, due}
use Rattle.question_text.specs.declared.errors.TextError.{TextError}
use Rattle.question_text.specs.declared.errors.TextError.TheVariants as Refused
use Rattle.question_text.specs.declared.sweeps.Sweep.{Sweep}
use Rattle.question_text.specs.declared.sweeps.Sweep.TheVariants.{Cost, Rows}

-- ---- whole numbers

-- 1 to 18 digits without a leading zero but in `0`
abbrev pub is_whole : List ℕ → Bool
is_whole ds =
    list_all is_digit ds && nat_le 1 (length ds) && nat_le (length ds) 18 && (length ds == 1 || not (slice_index_or ds 0 48 == 48))

abbrev pub steps_of : List ℕ → Option ℕ
steps_of text = where_true (is_whole text) (digits_value text)

-- with an optional minus
abbrev pub without_minus : List ℕ → List ℕ
without_minus text = drop (if is_minus text then 1 else 0) text

abbrev pub integer_of : List ℕ → Option ℤ
integer_of text = where_true (is_whole (without_minus text)) (signed (is_minus text) (digits_value (without_minus text)))

-- ---- the head

-- the most steps, and the largest absolute value and width of an interval
abbrev pub is_small : ℕ → Bool
is_small n = nat_le n (10 ^ 6)

abbrev pub is_interval : ℤ → ℤ → Bool
is_interval from to =
    lt_z from to && is_small (unsigned_abs from) && is_small (unsigned_abs to) && is_small (unsigned_abs (to -ℤ from))

abbrev pub cost_head : ℕ → Option ℤ → Option ℤ → Result Sweep TextError
cost_head n (Some from) (Some to) = if is_interval from to then Ok (Cost from to []) else Err (Refused.Interval n)
cost_head n (Some from) None = Err (Refused.Number n)
cost_head n None to = Err (Refused.Number n)

abbrev pub rows_head : ℕ → Option ℕ → Result Sweep TextError
rows_head n (Some steps) = if is_small steps then Ok (Rows steps []) else Err (Refused.Interval n)
rows_head n None = Err (Refused.Number n)

abbrev pub cost_line : ℕ → List (List ℕ) → Result Sweep TextError
cost_line n (from ∷ to ∷ []) = cost_head n (integer_of from) (integer_of to)
cost_line n ws = Err (Refused.Word n)

abbrev pub rows_line : ℕ → List (List ℕ) → Result Sweep TextError
rows_line n (steps ∷ []) = rows_head n (steps_of steps)
rows_line n ws = Err (Refused.Word n)

-- a head is `cost` with two whole numbers, or `rows` with a count of steps: the sweep without directions
abbrev pub head_in : ℕ → List (List ℕ) → Result Sweep TextError
head_in n ws =
    if begins (codes "cost") ws then cost_line n (drop 1 ws)
    else (if begins (codes "rows") ws then rows_line n (drop 1 ws) else Err (Refused.Word n))

-- ---- directions

-- a direction of a column: its name and a number
abbrev pub cost_direction : ℕ → List (List ℕ) → Result (List ℕ × Number) TextError
cost_direction n (name ∷ text ∷ []) = with_number n (λ x. (name, x)) text
cost_direction n ws = Err (Refused.Word n)

abbrev pub is_positive_number : Number → Bool
is_positive_number (Dec units decimals) = lt_z (pos 0) units
is_positive_number (Large negative) = not negative

-- a low side may not rise, and a high side may not fall
abbrev pub is_low : List ℕ → Bool
is_low word = bytes_eq word (codes "low")

abbrev pub is_side : List ℕ → Bool
is_side word = is_low word || bytes_eq word (codes "high")

abbrev pub moves_inwards : List ℕ → Number → Bool
moves_inwards word x = if is_low word then is_positive_number x else is_negative_number x

abbrev pub outwards : ℕ → List ℕ → Option Number → Result Number TextError
outwards n word None = Err (Refused.Number n)
outwards n word (Some x) = if moves_inwards word x then Err (Refused.Direction n) else Ok x

-- the number of a side, `low` or `high`
abbrev pub side_number : ℕ → List ℕ → List (List ℕ) → Result Number TextError
side_number n word (text ∷ []) = if is_side word then outwards n word (number_of text) else Err (Refused.Word n)
side_number n word ws = Err (Refused.Word n)

abbrev pub side_by : List ℕ → List ℕ → Datum
side_by word row = if is_low word then Low row else High row

-- a direction of a side: `low` or `high`, a row and a number
abbrev pub side_direction : ℕ → List (List ℕ) → Result (Datum × Number) TextError
side_direction n (word ∷ row ∷ ws) = made_of (λ x. (side_by word row, x)) (side_number n word ws)
side_direction n ws = Err (Refused.Word n)

-- what has a direction: a column by its name, a side by its word and the name of its row
abbrev pub joined : List ℕ → List ℕ → List ℕ
joined word row = word ++ 32 ∷ row

abbrev pub side_name : Datum → List ℕ
side_name (Low row) = joined (codes "low") row
side_name (High row) = joined (codes "high") row
side_name datum = []

abbrev pub moved_by : Sweep → List (List ℕ)
moved_by (Cost from to dir) = map (λ d. d.0) dir
moved_by (Rows steps dir) = map (λ d. side_name d.0) dir

abbrev pub column_moved : List (List ℕ) → List ℕ
column_moved [] = []
column_moved (name ∷ ws) = name

abbrev pub side_moved : List (List ℕ) → List ℕ
side_moved [] = []
side_moved (word ∷ []) = []
side_moved (word ∷ row ∷ ws) = joined word row

-- what is wrong with a direction in a line, after those of a sweep: it is one of a column or a side that has one already, or is none
abbrev pub direction_faults : Sweep → Line → List TextError
direction_faults (Cost from to dir) l =
    when (is_among (column_moved l.words) (moved_by (Cost from to dir))) (Refused.Word l.number)
    ++ faults_in (cost_direction l.number l.words)
direction_faults (Rows steps dir) l =
    when (is_among (side_moved l.words) (moved_by (Rows steps dir))) (Refused.Word l.number)
    ++ faults_in (side_direction l.number l.words)

-- a sweep with the directions of further lines
abbrev pub with_directions : Sweep → List Line → Sweep
with_directions (Cost from to dir) ls = Cost from to (dir ++ flat_map (λ l. read_in (cost_direction l.number l.words)) ls)
with_directions (Rows steps dir) ls = Rows steps (dir ++ flat_map (λ l. read_in (side_direction l.number l.words)) ls)

-- ---- the whole text

-- what is wrong with a line after the head, where `before` stand between them
abbrev pub after_head_faults : Sweep → List Line → Line → List TextError
after_head_faults head before l =
    if list_any is_end before then Refused.Word l.number ∷ []
    else (if is_end l then [] else direction_faults (with_directions head before) l)

-- the sweep of a head and the lines after it, or its first fault: each line in order, then that the end is missing
abbrev pub sweep_after : ℕ → Result Sweep TextError → List Line → Result Sweep TextError
sweep_after n (Err e) ls = Err e
sweep_after n (Ok head) ls =
    due (flat_map (λ p. after_head_faults head p.0 p.1) (after_those [] ls) ++ when (not (list_any is_end ls)) (Refused.Unended n))
    (with_directions head (before_first is_end ls))

-- the sweep of lines that are read
abbrev pub sweep_in : ℕ → List Line → Result Sweep TextError
sweep_in after [] = Err (Refused.Word after)
sweep_in after (l ∷ ls) = sweep_after l.number (head_in l.number l.words) ls

-- the sweep of a text, or its first fault
abbrev pub sweep_of : List ℕ → Result Sweep TextError
sweep_of text = if is_utf8 text then sweep_in (line_after text) (lines_of text) else Err (Refused.Word 0)

-- ---- what a reader keeps

-- a low side falls or stays, and a high side rises or stays
abbrev pub IsOutward : Datum → Number → Type 0
IsOutward (Low row) x = is_positive_number x ≡ false
IsOutward (High row) x = is_negative_number x ≡ false
IsOutward datum x = ⊥

abbrev pub MovesOutwards : Datum × Number → Type 0
MovesOutwards d = IsOutward d.0 d.1 × IsBelowLarge d.1

-- a sweep can be followed: its interval or its steps are within their limits, its numbers are such that are read, and no side moves
-- inwards
abbrev pub IsFollowable : Sweep → Type 0
IsFollowable (Cost from to dir) = (is_interval from to ≡ true) × Each (λ d. IsBelowLarge d.1) dir
IsFollowable (Rows steps dir) = (is_small steps ≡ true) × Each MovesOutwards dir
