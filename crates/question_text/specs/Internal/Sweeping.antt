-- What is due after some lines of a sweep file were taken.
use Rattle.std.specs.Prelude.{◌≡◌, ℕ, Bool, ◌||◌, not, if◌then◌else◌, List, [], ◌∷◌, ◌++◌, map, Option, None, Some, string_bytes, Result}
use Rattle.std.specs.List.{before_first, list_any}
use Rattle.ip_defs.specs.Lists.{when}
use Rattle.question_text.specs.Lines.{Line, is_end, due}
use Rattle.question_text.specs.SweepFiles.{direction_faults, moved_by, sweep_in, with_directions}
use Rattle.question_text.specs.declared.errors.TextError.{TextError}
use Rattle.question_text.specs.declared.errors.TextError.TheVariants as Refused
use Rattle.question_text.specs.declared.sweeps.Sweep.{Sweep}
use Rattle.question_text.specs.declared.sweeping.Begun.{Begun}

-- what is wrong with lines after a sweep that is ended or not, which has the directions of the lines before
abbrev pub faults_after : Sweep → Bool → List Line → List TextError
faults_after sweep ended [] = []
faults_after sweep ended (l ∷ ls) =
    (if ended then Refused.Word l.number ∷ [] else (if is_end l then [] else direction_faults sweep l))
    ++ faults_after (with_directions sweep (l ∷ [])) (ended || is_end l) ls

-- the sweep of the lines taken and of those that are left
abbrev pub sweep_left : Sweep → Bool → List Line → Sweep
sweep_left sweep ended ls = if ended then sweep else with_directions sweep (before_first is_end ls)

-- the answer that is due for them
abbrev pub due_after : ℕ → Option Begun → List Line → Result Sweep TextError
due_after after None ls = sweep_in after ls
due_after after (Some b) ls =
    due (faults_after b.sweep b.is_ended ls ++ when (not (b.is_ended || list_any is_end ls)) (Refused.Unended b.line))
    (sweep_left b.sweep b.is_ended ls)

-- the set has the names of what has a direction
abbrev pub HasMoved : Option Begun → Type 0
HasMoved None = Unit {0}
HasMoved (Some b) = map string_bytes b.moved.keys ≡ moved_by b.sweep
