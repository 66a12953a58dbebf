-- A sweep that is read is within its limits, and its sides move outwards.
use Rattle.std.specs.Prelude.{◌≡◌, ℕ, Bool, true, false, if◌then◌else◌, Option, None, Some, List, [], ◌∷◌, flat_map, Result, Ok, Err}
use Rattle.std.specs.Prelude.{IfSome, IfOk}
use Rattle.std.specs.List.{before_first}
use Rattle.std.specs.Option.{option_map_or}
use Rattle.std.proofs.Common.{subst, refl}
use Rattle.ip_defs.specs.Lists.{Each}
use Rattle.ip_defs.proofs.ListLaws.{each_append}
use Rattle.mps_defs.specs.Numbers.{number_of}
use Rattle.mps_defs.specs.TextModels.{is_negative_number}
use Rattle.mps_defs.specs.declared.reading.Number.{Number}
use Rattle.decimals.specs.Decimals.{IsBelowLarge}
use Rattle.decimals.proofs.NumberLaws.{read_below}
use Rattle.perturbation.specs.declared.edits.Datum.{Datum}
use Rattle.perturbation.specs.declared.edits.Datum.TheVariants.{Low, High}
use Rattle.question_text.specs.Lines.{Line, is_end, made_of, read_in, Answers}
use Rattle.question_text.specs.SweepFiles.{cost_direction, is_low, is_positive_number, is_side, moves_inwards, outwards, side_by}
use Rattle.question_text.specs.SweepFiles.{side_direction, sweep_of, with_directions, IsFollowable, IsOutward, MovesOutwards}
use Rattle.question_text.specs.declared.errors.TextError.{TextError}
use Rattle.question_text.specs.declared.errors.TextError.TheVariants as Refused
use Rattle.question_text.specs.declared.sweeps.Sweep.{Sweep}
use Rattle.question_text.specs.declared.sweeps.Sweep.TheVariants.{Cost, Rows}
use Rattle.question_text.proofs.MadeLaws.{head_by, text_made}

-- ---- directions

each_flat : {A B : Type 0} (P : B → Type 0) (f : A → List B) (xs : List A) → ((x : A) → Each P (f x)) → Each P (flat_map f xs)
each_flat P f [] h = tt
each_flat P f (x ∷ xs) h = each_append P (f x) (flat_map f xs) (h x) (each_flat P f xs h)

-- the number of a column's direction is one that is read
abbrev IsColumnBelow : List ℕ × Number → Type 0
IsColumnBelow d = IsBelowLarge d.1

column_below : (n : ℕ) (ws : List (List ℕ)) → Each IsColumnBelow (read_in (cost_direction n ws))
column_below n [] = tt
column_below n (a ∷ []) = tt
column_below n (a ∷ b ∷ d ∷ ws) = tt
column_below n (name ∷ text ∷ []) = by (number_of text) (read_below text)
  where
    by : (o : Option Number) → IfSome o IsBelowLarge
        → Each IsColumnBelow (read_in (option_map_or (λ x. Ok (name, x)) o (Err (Refused.Number n))))
    by None h = tt
    by (Some x) h = (h, tt)

outward : (word row : List ℕ) (x : Number) → moves_inwards word x ≡ false → IsOutward (side_by word row) x
outward word row x = by (is_low word)
  where
    by : (t : Bool) → (if t then is_positive_number x else is_negative_number x) ≡ false → IsOutward (if t then Low row else High row) x
    by true e = e
    by false e = e

-- the direction of a side, where its number does not move it inwards
abbrev direction_of : ℕ → List ℕ → List ℕ → Number → Bool → Result (Datum × Number) TextError
direction_of n word row x t = made_of (λ y. (side_by word row, y)) (if t then Err (Refused.Direction n) else Ok x)

side_moved_out : (n : ℕ) (word row : List ℕ) (x : Number) → IsBelowLarge x
    → Each MovesOutwards (read_in (direction_of n word row x (moves_inwards word x)))
side_moved_out n word row x below = by (moves_inwards word x) refl
  where
    by : (t : Bool) → moves_inwards word x ≡ t → Each MovesOutwards (read_in (direction_of n word row x t))
    by true e = tt
    by false e = ((outward word row x e, below), tt)

side_outwards : (n : ℕ) (ws : List (List ℕ)) → Each MovesOutwards (read_in (side_direction n ws))
side_outwards n [] = tt
side_outwards n (a ∷ []) = tt
side_outwards n (a ∷ b ∷ []) = tt
side_outwards n (a ∷ b ∷ d ∷ e ∷ ws) = tt
side_outwards n (word ∷ row ∷ text ∷ []) = by (is_side word) (number_of text) (read_below text)
  where
    by : (t : Bool) (o : Option Number) → IfSome o IsBelowLarge
        → Each MovesOutwards (read_in (made_of (λ x. (side_by word row, x)) (if t then outwards n word o else Err (Refused.Word n))))
    by false o h = tt
    by true None h = tt
    by true (Some x) h = side_moved_out n word row x h

-- ---- the sweep

more_followable : (s : Sweep) (ls : List Line) → IsFollowable s → IsFollowable (with_directions s ls)
more_followable (Cost from to dir) ls h =
    let f = λ (l : Line). read_in (cost_direction l.number l.words) in (
      h.0,
      each_append IsColumnBelow dir (flat_map f ls) h.1
          (each_flat IsColumnBelow f ls (λ l. column_below l.number l.words)),
    )
more_followable (Rows steps dir) ls h =
    let f = λ (l : Line). read_in (side_direction l.number l.words) in (
      h.0,
      each_append MovesOutwards dir (flat_map f ls) h.1 (each_flat MovesOutwards f ls (λ l. side_outwards l.number l.words)),
    )

-- a sweep that is answered can be followed
pub answer_followable : (text : List ℕ) (r : Result Sweep TextError) → Answers (sweep_of text) r → IfOk r IsFollowable
answer_followable text (Err e) h = tt
answer_followable text (Ok s) h =
    let made = text_made text s h in
    subst IsFollowable made.is
    (more_followable made.head (before_first is_end made.lines)
    (head_by IsFollowable (λ from to e. (e, tt)) (λ steps e. (e, tt)) made.number made.words made.head made.head_is))
