-- In a sweep that is read no column and no side has two directions.
use Rattle.std.specs.Prelude.{◌≡◌, ℕ, Bool, true, false, ◌||◌, if◌then◌else◌, Option, None, Some, List, [], ◌∷◌, ◌++◌, map, bytes_eq}
use Rattle.std.specs.Prelude.{Result, Ok, Err, IfOk, refl}
use Rattle.std.specs.List.{before_first}
use Rattle.std.specs.Option.{option_map_or}
use Rattle.std.proofs.Common.{ap, sym, subst, ◌∙◌}
use Rattle.std.proofs.lemmas.Bool.{or_from}
use Rattle.std.proofs.lemmas.List.{append-nil, map-append}
use Rattle.std.proofs.lemmas.List.Folds.{list_any-append}
use Rattle.ip_defs.proofs.BoolLaws.{left_false, right_false}
use Rattle.ip_defs.proofs.ListLaws.{none_append, none_when}
use Rattle.ip_defs.proofs.TextLaws.{text_turned}
use Rattle.mps_defs.specs.Lists.{is_among, AreDistinct}
use Rattle.mps_defs.specs.Numbers.{number_of}
use Rattle.mps_defs.specs.declared.reading.Number.{Number}
use Rattle.perturbation.specs.declared.edits.Datum.{Datum}
use Rattle.question_text.specs.Lines.{Line, is_end, made_of, faults_in, read_in, Answers}
use Rattle.question_text.specs.SweepFiles.{column_moved, cost_direction, direction_faults, is_side, joined}
use Rattle.question_text.specs.SweepFiles.{moved_by, moves_inwards, outwards, side_by, side_direction, side_moved, side_name}
use Rattle.question_text.specs.SweepFiles.{sweep_of, with_directions}
use Rattle.question_text.specs.Internal.Sweeping.{faults_after}
use Rattle.question_text.specs.declared.errors.TextError.{TextError}
use Rattle.question_text.specs.declared.errors.TextError.TheVariants as Refused
use Rattle.question_text.specs.declared.sweeps.Sweep.{Sweep}
use Rattle.question_text.specs.declared.sweeps.Sweep.TheVariants.{Cost, Rows}
use Rattle.question_text.proofs.DirectionLaws.{side_named}
use Rattle.question_text.proofs.LineLaws.{before_end, before_others}
use Rattle.question_text.proofs.MadeLaws.{head_by, text_made}
use Rattle.question_text.proofs.SweepLaws.{directions_more, directions_none, faults_are}

-- ---- one name more

distinct_more : (xs : List (List ℕ)) (x : List ℕ) → AreDistinct xs → is_among x xs ≡ false → AreDistinct (xs ++ x ∷ [])
distinct_more [] x h new = (refl, tt)
distinct_more (y ∷ ys) x h new =
    let apart = left_false (bytes_eq x y) (is_among x ys) new in (
      list_any-append (bytes_eq y) ys (x ∷ [])
          ∙ or_from (is_among y ys) (bytes_eq y x || false) h.0 (or_from (bytes_eq y x) false (text_turned y x ∙ apart) refl),
      distinct_more ys x h.1 (right_false (bytes_eq x y) (is_among x ys) new),
    )

-- ---- one direction more

column_one : (n : ℕ) (ws : List (List ℕ)) → faults_in (cost_direction n ws) ≡ []
    → (x : Number) × (read_in (cost_direction n ws) ≡ (column_moved ws, x) ∷ [])
column_one n [] h = absurd (cc h)
column_one n (a ∷ []) h = absurd (cc h)
column_one n (a ∷ b ∷ d ∷ ws) h = absurd (cc h)
column_one n (name ∷ text ∷ []) h = by (number_of text) h
  where
    reading : Option Number → Result (List ℕ × Number) TextError
    reading o = option_map_or (λ x. Ok (name, x)) o (Err (Refused.Number n))

    by : (o : Option Number) → faults_in (reading o) ≡ [] → (x : Number) × (read_in (reading o) ≡ (name, x) ∷ [])
    by None e = absurd (cc e)
    by (Some x) e = (x, refl)

side_one : (n : ℕ) (ws : List (List ℕ)) → faults_in (side_direction n ws) ≡ []
    → (d : Datum × Number) × (read_in (side_direction n ws) ≡ d ∷ []) × (side_name d.0 ≡ side_moved ws)
side_one n [] h = absurd (cc h)
side_one n (a ∷ []) h = absurd (cc h)
side_one n (a ∷ b ∷ []) h = absurd (cc h)
side_one n (a ∷ b ∷ d ∷ e ∷ ws) h = absurd (cc h)
side_one n (word ∷ row ∷ text ∷ []) h = by (is_side word) (number_of text) refl h
  where
    with : Number → Datum × Number
    with x = (side_by word row, x)

    reading : Result Number TextError → Result (Datum × Number) TextError
    reading r = made_of with r

    moved : (x : Number) (t : Bool) → is_side word ≡ true → faults_in (reading (if t then Err (Refused.Direction n) else Ok x)) ≡ []
        → (d : Datum × Number) × (read_in (reading (if t then Err (Refused.Direction n) else Ok x)) ≡ d ∷ [])
        × (side_name d.0 ≡ joined word row)
    moved x true is f = absurd (cc f)
    moved x false is f = (with x, refl, side_named word row is)

    by : (t : Bool) (o : Option Number) → is_side word ≡ t
        → faults_in (reading (if t then outwards n word o else Err (Refused.Word n))) ≡ []
        → (d : Datum × Number) × (read_in (reading (if t then outwards n word o else Err (Refused.Word n))) ≡ d ∷ [])
        × (side_name d.0 ≡ joined word row)
    by false o is e = absurd (cc e)
    by true None is e = absurd (cc e)
    by true (Some x) is e = moved x (moves_inwards word x) is e

one_distinct : (s : Sweep) (l : Line) → direction_faults s l ≡ [] → AreDistinct (moved_by s)
    → AreDistinct (moved_by (with_directions s (l ∷ [])))
one_distinct (Cost from to dir) l none h =
    let f = λ (d : List ℕ × Number). d.0 in
    let parts = none_append _ _ none in
    let one = column_one l.number l.words parts.1 in
    subst AreDistinct
    (sym (ap (λ k. map f (dir ++ k)) (append-nil _ ∙ one.1) ∙ map-append f dir ((column_moved l.words, one.0) ∷ [])))
    (distinct_more (map f dir) (column_moved l.words) h (none_when _ _ parts.0))
one_distinct (Rows steps dir) l none h =
    let f = λ (d : Datum × Number). side_name d.0 in
    let parts = none_append _ _ none in
    let one = side_one l.number l.words parts.1 in
    subst AreDistinct
    (sym (ap (λ k. map f (dir ++ k)) (append-nil _ ∙ one.1) ∙ map-append f dir (one.0 ∷ []) ∙ ap (λ n. map f dir ++ n ∷ []) one.2))
    (distinct_more (map f dir) (side_moved l.words) h (none_when _ _ parts.0))

-- ---- the sweep

lines_distinct : (s : Sweep) (ls : List Line) → faults_after s false ls ≡ [] → AreDistinct (moved_by s)
    → AreDistinct (moved_by (with_directions s (before_first is_end ls)))
lines_distinct s [] none h = subst (λ t. AreDistinct (moved_by t)) (sym (directions_none s)) h
lines_distinct s (l ∷ ls) none h = by (is_end l) refl none (lines_distinct (with_directions s (l ∷ [])) ls)
  where
    Distinct : Sweep → Type 0
    Distinct k = AreDistinct (moved_by k)

    by : (t : Bool) → is_end l ≡ t
        → ((if t then [] else direction_faults s l) ++ faults_after (with_directions s (l ∷ [])) t ls) ≡ []
        → (faults_after (with_directions s (l ∷ [])) false ls ≡ [] → Distinct (with_directions s (l ∷ []))
        → Distinct (with_directions (with_directions s (l ∷ [])) (before_first is_end ls)))
        → Distinct (with_directions s (before_first is_end (l ∷ ls)))
    by true is e later = subst Distinct (sym (ap (with_directions s) (before_end l ls is) ∙ directions_none s)) h
    by false is e later =
        let parts = none_append (direction_faults s l) _ e in
        subst Distinct (sym (ap (with_directions s) (before_others l ls is) ∙ directions_more s (l ∷ []) (before_first is_end ls)))
        (later parts.1 (one_distinct s l parts.0 h))

-- in a sweep that is answered nothing has two directions
pub answer_distinct : (text : List ℕ) (r : Result Sweep TextError) → Answers (sweep_of text) r → IfOk r (λ s. AreDistinct (moved_by s))
answer_distinct text (Err e) h = tt
answer_distinct text (Ok s) h =
    let made = text_made text s h in
    let none = sym (faults_are made.head [] made.lines ∙ ap (λ k. faults_after k false made.lines) (directions_none made.head))
    ∙ made.none in
    subst (λ k. AreDistinct (moved_by k)) made.is
    (lines_distinct made.head made.lines none
    (head_by (λ k. AreDistinct (moved_by k)) (λ from to e. tt) (λ steps e. tt) made.number made.words made.head made.head_is))
