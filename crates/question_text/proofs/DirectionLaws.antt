-- Directions are added, and a fault of a name or of a number is that of the line.
use Rattle.std.specs.Prelude.{◌≡◌, ℕ, ℤ, Bool, true, false, ◌||◌, if◌then◌else◌, List, [], ◌∷◌, ◌++◌, map, bytes_eq, codes, Result, Ok, Err}
use Rattle.std.specs.Prelude.{refl}
use Rattle.std.proofs.Common.{ap, sym, ◌∙◌}
use Rattle.std.proofs.lemmas.List.{append-nil}
use Rattle.ip_defs.specs.Lists.{when}
use Rattle.ip_defs.proofs.TextLaws.{text_same}
use Rattle.mps_defs.specs.Lists.{is_among}
use Rattle.mps_defs.specs.declared.reading.Number.{Number}
use Rattle.perturbation.specs.declared.edits.Datum.{Datum}
use Rattle.perturbation.specs.declared.edits.Datum.TheVariants.{Low, High}
use Rattle.question_text.specs.Lines.{Line, Answers, allowed, due, faults_in, read_in}
use Rattle.question_text.specs.SweepFiles.{column_moved, cost_direction, direction_faults, is_side, joined, side_by, side_direction}
use Rattle.question_text.specs.SweepFiles.{side_moved, side_name, with_directions}
use Rattle.question_text.specs.Internal.Taking.{IsAdded, IsPushed}
use Rattle.question_text.specs.declared.errors.TextError.{TextError}
use Rattle.question_text.specs.declared.errors.TextError.TheVariants as Refused
use Rattle.question_text.specs.declared.sweeps.Sweep.TheVariants.{Cost, Rows}
use Rattle.question_text.proofs.AnswerLaws.{fault_first, refused_by}

-- a fault among the first ones is that of all
pub added_refused : {A : Type 0} (faults : List TextError) (wanted : Result A TextError) (old new : List A) (e : TextError)
    → Answers (allowed faults) (Err e) → IsAdded faults wanted old new (Err e)
added_refused faults wanted old new e h =
    refused_by (allowed faults) (allowed (faults ++ faults_in wanted)) e h (fault_first faults (faults_in wanted) tt tt e)

-- where there is none, what is pushed is added
pub added_pushed : {A : Type 0} (faults : List TextError) (wanted : Result A TextError) (old new : List A)
    (r : Result (Unit {0}) TextError) → faults ≡ [] → IsPushed wanted old new r → IsAdded faults wanted old new r
added_pushed faults wanted old new (Ok done) none (x, is, pushed) = (
  ap (λ fs. fs ++ faults_in wanted) none ∙ ap faults_in is,
  pushed ∙ ap (λ w. old ++ read_in w) (sym is),
)
added_pushed faults wanted old new (Err e) none h =
    refused_by wanted (allowed (faults ++ faults_in wanted)) e h
    (λ is. ap (λ fs. allowed (fs ++ faults_in wanted)) none ∙ ap (λ w. allowed (faults_in w)) is)

-- the name of a side
pub side_named : (word row : List ℕ) → is_side word ≡ true → side_name (side_by word row) ≡ joined word row
side_named word row = by (bytes_eq word (codes "low")) (bytes_eq word (codes "high")) refl refl
  where
    by : (t u : Bool) → bytes_eq word (codes "low") ≡ t → bytes_eq word (codes "high") ≡ u → (t || u) ≡ true
        → side_name (if t then Low row else High row) ≡ joined word row
    by true u e f h = ap (λ w. joined w row) (sym (text_same word (codes "low") e))
    by false true e f h = ap (λ w. joined w row) (sym (text_same word (codes "high") f))
    by false false e f h = absurd (cc h)

-- ---- the sweep with a direction

other_due : {A B : Type 0} (faults : List TextError) (x : A) (y : B) (e : TextError) → due faults x ≡ Err e → due faults y ≡ Err e
other_due [] x y e h = absurd (cc h)
other_due (f ∷ fs) x y e h = let same : f ≡ e = cc h in ap Err same

pub cost_added : (from to : ℤ) (dir new : List (List ℕ × Number)) (l : Line)
    → IsAdded (when (is_among (column_moved l.words) (map (λ d. d.0) dir)) (Refused.Word l.number))
    (cost_direction l.number l.words) dir new (Ok tt)
    → due (direction_faults (Cost from to dir) l) (with_directions (Cost from to dir) (l ∷ [])) ≡ Ok (Cost from to new)
cost_added from to dir new l h =
    let read = read_in (cost_direction l.number l.words) in
    ap (λ fs. due fs (with_directions (Cost from to dir) (l ∷ []))) h.0
    ∙ ap (λ k. Ok (Cost from to k)) (ap (λ k. dir ++ k) (append-nil read) ∙ sym h.1)

pub cost_refused : (from to : ℤ) (dir new : List (List ℕ × Number)) (l : Line) (e : TextError)
    → IsAdded (when (is_among (column_moved l.words) (map (λ d. d.0) dir)) (Refused.Word l.number))
    (cost_direction l.number l.words) dir new (Err e)
    → Answers (due (direction_faults (Cost from to dir) l) (with_directions (Cost from to dir) (l ∷ []))) (Err e)
cost_refused from to dir new l e h =
    let faults = direction_faults (Cost from to dir) l in
    let sweep = with_directions (Cost from to dir) (l ∷ []) in
    refused_by (allowed faults) (due faults sweep) e h (other_due faults tt sweep e)

pub side_added : (steps : ℕ) (dir new : List (Datum × Number)) (l : Line)
    → IsAdded (when (is_among (side_moved l.words) (map (λ d. side_name d.0) dir)) (Refused.Word l.number))
    (side_direction l.number l.words) dir new (Ok tt)
    → due (direction_faults (Rows steps dir) l) (with_directions (Rows steps dir) (l ∷ [])) ≡ Ok (Rows steps new)
side_added steps dir new l h =
    let read = read_in (side_direction l.number l.words) in
    ap (λ fs. due fs (with_directions (Rows steps dir) (l ∷ []))) h.0
    ∙ ap (λ k. Ok (Rows steps k)) (ap (λ k. dir ++ k) (append-nil read) ∙ sym h.1)

pub side_refused : (steps : ℕ) (dir new : List (Datum × Number)) (l : Line) (e : TextError)
    → IsAdded (when (is_among (side_moved l.words) (map (λ d. side_name d.0) dir)) (Refused.Word l.number))
    (side_direction l.number l.words) dir new (Err e)
    → Answers (due (direction_faults (Rows steps dir) l) (with_directions (Rows steps dir) (l ∷ []))) (Err e)
side_refused steps dir new l e h =
    let faults = direction_faults (Rows steps dir) l in
    let sweep = with_directions (Rows steps dir) (l ∷ []) in
    refused_by (allowed faults) (due faults sweep) e h (other_due faults tt sweep e)
