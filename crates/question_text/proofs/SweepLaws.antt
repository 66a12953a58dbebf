-- What is due after a line of a sweep file is taken.
use Rattle.std.specs.Prelude.{◌≡◌, ℕ, Bool, true, false, ◌||◌, not, if◌then◌else◌, List, [], ◌∷◌, ◌++◌, flat_map, codes}
use Rattle.std.specs.Prelude.{Result, Ok, Err, refl}
use Rattle.std.specs.List.{before_first, list_any}
use Rattle.std.proofs.Common.{ap, sym, ◌∙◌}
use Rattle.std.proofs.lemmas.Bool.{true≢false}
use Rattle.std.proofs.lemmas.List.{append-nil, append_assoc}
use Rattle.std.proofs.lemmas.List.Concat.{flat_map-append}
use Rattle.std.proofs.lemmas.List.Folds.{list_any-append}
use Rattle.ip_defs.specs.Lists.{when}
use Rattle.mps_defs.specs.Lists.{after_those}
use Rattle.question_text.specs.Lines.{Line, is_word, is_end, due, read_in}
use Rattle.question_text.specs.SweepFiles.{after_head_faults, cost_direction, direction_faults, head_in}
use Rattle.question_text.specs.SweepFiles.{side_direction, sweep_after, sweep_in, with_directions}
use Rattle.question_text.specs.Internal.Sweeping.{faults_after, sweep_left}
use Rattle.question_text.specs.declared.errors.TextError.{TextError}
use Rattle.question_text.specs.declared.errors.TextError.TheVariants as Refused
use Rattle.question_text.specs.declared.sweeps.Sweep.{Sweep}
use Rattle.question_text.specs.declared.sweeps.Sweep.TheVariants.{Cost, Rows}
use Rattle.question_text.proofs.AnswerLaws.{fault_first}
use Rattle.question_text.proofs.LineLaws.{before_end, before_others}

-- ---- more directions

pub directions_none : (s : Sweep) → with_directions s [] ≡ s
directions_none (Cost from to dir) = ap (Cost from to) (append-nil dir)
directions_none (Rows steps dir) = ap (Rows steps) (append-nil dir)

pub directions_more : (s : Sweep) (ks ls : List Line) → with_directions s (ks ++ ls) ≡ with_directions (with_directions s ks) ls
directions_more (Cost from to dir) ks ls =
    let f = λ (l : Line). read_in (cost_direction l.number l.words) in
    ap (Cost from to) (ap (λ k. dir ++ k) (flat_map-append f ks ls) ∙ sym (append_assoc dir (flat_map f ks) (flat_map f ls)))
directions_more (Rows steps dir) ks ls =
    let f = λ (l : Line). read_in (side_direction l.number l.words) in
    ap (Rows steps) (ap (λ k. dir ++ k) (flat_map-append f ks ls) ∙ sym (append_assoc dir (flat_map f ks) (flat_map f ls)))

-- the end is no direction
cost_end : (n : ℕ) (ws : List (List ℕ)) → is_word (codes "end") ws ≡ true → cost_direction n ws ≡ Err (Refused.Word n)
cost_end n [] h = refl
cost_end n (w ∷ []) h = refl
cost_end n (w ∷ v ∷ ws) h = absurd (true≢false (sym h))

side_end : (n : ℕ) (ws : List (List ℕ)) → is_word (codes "end") ws ≡ true → side_direction n ws ≡ Err (Refused.Word n)
side_end n [] h = refl
side_end n (w ∷ []) h = refl
side_end n (w ∷ v ∷ ws) h = absurd (true≢false (sym h))

directions_end : (s : Sweep) (l : Line) → is_end l ≡ true → with_directions s (l ∷ []) ≡ s
directions_end (Cost from to dir) l h =
    ap (λ r. Cost from to (dir ++ (read_in r ++ []))) (cost_end l.number l.words h) ∙ directions_none (Cost from to dir)
directions_end (Rows steps dir) l h =
    ap (λ r. Rows steps (dir ++ (read_in r ++ []))) (side_end l.number l.words h) ∙ directions_none (Rows steps dir)

-- ---- faults, line by line

any_more : (ls : List Line) (l : Line) → list_any is_end (ls ++ l ∷ []) ≡ (list_any is_end ls || is_end l)
any_more ls l = list_any-append is_end ls (l ∷ []) ∙ ap (λ t. list_any is_end ls || t) (by (is_end l))
  where
    by : (t : Bool) → (t || false) ≡ t
    by true = refl
    by false = refl

pub faults_are : (head : Sweep) (before ls : List Line) → flat_map (λ p. after_head_faults head p.0 p.1) (after_those before ls)
    ≡ faults_after (with_directions head before) (list_any is_end before) ls
faults_are head before [] = refl
faults_are head before (l ∷ ls) =
    ap (λ fs. after_head_faults head before l ++ fs)
    (faults_are head (before ++ l ∷ []) ls
    ∙ ap (λ s. faults_after s (list_any is_end (before ++ l ∷ [])) ls) (directions_more head before (l ∷ []))
    ∙ ap (λ t. faults_after (with_directions (with_directions head before) (l ∷ [])) t ls) (any_more before l))

-- ---- what is due

abbrev pub due_by : Sweep → Bool → ℕ → List Line → Result Sweep TextError
due_by s ended n ls =
    due (faults_after s ended ls ++ when (not (ended || list_any is_end ls)) (Refused.Unended n)) (sweep_left s ended ls)

-- a head begins a sweep
pub head_taken : (after : ℕ) (l : Line) (ls : List Line) (head : Sweep) → head_in l.number l.words ≡ Ok head
    → sweep_in after (l ∷ ls) ≡ due_by head false l.number ls
head_taken after l ls head h =
    ap (λ r. sweep_after l.number r ls) h
    ∙ ap (λ fs. due (fs ++ when (not (list_any is_end ls)) (Refused.Unended l.number)) (with_directions head (before_first is_end ls)))
    (faults_are head [] ls ∙ ap (λ s. faults_after s false ls) (directions_none head))

pub head_refused : (after : ℕ) (l : Line) (ls : List Line) (e : TextError) → head_in l.number l.words ≡ Err e
    → sweep_in after (l ∷ ls) ≡ Err e
head_refused after l ls e h = ap (λ r. sweep_after l.number r ls) h

-- after the end each line is a fault
pub line_after_end : (s : Sweep) (ended : Bool) (n : ℕ) (l : Line) (ls : List Line) → ended ≡ true
    → due_by s ended n (l ∷ ls) ≡ Err (Refused.Word l.number)
line_after_end s ended n l ls h = ap (λ t. due_by s t n (l ∷ ls)) h

-- the faults of a line come first
abbrev due_with : Sweep → ℕ → List TextError → Bool → Sweep → List Line → Sweep → Result Sweep TextError
due_with s n faults t more ls x =
    due (((if t then [] else faults) ++ faults_after more t ls) ++ when (not (t || list_any is_end ls)) (Refused.Unended n)) x

-- the end
pub end_taken : (s : Sweep) (n : ℕ) (l : Line) (ls : List Line) → is_end l ≡ true → due_by s false n (l ∷ ls) ≡ due_by s true n ls
end_taken s n l ls h =
    ap (λ t. due_with s n (direction_faults s l) t (with_directions s (l ∷ [])) ls (with_directions s (before_first is_end (l ∷ ls)))) h
    ∙ ap (λ m. due_with s n [] true m ls (with_directions s (before_first is_end (l ∷ ls)))) (directions_end s l h)
    ∙ ap (λ x. due_with s n [] true s ls x) (ap (with_directions s) (before_end l ls h) ∙ directions_none s)

-- a direction
pub direction_taken : (s : Sweep) (n : ℕ) (l : Line) (ls : List Line) → is_end l ≡ false → direction_faults s l ≡ []
    → due_by s false n (l ∷ ls) ≡ due_by (with_directions s (l ∷ [])) false n ls
direction_taken s n l ls h none =
    let more = with_directions s (l ∷ []) in
    ap (λ t. due_with s n (direction_faults s l) t more ls (with_directions s (before_first is_end (l ∷ ls)))) h
    ∙ ap (λ fs. due_with s n fs false more ls (with_directions s (before_first is_end (l ∷ ls)))) none
    ∙ ap (λ x. due_with s n [] false more ls x)
    (ap (with_directions s) (before_others l ls h) ∙ directions_more s (l ∷ []) (before_first is_end ls))

pub direction_refused : {A : Type 0} (s : Sweep) (n : ℕ) (l : Line) (ls : List Line) (x : A) (e : TextError) → is_end l ≡ false
    → due (direction_faults s l) x ≡ Err e → due_by s false n (l ∷ ls) ≡ Err e
direction_refused s n l ls x e h fault =
    let more = with_directions s (l ∷ []) in
    let whole = with_directions s (before_first is_end (l ∷ ls)) in
    ap (λ t. due_with s n (direction_faults s l) t more ls whole) h
    ∙ ap (λ fs. due fs whole)
    (append_assoc (direction_faults s l) (faults_after more false ls) (when (not (list_any is_end ls)) (Refused.Unended n)))
    ∙ fault_first (direction_faults s l) (faults_after more false ls ++ when (not (list_any is_end ls)) (Refused.Unended n)) x whole e fault
