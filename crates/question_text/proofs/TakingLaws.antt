-- What is due after a line of a question file is taken.
use Rattle.std.specs.Prelude.{◌≡◌, ℕ, ◌==◌, Bool, true, false, if◌then◌else◌, Option, None, Some, List, [], ◌∷◌, ◌++◌}
use Rattle.std.specs.Prelude.{length, drop, bytes_eq, codes, Result, Ok, Err, refl}
use Rattle.std.specs.List.{before_first}
use Rattle.std.proofs.Common.{ap, sym, subst, ◌∙◌}
use Rattle.std.proofs.lemmas.List.{append-nil, append_assoc}
use Rattle.std.proofs.lemmas.Bool.{true≢false}
use Rattle.ip_defs.proofs.TextLaws.{text_same}
use Rattle.ip_defs.specs.Lists.{when}
use Rattle.perturbation.specs.declared.edits.Edit.{Edit}
use Rattle.question_text.specs.Lines.{Line, is_word, begins, is_end, due, faults_in, read_in, datum_in, after_datum}
use Rattle.question_text.specs.QuestionFiles.{aim_in, is_bound, begun, edit_in, edits_in, range_by, range_in, questions_in}
use Rattle.question_text.specs.QuestionFiles.{unended}
use Rattle.question_text.specs.Internal.Asking.{opened, open_after, faults_after, questions_after, due_after, pending_line}
use Rattle.question_text.specs.declared.errors.TextError.{TextError}
use Rattle.question_text.specs.declared.errors.TextError.TheVariants as Refused
use Rattle.question_text.specs.declared.questions.Question.{Question}
use Rattle.question_text.specs.declared.questions.Question.TheVariants.{Ask}
use Rattle.question_text.specs.declared.asking.Draft.{Draft}
use Rattle.question_text.proofs.LineLaws.{before_end, before_others}

-- ---- what is due, by its parts

abbrev due_by : ℕ → List TextError → Option ℕ → List Question → Result (List Question) TextError
due_by after faults o questions = due (faults ++ when (length questions == 0) (Refused.Word after) ++ unended o) questions

-- a first fault is the answer
pub fault_due : (after : ℕ) (fault : TextError) (faults : List TextError) (d : Draft) (l : Line) (ls : List Line)
    → faults_after (pending_line d.pending) (l ∷ ls) ≡ fault ∷ faults → due_after after d (l ∷ ls) ≡ Err fault
fault_due after fault faults d l ls h =
    ap (λ fs. due_by after fs (open_after (pending_line d.pending) (l ∷ ls)) (questions_after d.questions d.pending (l ∷ ls))) h

-- a line without a fault leaves what is due
pub same_due : (after : ℕ) (old new : Draft) (l : Line) (ls : List Line)
    → faults_after (pending_line old.pending) (l ∷ ls) ≡ faults_after (pending_line new.pending) ls
    → opened (pending_line old.pending) l ≡ pending_line new.pending
    → questions_after old.questions old.pending (l ∷ ls) ≡ questions_after new.questions new.pending ls
    → due_after after old (l ∷ ls) ≡ due_after after new ls
same_due after old new l ls faults opens questions =
    ap (λ fs. due_by after fs (open_after (pending_line old.pending) (l ∷ ls)) (questions_after old.questions old.pending (l ∷ ls))) faults
    ∙ ap (λ o. due_by after (faults_after (pending_line new.pending) ls) (open_after o ls)
    (questions_after old.questions old.pending (l ∷ ls))) opens
    ∙ ap (due_by after (faults_after (pending_line new.pending) ls) (open_after (pending_line new.pending) ls)) questions

-- ---- which lines are which

-- the one word of a line is no other word
one_word : (word other : List ℕ) (ws : List (List ℕ)) → bytes_eq word other ≡ false → is_word word ws ≡ true
    → (is_word other ws ≡ false) × (begins other ws ≡ false)
one_word word other [] apart h = absurd (true≢false (sym h))
one_word word other (w ∷ []) apart h =
    let is : bytes_eq w other ≡ false = ap (λ v. bytes_eq v other) (text_same w word h) ∙ apart in
    (is, is)
one_word word other (w ∷ v ∷ ws) apart h = absurd (true≢false (sym h))

-- the end is no beginning
end_is_none : (ws : List (List ℕ)) → is_word (codes "end") ws ≡ true
    → (is_word (codes "bound") ws ≡ false) × (begins (codes "range") ws ≡ false)
end_is_none ws h = (
  (one_word (codes "end") (codes "bound") ws refl h).0,
  (one_word (codes "end") (codes "range") ws refl h).1,
)

-- a line that begins with `range` is no edit
range_is_none : (n : ℕ) (w v : List ℕ) (ws : List (List ℕ)) → w ≡ codes "range" → edit_in n (w ∷ v ∷ ws) ≡ Err (Refused.Word n)
range_is_none n w v [] same = subst (λ u. edit_in n (u ∷ v ∷ []) ≡ Err (Refused.Word n)) (sym same) refl
range_is_none n w v (x ∷ ws) same = subst (λ u. edit_in n (u ∷ v ∷ x ∷ ws) ≡ Err (Refused.Word n)) (sym same) refl

-- an edit is no beginning
edit_is_none : (n : ℕ) (ws : List (List ℕ)) (e : Edit) → edit_in n ws ≡ Ok e
    → (is_word (codes "bound") ws ≡ false) × (begins (codes "range") ws ≡ false)
edit_is_none n [] e h = (refl, refl)
edit_is_none n (w ∷ []) e h = absurd (cc h)
edit_is_none n (w ∷ v ∷ ws) e h = by (bytes_eq w (codes "range")) refl
  where
    by : (t : Bool) → bytes_eq w (codes "range") ≡ t
        → (is_word (codes "bound") (w ∷ v ∷ ws) ≡ false) × (begins (codes "range") (w ∷ v ∷ ws) ≡ false)
    by true same = let refused = range_is_none n w v ws (text_same w (codes "range") same) in absurd (cc (h, refused))
    by false apart = (refl, apart)

-- a line that begins no question
none_begun : (l : Line) (ls : List Line) → (is_bound l ≡ false) × (begins (codes "range") l.words ≡ false) → begun l ls ≡ []
none_begun l ls none =
    ap (λ t. if t then Ask (edits_in (before_first is_end ls)) ∷ [] else read_in (range_in l.number l.words)) none.0
    ∙ ap (λ t. read_in (if t then range_by l.number (datum_in (drop 1 l.words)) (aim_in l.number (after_datum (drop 1 l.words)))
    else Err (Refused.Word l.number))) none.1

-- ---- outside

abbrev pub outside : List Question → Draft
outside qs = record { questions = qs; pending = None }

abbrev pub inside : List Question → ℕ → List Edit → Draft
inside qs n es = record { questions = qs; pending = Some (record { line = n; edits = es }) }

-- a `bound` line opens a question
pub bound_taken : (after : ℕ) (qs : List Question) (l : Line) (ls : List Line) → is_bound l ≡ true
    → due_after after (outside qs) (l ∷ ls) ≡ due_after after (inside qs l.number []) ls
bound_taken after qs l ls h =
    let opens : opened None l ≡ Some l.number = ap (λ t. if t then Some l.number else (if is_end l then None else None)) h in
    same_due after (outside qs) (inside qs l.number []) l ls
    (ap (λ t. (if t then [] else faults_in (range_in l.number l.words)) ++ faults_after (opened None l) ls) h
    ∙ ap (λ o. faults_after o ls) opens)
    opens
    (ap (λ t. qs ++ ((if t then Ask (edits_in (before_first is_end ls)) ∷ [] else read_in (range_in l.number l.words))
    ++ questions_in ls)) h)

not_opened : (l : Line) → is_bound l ≡ false → opened None l ≡ None
not_opened l h = ap (λ t. if t then Some l.number else (if is_end l then None else None)) h ∙ by (is_end l) None
  where
    by : (t : Bool) (o : Option ℕ) → (if t then o else o) ≡ o
    by true o = refl
    by false o = refl

-- a `range` line is a question
pub range_taken : (after : ℕ) (qs : List Question) (l : Line) (ls : List Line) (q : Question) → is_bound l ≡ false
    → range_in l.number l.words ≡ Ok q → due_after after (outside qs) (l ∷ ls) ≡ due_after after (outside (qs ++ q ∷ [])) ls
range_taken after qs l ls q h is =
    let opens = not_opened l h in
    same_due after (outside qs) (outside (qs ++ q ∷ [])) l ls
    (ap (λ t. (if t then [] else faults_in (range_in l.number l.words)) ++ faults_after (opened None l) ls) h
    ∙ ap (λ r. faults_in r ++ faults_after (opened None l) ls) is
    ∙ ap (λ o. faults_after o ls) opens)
    opens
    (ap (λ t. qs ++ ((if t then Ask (edits_in (before_first is_end ls)) ∷ [] else read_in (range_in l.number l.words))
    ++ questions_in ls)) h
    ∙ ap (λ r. qs ++ (read_in r ++ questions_in ls)) is
    ∙ sym (append_assoc qs (q ∷ []) (questions_in ls)))

-- or it is refused
pub range_refused : (after : ℕ) (qs : List Question) (l : Line) (ls : List Line) (e : TextError) → is_bound l ≡ false
    → range_in l.number l.words ≡ Err e → due_after after (outside qs) (l ∷ ls) ≡ Err e
range_refused after qs l ls e h is =
    fault_due after e (faults_after (opened None l) ls) (outside qs) l ls
    (ap (λ t. (if t then [] else faults_in (range_in l.number l.words)) ++ faults_after (opened None l) ls) h
    ∙ ap (λ r. faults_in r ++ faults_after (opened None l) ls) is)

-- ---- inside

-- the end closes the question
pub end_taken : (after : ℕ) (qs : List Question) (n : ℕ) (es : List Edit) (l : Line) (ls : List Line) → is_end l ≡ true
    → due_after after (inside qs n es) (l ∷ ls) ≡ due_after after (outside (qs ++ Ask es ∷ [])) ls
end_taken after qs n es l ls h =
    let none = end_is_none l.words h in
    let opens : opened (Some n) l ≡ None =
    ap (λ t. if t then Some l.number else (if is_end l then None else Some n)) none.0 ∙ ap (λ t. if t then None else Some n) h in
    same_due after (inside qs n es) (outside (qs ++ Ask es ∷ [])) l ls
    (ap (λ t. (if t then [] else faults_in (edit_in l.number l.words)) ++ faults_after (opened (Some n) l) ls) h
    ∙ ap (λ o. faults_after o ls) opens)
    opens
    (ap (λ ks. qs ++ Ask (es ++ edits_in ks) ∷ (begun l ls ++ questions_in ls)) (before_end l ls h)
    ∙ ap (λ k. qs ++ Ask k ∷ (begun l ls ++ questions_in ls)) (append-nil es)
    ∙ ap (λ k. qs ++ Ask es ∷ (k ++ questions_in ls)) (none_begun l ls none)
    ∙ sym (append_assoc qs (Ask es ∷ []) (questions_in ls)))

-- an edit is one more
pub edit_taken : (after : ℕ) (qs : List Question) (n : ℕ) (es : List Edit) (l : Line) (ls : List Line) (e : Edit) → is_end l ≡ false
    → edit_in l.number l.words ≡ Ok e → due_after after (inside qs n es) (l ∷ ls) ≡ due_after after (inside qs n (es ++ e ∷ [])) ls
edit_taken after qs n es l ls e h is =
    let none = edit_is_none l.number l.words e is in
    let opens : opened (Some n) l ≡ Some n =
    ap (λ t. if t then Some l.number else (if is_end l then None else Some n)) none.0 ∙ ap (λ t. if t then None else Some n) h in
    same_due after (inside qs n es) (inside qs n (es ++ e ∷ [])) l ls
    (ap (λ t. (if t then [] else faults_in (edit_in l.number l.words)) ++ faults_after (opened (Some n) l) ls) h
    ∙ ap (λ r. faults_in r ++ faults_after (opened (Some n) l) ls) is
    ∙ ap (λ o. faults_after o ls) opens)
    opens
    (ap (λ ks. qs ++ Ask (es ++ edits_in ks) ∷ (begun l ls ++ questions_in ls)) (before_others l ls h)
    ∙ ap (λ r. qs ++ Ask (es ++ (read_in r ++ edits_in (before_first is_end ls))) ∷ (begun l ls ++ questions_in ls)) is
    ∙ ap (λ k. qs ++ Ask k ∷ (begun l ls ++ questions_in ls)) (sym (append_assoc es (e ∷ []) (edits_in (before_first is_end ls))))
    ∙ ap (λ k. qs ++ Ask ((es ++ e ∷ []) ++ edits_in (before_first is_end ls)) ∷ (k ++ questions_in ls)) (none_begun l ls none))

-- or it is refused
pub edit_refused : (after : ℕ) (qs : List Question) (n : ℕ) (es : List Edit) (l : Line) (ls : List Line) (e : TextError) → is_end l ≡ false
    → edit_in l.number l.words ≡ Err e → due_after after (inside qs n es) (l ∷ ls) ≡ Err e
edit_refused after qs n es l ls e h is =
    fault_due after e (faults_after (opened (Some n) l) ls) (inside qs n es) l ls
    (ap (λ t. (if t then [] else faults_in (edit_in l.number l.words)) ++ faults_after (opened (Some n) l) ls) h
    ∙ ap (λ r. faults_in r ++ faults_after (opened (Some n) l) ls) is)
