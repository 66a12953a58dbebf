-- Whether a `bound` question is open after some lines, line by line.
use Rattle.std.specs.Prelude.{◌≡◌, ℕ, ◌+◌, ◌<◌, ◌≤◌, ◌==◌, Bool, true, false, cond, ◌||◌, if◌then◌else◌, Option, None, Some}
use Rattle.std.specs.Prelude.{option_and_then, List, [], ◌∷◌, ◌++◌, length, flat_map, filter, map, drop, refl}
use Rattle.std.specs.List.{slice_split}
use Rattle.std.proofs.Common.{ap, sym, subst, ◌∙◌, arith, get_or, Bor, Global, Vec}
use Rattle.std.proofs.lemmas.List.{append-nil, append_assoc, at_drop_more}
use Rattle.ip_defs.specs.Lists.{when}
use Rattle.mps_defs.specs.Records.{is_line_end}
use Rattle.mps_defs.specs.Lists.{where_true, last_of, after_those}
use Rattle.ip_defs.proofs.ListLaws.{filter-append}
use Rattle.mps_defs.proofs.ListLaws.{last_of-add}
use Rattle.question_text.specs.Lines.{Line, is_end, line_after, lines_of, due}
use Rattle.question_text.specs.QuestionFiles.{is_bound, open_line, line_faults, question_faults, questions_in, unended}
use Rattle.question_text.specs.Internal.Asking.{opened, open_after, faults_after, due_after, IsKept, IsPendingKept, IsReady}
use Rattle.question_text.specs.declared.errors.TextError.TheVariants as Refused
use Rattle.question_text.specs.declared.asking.Draft.{Draft}
use Rattle.question_text.specs.declared.asking.Pending.{Pending}
use Rattle.question_text.proofs.LineLaws.{lines_numbered, read_line}

abbrev turns : Line → Bool
turns l = is_bound l || is_end l

abbrev opens : Line → Option ℕ
opens l = where_true (is_bound l) l.number

-- one more line opens a question, ends it, or leaves it as it is
pub open_more : (before : List Line) (l : Line) → open_line (before ++ l ∷ []) ≡ opened (open_line before) l
open_more before l =
    ap (λ ls. option_and_then opens (last_of ls)) (filter-append turns before (l ∷ [])) ∙ by (is_bound l) (is_end l) refl refl
  where
    last : option_and_then opens (last_of (filter turns before ++ l ∷ [])) ≡ opens l
    last = ap (option_and_then opens) (last_of-add (filter turns before) l)

    by : (b e : Bool) → is_bound l ≡ b → is_end l ≡ e
        → option_and_then opens (last_of (filter turns before ++ cond (b || e) (l ∷ []) []))
        ≡ (if b then Some l.number else (if e then None else open_line before))
    by true e f g = last ∙ ap (λ t. where_true t l.number) f
    by false true f g = last ∙ ap (λ t. where_true t l.number) f
    by false false f g = ap (λ ls. option_and_then opens (last_of ls)) (append-nil (filter turns before))

pub open_lines : (before ls : List Line) → open_line (before ++ ls) ≡ open_after (open_line before) ls
open_lines before [] = ap open_line (append-nil before)
open_lines before (l ∷ ls) =
    ap open_line (sym (append_assoc before (l ∷ []) ls)) ∙ open_lines (before ++ l ∷ []) ls ∙ ap (λ o. open_after o ls) (open_more before l)

-- the faults of lines after others
pub faults_are : (before ls : List Line) → flat_map (λ p. line_faults p.0 p.1) (after_those before ls) ≡ faults_after (open_line before) ls
faults_are before [] = refl
faults_are before (l ∷ ls) =
    ap (λ fs. line_faults before l ++ fs)
    (faults_are (before ++ l ∷ []) ls ∙ ap (λ o. faults_after o ls) (open_more before l))

-- ---- a whole text

abbrev pub no_question : Draft
no_question = record { questions = []; pending = None }

-- what is kept of the lines so far is kept before a later line
kept_later : (m n : ℕ) (d : Draft) → m ≤ n → IsKept m d → IsKept n d
kept_later m n d le h = record { questions = h.questions; pending = by d.pending h.pending }
  where
    by : (o : Option Pending) → IsPendingKept m o → IsPendingKept n o
    by None k = tt
    by (Some p) k = (omega (arith, le, k.0), k.1)

pub ready_now : (d : Draft) (l : Line) (ls : List Line) → IsReady d (l ∷ ls) → IsKept l.number d
ready_now d l ls (n, kept, later) = kept_later n l.number d later.0 kept

-- among the lines that are left, an item is the next one
pub ready_at : (d : Draft) (items : List (ℕ × Vec (Bor (List ℕ)) Global)) (i : ℕ) (item x : ℕ × Vec (Bor (List ℕ)) Global)
    → i < length items → item ≡ get_or items i x → IsReady d (map read_line (drop i items))
    → IsReady d (read_line item ∷ map read_line (drop (i + 1) items))
ready_at d items i item x within is h =
    subst (λ p. IsReady d (read_line p ∷ map read_line (drop (i + 1) items))) (sym is)
    (subst (IsReady d) (at_drop_more (map read_line) items i x within) h)

pub ready_next : (old new : Draft) (l : Line) (ls : List Line) → IsReady old (l ∷ ls) → IsKept (l.number + 1) new → IsReady new ls
ready_next old new l ls (n, before, later) kept = (l.number + 1, kept, later.1)

pub ready_first : (text : List ℕ) → IsReady no_question (lines_of text)
ready_first text = (1, record { questions = tt; pending = tt }, lines_numbered 1 (slice_split is_line_end text))

-- the answer that is due for a text, by its lines
pub text_due : (text : List ℕ)
    → due_after (line_after text) no_question (lines_of text) ≡ due (question_faults text) (questions_in (lines_of text))
text_due text =
    let ls = lines_of text in
    let none = when (length (questions_in ls) == 0) (Refused.Word (line_after text)) in
    ap (λ fs. due (fs ++ none ++ unended (open_after None ls)) (questions_in ls)) (sym (faults_are [] ls))
    ∙ ap (λ o. due (flat_map (λ p. line_faults p.0 p.1) (after_those [] ls) ++ none ++ unended o) (questions_in ls))
    (sym (open_lines [] ls))
