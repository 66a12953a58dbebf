-- Answers: a refusal is handed on, and the first fault is the answer.
use Rattle.std.specs.Prelude.{◌≡◌, ℕ, Bool, true, false, if◌then◌else◌, List, [], ◌∷◌, ◌++◌, Result, Ok, Err, refl}
use Rattle.std.specs.Str.{IsUtf8, is_utf8}
use Rattle.std.proofs.Common.{ap, sym, subst}
use Rattle.std.proofs.lemmas.Str.{IsUtf8-from_is_utf8, is_utf8-from_IsUtf8}
use Rattle.question_text.specs.Lines.{Answers, due}
use Rattle.question_text.specs.declared.errors.TextError.{TextError}
use Rattle.question_text.specs.declared.errors.TextError.TheVariants as Refused

-- a refusal of a part is that of the whole
pub refused_by : {A B : Type 0} (part : Result A TextError) (whole : Result B TextError) (e : TextError) → Answers part (Err e)
    → (part ≡ Err e → whole ≡ Err e) → Answers whole (Err e)
refused_by part whole (Refused.Word n) h f = f h
refused_by part whole (Refused.Number n) h f = f h
refused_by part whole (Refused.Unended n) h f = f h
refused_by part whole (Refused.Direction n) h f = f h
refused_by part whole (Refused.Interval n) h f = f h
refused_by part whole Refused.Memory h f = tt

-- being out of memory is free
pub out_of_memory : {A : Type 0} (wanted : Result A TextError) (e : TextError) → e ≡ Refused.Memory → Answers wanted (Err e)
out_of_memory wanted (Refused.Word n) h = cc h
out_of_memory wanted (Refused.Number n) h = cc h
out_of_memory wanted (Refused.Unended n) h = cc h
out_of_memory wanted (Refused.Direction n) h = cc h
out_of_memory wanted (Refused.Interval n) h = cc h
out_of_memory wanted Refused.Memory h = tt

-- a first fault is the answer, whatever follows
pub fault_first : {A B : Type 0} (fs gs : List TextError) (x : A) (y : B) (e : TextError) → due fs x ≡ Err e → due (fs ++ gs) y ≡ Err e
fault_first [] gs x y e h = absurd (cc h)
fault_first (f ∷ fs) gs x y e h = let same : f ≡ e = cc h in ap Err same

pub no_fault : {A : Type 0} (fs : List TextError) (x y : A) → due fs x ≡ Ok y → (fs ≡ []) × (x ≡ y)
no_fault [] x y h = (refl, cc h)
no_fault (f ∷ fs) x y h = absurd (cc h)

-- a text that is UTF-8 has the answer of its characters, and another is refused
pub utf8_answer : {A : Type 0} (text : List ℕ) (wanted : Result A TextError) (r : Result A TextError) → IsUtf8 text → Answers wanted r
    → Answers (if is_utf8 text then wanted else Err (Refused.Word 0)) r
utf8_answer text wanted r is h = subst (λ t. Answers (if t then wanted else Err (Refused.Word 0)) r) (sym (is_utf8-from_IsUtf8 text is)) h

pub no_utf8 : {A : Type 0} (text : List ℕ) (wanted : Result A TextError) → (IsUtf8 text → ⊥)
    → (if is_utf8 text then wanted else Err (Refused.Word 0)) ≡ Err (Refused.Word 0)
no_utf8 text wanted none = by (is_utf8 text) refl
  where
    by : (t : Bool) → is_utf8 text ≡ t → (if t then wanted else Err (Refused.Word 0)) ≡ Err (Refused.Word 0)
    by true e = absurd (none (IsUtf8-from_is_utf8 text e))
    by false e = refl
