-- How parts of a line are taken one after the other, and the faults that are met.
use Rattle.std.specs.Prelude.{◌≡◌, Bool, true, false, List, [], ◌++◌, None, Some, Result, Ok, Err, refl}
use Rattle.std.proofs.Common.{ap, sym, ◌∙◌, subst, IsErr, IsErrAnd, inr, inl}
use Rattle.ip_defs.specs.Lists.{first_of, when}
use Rattle.mps_defs.specs.Lists.{where_true}
use Rattle.mps_defs.specs.declared.reading.MpsError.{MpsError}
use Rattle.mps_reader.specs.Internal.Taking.{IsDone}
use Rattle.std.proofs.lemmas.Bool.{true≢false}
use Rattle.mps_defs.proofs.ListLaws.{first_stays}

-- the first of two parts of a list, where the first part is there or not
pub met : {A : Type 0} (b : Bool) (x : A) (rest : List A) → b ≡ true → first_of (when b x ++ rest) ≡ Some x
met b x rest h = ap (λ k. first_of (when k x ++ rest)) h

pub not_met : {A : Type 0} (b : Bool) (x : A) (rest : List A) → b ≡ false → when b x ++ rest ≡ rest
not_met b x rest h = ap (λ k. when k x ++ rest) h

pub where_none : {A : Type 0} (b : Bool) (x : A) → where_true b x ≡ None → b ≡ false
where_none true x h = absurd (cc h)
where_none false x h = refl

pub where_some : {A : Type 0} (b : Bool) (x y : A) → where_true b x ≡ Some y → b ≡ true
where_some true x y h = refl
where_some false x y h = absurd (cc h)

-- `?` hands on an error as it is
pub passed_on : {A : Type 0} (r : Result A MpsError) (e : MpsError) (Gives : MpsError → Type 0) → IsErr r → IsErrAnd r Gives
    → ((x : MpsError) → Gives x → x ≡ e) → r ≡ Err e
passed_on (Ok x) e Gives is gives same = absurd (true≢false (sym is))
passed_on (Err x) e Gives is gives same = ap Err (same x gives)

-- an answer with a fault that is the first one
pub is_faulty : {A : Type 0} (faults : List MpsError) (P : A → Type 0) (r : Result A MpsError) (e : MpsError) → r ≡ Err e
    → first_of faults ≡ Some e → IsDone faults P r
is_faulty faults P r e is first = subst (IsDone faults P) (sym is) (inr first)

-- what is done under other names of its faults and of what holds then
pub IsDone_map : {A : Type 0} (faults same : List MpsError) (P Q : A → Type 0) (r : Result A MpsError) → faults ≡ same
    → ((x : A) → faults ≡ [] → P x → Q x) → IsDone faults P r → IsDone same Q r
IsDone_map faults same P Q (Ok x) is then done = (sym is ∙ done.0, then x done.0 done.1)
IsDone_map faults same P Q (Err e) is then (inl memory) = inl memory
IsDone_map faults same P Q (Err e) is then (inr first) = inr (ap first_of (sym is) ∙ first)

-- a fault of what comes first, where it stopped
pub stopped : {A B : Type 0} (faults more : List MpsError) (P : A → Type 0) (Q : B → Type 0) (r : Result B MpsError) (e : MpsError)
    → r ≡ Err e → IsDone faults P (Err e) → IsDone (faults ++ more) Q r
stopped faults more P Q r e is (inl memory) = subst (IsDone (faults ++ more) Q) (sym is) (inl memory)
stopped faults more P Q r e is (inr first) = subst (IsDone (faults ++ more) Q) (sym is) (inr (first_stays faults more e first ∙ first))
