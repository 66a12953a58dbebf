-- Edits in order: what is left of a list of edits gives the answer to all of them.
use Rattle.std.specs.Prelude.{◌≡◌, ℕ, zero, suc, ◌+◌, ◌≤◌, List, [], ◌∷◌, length, drop, Some, slice_get, Ok, Err}
use Rattle.std.proofs.Common.{arith, refl, ap, ◌∙◌}
use Rattle.std.proofs.lemmas.List.{drop_all}
use Rattle.ip_defs.specs.Limits.{IsWithinLimits}
use Rattle.ip_defs.specs.declared.programs.Parts.{Parts}
use Rattle.perturbation.specs.declared.edits.Edit.{Edit}
use Rattle.perturbation.specs.declared.edits.EditError.{EditError}
use Rattle.perturbation.specs.declared.edits.EditError.TheVariants as Refused
use Rattle.perturbation.specs.Edits.{edited, edited_by, edited_from, unless_refused, Answers}
use Rattle.perturbation.proofs.EditLaws.{edited_within}

-- after the first i edits of a list: the program, and the answer to the others is that to all
pub record AreMade (m : Parts) (es : List Edit) (i number : ℕ) (now : Parts) : Type 0 where
  pub counted : number ≡ i
  pub limits : IsWithinLimits now
  pub left : edited_by m es ≡ edited_from (number + 1) now (drop i es)

pub drop_at : {A : Type 0} (xs : List A) (i : ℕ) (x : A) → slice_get xs i ≡ Some x → drop i xs ≡ x ∷ drop (i + 1) xs
drop_at [] i x e = absurd cc
drop_at (y ∷ ys) zero x e = let same : y ≡ x = cc in ap (λ z. z ∷ ys) same
drop_at (y ∷ ys) (suc i) x e = drop_at ys i x e ∙ ap (λ k. x ∷ drop k (y ∷ ys)) (let next : suc (i + 1) ≡ suc i + 1 = omega arith in next)

pub none_made : (m : Parts) (es : List Edit) → IsWithinLimits m → AreMade m es 0 0 m
none_made m es limits = record { counted = refl; limits = limits; left = refl }

pub one_made : {m : Parts} {es : List Edit} {i number : ℕ} {now next : Parts} {e : Edit} → AreMade m es i number now
    → slice_get es i ≡ Some e
    → edited now (number + 1) e ≡ Ok next → AreMade m es (i + 1) (number + 1) next
one_made {es = es} {i = i} {number = number} {now = now} {next = next} {e = e} before at is = record {
  counted = let same = before.counted in omega arith;
  limits = edited_within now (number + 1) e next before.limits is;
  left = before.left ∙ ap (edited_from (number + 1) now) (drop_at es i e at)
      ∙ ap (λ r. unless_refused r (λ n. edited_from (number + 1 + 1) n (drop (i + 1) es))) is;
}

refused : (m : Parts) (es : List Edit) (i number : ℕ) (now : Parts) (e : Edit) (error : EditError) → AreMade m es i number now
    → slice_get es i ≡ Some e → edited now (number + 1) e ≡ Err error → edited_by m es ≡ Err error
refused m es i number now e error before at is = before.left ∙ ap (edited_from (number + 1) now) (drop_at es i e at)
    ∙ ap (λ r. unless_refused r (λ n. edited_from (number + 1 + 1) n (drop (i + 1) es))) is

pub one_refused : {m : Parts} {es : List Edit} {i number : ℕ} {now : Parts} {e : Edit} (error : EditError) → AreMade m es i number now
    → slice_get es i ≡ Some e → Answers (edited now (number + 1) e) (Err error) → Answers (edited_by m es) (Err error)
one_refused {m = m} {es = es} {i = i} {number = number} {now = now} {e = e} (Refused.UnknownName k) before at is =
    refused m es i number now e (Refused.UnknownName k) before at is
one_refused {m = m} {es = es} {i = i} {number = number} {now = now} {e = e} (Refused.OffGrid k) before at is =
    refused m es i number now e (Refused.OffGrid k) before at is
one_refused {m = m} {es = es} {i = i} {number = number} {now = now} {e = e} (Refused.Limit k) before at is =
    refused m es i number now e (Refused.Limit k) before at is
one_refused {m = m} {es = es} {i = i} {number = number} {now = now} {e = e} (Refused.NoSide k) before at is =
    refused m es i number now e (Refused.NoSide k) before at is
one_refused Refused.Memory before at is = tt

pub all_made : (m : Parts) (es : List Edit) (i number : ℕ) (now : Parts) → AreMade m es i number now → length es ≤ i
    → edited_by m es ≡ Ok now
all_made m es i number now before past = before.left ∙ ap (edited_from (number + 1) now) (drop_all i es past)
