-- The first index at which a function has an answer, one more at a time.
use Rattle.std.specs.Prelude.{◌≡◌, ℕ, zero, suc, ◌+◌, ◌<◌, ◌==◌, Bool, true, false, Option, Some, None}
use Rattle.std.proofs.Common.{arith, refl, ap, sym, ◌∙◌, add-one}
use Rattle.std.proofs.lemmas.Bool.{eqb-true, eqb-false}
use Rattle.ip_defs.specs.Lists.{first}
use Rattle.std.specs.Option.{option_or}

-- no answer at one more index
pub none_more : {A : Type 0} (f : ℕ → Option A) (i : ℕ) → first f i ≡ None → f i ≡ None → first f (i + 1) ≡ None
none_more f i before here = rw add-one (ap (λ o. option_or o (f i)) before ∙ here)

-- the answer at an index with no answer before it is the first answer
pub first_here : {A : Type 0} (f : ℕ → Option A) (n i : ℕ) (x : A) → first f i ≡ None → f i ≡ Some x → i < n → first f n ≡ Some x
first_here f zero i x before here l = absurd (omega arith)
first_here f (suc n) i x before here l = by (i == n) refl (λ h. first_here f n i x before here h)
  where
    by : (t : Bool) → (i == n) ≡ t → (i < n → first f n ≡ Some x) → option_or (first f n) (f n) ≡ Some x
    by true e rest =
        let same : i ≡ n = eqb-true i n e in
        let none : first f n ≡ None = ap (first f) (sym same) ∙ before in
        let found : f n ≡ Some x = ap f (sym same) ∙ here in
        ap (λ o. option_or o (f n)) none ∙ found
    by false e rest =
        let apart = eqb-false i n e in
        ap (λ o. option_or o (f n)) (rest (omega arith))
