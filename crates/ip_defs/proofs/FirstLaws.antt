-- The first index at which a function has an answer.
use Rattle.std.specs.Prelude.{◌≡◌, ℕ, zero, suc, ◌<◌, ◌==◌, Bool, true, false, Option, Some, None}
use Rattle.std.proofs.Common.{refl, arith, sym, subst}
use Rattle.std.proofs.lemmas.Bool.{eqb-true, eqb-false}
use Rattle.ip_defs.specs.Lists.{first}
use Rattle.std.specs.Option.{option_or}

pub either_none : {A : Type 0} (a b : Option A) → option_or a b ≡ None → (a ≡ None) × (b ≡ None)
either_none None b e = (refl, e)
either_none (Some x) b e = absurd cc

pub none_of_both : {A : Type 0} (a b : Option A) → a ≡ None → b ≡ None → option_or a b ≡ None
none_of_both None b e f = f
none_of_both (Some x) b e f = absurd cc

-- no answer below n
pub first-none : {A : Type 0} (f : ℕ → Option A) (n : ℕ) → first f n ≡ None → (i : ℕ) → i < n → f i ≡ None
first-none f zero e i l = absurd (omega arith)
first-none f (suc n) e i l = by (either_none (first f n) (f n) e) (i == n) refl (λ p l. first-none f n p i l)
  where
    by : (first f n ≡ None) × (f n ≡ None) → (t : Bool) → (i == n) ≡ t → (first f n ≡ None → i < n → f i ≡ None) → f i ≡ None
    by p true g rest = subst (λ (k : ℕ). f k ≡ None) (sym (eqb-true i n g)) p.1
    by p false g rest = let other = eqb-false i n g in rest p.0 (omega arith)

pub none_first : {A : Type 0} (f : ℕ → Option A) (n : ℕ) → ((i : ℕ) → i < n → f i ≡ None) → first f n ≡ None
none_first f zero h = refl
none_first f (suc n) h = none_of_both (first f n) (f n) (none_first f n (λ i l. h i (omega arith))) (h n (omega arith))
