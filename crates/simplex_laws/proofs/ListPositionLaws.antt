-- Positions in a list: an element that meets a test has a position.
use Rattle.std.specs.Prelude.{◌≡◌, ◌≢◌, ℕ, zero, suc, ◌+◌, ◌<◌, not, Bool, true, false, cond, List, [], ◌∷◌, length, Some, None, nat_lt}
use Rattle.std.specs.List.{position, prefix_len}
use Rattle.std.proofs.Common.{arith, refl, ap, sym, ◌∙◌, get_or}

passes : {A : Type 0} (p : A → Bool) (xs : List A) (i : ℕ) (d : A) → i < length xs → p (get_or xs i d) ≡ true →
    prefix_len (λ x. not (p x)) xs < length xs
passes p [] i d l e = absurd (omega arith)
passes p (x ∷ xs) i d l e = by (p x) refl i l e (λ j m f. passes p xs j d m f)
  where
    by : (t : Bool) → p x ≡ t → (i : ℕ) → i < suc (length xs) → p (get_or (x ∷ xs) i d) ≡ true →
        ((j : ℕ) → j < length xs → p (get_or xs j d) ≡ true → prefix_len (λ x. not (p x)) xs < length xs) →
        cond (not t) (1 + prefix_len (λ x. not (p x)) xs) 0 < suc (length xs)
    by true f i l e ih = omega arith
    by false f zero l e ih = let q : false ≡ true = sym f ∙ e in absurd cc
    by false f (suc j) l e ih = let r = ih j (omega arith) e in omega arith

-- an element that meets a test has a position
pub found : {A : Type 0} (p : A → Bool) (xs : List A) (i : ℕ) (d : A) → i < length xs → p (get_or xs i d) ≡ true → position p xs ≢ None
found p xs i d l e h =
    let n = prefix_len (λ x. not (p x)) xs in
    let t : nat_lt n (length xs) ≡ true = (let r = passes p xs i d l e in grind arith) in
    let q : position p xs ≡ Some n = ap (λ t. cond t (Some n) None) t in
    absurd cc
