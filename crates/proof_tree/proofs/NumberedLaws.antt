-- The first answer among numbered elements, and passes over them that count the elements.
use Rattle.std.specs.Prelude.{◌≡◌, ℕ, suc, ◌+◌, List, [], ◌∷◌, ◌++◌, length, Option, None, Some, Ok, Err}
use Rattle.std.specs.Option.{option_or}
use Rattle.std.proofs.Common.{refl, arith, ap, sym, ◌∙◌}
use Rattle.std.proofs.lemmas.List.{length-append}
use Rattle.proof_tree.specs.Trees.{first_from}
use Rattle.proof_tree.specs.Internal.Numbered.{next_or, passed_over}

option_or_assoc : {A : Type 0} (a b c : Option A) → option_or (option_or a b) c ≡ option_or a (option_or b c)
option_or_assoc None b c = refl
option_or_assoc (Some x) b c = refl

-- over two lists, one after the other
first_append : {A B : Type 0} (f : ℕ → A → Option B) (k : ℕ) (xs ys : List A)
    → first_from f k (xs ++ ys) ≡ option_or (first_from f k xs) (first_from f (k + length xs) ys)
first_append f k [] ys = let e : k ≡ k + 0 = omega arith in ap (λ n. first_from f n ys) e
first_append f k (x ∷ xs) ys =
    let e : k + 1 + length xs ≡ k + suc (length xs) = omega arith in
    ap (option_or (f k x)) (first_append f (k + 1) xs ys ∙ ap (λ n. option_or (first_from f (k + 1) xs) (first_from f n ys)) e)
    ∙ sym (option_or_assoc (f k x) (first_from f (k + 1) xs) (first_from f (k + suc (length xs)) ys))

-- ---- a pass over an element and two lists after it

-- an answer of the first list ends the pass
pub pass_left : {A B : Type 0} (f : ℕ → A → Option B) (k : ℕ) (x : A) (xs ys : List A) (e : B) → f k x ≡ None
    → passed_over f (k + 1) xs ≡ Err e → passed_over f k (x ∷ (xs ++ ys)) ≡ Err e
pass_left {B = B} f k x xs ys e is left = rw (is, first_append f (k + 1) xs ys) (by (first_from f (k + 1) xs) refl left)
  where
    by : (o : Option B) → first_from f (k + 1) xs ≡ o → next_or (k + 1 + length xs) o ≡ Err e
        → next_or (k + suc (length (xs ++ ys))) (option_or o (first_from f (k + 1 + length xs) ys)) ≡ Err e
    by None g h = absurd cc
    by (Some x) g h = let same : x ≡ e = cc in ap Err same

-- with none in the first list, the pass goes on to the second
pub pass_right : {A B : Type 0} (f : ℕ → A → Option B) (k : ℕ) (x : A) (xs ys : List A) (n : ℕ) → f k x ≡ None
    → passed_over f (k + 1) xs ≡ Ok n → passed_over f k (x ∷ (xs ++ ys)) ≡ passed_over f n ys
pass_right {B = B} f k x xs ys n is left = rw (is, first_append f (k + 1) xs ys) (by (first_from f (k + 1) xs) refl left)
  where
    by : (o : Option B) → first_from f (k + 1) xs ≡ o → next_or (k + 1 + length xs) o ≡ Ok n
        → next_or (k + suc (length (xs ++ ys))) (option_or o (first_from f (k + 1 + length xs) ys)) ≡ passed_over f n ys
    by None g h =
        let same : k + 1 + length xs ≡ n = cc in
        let size : k + suc (length (xs ++ ys)) ≡ n + length ys = omega (arith, length-append xs ys) in
        ap (λ i. next_or i (first_from f (k + 1 + length xs) ys)) size ∙ ap (λ i. next_or (n + length ys) (first_from f i ys)) same
    by (Some x) g h = absurd cc

-- ---- the result of a pass

-- the number after a pass
pub pass_count : {A B : Type 0} (f : ℕ → A → Option B) (k : ℕ) (xs : List A) (n : ℕ) → passed_over f k xs ≡ Ok n → n ≡ k + length xs
pass_count {B = B} f k xs n e = by (first_from f k xs) refl e
  where
    by : (o : Option B) → first_from f k xs ≡ o → next_or (k + length xs) o ≡ Ok n → n ≡ k + length xs
    by None g h = cc
    by (Some x) g h = absurd cc

-- it answers the first answer
pub pass_none : {A B : Type 0} (f : ℕ → A → Option B) (k : ℕ) (xs : List A) (n : ℕ) → passed_over f k xs ≡ Ok n → first_from f k xs ≡ None
pass_none {B = B} f k xs n e = by (first_from f k xs) refl e
  where
    by : (o : Option B) → first_from f k xs ≡ o → next_or (k + length xs) o ≡ Ok n → o ≡ None
    by None g h = refl
    by (Some x) g h = absurd cc

pub pass_some : {A B : Type 0} (f : ℕ → A → Option B) (k : ℕ) (xs : List A) (x : B) → passed_over f k xs ≡ Err x
    → first_from f k xs ≡ Some x
pass_some {B = B} f k xs x e = by (first_from f k xs) refl e
  where
    by : (o : Option B) → first_from f k xs ≡ o → next_or (k + length xs) o ≡ Err x → o ≡ Some x
    by None g h = absurd cc
    by (Some y) g h = cc
