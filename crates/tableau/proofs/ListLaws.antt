-- Lists made by their places, and lists of answers.
use Rattle.std.specs.Prelude.{◌≡◌, ℕ, zero, suc, ◌+◌, ◌<◌, ◌≤◌, List, [], ◌∷◌, ◌++◌, length, slice_index_or, Result, Ok, Err}
use Rattle.std.proofs.Common.{arith, refl, ap, sym, ◌∙◌, ◌⊎◌, inl, inr}
use Rattle.std.proofs.Math.Nat.{eq-or-lt_of_le}
use Rattle.frac128.specs.declared.fraction.Wide.{Wide}
use Rattle.frac128.specs.Fractions.{Fraction}
use Rattle.tableau.specs.Numbers.{and_then, after_steps}
use Rattle.tableau.specs.Pivots.{all_below}
use Rattle.tableau.specs.Nodes.{listed}

-- ---- listed
pub listed-at : {A : Type 0} (n : ℕ) (f : ℕ → A) (i : ℕ) (d : A) → i < n → slice_index_or (listed n f) i d ≡ f i
listed-at zero f i d l = absurd (omega arith)
listed-at (suc n) f zero d l = refl
listed-at (suc n) f (suc i) d l = listed-at n (λ k. f (suc k)) i d (omega arith)

pub length-listed : {A : Type 0} (n : ℕ) (f : ℕ → A) → length (listed n f) ≡ n
length-listed zero f = refl
length-listed (suc n) f = ap suc (length-listed n (λ k. f (suc k)))

-- one more at the end
listed_suc : {A : Type 0} (n : ℕ) (f : ℕ → A) → listed (suc n) f ≡ listed n f ++ f n ∷ []
listed_suc zero f = refl
listed_suc (suc n) f = ap (λ xs. f 0 ∷ xs) (listed_suc n (λ k. f (suc k)))

pub listed_more : {A : Type 0} (n : ℕ) (f : ℕ → A) → listed (n + 1) f ≡ listed n f ++ f n ∷ []
listed_more n f = let e : n + 1 ≡ suc n = omega arith in ap (λ k. listed k f) e ∙ listed_suc n f

-- a list with the right elements
pub listed_is : {A : Type 0} (n : ℕ) (f : ℕ → A) (xs : List A) (d : A) → length xs ≡ n → ((i : ℕ) → i < n → slice_index_or xs i d ≡ f i) →
    xs ≡ listed n f
listed_is zero f [] d e h = refl
listed_is zero f (x ∷ xs) d e h = absurd (omega arith)
listed_is (suc n) f [] d e h = absurd (omega arith)
listed_is (suc n) f (x ∷ xs) d e h =
    ap (λ z. z ∷ xs) (h 0 (omega arith)) ∙ ap (λ zs. f 0 ∷ zs) (listed_is n (λ k. f (suc k)) xs d (omega arith)
    (λ i l. h (suc i) (omega arith)))

-- ---- answers
pub all_below-ok : {A : Type 0} (n : ℕ) (f : ℕ → Result A Wide) (xs : List A) (d : A) → length xs ≡ n →
    ((i : ℕ) → i < n → f i ≡ Ok (slice_index_or xs i d)) → all_below n f ≡ Ok xs
all_below-ok zero f [] d e h = refl
all_below-ok zero f (x ∷ xs) d e h = absurd (omega arith)
all_below-ok (suc n) f [] d e h = absurd (omega arith)
all_below-ok {A = A} (suc n) f (x ∷ xs) d e h =
    ap (λ (o : Result A Wide). and_then o (λ y. and_then (all_below n (λ k. f (suc k))) (λ ys. Ok (y ∷ ys)))) (h 0 (omega arith))
    ∙ ap (λ (o : Result (List A) Wide). and_then o (λ ys. Ok (x ∷ ys))) (all_below-ok n (λ k. f (suc k)) xs d (omega arith)
    (λ i l. h (suc i) (omega arith)))

then_wide : {A B : Type 0} (o : Result A Wide) (f : A → Result B Wide) → ((x : A) → f x ≡ Err (record {})) → and_then o f ≡ Err (record {})
then_wide (Ok x) f h = h x
then_wide (Err e) f h = refl

pub all_below-wide : {A : Type 0} (n : ℕ) (f : ℕ → Result A Wide) (i : ℕ) → i < n → f i ≡ Err (record {}) → all_below n f ≡ Err (record {})
all_below-wide zero f i l e = absurd (omega arith)
all_below-wide {A = A} (suc n) f zero l e = ap (λ (o : Result A Wide). and_then o
    (λ y. and_then (all_below n (λ k. f (suc k))) (λ ys. Ok (y ∷ ys)))) e
all_below-wide {A = A} (suc n) f (suc i) l e =
    then_wide (f 0) (λ y. and_then (all_below n (λ k. f (suc k))) (λ ys. Ok (y ∷ ys)))
    (λ y. ap (λ (o : Result (List A) Wide). and_then o (λ ys. Ok (y ∷ ys))) (all_below-wide n (λ k. f (suc k)) i (omega arith) e))

-- the answers of a list of answers
pub all_below-is : {A : Type 0} (n : ℕ) (f : ℕ → Result A Wide) (xs : List A) (d : A) → all_below n f ≡ Ok xs → (length xs ≡ n)
    × ((i : ℕ) → i < n → f i ≡ Ok (slice_index_or xs i d))
all_below-is zero f [] d e = (refl, λ i l. absurd (omega arith))
all_below-is zero f (x ∷ xs) d e = absurd cc
all_below-is {A = A} (suc n) f xs d e = by (f 0) (all_below n (λ k. f (suc k))) refl refl e (all_below-is n (λ k. f (suc k)))
  where
    by : (o : Result A Wide) (p : Result (List A) Wide) → f 0 ≡ o → all_below n (λ k. f (suc k)) ≡ p →
        and_then o (λ y. and_then p (λ ys. Ok (y ∷ ys))) ≡ Ok xs
        → ((ys : List A) (d : A) → all_below n (λ k. f (suc k)) ≡ Ok ys → (length ys ≡ n)
        × ((i : ℕ) → i < n → f (suc i) ≡ Ok (slice_index_or ys i d)))
        → (length xs ≡ suc n) × ((i : ℕ) → i < suc n → f i ≡ Ok (slice_index_or xs i d))
    by (Err w) p g h k ih = absurd cc
    by (Ok y) (Err w) g h k ih = absurd cc
    by (Ok y) (Ok ys) g h k ih =
        let is : y ∷ ys ≡ xs = cc in
        let rest = ih ys d h in
        (ap length (sym is) ∙ ap suc rest.0, λ i l. each i l rest.1 is)
      where
        each : (i : ℕ) → i < suc n → ((i : ℕ) → i < n → f (suc i) ≡ Ok (slice_index_or ys i d)) → y ∷ ys ≡ xs →
            f i ≡ Ok (slice_index_or xs i d)
        each zero l rest is = g ∙ ap (λ (zs : List A). Ok (slice_index_or zs 0 d)) is
        each (suc i) l rest is = rest i (omega arith) ∙ ap (λ (zs : List A). Ok (slice_index_or zs (suc i) d)) is

pub all_below-same : {A : Type 0} (n : ℕ) (f g : ℕ → Result A Wide) → ((i : ℕ) → i < n → f i ≡ g i) → all_below n f ≡ all_below n g
all_below-same zero f g h = refl
all_below-same {A = A} (suc n) f g h =
    ap (λ (o : Result A Wide). and_then o (λ y. and_then (all_below n (λ k. f (suc k))) (λ ys. Ok (y ∷ ys)))) (h 0 (omega arith))
    ∙ ap (λ (p : Result (List A) Wide). and_then (g 0) (λ y. and_then p (λ ys. Ok (y ∷ ys))))
    (all_below-same n (λ k. f (suc k)) (λ k. g (suc k)) (λ i l. h (suc i) (omega arith)))

-- ---- steps
-- what was wide stays so
pub after_steps-wide : (f : ℕ → Fraction → Result Fraction Wide) (x : Fraction) (k n : ℕ) → after_steps f x k ≡ Err (record {}) → k ≤ n →
    after_steps f x n ≡ Err (record {})
after_steps-wide f x zero zero e l = e
after_steps-wide f x (suc k) zero e l = absurd (omega arith)
after_steps-wide f x k (suc n) e l = by (eq-or-lt_of_le l) (λ m. after_steps-wide f x k n e m)
  where
    by : (k ≡ suc n) ⊎ (k < suc n) → (k ≤ n → after_steps f x n ≡ Err (record {})) → after_steps f x (suc n) ≡ Err (record {})
    by (inl m) before = ap (after_steps f x) (sym m) ∙ e
    by (inr m) before = ap (λ (o : Result Fraction Wide). and_then o (f n)) (before (omega arith))

-- one more step
pub after_steps-next : (f : ℕ → Fraction → Result Fraction Wide) (x y : Fraction) (k : ℕ) (r : Result Fraction Wide) →
    Ok y ≡ after_steps f x k → r ≡ f k y → r ≡ after_steps f x (k + 1)
after_steps-next f x y k r e h = let same : k + 1 ≡ suc k = omega arith in h ∙ ap (λ (o : Result Fraction Wide). and_then o (f k)) e
    ∙ ap (after_steps f x) (sym same)

-- all wide results are the same
pub same_wide : (e : Wide) → e ≡ record {}
same_wide e = refl

-- a wide answer
pub is_wide : {A : Type 0} (o : Result A Wide) (e : Wide) → o ≡ Err e → o ≡ Err (record {})
is_wide {A = A} o e h = h ∙ ap (λ (w : Wide). Err w) (same_wide e)

-- an element pushed at the end
pub listed-push : {A : Type 0} (n : ℕ) (f : ℕ → A) (x : A) (xs ys : List A) → ys ≡ xs ++ x ∷ [] → xs ≡ listed n f → x ≡ f n →
    ys ≡ listed (n + 1) f
listed-push n f x xs ys pushed is at = pushed ∙ ap (λ zs. zs ++ x ∷ []) is ∙ ap (λ z. listed n f ++ z ∷ []) at ∙ sym (listed_more n f)
