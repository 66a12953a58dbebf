-- Lists: properties of each element, concatenated lists, and options that are none.
use Rattle.std.specs.Prelude.{◌≡◌, ℕ, zero, suc, ◌+◌, Bool, true, false, cond, List, [], ◌∷◌, ◌++◌, length, filter, find, Option, Some}
use Rattle.std.specs.Prelude.{None, option_map, slice_get}
use Rattle.std.specs.List.{enumerate_from}
use Rattle.std.specs.Option.{option_or}
use Rattle.std.proofs.Common.{refl, ap, ◌∙◌, subst, arith}
use Rattle.ip_defs.specs.Lists.{Each, first_of, when}

-- ---- each element

pub each_weaker : {A : Type 0} (P Q : A → Type 0) (xs : List A) → ((x : A) → P x → Q x) → Each P xs → Each Q xs
each_weaker P Q [] h all = tt
each_weaker P Q (x ∷ xs) h all = (h x all.0, each_weaker P Q xs h all.1)

pub each_left : {A : Type 0} (P : A → Type 0) (xs ys : List A) → Each P (xs ++ ys) → Each P xs
each_left P [] ys all = tt
each_left P (x ∷ xs) ys all = (all.0, each_left P xs ys all.1)

pub each_right : {A : Type 0} (P : A → Type 0) (xs ys : List A) → Each P (xs ++ ys) → Each P ys
each_right P [] ys all = all
each_right P (x ∷ xs) ys all = each_right P xs ys all.1

pub each_append : {A : Type 0} (P : A → Type 0) (xs ys : List A) → Each P xs → Each P ys → Each P (xs ++ ys)
each_append P [] ys h k = k
each_append P (x ∷ xs) ys h k = (h.0, each_append P xs ys h.1 k)

pub each_get : {A : Type 0} (P : A → Type 0) (xs : List A) (i : ℕ) (x : A) → Each P xs → slice_get xs i ≡ Some x → P x
each_get P [] i x all at = absurd cc
each_get P (y ∷ ys) zero x all at = let same : y ≡ x = cc in subst P same all.0
each_get P (y ∷ ys) (suc i) x all at = each_get P ys i x all.1 at

pub each_numbered : {A : Type 0} (P : A → Type 0) (n : ℕ) (xs : List A) → Each P xs → Each (λ p. P p.1) (enumerate_from n xs)
each_numbered P n [] all = tt
each_numbered P n (x ∷ xs) all = (all.0, each_numbered P (n + 1) xs all.1)

-- ---- concatenated lists

-- both parts of an empty list are empty
pub none_append : {A : Type 0} (xs ys : List A) → xs ++ ys ≡ [] → (xs ≡ []) × (ys ≡ [])
none_append [] ys e = (refl, e)
none_append (x ∷ xs) ys e = absurd cc

-- a test that selects nothing is false
pub none_when : {A : Type 0} (t : Bool) (x : A) → when t x ≡ [] → t ≡ false
none_when true x e = absurd cc
none_when false x e = refl

-- a list without a first element is empty
pub no_first : {A : Type 0} (xs : List A) → first_of xs ≡ None → xs ≡ []
no_first [] e = refl
no_first (x ∷ xs) e = absurd cc

pub filter-append : {A : Type 0} (test : A → Bool) (xs ys : List A) → filter test (xs ++ ys) ≡ filter test xs ++ filter test ys
filter-append test [] ys = refl
filter-append test (x ∷ xs) ys =
    let rest = filter-append test xs ys in
    let P : Bool → Type 0 = λ b. cond b (x ∷ filter test (xs ++ ys)) (filter test (xs ++ ys))
    ≡ cond b (x ∷ filter test xs) (filter test xs) ++ filter test ys in
    elim (test x) as P [ true ↦ ap (λ l. x ∷ l) rest | false ↦ rest ]

pub find-append : {A : Type 0} (test : A → Bool) (xs ys : List A) → find test (xs ++ ys) ≡ option_or (find test xs) (find test ys)
find-append test [] ys = refl
find-append test (x ∷ xs) ys =
    let rest = find-append test xs ys in
    let P : Bool → Type 0 = λ b. cond b (Some x) (find test (xs ++ ys)) ≡ option_or (cond b (Some x) (find test xs)) (find test ys) in
    elim (test x) as P [ true ↦ refl | false ↦ rest ]

pub enumerate-append : {A : Type 0} (n : ℕ) (xs ys : List A) → enumerate_from n (xs ++ ys) ≡ enumerate_from n xs
    ++ enumerate_from (n + length xs) ys
enumerate-append n [] ys = ap (λ k. enumerate_from k ys) (omega arith)
enumerate-append n (x ∷ xs) ys =
    ap (λ zs. (n, x) ∷ zs) (enumerate-append (n + 1) xs ys ∙ ap (λ k. enumerate_from (n + 1) xs ++ enumerate_from k ys) (omega arith))

-- ---- options

pub or_none : {A : Type 0} (o : Option A) → option_or o None ≡ o
or_none None = refl
or_none (Some x) = refl

-- an option that is mapped to none is none
pub unmapped : {A B : Type 0} (f : A → B) (o : Option A) → option_map f o ≡ None → o ≡ None
unmapped f None e = refl
unmapped f (Some x) e = absurd cc
