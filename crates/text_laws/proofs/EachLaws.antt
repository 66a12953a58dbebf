-- What holds of each element of a list, and of each element after those before it.
use Rattle.std.specs.Prelude.{◌≡◌, Bool, true, false, cond, List, [], ◌∷◌, ◌++◌, map, filter, if◌then◌else◌, ⊤}
use Rattle.std.proofs.Common.{refl, sym, subst}
use Rattle.mps_defs.specs.Lists.{after_those, through_first}
use Rattle.std.proofs.lemmas.List.{append-nil, append_assoc}
use Rattle.ip_defs.specs.Lists.{Each}

pub each_filter : {A : Type 0} (P : A → Type 0) (test : A → Bool) (xs : List A) → Each P xs → Each P (filter test xs)
each_filter P test [] all = tt
each_filter {A} P test (x ∷ xs) all = by (test x) (each_filter P test xs all.1)
  where
    by : (t : Bool) → Each P (filter test xs) → Each P (cond t (x ∷ filter test xs) (filter test xs))
    by true rest = (all.0, rest)
    by false rest = rest

-- what meets a test
pub each_kept : {A : Type 0} (test : A → Bool) (xs : List A) → Each (λ x. test x ≡ true) (filter test xs)
each_kept test [] = tt
each_kept {A} test (x ∷ xs) = by (test x) refl (each_kept test xs)
  where
    by : (t : Bool) → test x ≡ t → Each (λ y. test y ≡ true) (filter test xs)
        → Each (λ y. test y ≡ true) (cond t (x ∷ filter test xs) (filter test xs))
    by true e rest = (e, rest)
    by false e rest = rest

pub each_of_map : {A B : Type 0} (P : B → Type 0) (f : A → B) (xs : List A) → Each (λ x. P (f x)) xs → Each P (map f xs)
each_of_map P f [] all = tt
each_of_map P f (x ∷ xs) all = (all.0, each_of_map P f xs all.1)

pub each_before_map : {A B : Type 0} (P : B → Type 0) (f : A → B) (xs : List A) → Each P (map f xs) → Each (λ x. P (f x)) xs
each_before_map P f [] all = tt
each_before_map P f (x ∷ xs) all = (all.0, each_before_map P f xs all.1)

pub each_through : {A : Type 0} (P : A → Type 0) (test : A → Bool) (xs : List A) → Each P xs → Each P (through_first test xs)
each_through P test [] all = tt
each_through {A} P test (x ∷ xs) all = by (test x) (each_through P test xs all.1)
  where
    by : (t : Bool) → Each P (through_first test xs) → Each P (if t then x ∷ [] else x ∷ through_first test xs)
    by true rest = (all.0, tt)
    by false rest = (all.0, rest)

pub each_those : {A : Type 0} (P : A → Type 0) (before xs : List A) → Each P xs → Each (λ p. P p.1) (after_those before xs)
each_those P before [] all = tt
each_those P before (x ∷ xs) all = (all.0, each_those P (before ++ x ∷ []) xs all.1)

-- something holds of each element, after those before it
abbrev pub EachAfter : {A : Type 0} → (List A → A → Type 0) → List A → List A → Type 0
EachAfter P seen [] = ⊤
EachAfter P seen (x ∷ xs) = P seen x × EachAfter P (seen ++ x ∷ []) xs

pub each_after_append : {A : Type 0} (P : List A → A → Type 0) (seen xs ys : List A) → EachAfter P seen xs → EachAfter P (seen ++ xs) ys
    → EachAfter P seen (xs ++ ys)
each_after_append P seen [] ys h k = subst (λ s. EachAfter P s ys) (append-nil seen) k
each_after_append P seen (x ∷ xs) ys h k =
    (h.0, each_after_append P (seen ++ x ∷ []) xs ys h.1 (subst (λ s. EachAfter P s ys) (sym (append_assoc seen (x ∷ []) xs)) k))
