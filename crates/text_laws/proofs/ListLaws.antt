-- Lists joined, numbered and taken with those before each element.
use Rattle.std.specs.Prelude.{Bool, true, false, List, [], ◌∷◌, map, flat_map, ⊤}
use Rattle.ip_defs.specs.Lists.{Each, when}
use Rattle.ip_defs.proofs.ListLaws.{each_append}

pub each_flat : {A B : Type 0} (P : A → Type 0) (Q : B → Type 0) (f : A → List B) (xs : List A) → Each P xs → ((x : A) → P x → Each Q (f x))
    → Each Q (flat_map f xs)
each_flat P Q f [] all h = tt
each_flat P Q f (x ∷ xs) all h = each_append Q (f x) (flat_map f xs) (h x all.0) (each_flat P Q f xs all.1 h)

pub each_map : {A B : Type 0} (P : A → Type 0) (Q : B → Type 0) (f : A → B) (xs : List A) → Each P xs → ((x : A) → P x → Q (f x))
    → Each Q (map f xs)
each_map P Q f [] all h = tt
each_map P Q f (x ∷ xs) all h = (h x all.0, each_map P Q f xs all.1 h)

-- so where nothing is asked of the elements
each_any : {A : Type 0} (xs : List A) → Each (λ x. ⊤) xs
each_any [] = tt
each_any (x ∷ xs) = (tt, each_any xs)

pub all_flat : {A B : Type 0} (Q : B → Type 0) (f : A → List B) (xs : List A) → ((x : A) → Each Q (f x)) → Each Q (flat_map f xs)
all_flat Q f xs h = each_flat (λ x. ⊤) Q f xs (each_any xs) (λ x t. h x)

pub all_map : {A B : Type 0} (Q : B → Type 0) (f : A → B) (xs : List A) → ((x : A) → Q (f x)) → Each Q (map f xs)
all_map Q f xs h = each_map (λ x. ⊤) Q f xs (each_any xs) (λ x t. h x)

pub each_when : {A : Type 0} (P : A → Type 0) (t : Bool) (x : A) → P x → Each P (when t x)
each_when P true x h = (h, tt)
each_when P false x h = tt

pub each_both : {A : Type 0} (P Q R : A → Type 0) (xs : List A) → Each P xs → Each Q xs → ((x : A) → P x → Q x → R x) → Each R xs
each_both P Q R [] p q h = tt
each_both P Q R (x ∷ xs) p q h = (h x p.0 q.0, each_both P Q R xs p.1 q.1 h)
