-- Lists from their ends, elements with those before each, and what a list that a function is applied to has at a place.
use Rattle.std.specs.Prelude.{◌≡◌, ℕ, zero, suc, ◌<◌, Bool, true, false, cond, ◌||◌, List, [], ◌∷◌, ◌++◌, length, map, filter, Option}
use Rattle.std.specs.Prelude.{None}
use Rattle.std.specs.Prelude.{Some, option_map, slice_get, bytes_eq, if◌then◌else◌}
use Rattle.std.specs.List.{list_any}
use Rattle.std.specs.Option.{option_or}
use Rattle.std.proofs.Common.{refl, arith, sym, ◌∙◌, ap, subst}
use Rattle.std.proofs.lemmas.List.{append-nil, append_assoc}
use Rattle.std.proofs.lemmas.Option.{slice_get-map}
use Rattle.ip_defs.specs.Lists.{first_of, when}
use Rattle.ip_defs.proofs.BoolLaws.{left_false, right_false}
use Rattle.mps_defs.specs.Lists.{last_of, after_those, with_earlier, through_first, is_among}

-- ---- a list and one more element

-- what holds of no element, and of one more where it holds of the others, holds of all
pub by_last : {A : Type 0} (P : List A → Type 0) → P [] → ((xs : List A) (x : A) → P xs → P (xs ++ x ∷ [])) → (xs : List A) → P xs
by_last {A} P none more xs = go [] xs none
  where
    go : (front back : List A) → P front → P (front ++ back)
    go front [] h = subst P (sym (append-nil front)) h
    go front (x ∷ back) h = subst P (append_assoc front (x ∷ []) back) (go (front ++ x ∷ []) back (more front x h))

pub last_of-add : {A : Type 0} (xs : List A) (x : A) → last_of (xs ++ x ∷ []) ≡ Some x
last_of-add [] x = refl
last_of-add (y ∷ []) x = refl
last_of-add (y ∷ z ∷ xs) x = last_of-add (z ∷ xs) x

pub first_of-append : {A : Type 0} (xs ys : List A) → first_of (xs ++ ys) ≡ option_or (first_of xs) (first_of ys)
first_of-append [] ys = refl
first_of-append (x ∷ xs) ys = refl

pub first_stays : {A : Type 0} (xs ys : List A) (x : A) → first_of xs ≡ Some x → first_of (xs ++ ys) ≡ first_of xs
first_stays [] ys x h = absurd cc
first_stays (y ∷ xs) ys x h = refl

-- ---- each element with those before it

pub after_append : {A : Type 0} (before xs ys : List A)
    → after_those before (xs ++ ys) ≡ after_those before xs ++ after_those (before ++ xs) ys
after_append before [] ys = ap (λ b. after_those b ys) (sym (append-nil before))
after_append before (x ∷ xs) ys =
    ap (λ l. (before, x) ∷ l)
    (after_append (before ++ x ∷ []) xs ys
    ∙ ap (λ b. after_those (before ++ x ∷ []) xs ++ after_those b ys) (append_assoc before (x ∷ []) xs))

-- one more element comes last, with all the others before it
pub with_earlier-add : {A : Type 0} (xs : List A) (x : A) → with_earlier (xs ++ x ∷ []) ≡ with_earlier xs ++ (xs, x) ∷ []
with_earlier-add xs x = after_append [] xs (x ∷ [])

-- ---- up to the first that meets a test

pub through-append : {A : Type 0} (test : A → Bool) (xs ys : List A) → list_any test xs ≡ false
    → through_first test (xs ++ ys) ≡ xs ++ through_first test ys
through-append test [] ys none = refl
through-append {A} test (x ∷ xs) ys none = by (test x) (through-append test xs ys) none
  where
    by : (b : Bool) → (list_any test xs ≡ false → through_first test (xs ++ ys) ≡ xs ++ through_first test ys)
        → (b || list_any test xs) ≡ false → (if b then x ∷ [] else x ∷ through_first test (xs ++ ys)) ≡ x ∷ (xs ++ through_first test ys)
    by true rest h = absurd cc
    by false rest h = ap (λ l. x ∷ l) (rest h)

-- ---- tests

-- a filter keeps one element where the test holds
pub one_kept : {A : Type 0} (t : Bool) (x : A) → cond t (x ∷ []) [] ≡ when t x
one_kept true x = refl
one_kept false x = refl

pub any_of_map : {A B : Type 0} (test : B → Bool) (f : A → B) (xs : List A) → list_any (λ x. test (f x)) xs ≡ list_any test (map f xs)
any_of_map test f [] = refl
any_of_map test f (x ∷ xs) = ap (λ t. test (f x) || t) (any_of_map test f xs)

-- a test that none meets is met by none of the fewer that a filter keeps
pub none_of_fewer : {A : Type 0} (test keeps : A → Bool) (xs : List A) → list_any test xs ≡ false → list_any test (filter keeps xs) ≡ false
none_of_fewer test keeps [] none = refl
none_of_fewer {A} test keeps (x ∷ xs) none = by (keeps x) (none_of_fewer test keeps xs (right_false (test x) (list_any test xs) none))
  where
    by : (t : Bool) → list_any test (filter keeps xs) ≡ false → list_any test (cond t (x ∷ filter keeps xs) (filter keeps xs)) ≡ false
    by true rest = ap (λ u. u || list_any test (filter keeps xs)) (left_false (test x) (list_any test xs) none) ∙ rest
    by false rest = rest

-- so for names
pub fewer_among : {A : Type 0} (f : A → List ℕ) (keeps : A → Bool) (name : List ℕ) (xs : List A) → is_among name (map f xs) ≡ false
    → is_among name (map f (filter keeps xs)) ≡ false
fewer_among f keeps name xs e =
    sym (any_of_map (bytes_eq name) f (filter keeps xs))
    ∙ none_of_fewer (λ x. bytes_eq name (f x)) keeps xs (any_of_map (bytes_eq name) f xs ∙ e)

-- ---- what stands at a place

-- where no element meets the test, the one at a place does not
pub fails_at : {A : Type 0} (test : A → Bool) (xs : List A) (i : ℕ) (x : A) → list_any test xs ≡ false → slice_get xs i ≡ Some x
    → test x ≡ false
fails_at test [] i x none at = absurd cc
fails_at test (y ∷ ys) zero x none at = let same : y ≡ x = cc in ap test (sym same) ∙ left_false (test y) (list_any test ys) none
fails_at test (y ∷ ys) (suc i) x none at = fails_at test ys i x (right_false (test y) (list_any test ys) none) at

pub element_at : {A : Type 0} (xs : List A) (i : ℕ) → i < length xs → (x : A) × (slice_get xs i ≡ Some x)
element_at [] i l = absurd (omega (arith, l))
element_at (x ∷ xs) zero l = (x, refl)
element_at (x ∷ xs) (suc i) l = element_at xs i (omega (arith, l))

pub get_map : {A B : Type 0} (f : A → B) (xs : List A) (i : ℕ) (x : A) → slice_get xs i ≡ Some x → slice_get (map f xs) i ≡ Some (f x)
get_map f xs i x at = slice_get-map f xs i ∙ ap (option_map f) at

pub get_from_map : {A B : Type 0} (f : A → B) (xs : List A) (i : ℕ) (y : B) → slice_get (map f xs) i ≡ Some y
    → (x : A) × (slice_get xs i ≡ Some x) × (f x ≡ y)
get_from_map f [] i y at = absurd cc
get_from_map f (x ∷ xs) zero y at = (x, refl, cc)
get_from_map f (x ∷ xs) (suc i) y at = get_from_map f xs i y at

-- a function that leaves each element as it is leaves the list
pub map_same : {A : Type 0} (g : A → A) (xs : List A) → ((i : ℕ) (x : A) → slice_get xs i ≡ Some x → g x ≡ x) → map g xs ≡ xs
map_same g [] h = refl
map_same g (x ∷ xs) h = ap (λ y. y ∷ map g xs) (h 0 x refl) ∙ ap (λ l. x ∷ l) (map_same g xs (λ i y at. h (suc i) y at))

-- ---- options

pub mapped_or : {A B : Type 0} (f : A → B) (o p : Option A) → option_map f (option_or o p) ≡ option_or (option_map f o) (option_map f p)
mapped_or f None p = refl
mapped_or f (Some x) p = refl
