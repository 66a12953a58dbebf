-- The first place where a test holds, and the places of names.
use Rattle.std.specs.Prelude.{◌≡◌, ℕ, zero, suc, ◌+◌, nat_lt, Bool, true, false, cond, not, ◌||◌, if◌then◌else◌, List, [], ◌∷◌, ◌++◌}
use Rattle.std.specs.Prelude.{length, position, slice_get, Option, None, Some, option_map, bytes_eq}
use Rattle.std.specs.List.{list_any, position_or_len}
use Rattle.std.specs.Option.{option_or, is_some}
use Rattle.std.proofs.Common.{refl, arith, sym, ◌∙◌, ap}
use Rattle.std.proofs.lemmas.Bool.{le-ltb, lt-ltb, ltb-false, ltb-true}
use Rattle.ip_defs.proofs.BoolLaws.{either_true}
use Rattle.ip_defs.proofs.TextLaws.{text_self, text_same, text_turned}
use Rattle.mps_defs.specs.Lists.{is_among}
use Rattle.mps_defs.proofs.ListLaws.{fails_at}

-- the first place is at the head, or one past the first in the tail
pub position_cons : {A : Type 0} (test : A → Bool) (x : A) (xs : List A)
    → position test (x ∷ xs) ≡ (if test x then Some 0 else option_map suc (position test xs))
position_cons {A} test x xs = by (test x) refl (nat_lt (position_or_len test xs) (length xs)) refl
  where
    n : ℕ
    n = position_or_len test xs

    at : Bool → ℕ
    at t = cond (not t) (1 + n) 0

    place : ℕ → Bool → Option ℕ
    place k u = cond u (Some k) None

    by : (t : Bool) → test x ≡ t → (u : Bool) → nat_lt n (length xs) ≡ u
        → position test (x ∷ xs) ≡ (if test x then Some 0 else option_map suc (position test xs))
    by true e u f =
        ap (λ t. place (at t) (nat_lt (at t) (length (x ∷ xs)))) e
        ∙ ap (place 0) (lt-ltb 0 (length (x ∷ xs)) (omega arith))
        ∙ sym (ap (λ t. if t then Some 0 else option_map suc (position test xs)) e)
    by false e true f =
        ap (λ t. place (at t) (nat_lt (at t) (length (x ∷ xs)))) e
        ∙ ap (place (1 + n)) (lt-ltb (1 + n) (length (x ∷ xs)) (omega (arith, ltb-true n (length xs) f)))
        ∙ ap Some (omega arith)
        ∙ sym (ap (λ t. if t then Some 0 else option_map suc (position test xs)) e ∙ ap (λ u. option_map suc (place n u)) f)
    by false e false f =
        ap (λ t. place (at t) (nat_lt (at t) (length (x ∷ xs)))) e
        ∙ ap (place (1 + n)) (le-ltb (1 + n) (length (x ∷ xs)) (omega (arith, ltb-false n (length xs) f)))
        ∙ sym (ap (λ t. if t then Some 0 else option_map suc (position test xs)) e ∙ ap (λ u. option_map suc (place n u)) f)

-- a list that grows at its end keeps its first place, or has one in what is added
pub position_append : {A : Type 0} (test : A → Bool) (xs ys : List A)
    → position test (xs ++ ys) ≡ option_or (position test xs) (option_map (λ i. length xs + i) (position test ys))
position_append test [] ys = by (position test ys)
  where
    by : (o : Option ℕ) → o ≡ option_map (λ i. 0 + i) o
    by None = refl
    by (Some i) = ap Some (omega arith)
position_append test (x ∷ xs) ys =
    position_cons test x (xs ++ ys)
    ∙ ap (λ o. if test x then Some 0 else option_map suc o) (position_append test xs ys)
    ∙ by (test x) (position test xs) (position test ys)
    ∙ ap (λ o. option_or o (option_map (λ i. length (x ∷ xs) + i) (position test ys))) (sym (position_cons test x xs))
  where
    by : (t : Bool) (o p : Option ℕ)
        → (if t then Some 0 else option_map suc (option_or o (option_map (λ i. length xs + i) p)))
        ≡ option_or (if t then Some 0 else option_map suc o) (option_map (λ i. length (x ∷ xs) + i) p)
    by true o p = refl
    by false (Some i) p = refl
    by false None None = refl
    by false None (Some i) = ap Some (omega arith)

-- there is a place where some element meets the test
pub place_where_any : {A : Type 0} (test : A → Bool) (xs : List A) → is_some (position test xs) ≡ list_any test xs
place_where_any test [] = refl
place_where_any test (x ∷ xs) = ap is_some (position_cons test x xs) ∙ by (test x) (position test xs) (place_where_any test xs)
  where
    by : (t : Bool) (o : Option ℕ) → is_some o ≡ list_any test xs
        → is_some (if t then Some 0 else option_map suc o) ≡ (t || list_any test xs)
    by true o h = refl
    by false None h = h
    by false (Some i) h = h

pub no_place : {A : Type 0} (test : A → Bool) (xs : List A) → list_any test xs ≡ false → position test xs ≡ None
no_place test xs h = by (position test xs) (place_where_any test xs)
  where
    by : (o : Option ℕ) → is_some o ≡ list_any test xs → o ≡ None
    by None e = refl
    by (Some i) e = absurd (let never : true ≡ false = e ∙ h in cc)

-- ---- names

-- a name that has no place, and one that has
pub unknown : (name : List ℕ) (names : List (List ℕ)) → position (bytes_eq name) names ≡ None → is_among name names ≡ false
unknown name names h = sym (place_where_any (bytes_eq name) names) ∙ ap is_some h

pub known : (name : List ℕ) (names : List (List ℕ)) (i : ℕ) → position (bytes_eq name) names ≡ Some i → is_among name names ≡ true
known name names i h = sym (place_where_any (bytes_eq name) names) ∙ ap is_some h

-- a found name stands at its place
pub position_found : (name : List ℕ) (names : List (List ℕ)) (i : ℕ) → position (bytes_eq name) names ≡ Some i
    → slice_get names i ≡ Some name
position_found name [] i h = absurd cc
position_found name (x ∷ xs) i h =
    by (bytes_eq name x) refl (position (bytes_eq name) xs) (λ k f. position_found name xs k f)
    i (sym (position_cons (bytes_eq name) x xs) ∙ h)
  where
    by : (b : Bool) → bytes_eq name x ≡ b → (o : Option ℕ) → ((k : ℕ) → o ≡ Some k → slice_get xs k ≡ Some name)
        → (k : ℕ) → (if b then Some 0 else option_map suc o) ≡ Some k → slice_get (x ∷ xs) k ≡ Some name
    by true e o rest zero g = ap Some (sym (text_same name x e))
    by true e o rest (suc k) g = absurd cc
    by false e None rest k g = absurd cc
    by false e (Some j) rest zero g = absurd cc
    by false e (Some j) rest (suc k) g = rest k cc

-- a name that stands at a place is among the names
pub among_at : (names : List (List ℕ)) (i : ℕ) (name : List ℕ) → slice_get names i ≡ Some name → is_among name names ≡ true
among_at [] i name at = absurd cc
among_at (x ∷ xs) zero name at =
    let same : x ≡ name = cc in
    ap (λ k. bytes_eq name k || is_among name xs) same ∙ ap (λ t. t || is_among name xs) (text_self name)
among_at (x ∷ xs) (suc i) name at = either_true (bytes_eq name x) (is_among name xs) (among_at xs i name at)

-- a name that is not among others is none of them
pub not_at : (name : List ℕ) (names : List (List ℕ)) (i : ℕ) (other : List ℕ) → is_among name names ≡ false → slice_get names i ≡ Some other
    → bytes_eq name other ≡ false
not_at name names i other none at = fails_at (bytes_eq name) names i other none at

-- a name differs from another as the other from it
pub apart_turned : (a b : List ℕ) → bytes_eq a b ≡ false → bytes_eq b a ≡ false
apart_turned a b apart = text_turned b a ∙ apart
