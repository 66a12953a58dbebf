-- Printed lines, one element of a list at a time.
use Rattle.std.specs.Prelude.{◌≡◌, ℕ, zero, suc, ◌+◌, ◌<◌, ◌≤◌, List, [], ◌∷◌, ◌++◌, length, take, zip, flat_map, Some, slice_get}
use Rattle.std.specs.Prelude.{ℤ, codes}
use Rattle.std.specs.List.{enumerate_from}
use Rattle.std.proofs.Common.{arith, ap, sym, ◌∙◌, add-one, append_assoc}
use Rattle.std.proofs.Math.Seq.{take-suc}
use Rattle.std.proofs.lemmas.Grind.{flat_map-append}
use Rattle.std.proofs.lemmas.List.{append-nil, take_all}
use Rattle.std.proofs.lemmas.List.FromFn.{get_or-enumerate_from, length-enumerate_from}
use Rattle.std.proofs.lemmas.Option.{get_or_from_slice_get, slice_get-get_or, slice_get_within}
use Rattle.ip_defs.specs.Program.{at}

-- what is written for one more element comes last
lines_more : {A : Type 0} (f : A → List ℕ) (xs : List A) (i : ℕ) (x : A) → slice_get xs i ≡ Some x
    → flat_map f (take (suc i) xs) ≡ flat_map f (take i xs) ++ f x
lines_more f xs i x is =
    let within = slice_get_within xs i x is in
    let here = get_or_from_slice_get xs i x x is in
    ap (flat_map f) (take-suc xs i x within ∙ ap (λ y. take i xs ++ (y ∷ [])) here) ∙ flat_map-append f (take i xs) (x ∷ [])
    ∙ ap (λ bs. flat_map f (take i xs) ++ bs) (append-nil (f x))

-- a loop that adds the text of one element after the other: one more, and all
pub lines_added : {A : Type 0} (f : A → List ℕ) (start : List ℕ) {now new : List ℕ} (xs : List A) (i : ℕ) (x : A)
    → slice_get xs i ≡ Some x → now ≡ start ++ flat_map f (take i xs) → new ≡ now ++ f x → new ≡ start ++ flat_map f (take (i + 1) xs)
lines_added f start xs i x is before more =
    rw add-one (more ∙ ap (λ bs. bs ++ f x) before ∙ append_assoc start (flat_map f (take i xs)) (f x)
    ∙ ap (λ bs. start ++ bs) (sym (lines_more f xs i x is)))

pub lines_complete : {A : Type 0} (f : A → List ℕ) (start : List ℕ) {now : List ℕ} (xs : List A) (i : ℕ) → length xs ≤ i
    → now ≡ start ++ flat_map f (take i xs) → now ≡ start ++ flat_map f xs
lines_complete f start xs i past before = before ∙ ap (λ l. start ++ flat_map f l) (take_all i xs past)

-- an element with its number
pub numbered : {A : Type 0} (n : ℕ) (xs : List A) (i : ℕ) (x : A) → slice_get xs i ≡ Some x
    → slice_get (enumerate_from n xs) i ≡ Some (n + i, x)
numbered n xs i x is =
    let within = slice_get_within xs i x is in
    let size = length-enumerate_from n xs in
    slice_get-get_or (enumerate_from n xs) i (n, x) (omega arith) ∙ ap Some (get_or-enumerate_from n xs i (n, x) within)
    ∙ ap (λ y. Some (n + i, y)) (get_or_from_slice_get xs i x x is)

-- an element with its value
pub valued : {A : Type 0} (cs : List A) (xs : List ℤ) (j : ℕ) (c : A) → slice_get cs j ≡ Some c → j < length xs
    → slice_get (zip cs xs) j ≡ Some (c, at xs j)
valued [] xs j c is inside = absurd cc
valued (d ∷ cs) [] j c is inside = absurd (omega arith)
valued (d ∷ cs) (x ∷ xs) zero c is inside = let same : d ≡ c = cc in ap (λ b. Some (b, x)) same
valued (d ∷ cs) (x ∷ xs) (suc j) c is inside = valued cs xs j c is (omega arith)

pub all_valued : {A : Type 0} (cs : List A) (xs : List ℤ) → length (zip cs xs) ≤ length cs
all_valued [] xs = omega arith
all_valued (c ∷ cs) [] = omega arith
all_valued (c ∷ cs) (x ∷ xs) = let rest = all_valued cs xs in omega arith

-- the two parts of a value's line
pub value_text_is : (name number : List ℕ) → (codes "value " ++ name ++ codes " ") ++ (number ++ codes "\n") ≡ codes "value " ++ name
    ++ codes " " ++ number ++ codes "\n"
value_text_is name number = sym (append_assoc (codes "value " ++ name ++ codes " ") number (codes "\n"))
