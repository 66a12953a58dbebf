-- The text of lines, one more at a time.
use Rattle.std.specs.Prelude.{◌≡◌, ℕ, zero, suc, ◌+◌, ◌<◌, ◌≤◌, List, [], ◌∷◌, ◌++◌, length, take, flat_map, Some, slice_get, get_or}
use Rattle.std.proofs.Common.{refl, ap, sym, ◌∙◌, append_assoc, add-one}
use Rattle.std.proofs.lemmas.Grind.{flat_map-append}
use Rattle.std.proofs.lemmas.Option.{slice_get_read}
use Rattle.std.proofs.lemmas.List.{append-nil, take_all}
use Rattle.mps_defs.specs.CanonicalText.{Written, written_text}
use Rattle.mps_printer.specs.Internal.Sections.{lines_text}

-- a line by itself
pub one_line : (start : List ℕ) (line : Written) → start ++ written_text line ≡ start ++ lines_text (line ∷ [])
one_line start line = ap (λ bs. start ++ bs) (sym (append-nil (written_text line)))

-- what is written for one more element comes last
pub lines_more : {A : Type 0} (f : A → List Written) (xs : List A) (i : ℕ) (x : A) → slice_get xs i ≡ Some x
    → lines_text (flat_map f (take i xs)) ++ lines_text (f x) ≡ lines_text (flat_map f (take (suc i) xs))
lines_more f [] i x e = absurd cc
lines_more f (y ∷ xs) zero x e = let same : x ≡ y = cc in ap (λ z. lines_text (f z)) same ∙ ap lines_text (sym (append-nil (f y)))
lines_more f (y ∷ xs) (suc i) x e =
    let rest = lines_text (flat_map f (take i xs)) in
    ap (λ bs. bs ++ lines_text (f x)) (flat_map-append written_text (f y) (flat_map f (take i xs)))
    ∙ append_assoc (lines_text (f y)) rest (lines_text (f x))
    ∙ ap (λ bs. lines_text (f y) ++ bs) (lines_more f xs i x e)
    ∙ sym (flat_map-append written_text (f y) (flat_map f (take (suc i) xs)))

pub text_more : {A : Type 0} (f : A → List Written) (start : List ℕ) (xs : List A) (i : ℕ) (x : A) → slice_get xs i ≡ Some x
    → (start ++ lines_text (flat_map f (take i xs))) ++ lines_text (f x) ≡ start ++ lines_text (flat_map f (take (suc i) xs))
text_more f start xs i x e =
    append_assoc start (lines_text (flat_map f (take i xs))) (lines_text (f x)) ∙ ap (λ bs. start ++ bs) (lines_more f xs i x e)

-- past the last element all lines are there
pub text_all : {A : Type 0} (f : A → List Written) (xs : List A) (i : ℕ) → length xs ≤ i
    → lines_text (flat_map f (take i xs)) ≡ lines_text (flat_map f xs)
text_all f xs i h = ap (λ l. lines_text (flat_map f l)) (take_all i xs h)

-- a loop that adds the lines of one element after the other: one more, and all
pub lines_added : {A : Type 0} (f : A → List Written) (start : List ℕ) {now new : List ℕ} (xs : List A) (i : ℕ) (x : A) → i < length xs
    → x ≡ get_or xs i x → now ≡ start ++ lines_text (flat_map f (take i xs)) → new ≡ now ++ lines_text (f x)
    → new ≡ start ++ lines_text (flat_map f (take (i + 1) xs))
lines_added f start xs i x inside is before more =
    rw add-one (more ∙ ap (λ bs. bs ++ lines_text (f x)) before
    ∙ text_more f start xs i x (slice_get_read xs (length xs) i x refl inside is))

pub lines_complete : {A : Type 0} (f : A → List Written) (start : List ℕ) {now : List ℕ} (xs : List A) (i : ℕ) → length xs ≤ i
    → now ≡ start ++ lines_text (flat_map f (take i xs)) → now ≡ start ++ lines_text (flat_map f xs)
lines_complete f start xs i past before = before ∙ ap (λ bs. start ++ bs) (text_all f xs i past)

-- lines after lines
pub text_longer : (start : List ℕ) (xs ys : List Written) → (start ++ lines_text xs) ++ lines_text ys ≡ start ++ lines_text (xs ++ ys)
text_longer start xs ys =
    append_assoc start (lines_text xs) (lines_text ys) ∙ ap (λ bs. start ++ bs) (sym (flat_map-append written_text xs ys))
