-- The width of a box, one more column at a time.
use Rattle.std.specs.Prelude.{◌≡◌, ℕ, ◌+◌, ◌<◌, Bool, true, false, ◌||◌, if◌then◌else◌, List, [], ◌∷◌, length, take, sum_by, ℤ, pos}
use Rattle.std.specs.List.{list_any}
use Rattle.std.proofs.Common.{arith, refl, ap, ◌∙◌, get_or}
use Rattle.std.proofs.lemmas.List.{take_more}
use Rattle.std.proofs.lemmas.List.Sums.{sum_by-append}
use Rattle.std.proofs.lemmas.List.Folds.{list_any_at, list_any_more}
use Rattle.ip_defs.specs.Program.{box_of}
use Rattle.ip_defs.specs.Certificates.{is_empty_side}
use Rattle.ip_defs.specs.declared.programs.Parts.{Parts}
use Rattle.ip_model.specs.Sizes.{width_of, width_sum}

-- a test that implies the absurd is false
pub not_true : (t : Bool) → (t ≡ true → true ≡ false) → t ≡ false
not_true true h = h refl
not_true false h = refl

-- one more element of a sum
pub sum_by_more : {A : Type 0} (f : A → ℕ) (xs : List A) (i : ℕ) (d : A) → i < length xs →
    sum_by f (take (i + 1) xs) ≡ sum_by f (take i xs) + f (get_or xs i d)
sum_by_more f xs i d l = ap (sum_by f) (take_more xs i d l) ∙ sum_by-append f (take i xs) (get_or xs i d ∷ []) ∙ omega arith

-- one more column that is not empty
pub none_empty_more : (b : List (ℤ × ℤ)) (i : ℕ) (s : ℤ × ℤ) → i < length b → get_or b i (pos 0, pos 0) ≡ s →
    list_any is_empty_side (take i b) ≡ false → is_empty_side s ≡ false → list_any is_empty_side (take (i + 1) b) ≡ false
none_empty_more b i s l is before here = list_any_more is_empty_side b i (pos 0, pos 0) l
    ∙ ap (λ t. t || is_empty_side (get_or b i (pos 0, pos 0))) before ∙ ap (λ (s : ℤ × ℤ). is_empty_side s) is ∙ here

-- a box with an empty column has width 0
pub no_width : (m : Parts) (i : ℕ) (s : ℤ × ℤ) → i < length (box_of m) → get_or (box_of m) i (pos 0, pos 0) ≡ s → is_empty_side s ≡ true →
    width_sum m ≡ 0
no_width m i s l is here = ap (λ t. if t then 0 else sum_by width_of (box_of m)) (list_any_at is_empty_side (box_of m) i (
  pos 0,
  pos 0,
) l (ap (λ (s : ℤ × ℤ). is_empty_side s) is ∙ here))
