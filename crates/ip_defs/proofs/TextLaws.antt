-- The test of equal texts.
use Rattle.std.specs.Prelude.{◌≡◌, ℕ, Bool, true, false, List, bytes_eq}
use Rattle.std.proofs.Common.{refl, sym, ◌∙◌}
use Rattle.std.proofs.lemmas.Slice.Eq.{bytes_eq-Decides}

pub text_self : (a : List ℕ) → bytes_eq a a ≡ true
text_self a = (bytes_eq-Decides a a).1 refl

pub text_same : (a b : List ℕ) → bytes_eq a b ≡ true → a ≡ b
text_same a b e = (bytes_eq-Decides a b).0 e

pub text_turned : (a b : List ℕ) → bytes_eq a b ≡ bytes_eq b a
text_turned a b = by (bytes_eq a b) (bytes_eq b a) refl refl
  where
    by : (t u : Bool) → bytes_eq a b ≡ t → bytes_eq b a ≡ u → bytes_eq a b ≡ bytes_eq b a
    by true true e d = e ∙ sym d
    by false false e d = e ∙ sym d
    by true false e d = let same = (bytes_eq-Decides b a).1 (sym (text_same a b e)) in absurd (cc same)
    by false true e d = let same = (bytes_eq-Decides a b).1 (sym (text_same b a d)) in absurd (cc same)
