-- Names among names: by what place they are found, and lists where each stands once.
use Rattle.std.specs.Prelude.{◌≡◌, ℕ, suc, Bool, true, false, List, [], ◌∷◌, position, slice_get, Option, None, Some, bytes_eq}
use Rattle.std.specs.Prelude.{if◌then◌else◌, refl}
use Rattle.std.specs.Option.{option_map, is_some}
use Rattle.std.proofs.Common.{ap, sym, ◌∙◌}
use Rattle.std.proofs.lemmas.Bool.{false_from_ne_true}
use Rattle.mps_defs.specs.Lists.{is_among, AreDistinct}
use Rattle.mps_reader.specs.Internal.Progress.{AreApart}
use Rattle.ip_defs.proofs.TextLaws.{text_self}
use Rattle.mps_defs.proofs.PlaceLaws.{place_where_any, position_cons, position_found}

pub same_tests : (x y : Bool) → (x ≡ true → y ≡ true) → (y ≡ true → x ≡ true) → x ≡ y
same_tests true y f g = sym (f refl)
same_tests false true f g = g refl
same_tests false false f g = refl

-- ---- lists where each name stands once, by recursion

-- a name in front of a list with it stands twice
front_once : (x : List ℕ) (xs : List (List ℕ)) → AreApart (x ∷ xs) → is_among x xs ≡ false
front_once x xs apart =
    false_from_ne_true (is_among x xs) (λ h. by (position (bytes_eq x) xs) (position_found x xs) (place_where_any (bytes_eq x) xs ∙ h))
  where
    by : (o : Option ℕ) → ((k : ℕ) → o ≡ Some k → slice_get xs k ≡ Some x) → is_some o ≡ true → ⊥
    by None found h = cc h
    by (Some k) found h =
        let first =
        position_cons (bytes_eq x) x xs ∙ ap (λ b. if b then Some 0 else option_map suc (position (bytes_eq x) xs)) (text_self x) in
        let later = apart (suc k) x (found k refl) in
        cc (first, later)

rest_apart : (x : List ℕ) (xs : List (List ℕ)) → AreApart (x ∷ xs) → AreApart xs
rest_apart x xs apart i name at =
    by (bytes_eq name x) (position (bytes_eq name) xs) (sym (position_cons (bytes_eq name) x xs) ∙ apart (suc i) name at)
  where
    by : (b : Bool) (o : Option ℕ) → (if b then Some 0 else option_map suc o) ≡ Some (suc i) → o ≡ Some i
    by true o h = absurd (cc h)
    by false None h = absurd (cc h)
    by false (Some j) h = cc h

pub distinct_from : (xs : List (List ℕ)) → AreApart xs → AreDistinct xs
distinct_from [] apart = tt
distinct_from (x ∷ xs) apart = (front_once x xs apart, distinct_from xs (rest_apart x xs apart))
