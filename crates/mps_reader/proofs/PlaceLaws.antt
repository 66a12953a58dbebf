-- The places of names in a list that grows at its end.
use Rattle.std.specs.Prelude.{◌≡◌, ℕ, zero, suc, ◌+◌, ◌-◌, false, List, [], ◌∷◌, ◌++◌, length, map, position, slice_get, None, Some}
use Rattle.std.specs.Prelude.{Option}
use Rattle.std.specs.Prelude.{option_map, bytes_eq, string_bytes, if◌then◌else◌, refl}
use Rattle.std.specs.List.{list_any}
use Rattle.std.specs.Option.{option_or, is_some}
use Rattle.std.specs.String.{string_eq}
use Rattle.std.proofs.Common.{String, Global, sym, ◌∙◌, ap, arith}
use Rattle.std.proofs.lemmas.Slice.Eq.{bytes_eq-Decides}
use Rattle.mps_defs.specs.Lists.{is_among, last_of}
use Rattle.mps_reader.specs.Internal.Progress.{AreApart}
use Rattle.text_lines.proofs.NameLaws.{place_of_name}
use Rattle.std.proofs.lemmas.List.{map-append}
use Rattle.mps_defs.proofs.ListLaws.{any_of_map}
use Rattle.mps_defs.proofs.PlaceLaws.{position_cons, position_append, place_where_any, no_place}

-- an element of a list with one more is one of the others or that one, which comes last
pub get_of_more : {A : Type 0} (xs : List A) (x : A) (i : ℕ) (y : A) (P : Type 0) → slice_get (xs ++ x ∷ []) i ≡ Some y
    → (slice_get xs i ≡ Some y → P) → (i ≡ length xs → x ≡ y → P) → P
get_of_more [] x zero y P e old new = new refl (cc e)
get_of_more [] x (suc i) y P e old new = absurd (cc e)
get_of_more (z ∷ xs) x zero y P e old new = old e
get_of_more (z ∷ xs) x (suc i) y P e old new = get_of_more xs x i y P e old (λ f. new (omega (arith, f)))

-- a new name leaves names apart
pub apart_more : (names : List (List ℕ)) (name : List ℕ) → AreApart names → is_among name names ≡ false → AreApart (names ++ name ∷ [])
apart_more names name apart new i other there =
    get_of_more names name i other (position (bytes_eq other) (names ++ name ∷ []) ≡ Some i) there
    (λ e. position_append (bytes_eq other) names (name ∷ [])
    ∙ ap (λ o. option_or o (option_map (λ k. length names + k) (position (bytes_eq other) (name ∷ [])))) (apart i other e))
    (λ e f. ap (λ k. position (bytes_eq k) (names ++ name ∷ [])) (sym f)
    ∙ position_append (bytes_eq name) names (name ∷ [])
    ∙ ap (λ o. option_or o (option_map (λ k. length names + k) (position (bytes_eq name) (name ∷ [])))) (no_place (bytes_eq name) names new)
    ∙ ap (option_map (λ k. length names + k))
    (position_cons (bytes_eq name) name [] ∙ ap (λ t. if t then Some 0 else None) ((bytes_eq-Decides name name).1 refl))
    ∙ ap Some (omega (arith, e)))

-- so does it for a name that is the same
pub placed : (keys : List (String Global)) (name other : List ℕ) (o : Option ℕ) → other ≡ name
    → o ≡ position (λ k. bytes_eq name (string_bytes k)) keys → position (bytes_eq other) (map string_bytes keys) ≡ o
placed keys name other o same at =
    ap (λ n. position (bytes_eq n) (map string_bytes keys)) same ∙ sym (place_of_name keys name) ∙ sym at

-- the last element by its number
pub last_by_number : {A : Type 0} (xs : List A) → last_of xs ≡ slice_get xs (length xs - 1)
last_by_number [] = refl
last_by_number (x ∷ []) = refl
last_by_number (x ∷ y ∷ xs) =
    let here : length (y ∷ xs) - 1 ≡ length xs = omega arith in
    let there : length (x ∷ y ∷ xs) - 1 ≡ suc (length xs) = omega arith in
    last_by_number (y ∷ xs) ∙ ap (slice_get (y ∷ xs)) here ∙ sym (ap (slice_get (x ∷ y ∷ xs)) there)
