-- Sets of names: where a name is found, and a new name at the end.
use Rattle.std.specs.Prelude.{◌≡◌, ℕ, suc, false, List, [], ◌∷◌, ◌++◌, map, position, None, Some, option_map, bytes_eq, string_bytes}
use Rattle.std.specs.Prelude.{if◌then◌else◌, refl}
use Rattle.std.specs.List.{list_any}
use Rattle.std.specs.Option.{is_some}
use Rattle.std.specs.String.{string_eq}
use Rattle.std.proofs.Common.{String, Global, sym, ◌∙◌, ap}
use Rattle.std.proofs.lemmas.List.{map-append}
use Rattle.mps_defs.specs.Lists.{is_among}
use Rattle.mps_defs.proofs.ListLaws.{any_of_map}
use Rattle.mps_defs.proofs.PlaceLaws.{position_cons, place_where_any}

-- where a set of names finds one
pub place_of_name : (keys : List (String Global)) (name : List ℕ)
    → position (λ k. bytes_eq name (string_bytes k)) keys ≡ position (bytes_eq name) (map string_bytes keys)
place_of_name [] name = refl
place_of_name (k ∷ keys) name =
    position_cons (λ s. bytes_eq name (string_bytes s)) k keys
    ∙ ap (λ o. if bytes_eq name (string_bytes k) then Some 0 else option_map suc o) (place_of_name keys name)
    ∙ sym (position_cons (bytes_eq name) (string_bytes k) (map string_bytes keys))

-- whether it finds one
pub name_found : (keys : List (String Global)) (name : List ℕ)
    → is_some (position (λ k. bytes_eq name (string_bytes k)) keys) ≡ is_among name (map string_bytes keys)
name_found keys name = ap is_some (place_of_name keys name) ∙ place_where_any (bytes_eq name) (map string_bytes keys)

-- a set of names takes a new one at its end
pub name_added : (keys : List (String Global)) (s : String Global) (name : List ℕ) → string_bytes s ≡ name
    → position (λ k. bytes_eq name (string_bytes k)) keys ≡ None
    → map string_bytes (if list_any (string_eq s) keys then keys else keys ++ s ∷ []) ≡ map string_bytes keys ++ name ∷ []
name_added keys s name is none =
    ap (λ t. map string_bytes (if t then keys else keys ++ s ∷ [])) absent
    ∙ map-append string_bytes keys (s ∷ [])
    ∙ ap (λ n. map string_bytes keys ++ n ∷ []) is
  where
    absent : list_any (string_eq s) keys ≡ false
    absent =
        any_of_map (bytes_eq (string_bytes s)) string_bytes keys
        ∙ ap (λ n. list_any (bytes_eq n) (map string_bytes keys)) is
        ∙ sym (place_where_any (bytes_eq name) (map string_bytes keys))
        ∙ ap is_some (sym (place_of_name keys name) ∙ none)
