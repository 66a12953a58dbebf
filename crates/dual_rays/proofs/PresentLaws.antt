-- The multipliers of a certificate by row: one more at a time, in order, and read by row.
use Rattle.std.specs.Prelude.{◌≡◌, ℕ, ◌+◌, ◌^◌, ◌<◌, ◌||◌, true, false, if◌then◌else◌, List, [], ◌∷◌, ◌++◌, length, map, filter, take}
use Rattle.std.specs.Prelude.{slice_index_or, None, Some, ℤ, pos}
use Rattle.std.specs.List.{enumerate_from, list_any}
use Rattle.std.proofs.Common.{arith, ap, sym, ◌∙◌, subst}
use Rattle.std.proofs.lemmas.List.{take_more, map-append, length-map, get_or-map, length-take-le}
use Rattle.std.proofs.lemmas.List.Elements.{filter-append}
use Rattle.std.proofs.lemmas.List.Folds.{list_any-append, list_any_at}
use Rattle.ip_defs.specs.Limits.{exceeds}
use Rattle.frac128.specs.Fractions.{Fraction}
use Rattle.frac128.specs.Values.{value_of}
use Rattle.dual_rays.specs.Multiples.{multiple}
use Rattle.dual_rays.specs.Certificates.{is_present, present, multipliers_of, values}
use Rattle.ip_defs.proofs.ListLaws.{enumerate-append}

-- one multiplier more
pub present-more : (zs : List ℤ) (z : ℤ) (k : ℕ) → k ≡ length zs → present (zs ++ z ∷ []) ≡ present zs ++ filter is_present ((k, z) ∷ [])
present-more zs z k e =
    ap (filter is_present) (enumerate-append 0 zs (z ∷ []) ∙ ap (λ k. enumerate_from 0 zs ++ enumerate_from k (z ∷ [])) (omega arith))
    ∙ filter-append is_present (enumerate_from 0 zs) ((length zs, z) ∷ []) ∙ ap (λ (k : ℕ). present zs
    ++ filter is_present ((k, z) ∷ [])) (sym e)

-- the multiples of fractions, one more at a time
pub multiples-next : (q : ℕ) (xs : List Fraction) (i : ℕ) (x : Fraction) → i < length xs → x ≡ slice_index_or xs i x →
    map (multiple q) (values (take (i + 1) xs)) ≡ map (multiple q) (values (take i xs)) ++ multiple q (value_of x) ∷ []
multiples-next q xs i x l is =
    let first = take i xs in
    ap (λ ys. map (multiple q) (values ys)) (take_more xs i x l ∙ ap (λ y. first ++ y ∷ []) (sym is))
    ∙ ap (map (multiple q)) (map-append value_of first (x ∷ []))
    ∙ map-append (multiple q) (values first) (value_of x ∷ [])

-- a multiple by its place
pub multiple-at : (q : ℕ) (xs : List Fraction) (i : ℕ) (d : Fraction) (e : ℤ) → i < length xs →
    slice_index_or (map (multiple q) (values xs)) i e ≡ multiple q (value_of (slice_index_or xs i d))
multiple-at q xs i d e l =
    let size : i < length (values xs) = subst (λ n. i < n) (sym (length-map xs value_of)) l in
    get_or-map (multiple q) (values xs) i (value_of d) e size ∙ ap (multiple q) (get_or-map value_of xs i d (value_of d) l)

-- a multiple beyond the limit
pub multiples-past : (q : ℕ) (xs : List Fraction) (i : ℕ) (x : Fraction) → i < length xs → x ≡ slice_index_or xs i x →
    exceeds (2 ^ 36) (multiple q (value_of x)) ≡ true → None ≡ multipliers_of (map (multiple q) (values xs))
multiples-past q xs i x l is e =
    let zs = map (multiple q) (values xs) in
    let size : i < length zs = subst (λ n. i < n) (sym (length-map (values xs) (multiple q) ∙ length-map xs value_of)) l in
    let at = multiple-at q xs i x (pos 0) l ∙ ap (λ y. multiple q (value_of y)) (sym is) in
    sym (ap (λ t. if t then None else Some (present zs)) (list_any_at (exceeds (2 ^ 36)) zs i (pos 0) size (ap (exceeds (2 ^ 36)) at ∙ e)))

pub exceeds-none : (zs : List ℤ) (z : ℤ) → list_any (exceeds (2 ^ 36)) zs ≡ false → exceeds (2 ^ 36) z ≡ false →
    list_any (exceeds (2 ^ 36)) (zs ++ z ∷ []) ≡ false
exceeds-none zs z e f = list_any-append (exceeds (2 ^ 36)) zs (z ∷ []) ∙ ap (λ t. t || list_any (exceeds (2 ^ 36)) (z ∷ [])) e
    ∙ ap (λ t. t || false) f

-- a loop over fractions that adds each multiple
pub present-next : (q : ℕ) (xs : List Fraction) (i : ℕ) (x : Fraction) (z : ℤ) (k : ℕ) (ys : List (ℕ × ℤ)) → i < length xs →
    x ≡ slice_index_or xs i x → z ≡ multiple q (value_of x) → k ≡ i → ys ≡ present (map (multiple q) (values (take i xs))) → ys
    ++ filter is_present ((k, z) ∷ []) ≡ present (map (multiple q) (values (take (i + 1) xs)))
present-next q xs i x z k ys l is same here kept =
    let zs = map (multiple q) (values (take i xs)) in
    let size : length zs ≡ i = length-map (values (take i xs)) (multiple q) ∙ length-map (take i xs) value_of
    ∙ length-take-le i xs (omega arith) in
    ap (λ ws. ws ++ filter is_present ((k, z) ∷ [])) kept
    ∙ sym (present-more zs z k (here ∙ sym size))
    ∙ ap (λ w. present (zs ++ w ∷ [])) same
    ∙ ap present (sym (multiples-next q xs i x l is))
