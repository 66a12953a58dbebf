-- The coefficients of the columns: what a row adds to their lists, and the lines that they stand for.
use Rattle.std.specs.Prelude.{◌≡◌, ℕ, zero, suc, ◌+◌, ◌<◌, ◌≤◌, ◌==◌, Bool, true, false, if◌then◌else◌, List, [], ◌∷◌, ◌++◌, length, take}
use Rattle.std.specs.Prelude.{flat_map, find, Some, slice_get, slice_set, ℤ, refl}
use Rattle.std.specs.List.{enumerate_from}
use Rattle.std.specs.Option.{option_map_or}
use Rattle.std.proofs.Common.{arith, ap, sym, ◌∙◌, append_assoc, get_or}
use Rattle.std.proofs.lemmas.Bool.{eqb-true, eqb-false}
use Rattle.std.proofs.lemmas.Grind.{flat_map-append}
use Rattle.std.proofs.lemmas.List.{append-nil, get_or-set_other, get_or-set_same}
use Rattle.std.proofs.lemmas.List.FromFn.{get_or-enumerate_from, length-enumerate_from}
use Rattle.std.proofs.lemmas.Option.{get_or_from_slice_get, slice_get-get_or, slice_get_within}
use Rattle.ip_defs.specs.Limits.{index_at}
use Rattle.mps_defs.specs.Numbers.{decimal_text}
use Rattle.mps_defs.specs.CanonicalText.{Written, coef_line, triple}
use Rattle.ip_defs.specs.declared.programs.Row.{Row}
use Rattle.mps_printer.specs.Internal.Entries.{column_entries, entry_line, listed_for}

-- ---- one more coefficient of a row

-- what a coefficient adds to the list of a column
abbrev pub added : ℕ → ℕ → ℕ × ℤ → List (ℕ × ℤ)
added j i p = if p.0 == j then (i, p.1) ∷ [] else []

pub listed_more : (j i : ℕ) (ps : List (ℕ × ℤ)) (k : ℕ) (p : ℕ × ℤ) → slice_get ps k ≡ Some p
    → listed_for j i (take (suc k) ps) ≡ listed_for j i (take k ps) ++ added j i p
listed_more j i [] k p e = absurd cc
listed_more j i (q ∷ ps) zero p e = let same : q ≡ p = cc in ap (added j i) same
listed_more j i (q ∷ ps) (suc k) p e = by (q.0 == j) (listed_more j i ps k p e)
  where
    by : (t : Bool) → listed_for j i (take (suc k) ps) ≡ listed_for j i (take k ps) ++ added j i p
        → (if t then (i, q.1) ∷ listed_for j i (take (suc k) ps) else listed_for j i (take (suc k) ps))
        ≡ (if t then (i, q.1) ∷ listed_for j i (take k ps) else listed_for j i (take k ps)) ++ added j i p
    by true h = ap (λ l. (i, q.1) ∷ l) h
    by false h = h

-- the list of its column is written anew, and no other
pub pushed : (lists : List (List (ℕ × ℤ))) (i : ℕ) (p : ℕ × ℤ) (j : ℕ) → p.0 < length lists
    → get_or (slice_set lists p.0 (get_or lists p.0 [] ++ (i, p.1) ∷ [])) j [] ≡ get_or lists j [] ++ added j i p
pushed lists i p j within = by (p.0 == j) refl
  where
    by : (t : Bool) → (p.0 == j) ≡ t
        → get_or (slice_set lists p.0 (get_or lists p.0 [] ++ (i, p.1) ∷ [])) j [] ≡ get_or lists j [] ++ (if t then (i, p.1) ∷ [] else [])
    by true e =
        let same : p.0 ≡ j = eqb-true p.0 j e in
        ap (λ k. get_or (slice_set lists p.0 (get_or lists p.0 [] ++ (i, p.1) ∷ [])) k []) (sym same)
        ∙ get_or-set_same lists p.0 _ [] within
        ∙ ap (λ k. get_or lists k [] ++ (i, p.1) ∷ []) same
    by false e = get_or-set_other lists p.0 j _ [] (λ g. eqb-false p.0 j e (sym g)) ∙ sym (append-nil (get_or lists j []))

-- ---- one more row

pub entries_more : (j i : ℕ) (rows : List Row) (k : ℕ) (r : Row) → slice_get rows k ≡ Some r
    → column_entries j i (take (suc k) rows) ≡ column_entries j i (take k rows) ++ listed_for j (i + k) r.coefs
entries_more j i [] k r e = absurd cc
entries_more j i (s ∷ rows) zero r e =
    let same : s ≡ r = cc in
    let first : i + 0 ≡ i = omega arith in
    append-nil (listed_for j i s.coefs) ∙ ap (λ z. listed_for j i z.coefs) same ∙ ap (λ n. listed_for j n r.coefs) (sym first)
entries_more j i (s ∷ rows) (suc k) r e =
    let next : suc i + k ≡ i + suc k = omega arith in
    ap (λ l. listed_for j i s.coefs ++ l) (entries_more j (suc i) rows k r e)
    ∙ sym (append_assoc (listed_for j i s.coefs) (column_entries j (suc i) (take k rows)) (listed_for j (suc i + k) r.coefs))
    ∙ ap (λ n. (listed_for j i s.coefs ++ column_entries j (suc i) (take k rows)) ++ listed_for j n r.coefs) next

-- ---- the numbers of rows are in range

-- each number is below n
abbrev AreBelow : ℕ → List (ℕ × ℤ) → Type 0
AreBelow n [] = Unit {0}
AreBelow n (e ∷ es) = (e.0 < n) × AreBelow n es

listed_below : (j i n : ℕ) (ps : List (ℕ × ℤ)) → i < n → AreBelow n (listed_for j i ps)
listed_below j i n [] h = tt
listed_below j i n (p ∷ ps) h = by (p.0 == j) (listed_below j i n ps h)
  where
    by : (t : Bool) → AreBelow n (listed_for j i ps) → AreBelow n (if t then (i, p.1) ∷ listed_for j i ps else listed_for j i ps)
    by true rest = (h, rest)
    by false rest = rest

join_below : (n : ℕ) (xs ys : List (ℕ × ℤ)) → AreBelow n xs → AreBelow n ys → AreBelow n (xs ++ ys)
join_below n [] ys h g = g
join_below n (x ∷ xs) ys h g = (h.0, join_below n xs ys h.1 g)

entries_in : (j i n : ℕ) (rows : List Row) → i + length rows ≤ n → AreBelow n (column_entries j i rows)
entries_in j i n [] h = tt
entries_in j i n (r ∷ rows) h =
    join_below n (listed_for j i r.coefs) (column_entries j (suc i) rows) (listed_below j i n r.coefs (omega arith))
    (entries_in j (suc i) n rows (omega arith))

number_below : (n : ℕ) (es : List (ℕ × ℤ)) (k : ℕ) → AreBelow n es → k < length es → index_at es k < n
number_below n [] k h l = absurd (omega arith)
number_below n (e ∷ es) zero h l = h.0
number_below n (e ∷ es) (suc k) h l = number_below n es k h.1 (omega arith)

pub entries_below : (j : ℕ) (rows : List Row) (k : ℕ) → k < length (column_entries j 0 rows)
    → index_at (column_entries j 0 rows) k < length rows
entries_below j rows k l = number_below (length rows) (column_entries j 0 rows) k (entries_in j 0 (length rows) rows (omega arith)) l

-- ---- the lines of a column's coefficients

-- the numbers of pairs rise
abbrev pub AreRising : List (ℕ × ℤ) → Type 0
AreRising ps = (i k : ℕ) → i < k → k < length ps → index_at ps i < index_at ps k

none_listed : (j i : ℕ) (ps : List (ℕ × ℤ)) → ((k : ℕ) → k < length ps → j < index_at ps k) → listed_for j i ps ≡ []
none_listed j i [] above = refl
none_listed j i (p ∷ ps) above = by (p.0 == j) refl (none_listed j i ps (λ k l. above (suc k) (omega arith)))
  where
    by : (t : Bool) → (p.0 == j) ≡ t → listed_for j i ps ≡ [] → (if t then (i, p.1) ∷ listed_for j i ps else listed_for j i ps) ≡ []
    by true e rest = let same = eqb-true p.0 j e in let far = above 0 (omega arith) in absurd (omega arith)
    by false e rest = rest

listed_line : (j i : ℕ) (name : List ℕ) (all : List Row) (r : Row) (ps : List (ℕ × ℤ)) → slice_get all i ≡ Some r → AreRising ps
    → flat_map (entry_line name all) (listed_for j i ps)
    ≡ option_map_or (λ p. triple name r.name (decimal_text p.1 r.decimals) ∷ []) (find (λ p. p.0 == j) ps) []
listed_line j i name all r [] found rising = refl
listed_line j i name all r (p ∷ ps) found rising =
    by (p.0 == j) refl (listed_line j i name all r ps found (λ h k l m. rising (suc h) (suc k) (omega arith) (omega arith)))
  where
    line : ℕ × ℤ → List Written
    line q = triple name r.name (decimal_text q.1 r.decimals) ∷ []

    later : (p.0 == j) ≡ true → (k : ℕ) → k < length ps → j < index_at ps k
    later e k l = let same = eqb-true p.0 j e in let above = rising 0 (suc k) (omega arith) (omega arith) in omega arith

    by : (t : Bool) → (p.0 == j) ≡ t → flat_map (entry_line name all) (listed_for j i ps) ≡ option_map_or line (find (λ p. p.0 == j) ps) []
        → flat_map (entry_line name all) (if t then (i, p.1) ∷ listed_for j i ps else listed_for j i ps)
        ≡ option_map_or line (if t then Some p else find (λ p. p.0 == j) ps) []
    by true e rest =
        ap (λ l. flat_map (entry_line name all) ((i, p.1) ∷ l)) (none_listed j i ps (later e))
        ∙ append-nil (entry_line name all (i, p.1))
        ∙ ap (λ o. option_map_or (λ s. triple name s.name (decimal_text p.1 s.decimals) ∷ []) o []) found
    by false e rest = rest

lines_from : (j i : ℕ) (name : List ℕ) (all rows : List Row) → ((k : ℕ) → k < length rows → slice_get all (i + k) ≡ slice_get rows k)
    → ((k : ℕ) (r : Row) → slice_get rows k ≡ Some r → AreRising r.coefs)
    → flat_map (entry_line name all) (column_entries j i rows) ≡ flat_map (coef_line j name) rows
lines_from j i name all [] same rising = refl
lines_from j i name all (r ∷ rows) same rising =
    flat_map-append (entry_line name all) (listed_for j i r.coefs) (column_entries j (suc i) rows)
    ∙ ap (λ l. l ++ flat_map (entry_line name all) (column_entries j (suc i) rows))
    (listed_line j i name all r r.coefs here (rising 0 r refl))
    ∙ ap (λ l. coef_line j name r ++ l) (lines_from j (suc i) name all rows there (λ k s e. rising (suc k) s e))
  where
    here : slice_get all i ≡ Some r
    here = let first : i ≡ i + 0 = omega arith in ap (slice_get all) first ∙ same 0 (omega arith)

    there : (k : ℕ) → k < length rows → slice_get all (suc i + k) ≡ slice_get rows k
    there k l = let next : suc i + k ≡ i + suc k = omega arith in ap (slice_get all) next ∙ same (suc k) (omega arith)

-- the lines of what was gathered for a column are those of its coefficients in the rows
pub entry_lines : (j : ℕ) (name : List ℕ) (rows : List Row) → ((k : ℕ) (r : Row) → slice_get rows k ≡ Some r → AreRising r.coefs)
    → flat_map (entry_line name rows) (column_entries j 0 rows) ≡ flat_map (coef_line j name) rows
entry_lines j name rows rising = lines_from j 0 name rows rows (λ k l. ap (slice_get rows) (omega arith)) rising

-- an element with its number
pub numbered : {A : Type 0} (xs : List A) (i : ℕ) (x : A) → slice_get xs i ≡ Some x → slice_get (enumerate_from 0 xs) i ≡ Some (i, x)
numbered xs i x e =
    let within = slice_get_within xs i x e in
    let size = length-enumerate_from 0 xs in
    let first : 0 + i ≡ i = omega arith in
    slice_get-get_or (enumerate_from 0 xs) i (0, x) (omega arith)
    ∙ ap Some (get_or-enumerate_from 0 xs i (0, x) within)
    ∙ ap (λ n. Some (n, get_or xs i x)) first
    ∙ ap (λ y. Some (i, y)) (get_or_from_slice_get xs i x x e)
