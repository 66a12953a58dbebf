-- Which entries of a row count, by its kind and by whether it is the objective.
use Rattle.std.specs.Prelude.{◌≡◌, ℕ, zero, suc, ◌==◌, Bool, true, false, cond, not, ◌&&◌, ◌||◌, List, [], ◌∷◌, map, filter, find, position}
use Rattle.std.specs.Prelude.{slice_get, Option, None, Some, bytes_eq, codes, if◌then◌else◌, refl}
use Rattle.std.specs.Option.{option_map, option_map_or}
use Rattle.std.proofs.Common.{ap, sym, ◌∙◌}
use Rattle.std.proofs.lemmas.Bool.{eqb-true, eq-eqb, true≢false, false_from_ne_true}
use Rattle.mps_defs.specs.Lists.{is_among, AreDistinct}
use Rattle.mps_defs.specs.Records.{Line, Entry, is_free, row_lines, row_name, is_kept, is_kept_set, row_names}
use Rattle.mps_reader.specs.declared.entries.Owner.{Owner}
use Rattle.mps_reader.specs.declared.entries.Owner.TheVariants.{Column, RightSides, Ranges}
use Rattle.mps_reader.specs.Internal.Taking.{Owns, owner_word, counts_on}
use Rattle.mps_reader.proofs.NameLaws.{same_tests}
use Rattle.mps_defs.proofs.PlaceLaws.{position_cons, apart_turned, not_at}
use Rattle.ip_defs.proofs.BoolLaws.{left_false, right_false}
use Rattle.ip_defs.proofs.TextLaws.{text_self}
use Rattle.mps_defs.proofs.ListLaws.{fewer_among, get_map}
use Rattle.mps_defs.proofs.EntryLaws.{objective_in}

-- the number that an option has
abbrev pub is_at : Option ℕ → ℕ → Bool
is_at o i = option_map_or (λ j. j == i) o false

-- another row than the first has another name
other_name : (r : Line) (rs : List Line) (i : ℕ) (l : Line) → is_among (row_name r) (map row_name rs) ≡ false → slice_get rs i ≡ Some l
    → bytes_eq (row_name l) (row_name r) ≡ false
other_name r rs i l apart at =
    apart_turned (row_name r) (row_name l) (not_at (row_name r) (map row_name rs) i (row_name l) apart (get_map row_name rs i l at))

-- a row is among the free ones where it is one
pub among_free : (rs : List Line) (i : ℕ) (l : Line) → AreDistinct (map row_name rs) → slice_get rs i ≡ Some l
    → is_among (row_name l) (map row_name (filter is_free rs)) ≡ is_free l
among_free [] i l apart at = absurd (cc at)
among_free (r ∷ rs) zero l apart at =
    let same : r ≡ l = cc at in
    ap (λ k. is_among (row_name k) (map row_name (filter is_free (r ∷ rs)))) (sym same)
    ∙ by (is_free r) (fewer_among row_name is_free (row_name r) rs apart.0)
    ∙ ap is_free same
  where
    by : (b : Bool) → is_among (row_name r) (map row_name (filter is_free rs)) ≡ false
        → is_among (row_name r) (map row_name (cond b (r ∷ filter is_free rs) (filter is_free rs))) ≡ b
    by true h = ap (λ b. b || is_among (row_name r) (map row_name (filter is_free rs))) (text_self (row_name r))
    by false h = h
among_free (r ∷ rs) (suc i) l apart at = by (is_free r) (other_name r rs i l apart.0 at) (among_free rs i l apart.1 at)
  where
    by : (b : Bool) → bytes_eq (row_name l) (row_name r) ≡ false → is_among (row_name l) (map row_name (filter is_free rs)) ≡ is_free l
        → is_among (row_name l) (map row_name (cond b (r ∷ filter is_free rs) (filter is_free rs))) ≡ is_free l
    by true h g = ap (λ b. b || is_among (row_name l) (map row_name (filter is_free rs))) h ∙ g
    by false h g = g

-- the first free row is not named by a name that no row has
not_named : (x : List ℕ) (rs : List Line) → is_among x (map row_name rs) ≡ false → objective_in rs x ≡ false
not_named x [] h = refl
not_named x (r ∷ rs) h = by (is_free r) (not_named x rs (right_false (bytes_eq x (row_name r)) (is_among x (map row_name rs)) h))
  where
    by : (b : Bool) → objective_in rs x ≡ false
        → option_map_or (bytes_eq x) (option_map row_name (cond b (Some r) (find is_free rs))) false ≡ false
    by true k = left_false (bytes_eq x (row_name r)) (is_among x (map row_name rs)) h
    by false k = k

shifted : (o : Option ℕ) (i : ℕ) → is_at (option_map suc o) (suc i) ≡ is_at o i
shifted None i = refl
shifted (Some j) i =
    same_tests (suc j == suc i) (j == i) (λ h. eq-eqb j i (cc (eqb-true (suc j) (suc i) h)))
    (λ h. eq-eqb (suc j) (suc i) (ap suc (eqb-true j i h)))

never_zero : (o : Option ℕ) → is_at (option_map suc o) 0 ≡ false
never_zero None = refl
never_zero (Some j) = false_from_ne_true (suc j == 0) (λ h. cc (eqb-true (suc j) 0 h))

not_suc : (i : ℕ) → (0 == suc i) ≡ false
not_suc i = false_from_ne_true (0 == suc i) (λ h. cc (eqb-true 0 (suc i) h))

-- a row has the name of the first free row where it stands at its place
pub objective_at : (rs : List Line) (i : ℕ) (l : Line) → AreDistinct (map row_name rs) → slice_get rs i ≡ Some l
    → objective_in rs (row_name l) ≡ is_at (position is_free rs) i
objective_at [] i l apart at = absurd (cc at)
objective_at (r ∷ rs) zero l apart at =
    let same : r ≡ l = cc at in
    ap (λ k. objective_in (r ∷ rs) (row_name k)) (sym same)
    ∙ by (is_free r) (not_named (row_name r) rs apart.0)
    ∙ ap (λ o. is_at o 0) (sym (position_cons is_free r rs))
  where
    by : (b : Bool) → objective_in rs (row_name r) ≡ false
        → option_map_or (bytes_eq (row_name r)) (option_map row_name (cond b (Some r) (find is_free rs))) false
        ≡ is_at (if b then Some 0 else option_map suc (position is_free rs)) 0
    by true h = text_self (row_name r)
    by false h = h ∙ sym (never_zero (position is_free rs))
objective_at (r ∷ rs) (suc i) l apart at =
    by (is_free r) (other_name r rs i l apart.0 at) (objective_at rs i l apart.1 at)
    ∙ ap (λ o. is_at o (suc i)) (sym (position_cons is_free r rs))
  where
    by : (b : Bool) → bytes_eq (row_name l) (row_name r) ≡ false → objective_in rs (row_name l) ≡ is_at (position is_free rs) i
        → option_map_or (bytes_eq (row_name l)) (option_map row_name (cond b (Some r) (find is_free rs))) false
        ≡ is_at (if b then Some 0 else option_map suc (position is_free rs)) (suc i)
    by true h g = h ∙ sym (not_suc i)
    by false h g = g ∙ sym (shifted (position is_free rs) i)

-- the first free row is free
pub objective_free : (rs : List Line) (i : ℕ) (l : Line) → slice_get rs i ≡ Some l → is_at (position is_free rs) i ≡ true → is_free l ≡ true
objective_free [] i l at h = absurd (cc at)
objective_free (r ∷ rs) zero l at h =
    let same : r ≡ l = cc at in
    ap is_free (sym same) ∙ by (is_free r) (ap (λ o. is_at o 0) (sym (position_cons is_free r rs)) ∙ h)
  where
    by : (b : Bool) → is_at (if b then Some 0 else option_map suc (position is_free rs)) 0 ≡ true → b ≡ true
    by true h = refl
    by false h = absurd (true≢false (sym h ∙ never_zero (position is_free rs)))
objective_free (r ∷ rs) (suc i) l at h =
    by (is_free r) (λ g. objective_free rs i l at g) (ap (λ o. is_at o (suc i)) (sym (position_cons is_free r rs)) ∙ h)
  where
    by : (b : Bool) → (is_at (position is_free rs) i ≡ true → is_free l ≡ true)
        → is_at (if b then Some 0 else option_map suc (position is_free rs)) (suc i) ≡ true → is_free l ≡ true
    by true rest h = absurd (true≢false (sym h ∙ not_suc i))
    by false rest h = rest (sym (shifted (position is_free rs) i) ∙ h)

-- an entry on a row that is free or not, and the objective or not: whether it counts
abbrev pub kept_on : Bool → Bool → Bool → Bool → Bool → Bool
kept_on free objective in_columns in_set in_ranges = not (free && not objective) && (in_columns || in_set) && not (in_ranges && objective)

column_counts : (free objective set : Bool) → not free || objective ≡ kept_on free objective true set false
column_counts true true set = refl
column_counts true false set = refl
column_counts false true set = refl
column_counts false false set = refl

right_side_counts : (free objective set : Bool) → set && (not free || objective) ≡ kept_on free objective false set false
right_side_counts true true true = refl
right_side_counts true false true = refl
right_side_counts false true true = refl
right_side_counts false false true = refl
right_side_counts true true false = refl
right_side_counts true false false = refl
right_side_counts false true false = refl
right_side_counts false false false = refl

range_counts : (free objective set : Bool) → (objective ≡ true → free ≡ true) → set && not free ≡ kept_on free objective false set true
range_counts true true true h = refl
range_counts true false true h = refl
range_counts false true set h = absurd (true≢false (sym (h refl)))
range_counts false false true h = refl
range_counts true true false h = refl
range_counts true false false h = refl
range_counts false false false h = refl

kept_at : (ls : List Line) (i : ℕ) (l : Line) (e : Entry) (in_columns in_set in_ranges : Bool) → AreDistinct (row_names ls)
    → slice_get (row_lines ls) i ≡ Some l → e.row ≡ row_name l
    → kept_on (is_among e.row (map row_name (filter is_free (row_lines ls))))
    (objective_in (row_lines ls) e.row) in_columns in_set in_ranges
    ≡ kept_on (is_free l) (is_at (position is_free (row_lines ls)) i) in_columns in_set in_ranges
kept_at ls i l e in_columns in_set in_ranges apart at named =
    ap (λ x. kept_on (is_among x (map row_name (filter is_free (row_lines ls))))
    (objective_in (row_lines ls) x) in_columns in_set in_ranges) named
    ∙ ap (λ b. kept_on b (objective_in (row_lines ls) (row_name l)) in_columns in_set in_ranges) (among_free (row_lines ls) i l apart at)
    ∙ ap (λ b. kept_on (is_free l) b in_columns in_set in_ranges) (objective_at (row_lines ls) i l apart at)

-- the code's test says whether an entry on a row counts
pub counts : (ls : List Line) (owner : Owner) (i : ℕ) (l : Line) (e : Entry) → Owns ls owner e.owner
    → AreDistinct (row_names ls) → slice_get (row_lines ls) i ≡ Some l → e.row ≡ row_name l
    → counts_on owner (is_free l) (is_at (position is_free (row_lines ls)) i) ≡ is_kept (owner_word owner) ls e
counts ls (Column number) i l e owns apart at named =
    column_counts (is_free l) (is_at (position is_free (row_lines ls)) i) (is_kept_set (codes "COLUMNS") ls e.owner)
    ∙ sym (kept_at ls i l e true (is_kept_set (codes "COLUMNS") ls e.owner) false apart at named)
counts ls (RightSides kept) i l e owns apart at named =
    ap (λ k. k && (not (is_free l) || is_at (position is_free (row_lines ls)) i)) (sym owns)
    ∙ right_side_counts (is_free l) (is_at (position is_free (row_lines ls)) i) (is_kept_set (codes "RHS") ls e.owner)
    ∙ sym (kept_at ls i l e false (is_kept_set (codes "RHS") ls e.owner) false apart at named)
counts ls (Ranges kept) i l e owns apart at named =
    ap (λ k. k && not (is_free l)) (sym owns)
    ∙ range_counts (is_free l) (is_at (position is_free (row_lines ls)) i) (is_kept_set (codes "RANGES") ls e.owner)
    (objective_free (row_lines ls) i l at)
    ∙ sym (kept_at ls i l e false (is_kept_set (codes "RANGES") ls e.owner) true apart at named)
