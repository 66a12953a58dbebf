-- Lists of a model, one element at a time.
use Rattle.std.specs.Prelude.{◌≡◌, ℕ, zero, suc, ◌+◌, ◌<◌, ◌==◌, Bool, true, false, cond, not, List, [], ◌∷◌, ◌++◌, length, map, drop}
use Rattle.std.specs.Prelude.{if◌then◌else◌, Some, None, slice_get, unsigned_abs, ℤ, pos, negsuc}
use Rattle.std.specs.Option.{is_some}
use Rattle.ip_defs.specs.Lists.{when}
use Rattle.mps_defs.specs.declared.reading.How.{How}
use Rattle.ip_defs.specs.declared.programs.Column.{Column}
use Rattle.ip_defs.specs.declared.programs.Row.{Row}
use Rattle.mps_reader.specs.declared.draft.RowDraft.{RowDraft}
use Rattle.mps_reader.specs.declared.draft.ColumnDraft.{ColumnDraft}
use Rattle.std.proofs.Common.{arith, refl, sym, ap, ◌∙◌, get_or, append_assoc, drop-cons}
use Rattle.std.proofs.lemmas.Int.{ints, clamps}
use Rattle.std.proofs.Math.Dec.{eqb-suc-zero}
use Rattle.mps_defs.specs.TextModels.{units}
use Rattle.mps_defs.specs.declared.reading.Number.{Number}
use Rattle.mps_reader.specs.Internal.Clamps.{clamped, clamped_coefs, clamped_column, clamped_row}
use Rattle.mps_reader.specs.Internal.Drafted.{drafted_coefs, drafted_column, drafted_columns, drafted_row, drafted_rows, cost_head}
use Rattle.mps_reader.specs.Internal.Drafted.{cost_rest, is_free_kind}

-- a list from a place on
pub drop_at : {A : Type 0} (xs : List A) (j : ℕ) (d : A) → j < length xs → drop j xs ≡ get_or xs j d ∷ drop (j + 1) xs
drop_at xs j d within =
    let next : suc j ≡ j + 1 = omega arith in
    drop-cons xs j d within ∙ ap (λ i. get_or xs j d ∷ drop i xs) next

pub drop_read : {A : Type 0} (xs : List A) (j : ℕ) (x : A) → j < length xs → x ≡ get_or xs j x → drop j xs ≡ x ∷ drop (j + 1) xs
drop_read xs j x within is = drop_at xs j x within ∙ ap (λ y. y ∷ drop (j + 1) xs) (sym is)

pub drop_mapped : {A B : Type 0} (f : A → B) (xs : List A) (j : ℕ) (x : A) → j < length xs → x ≡ get_or xs j x
    → drop j (map f xs) ≡ f x ∷ drop (j + 1) (map f xs)
drop_mapped f [] j x within is = absurd (omega arith)
drop_mapped f (y ∷ ys) zero x within is = ap (λ z. f z ∷ map f ys) (sym is)
drop_mapped f (y ∷ ys) (suc j) x within is =
    let next : suc (j + 1) ≡ suc j + 1 = omega arith in
    drop_mapped f ys j x (omega arith) is ∙ ap (λ i. f x ∷ drop i (map f (y ∷ ys))) next

-- a clamped number is 0 exactly where the number is
pub clamped_nothing : (z : ℤ) → clamped z ≡ pos 0 → (unsigned_abs z == 0) ≡ true
clamped_nothing z e = let none : z ≡ pos 0 = omega (arith, ints, clamps) in ap (λ w. unsigned_abs w == 0) none

pub clamped_something : (z : ℤ) → (clamped z ≡ pos 0 → ⊥) → (unsigned_abs z == 0) ≡ false
clamped_something (pos zero) some = absurd (some refl)
clamped_something (pos (suc n)) some = eqb-suc-zero n
clamped_something (negsuc n) some = eqb-suc-zero n

-- one more entry, which is left out where it is 0
pub coefs_skip : (k : ℕ) (p : ℕ × Number) (ps : List (ℕ × Number)) (done : List (ℕ × ℤ)) (z : ℤ) → z ≡ clamped (units k p.1) → z ≡ pos 0
    → done ++ clamped_coefs (drafted_coefs k ps) ≡ done ++ clamped_coefs (drafted_coefs k (p ∷ ps))
coefs_skip k p ps done z is none =
    let nothing = clamped_nothing (units k p.1) (sym is ∙ none) in
    ap (λ t. done ++ clamped_coefs (cond (not t) ((p.0, units k p.1) ∷ drafted_coefs k ps) (drafted_coefs k ps))) (sym nothing)

pub coefs_take : (k : ℕ) (p : ℕ × Number) (ps : List (ℕ × Number)) (done : List (ℕ × ℤ)) (z : ℤ) → z ≡ clamped (units k p.1)
    → (z ≡ pos 0 → ⊥)
    → (done ++ (p.0, z) ∷ []) ++ clamped_coefs (drafted_coefs k ps) ≡ done ++ clamped_coefs (drafted_coefs k (p ∷ ps))
coefs_take k p ps done z is some =
    let something = clamped_something (units k p.1) (λ e. some (is ∙ e)) in
    append_assoc done ((p.0, z) ∷ []) (clamped_coefs (drafted_coefs k ps))
    ∙ ap (λ w. done ++ (p.0, w) ∷ clamped_coefs (drafted_coefs k ps)) is
    ∙ ap (λ t. done ++ clamped_coefs (cond (not t) ((p.0, units k p.1) ∷ drafted_coefs k ps) (drafted_coefs k ps))) (sym something)

-- one more column
pub columns_more : (how : How) (k j : ℕ) (costs : List (ℕ × Number)) (names others : List (List ℕ)) (cs later : List ColumnDraft)
    (name : List ℕ) (c : ColumnDraft) (done : List Column) (x : Column)
    → names ≡ name ∷ others → cs ≡ c ∷ later → x ≡ clamped_column (drafted_column how k name (cost_head j costs) c)
    → (done ++ x ∷ []) ++ map clamped_column (drafted_columns how k (suc j) (cost_rest j costs) others later)
    ≡ done ++ map clamped_column (drafted_columns how k j costs names cs)
columns_more how k j costs names others cs later name c done x named is made =
    append_assoc done (x ∷ []) (map clamped_column (drafted_columns how k (suc j) (cost_rest j costs) others later))
    ∙ ap (λ y. done ++ y ∷ map clamped_column (drafted_columns how k (suc j) (cost_rest j costs) others later)) made
    ∙ ap (λ ns. done ++ map clamped_column (drafted_columns how k j costs ns (c ∷ later))) (sym named)
    ∙ ap (λ l. done ++ map clamped_column (drafted_columns how k j costs names l)) (sym is)

-- the costs that are left after a column with one, and after a column without one
pub cost_taken : (j : ℕ) (costs : List (ℕ × Number)) (n : ℕ) → is_some (cost_head j (drop n costs)) ≡ true
    → (cost_rest j (drop n costs) ≡ drop (n + 1) costs) × (n < length costs)
cost_taken j [] n e = by n e
  where
    by : (i : ℕ) → is_some (cost_head j (drop {A = ℕ × Number} i [])) ≡ true → (cost_rest j (drop i []) ≡ drop (i + 1) []) × (i < 0)
    by zero h = absurd cc
    by (suc i) h = absurd cc
cost_taken j (p ∷ ps) zero e = by (p.0 == j) e
  where
    by : (t : Bool) → is_some (if t then Some p.1 else None) ≡ true → ((if t then ps else p ∷ ps) ≡ ps) × (0 < suc (length ps))
    by true h = (refl, omega arith)
    by false h = absurd cc
cost_taken j (p ∷ ps) (suc n) e =
    let more = cost_taken j ps n e in
    let next : suc (n + 1) ≡ suc n + 1 = omega arith in
    (more.0 ∙ ap (λ i. drop i (p ∷ ps)) next, omega arith)

pub cost_left : (j : ℕ) (costs : List (ℕ × Number)) → is_some (cost_head j costs) ≡ false → cost_rest j costs ≡ costs
cost_left j [] e = refl
cost_left j (p ∷ ps) e = by (p.0 == j) e
  where
    by : (t : Bool) → is_some (if t then Some p.1 else None) ≡ false → (if t then ps else p ∷ ps) ≡ p ∷ ps
    by true h = absurd cc
    by false h = refl

-- one more row, which is left out where it is free
pub rows_take : (how : How) (names others : List (List ℕ)) (rs later : List RowDraft) (name : List ℕ) (r : RowDraft) (done : List Row)
    (x : Row)
    → names ≡ name ∷ others → rs ≡ r ∷ later → is_free_kind r.kind ≡ false → x ≡ clamped_row (drafted_row how name r)
    → (done ++ x ∷ []) ++ map clamped_row (drafted_rows how others later) ≡ done ++ map clamped_row (drafted_rows how names rs)
rows_take how names others rs later name r done x named is bound made =
    append_assoc done (x ∷ []) (map clamped_row (drafted_rows how others later))
    ∙ ap (λ y. done ++ y ∷ map clamped_row (drafted_rows how others later)) made
    ∙ ap (λ t. done ++ map clamped_row (when (not t) (drafted_row how name r) ++ drafted_rows how others later)) (sym bound)
    ∙ ap (λ ns. done ++ map clamped_row (drafted_rows how ns (r ∷ later))) (sym named)
    ∙ ap (λ l. done ++ map clamped_row (drafted_rows how names l)) (sym is)

pub rows_skip : (how : How) (names others : List (List ℕ)) (rs later : List RowDraft) (name : List ℕ) (r : RowDraft) (done : List Row)
    → names ≡ name ∷ others → rs ≡ r ∷ later → is_free_kind r.kind ≡ true
    → done ++ map clamped_row (drafted_rows how others later) ≡ done ++ map clamped_row (drafted_rows how names rs)
rows_skip how names others rs later name r done named is free =
    ap (λ t. done ++ map clamped_row (when (not t) (drafted_row how name r) ++ drafted_rows how others later)) (sym free)
    ∙ ap (λ ns. done ++ map clamped_row (drafted_rows how ns (r ∷ later))) (sym named)
    ∙ ap (λ l. done ++ map clamped_row (drafted_rows how names l)) (sym is)

-- an element is what its place in the mapped list says
pub mapped_at : {A B : Type 0} (f : A → B) (xs : List A) (i : ℕ) (x : A) (y : B) → i < length xs → x ≡ get_or xs i x
    → slice_get (map f xs) i ≡ Some y → f x ≡ y
mapped_at f [] i x y within is at = absurd (omega arith)
mapped_at f (z ∷ zs) zero x y within is at = ap f is ∙ some_same (f z) y at
  where
    some_same : {B : Type 0} (a b : B) → Some a ≡ Some b → a ≡ b
    some_same a b e = cc
mapped_at f (z ∷ zs) (suc i) x y within is at = mapped_at f zs i x y (omega arith) is at
