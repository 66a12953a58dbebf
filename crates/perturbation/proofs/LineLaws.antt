-- Lines of models: one more column of a line of costs, one more side of a line of sides, and the limits of the models.
use Rattle.std.specs.Prelude.{◌≡◌, ℕ, zero, suc, ◌+◌, ◌<◌, ◌≤◌, ◌^◌, Bool, true, false, cond, List, [], ◌∷◌, ◌++◌, length, take}
use Rattle.std.specs.Prelude.{position, option_map, Option, Some, None, slice_get, Ok, Err, ℤ, pos, ◌+ℤ◌}
use Rattle.std.specs.Prelude.{◌*ℤ◌}
use Rattle.std.specs.Int.RustNames.{unsigned_abs}
use Rattle.std.proofs.Common.{arith, refl, ap, sym, ◌∙◌, subst}
use Rattle.std.proofs.lemmas.Bool.{ltb-false}
use Rattle.std.proofs.lemmas.List.{take_more, take_all}
use Rattle.std.proofs.lemmas.Option.{get_or_from_slice_get, slice_get_within}
use Rattle.ip_defs.specs.Limits.{IsWithinLimits, IsColumn, exceeds}
use Rattle.ip_defs.proofs.ListLaws.{unmapped}
use Rattle.ip_defs.proofs.OrderLaws.{lt_true, lt_false}
use Rattle.ip_defs.specs.Program.{at}
use Rattle.ip_defs.specs.declared.programs.Column.{Column}
use Rattle.ip_defs.specs.declared.programs.Parts.{Parts}
use Rattle.ip_model.proofs.ChangeLaws.{other_columns_within}
use Rattle.ip_model.specs.Places.{with_cost}
use Rattle.perturbation.specs.declared.edits.LineError.{LineError}
use Rattle.perturbation.specs.declared.edits.LineError.TheVariants.{Limit, Memory}
use Rattle.perturbation.specs.Lines.{columns_at, without_constant, program_at, first_large_cost, unless_large, cost_line_of}
use Rattle.perturbation.specs.Lines.{IsLineAnswer}
use Rattle.mps_defs.proofs.PlaceLaws.{position_cons}

-- ---- the first element of a list that passes a test

-- neither the first element nor another one passes
neither : {A : Type 0} (test : A → Bool) (y : A) (ys : List A) → position test (y ∷ ys) ≡ None
    → (test y ≡ false) × (position test ys ≡ None)
neither test y ys none = by (test y) refl (sym (position_cons test y ys) ∙ none)
  where
    by : (t : Bool) → test y ≡ t → cond t (Some 0) (option_map suc (position test ys)) ≡ None → (test y ≡ false) × (position test ys ≡ None)
    by true is e = absurd cc
    by false is e = (is, unmapped suc (position test ys) e)

past : {A : Type 0} (test : A → Bool) (y : A) (ys : List A) → test y ≡ false → position test (y ∷ ys) ≡ option_map suc (position test ys)
past test y ys e = position_cons test y ys ∙ ap (λ t. cond t (Some 0) (option_map suc (position test ys))) e

none_more : {A : Type 0} (test : A → Bool) (xs : List A) (x : A) → position test xs ≡ None → test x ≡ false
    → position test (xs ++ x ∷ []) ≡ None
none_more test [] x none e = past test x [] e
none_more test (y ∷ ys) x none e =
    let both = neither test y ys none in
    past test y (ys ++ x ∷ []) both.0 ∙ ap (option_map suc) (none_more test ys x both.1 e)

first_here : {A : Type 0} (test : A → Bool) (xs : List A) (j : ℕ) (x : A) → position test (take j xs) ≡ None → slice_get xs j ≡ Some x
    → test x ≡ true → position test xs ≡ Some j
first_here test [] j x none here e = absurd cc
first_here test (y ∷ ys) zero x none here e =
    let same : y ≡ x = cc in
    position_cons test y ys ∙ ap (λ t. cond t (Some 0) (option_map suc (position test ys))) (ap test same ∙ e)
first_here test (y ∷ ys) (suc j) x none here e =
    let both = neither test y (take j ys) none in
    past test y ys both.0 ∙ ap (option_map suc) (first_here test ys j x both.1 here e)

none_passes : {A : Type 0} (test : A → Bool) (xs : List A) (j : ℕ) (x : A) → position test xs ≡ None → slice_get xs j ≡ Some x
    → test x ≡ false
none_passes test [] j x none here = absurd cc
none_passes test (y ∷ ys) zero x none here = let same : y ≡ x = cc in ap test (sym same) ∙ (neither test y ys none).0
none_passes test (y ∷ ys) (suc j) x none here = none_passes test ys j x (neither test y ys none).1 here

-- ---- columns along a direction of costs

length_moved : (cs : List Column) (ds : List ℤ) (p q : ℤ) → length (columns_at cs ds p q) ≡ length cs
length_moved [] ds p q = refl
length_moved (c ∷ cs) [] p q = ap suc (length_moved cs [] p q)
length_moved (c ∷ cs) (d ∷ ds) p q = ap suc (length_moved cs ds p q)

moved_at : (cs : List Column) (ds : List ℤ) (p q : ℤ) (j : ℕ) (c : Column) → length ds ≡ length cs → slice_get cs j ≡ Some c
    → slice_get (columns_at cs ds p q) j ≡ Some (with_cost (λ old. q *ℤ c.cost +ℤ p *ℤ at ds j) c)
moved_at [] ds p q j c e at = absurd cc
moved_at (b ∷ cs) [] p q j c e at = absurd (omega arith)
moved_at (b ∷ cs) (d ∷ ds) p q zero c e at = let same : b ≡ c = cc in rw same refl
moved_at (b ∷ cs) (d ∷ ds) p q (suc j) c e at = moved_at cs ds p q j c (omega arith) at

-- a column of the line is a column that was there with another cost
moved_from : (cs : List Column) (ds : List ℤ) (p q : ℤ) (j : ℕ) (n : Column) → slice_get (columns_at cs ds p q) j ≡ Some n
    → (c : Column) × (slice_get cs j ≡ Some c) × (n ≡ with_cost (λ old. n.cost) c)
moved_from [] ds p q j n at = absurd cc
moved_from (c ∷ cs) [] p q zero n at = (c, refl, let same : with_cost (λ z. q *ℤ z) c ≡ n = cc in rw (sym same) refl)
moved_from (c ∷ cs) [] p q (suc j) n at = moved_from cs [] p q j n at
moved_from (c ∷ cs) (d ∷ ds) p q zero n at = (c, refl, let same : with_cost (λ z. q *ℤ z +ℤ p *ℤ d) c ≡ n = cc in rw (sym same) refl)
moved_from (c ∷ cs) (d ∷ ds) p q (suc j) n at = moved_from cs ds p q j n at

-- the first j columns of the line, none of which exceeds the limit
pub record AreMoved (cs : List Column) (ds : List ℤ) (p q : ℤ) (j : ℕ) (moved : List Column) : Type 0 where
  pub columns : moved ≡ take j (columns_at cs ds p q)
  pub small : first_large_cost moved ≡ None

-- one more column, whose cost z was computed
pub one_moved : {cs : List Column} {ds : List ℤ} {p q : ℤ} {j : ℕ} {moved : List Column} {c : Column} {z : ℤ} → AreMoved cs ds p q j moved
    → length ds ≡ length cs → slice_get cs j ≡ Some c → z ≡ q *ℤ c.cost +ℤ p *ℤ at ds j → unsigned_abs z ≤ 2 ^ 40
    → AreMoved cs ds p q (j + 1) (moved ++ with_cost (λ old. z) c ∷ [])
one_moved {cs = cs} {ds = ds} {p = p} {q = q} {j = j} {moved = moved} {c = c} {z = z} before size here is small =
    let next = with_cost (λ old. z) c in
    let found = moved_at cs ds p q j c size here ∙ ap (λ (y : ℤ). Some (with_cost (λ old. y) c)) (sym is) in
    let within = slice_get_within (columns_at cs ds p q) j next found in
    let more = take_more (columns_at cs ds p q) j next within in
    let read = get_or_from_slice_get (columns_at cs ds p q) j next next found in
    record {
      columns = ap (λ k. k ++ next ∷ []) before.columns ∙ sym (more ∙ ap (λ x. take j (columns_at cs ds p q) ++ x ∷ []) read);
      small = none_more (λ (k : Column). exceeds (2 ^ 40) k.cost) moved next before.small (lt_false (2 ^ 40) (unsigned_abs z) small);
    }

pub one_large : {cs : List Column} {ds : List ℤ} {p q : ℤ} {j : ℕ} {moved : List Column} {c : Column} {z : ℤ} → AreMoved cs ds p q j moved
    → length ds ≡ length cs → slice_get cs j ≡ Some c → z ≡ q *ℤ c.cost +ℤ p *ℤ at ds j → 2 ^ 40 < unsigned_abs z
    → unless_large (first_large_cost (columns_at cs ds p q)) (columns_at cs ds p q) ≡ Err (Limit j)
one_large {cs = cs} {ds = ds} {p = p} {q = q} {j = j} {c = c} {z = z} before size here is large =
    let none = ap first_large_cost (sym before.columns) ∙ before.small in
    let many = ap (exceeds (2 ^ 40)) (sym is) ∙ lt_true (2 ^ 40) (unsigned_abs z) large in
    ap (λ o. unless_large o (columns_at cs ds p q)) (first_here (λ (k : Column). exceeds (2 ^ 40) k.cost) (columns_at cs ds p q) j
    (with_cost (λ old. q *ℤ c.cost +ℤ p *ℤ at ds j) c) none (moved_at cs ds p q j c size here) many)

pub all_moved : (cs : List Column) (ds : List ℤ) (p q : ℤ) (j : ℕ) (moved : List Column) → AreMoved cs ds p q j moved → length cs ≤ j
    → unless_large (first_large_cost (columns_at cs ds p q)) (columns_at cs ds p q) ≡ Ok moved
all_moved cs ds p q j moved before past =
    let size = length_moved cs ds p q in
    let all = before.columns ∙ take_all j (columns_at cs ds p q) (omega arith) in
    let none = ap first_large_cost (sym all) ∙ before.small in
    ap (λ o. unless_large o (columns_at cs ds p q)) none ∙ ap Ok (sym all)

-- ---- the model of a line of costs

-- what an answer about the columns says
pub columns_are : (m : Parts) (ds : List ℤ) (p q : ℤ) (columns : List Column)
    → unless_large (first_large_cost (columns_at m.columns ds p q)) (columns_at m.columns ds p q) ≡ Ok columns
    → (first_large_cost (columns_at m.columns ds p q) ≡ None) × (columns_at m.columns ds p q ≡ columns)
columns_are m ds p q columns e = by (first_large_cost (columns_at m.columns ds p q)) e
  where
    by : (o : Option ℕ) → unless_large o (columns_at m.columns ds p q) ≡ Ok columns → (o ≡ None) × (columns_at m.columns ds p q ≡ columns)
    by None e = (refl, let same : columns_at m.columns ds p q ≡ columns = cc in same)
    by (Some j) e = absurd cc

pub large_is : (m : Parts) (ds : List ℤ) (p q : ℤ) (error : LineError)
    → IsLineAnswer (unless_large (first_large_cost (columns_at m.columns ds p q)) (columns_at m.columns ds p q)) (Err error)
    → IsLineAnswer (cost_line_of m ds p q) (Err error)
large_is m ds p q Memory e = tt
large_is m ds p q (Limit k) e = by (first_large_cost (columns_at m.columns ds p q)) e
  where
    by : (o : Option ℕ) → unless_large o (columns_at m.columns ds p q) ≡ Err (Limit k)
        → unless_large o (program_at m ds p q) ≡ Err (Limit k)
    by None e = absurd cc
    by (Some j) e = let same : j ≡ k = cc in rw same refl

-- the model of a line of costs is within its limits
pub cost_line_within : (m : Parts) (ds : List ℤ) (p q : ℤ) → IsWithinLimits m → first_large_cost (columns_at m.columns ds p q) ≡ None
    → IsWithinLimits (program_at m ds p q)
cost_line_within m ds p q limits none =
    other_columns_within m (pos 0) (columns_at m.columns ds p q) limits (length_moved m.columns ds p q) (omega arith) (λ j n at.
    let from = moved_from m.columns ds p q j n at in
    let old = limits.columns j from.0 from.1 in
    let few = none_passes (λ (k : Column). exceeds (2 ^ 40) k.cost) (columns_at m.columns ds p q) j n none at in
    let now : IsColumn (with_cost (λ z. n.cost) from.0) =
    record { name = old.name; cost = ltb-false (2 ^ 40) (unsigned_abs n.cost) few; lo = old.lo; hi = old.hi } in
    subst IsColumn (sym from.2) now)

-- the model that is made of the columns of a line
pub cost_line_is : (m : Parts) (ds : List ℤ) (p q : ℤ) (columns : List Column) (n : Parts)
    → unless_large (first_large_cost (columns_at m.columns ds p q)) (columns_at m.columns ds p q) ≡ Ok columns
    → n ≡ without_constant m columns
    → cost_line_of m ds p q ≡ Ok n
cost_line_is m ds p q columns n e is =
    let both = columns_are m ds p q columns e in
    ap (λ o. unless_large o (program_at m ds p q)) both.0 ∙ ap (λ cs. Ok (without_constant m cs)) both.1 ∙ ap Ok (sym is)

pub cost_line_limits : (m : Parts) (ds : List ℤ) (p q : ℤ) (columns : List Column) (n : Parts) → IsWithinLimits m
    → unless_large (first_large_cost (columns_at m.columns ds p q)) (columns_at m.columns ds p q) ≡ Ok columns
    → n ≡ without_constant m columns
    → IsWithinLimits n
cost_line_limits m ds p q columns n limits e is =
    let both = columns_are m ds p q columns e in
    subst IsWithinLimits (ap (without_constant m) both.1 ∙ sym is) (cost_line_within m ds p q limits both.0)
