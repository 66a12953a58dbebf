-- What the loops of a step find.
use Rattle.std.specs.Prelude.{◌≡◌, ◌≢◌, ℕ, suc, ◌+◌, ◌<◌, ◌==◌, Bool, true, false, if◌then◌else◌, List, [], ◌∷◌, ◌++◌, Option, Some, None}
use Rattle.std.specs.Prelude.{option_map, length, slice_index_or, slice_set, nat_lt, cond, not, Result, Ok, Err, OnErr, ℤ, pos}
use Rattle.std.specs.List.{position, prefix_len}
use Rattle.std.specs.Option.{is_some, option_or}
use Rattle.std.specs.Int.Signed.{lt_z}
use Rattle.std.proofs.Common.{arith, refl, ap, sym, ◌∙◌, take, drop, get_or, get_or-set_same, get_or-set_other}
use Rattle.std.proofs.Math.Seq.{take-append_seam}
use Rattle.std.proofs.lemmas.Bool.{eqb-true, eqb-false}
use borrow.Author.Tests.{ltb-true, ltb-false}
use Rattle.std.proofs.lemmas.List.{take_more, length-take-le}
use Rattle.frac128.specs.Rationals.{Rational, of}
use Rattle.frac128.specs.Fractions.{Fraction, difference_of, quotient_of, whole}
use Rattle.frac128.specs.declared.fraction.Wide.{Wide}
use Rattle.frac128.proofs.Order.{zero_top}
use Rattle.tableau.specs.declared.positions.Rest.{Rest}
use Rattle.tableau.specs.declared.positions.Rest.TheVariants.{Basic}
use Rattle.tableau.specs.Tables.{Table, entry, basic_at, position_at, variable_at}
use Rattle.tableau.specs.Numbers.{side_or_zero, side_at, and_then, value, ratio}
use Rattle.tableau.proofs.ListLaws.{is_wide}
use Rattle.ip_defs.proofs.OrderLaws.{lt_true, lt_false}
use Rattle.tableau.specs.Meanings.{price_number}
use Rattle.simplex_laws.specs.Steps.{direction, entering, side_met, side_towards}
use Rattle.simplex_laws.proofs.StepLaws.{direction_is}
use Rattle.simplex_laws.proofs.AnswerLaws.{entering_is}

-- the direction of a variable by its reduced cost
abbrev pub lowering : Table → ℕ → Option (ℕ × Bool)
lowering T v = option_map (λ up. (v, up)) (direction T (price_number T v) v)

-- an entering variable is one of the tableau's, and not basic
pub enters : (T : Table) (v : ℕ) (up : Bool) (o : Option (ℕ × Bool)) → o ≡ entering T → o ≡ Some (v, up) → (v < length T.variables)
    × (position_at T.positions v ≢ Basic)
enters T v up o e h =
    let advance : ℕ × Bool = (v, up) in
    let r = entering_is T advance (sym e ∙ h) in
    (r.0, (direction_is T (price_number T v) v up r.1).1)

-- ---- places
next_row : (n k : ℕ) → cond (nat_lt (1 + n) (suc k)) (Some (1 + n)) None ≡ option_map suc (cond (nat_lt n k) (Some n) None)
next_row n k = by (nat_lt n k) refl
  where
    by : (t : Bool) → nat_lt n k ≡ t → cond (nat_lt (1 + n) (suc k)) (Some (1 + n)) None ≡ option_map suc (cond t (Some n) None)
    by true e = let l = ltb-true n k e in ap (λ t. cond t (Some (1 + n)) None) (lt_true (1 + n) (suc k) (omega arith))
        ∙ ap (λ z. Some z) (omega arith)
    by false e = let l = ltb-false n k e in ap (λ t. cond t (Some (1 + n)) None) (lt_false (1 + n) (suc k) (omega arith))

position_cons : {X : Type 0} (p : X → Bool) (x : X) (xs : List X) → position p (x ∷ xs)
    ≡ (if p x then Some 0 else option_map suc (position p xs))
position_cons p x xs = by (p x) refl
  where
    from : Bool → Option ℕ
    from t =
        let n = cond (not t) (1 + prefix_len (λ x. not (p x)) xs) 0 in
        cond (nat_lt n (suc (length xs))) (Some n) None

    by : (t : Bool) → p x ≡ t → position p (x ∷ xs) ≡ (if t then Some 0 else option_map suc (position p xs))
    by true e = ap from e ∙ ap (λ t. cond t (Some 0) None) (lt_true 0 (suc (length xs)) (omega arith))
    by false e = ap from e ∙ next_row (prefix_len (λ x. not (p x)) xs) (length xs)

-- a row is found at the end where it was not found before
pub position_push : {X : Type 0} (p : X → Bool) (xs : List X) (y : X) → position p (xs ++ y ∷ [])
    ≡ option_or (position p xs) (if p y then Some (length xs) else None)
position_push p [] y = position_cons p y []
position_push p (x ∷ xs) y =
    position_cons p x (xs ++ y ∷ []) ∙ ap (λ o. if p x then Some 0 else option_map suc o) (position_push p xs y)
    ∙ by (p x) (position p xs) (p y) ∙ ap (λ o. option_or o (if p y then Some (suc (length xs)) else None)) (sym (position_cons p x xs))
  where
    by : (t : Bool) (o : Option ℕ) (u : Bool) → (if t then Some 0 else option_map suc (option_or o (if u then Some (length xs) else None)))
        ≡ option_or (if t then Some 0 else option_map suc o) (if u then Some (suc (length xs)) else None)
    by true o u = refl
    by false None true = refl
    by false None false = refl
    by false (Some i) u = refl

-- the row of a variable among one more row
pub row_step : (basic_rows new : List (Option ℕ)) (basics : List ℕ) (row v : ℕ) → row < length basics →
    slice_index_or basic_rows v None ≡ position (λ w. w == v) (take row basics)
    → (get_or basics row 0 ≡ v → slice_index_or new v None ≡ option_or (slice_index_or basic_rows v None) (Some row)) →
    (get_or basics row 0 ≢ v → slice_index_or new v None ≡ slice_index_or basic_rows v None)
    → slice_index_or new v None ≡ position (λ w. w == v) (take (row + 1) basics)
row_step basic_rows new basics row v l old here elsewhere =
    by (get_or basics row 0 == v) refl
    ∙ ap (λ n. option_or (position (λ w. w == v) (take row basics)) (if get_or basics row 0 == v then Some n else None))
    (sym (length-take-le row basics (omega arith)))
    ∙ sym (position_push (λ w. w == v) (take row basics) (get_or basics row 0))
    ∙ ap (position (λ w. w == v)) (sym (take_more basics row 0 l))
  where
    kept : (o : Option ℕ) → o ≡ option_or o None
    kept None = refl
    kept (Some x) = refl

    by : (t : Bool) → (get_or basics row 0 == v) ≡ t → slice_index_or new v None
        ≡ option_or (position (λ w. w == v) (take row basics)) (if t then Some row else None)
    by true e = here (eqb-true (get_or basics row 0) v e) ∙ ap (λ o. option_or o (Some row)) old
    by false e = elsewhere (eqb-false (get_or basics row 0) v e) ∙ old ∙ kept (position (λ w. w == v) (take row basics))

-- a row is written where there was none
pub placed_here : (basic_rows new : List (Option ℕ)) (b row v : ℕ) → new ≡ slice_set basic_rows b (Some row) → b < length basic_rows →
    is_some (slice_index_or basic_rows b None) ≡ false → b ≡ v
    → slice_index_or new v None ≡ option_or (slice_index_or basic_rows v None) (Some row)
placed_here basic_rows new b row v is l none e =
    ap (λ xs. slice_index_or xs v None) is ∙ ap (λ w. slice_index_or (slice_set basic_rows b (Some row)) w None) (sym e)
    ∙ get_or-set_same basic_rows b (Some row) None l
    ∙ none_else (slice_index_or basic_rows b None) none ∙ ap (λ w. option_or (slice_index_or basic_rows w None) (Some row)) e
  where
    none_else : (o : Option ℕ) → is_some o ≡ false → Some row ≡ option_or o (Some row)
    none_else None h = refl
    none_else (Some x) h = absurd cc

pub placed_there : (basic_rows new : List (Option ℕ)) (b row v : ℕ) → new ≡ slice_set basic_rows b (Some row) → b ≢ v →
    slice_index_or new v None ≡ slice_index_or basic_rows v None
placed_there basic_rows new b row v is n = ap (λ xs. slice_index_or xs v None) is ∙ get_or-set_other basic_rows b v (Some row) None
    (λ e. n (sym e))

-- one that stands there is kept
pub kept_here : (basic_rows new : List (Option ℕ)) (b row v : ℕ) → new ≡ basic_rows → is_some (slice_index_or basic_rows b None) ≡ true
    → b ≡ v →
    slice_index_or new v None ≡ option_or (slice_index_or basic_rows v None) (Some row)
kept_here basic_rows new b row v is some e =
    ap (λ xs. slice_index_or xs v None) is ∙ ap (λ w. slice_index_or basic_rows w None) (sym e)
    ∙ some_else (slice_index_or basic_rows b None) some
    ∙ ap (λ w. option_or (slice_index_or basic_rows w None) (Some row)) e
  where
    some_else : (o : Option ℕ) → is_some o ≡ true → o ≡ option_or o (Some row)
    some_else None h = absurd cc
    some_else (Some x) h = refl

-- ---- blocks
-- a number 0 meets no side
no_side : (up : Bool) (p : Rational) → p.numerator ≡ pos 0 → side_met up p ≡ None
no_side up p e = ap (λ t. if lt_z t (pos 0) then Some (side_towards up) else if lt_z (pos 0) t then Some (side_towards (not up))
    else None) e

-- a number that meets a side is not 0
pub met : (up : Bool) (p : Rational) (side : Rest) → side_met up p ≡ Some side → p ≢ of (pos 0)
met up p side e h = let no = no_side up p (ap (λ (q : Rational). q.numerator) h ∙ zero_top) in absurd cc

-- the ratio at a side that is there, by the row's value
pub ratio_wide : (T : Table) (x : Fraction) (i v : ℕ) (side : Rest) (there : ℤ) (o : Result Fraction Wide) (w : Wide) → value T i ≡ Ok x →
    side_at (variable_at T.variables (basic_at T.basics i)) side ≡ Some there
    → o ≡ and_then (difference_of x (whole there)) (λ direction. quotient_of direction (entry T.rows i v)) → o ≡ Err w →
    ratio T i v side ≡ Err (record {})
ratio_wide T x i v side there o w value side_is is wide =
    ap (λ (y : Result Fraction Wide). and_then y (λ x. and_then (difference_of x
    (whole (side_or_zero (side_at (variable_at T.variables (basic_at T.basics i)) side))))
    (λ direction. quotient_of direction (entry T.rows i v)))) value
    ∙ ap (λ s. and_then (difference_of x (whole (side_or_zero s))) (λ direction. quotient_of direction (entry T.rows i v))) side_is
    ∙ sym is ∙ is_wide o w wide

-- ---- answers by cases
pub wide_answer : {A : Type 0} {P : Type 0} (o : Result A Wide) → ((w : Wide) → o ≡ Err w → P) → OnErr o P
wide_answer (Ok x) f = tt
wide_answer (Err w) f = f w refl

-- what a slice of a whole vector leaves is the vector
pub written_back : {X : Type 0} (k : ℕ) (new old : List X) → k ≡ length new → take k (new ++ drop (length new) old) ≡ new
written_back k new old e = ap (λ n. take n (new ++ drop (length new) old)) e ∙ take-append_seam new (drop (length new) old)
