-- Edits: what is named exists, and a program within its limits stays so.
use Rattle.std.specs.Prelude.{◌≡◌, ◌≢◌, ℕ, ◌<◌, ◌≤◌, ◌^◌, nat_lt, Bool, true, false, cond, ◌||◌, List, [], ◌∷◌, length, Option, Some}
use Rattle.std.specs.Prelude.{None}
use Rattle.std.specs.Prelude.{option_and_then, position, bytes_eq, slice_get, IfOk, Result, Ok, Err, ℤ, pos, negsuc, ◌*ℤ◌, unsigned_abs}
use Rattle.std.specs.Prelude.{int_div, ◌-◌, ◌/◌, ◌%◌, ◌==◌, nat_le}
use Rattle.std.proofs.Common.{arith, refl, ap, sym, ◌∙◌, subst}
use Rattle.std.proofs.Math.Nat.{mul-div-le, mul-le-mul_right}
use Rattle.std.proofs.lemmas.Int.{ints}
use Rattle.std.proofs.lemmas.Bool.{ltb-false, leb-true, leb-false}
use Rattle.ip_defs.specs.Limits.{IsWithinLimits, exceeds}
use Rattle.ip_defs.specs.declared.programs.Column.{Column}
use Rattle.ip_defs.specs.declared.programs.Row.{Row}
use Rattle.ip_defs.specs.declared.programs.Parts.{Parts}
use Rattle.mps_defs.specs.declared.reading.Number.{Number}
use Rattle.mps_defs.specs.declared.reading.Number.TheVariants.{Dec, Large}
use Rattle.mps_defs.specs.Numbers.{exact_units, whole_quotient}
use Rattle.mps_defs.specs.Lists.{where_true}
use Rattle.decimals.proofs.NumberLaws.{scaled_size, tens_rise}
use Rattle.decimals.specs.Decimals.{IsBelowLarge}
use Rattle.ip_model.specs.declared.places.Place.{Place}
use Rattle.ip_model.specs.declared.places.Place.TheVariants as At
use Rattle.ip_model.specs.Places.{changed, Exists, number_of, limit_of}
use Rattle.ip_model.proofs.ChangeLaws as Changes
use Rattle.perturbation.specs.declared.edits.Datum.{Datum}
use Rattle.perturbation.specs.declared.edits.Datum.TheVariants.{Cost, Low, High, Coef, Lower, Upper}
use Rattle.perturbation.specs.declared.edits.Change.{Change}
use Rattle.perturbation.specs.declared.edits.Edit.{Edit}
use Rattle.perturbation.specs.declared.edits.PlaceError.{PlaceError}
use Rattle.perturbation.specs.declared.edits.PlaceError.TheVariants as Lacks
use Rattle.perturbation.specs.declared.edits.EditError.{EditError}
use Rattle.perturbation.specs.declared.edits.EditError.TheVariants as Refused
use Rattle.perturbation.specs.Edits.{decimals_at, row_decimals, column_named, row_named, found, both_found, at_side, found_side}
use Rattle.perturbation.specs.Edits.{located, entries}
use Rattle.perturbation.specs.Edits.{changed_within, written, new_number, by_units, by_number, by_place, edited, Answers}

-- ---- what is named exists

position_within : {A : Type 0} (p : A → Bool) (xs : List A) (i : ℕ) → position p xs ≡ Some i → i < length xs
position_within p [] i e = absurd cc
position_within p (x ∷ xs) i e = grind (arith)

found_exists : {A : Type 0} (p : A → Bool) (xs : List A) (P : Place → Type 0) (place : ℕ → Place) (at : Place)
    → ((j : ℕ) → j < length xs → P (place j)) → found place (position p xs) ≡ Ok at → P at
found_exists p xs P place at h e = by (position p xs) refl e
  where
    by : (o : Option ℕ) → position p xs ≡ o → found place o ≡ Ok at → P at
    by None is e = absurd cc
    by (Some j) is e = let same : place j ≡ at = cc in subst P same (h j (position_within p xs j is))

side_exists : (side : Row → Option ℤ) (place : ℕ → Place) (rows : List Row) (P : Place → Type 0) (o : Option ℕ) (at : Place)
    → ((i : ℕ) → option_and_then side (slice_get rows i) ≢ None → P (place i)) → found_side side place rows o ≡ Ok at → P at
side_exists side place rows P None at h e = absurd cc
side_exists side place rows P (Some i) at h e = by (option_and_then side (slice_get rows i)) refl e
  where
    by : (s : Option ℤ) → option_and_then side (slice_get rows i) ≡ s → at_side (place i) s ≡ Ok at → P at
    by None is e = absurd cc
    by (Some z) is e = let same : place i ≡ at = cc in subst P same (h i (λ n. absurd (let f : Some z ≡ None = sym is ∙ n in cc)))

pub located_exists : (m : Parts) (datum : Datum) (at : Place) → located m datum ≡ Ok at → Exists m at
located_exists m (Cost column) at e =
    found_exists (λ (c : Column). bytes_eq c.name column) m.columns (Exists m) At.Cost at (λ j l. l) e
located_exists m (Lower column) at e =
    found_exists (λ (c : Column). bytes_eq c.name column) m.columns (Exists m) At.Lower at (λ j l. l) e
located_exists m (Upper column) at e =
    found_exists (λ (c : Column). bytes_eq c.name column) m.columns (Exists m) At.Upper at (λ j l. l) e
located_exists m (Low row) at e =
    side_exists (λ (r : Row). r.low) At.Low m.rows (Exists m) (row_named m.rows row) at (λ i n. n) e
located_exists m (High row) at e =
    side_exists (λ (r : Row). r.high) At.High m.rows (Exists m) (row_named m.rows row) at (λ i n. n) e
located_exists m (Coef row column) at e = by (row_named m.rows row) refl e
  where
    by : (o : Option ℕ) → row_named m.rows row ≡ o → both_found o (column_named m.columns column) ≡ Ok at → Exists m at
    by None is e = absurd cc
    by (Some i) is e = found_exists (λ (c : Column). bytes_eq c.name column) m.columns (Exists m) (At.Coef i) at
        (λ j l. (position_within (λ (r : Row). bytes_eq r.name row) m.rows i is, l)) e

-- ---- limits

pub within_after : (m : Parts) (k : ℕ) (place : Place) (f : ℤ → ℤ) (n : Parts) → IsWithinLimits m → Exists m place
    → changed_within m k place f ≡ Ok n → IsWithinLimits n
within_after m k place f n limits there e =
    by (exceeds (limit_of place) (f (number_of m place))) (nat_lt 200000 (entries (changed m place f))) refl refl e
  where
    by : (s t : Bool) → exceeds (limit_of place) (f (number_of m place)) ≡ s → nat_lt 200000 (entries (changed m place f)) ≡ t
        → cond (s || t) (Err (Refused.Limit k)) (Ok (changed m place f)) ≡ Ok n → IsWithinLimits n
    by true t g h e = absurd cc
    by false true g h e = absurd cc
    by false false g h e =
        let same : changed m place f ≡ n = cc in
        subst IsWithinLimits same (Changes.changed_within m place f limits there
        (ltb-false (limit_of place) (unsigned_abs (f (number_of m place))) g) (ltb-false 200000 (entries (changed m place f)) h))

pub number_within : (m : Parts) (k : ℕ) (place : Place) (change : Change) (number : Number) (n : Parts) → IsWithinLimits m → Exists m place
    → by_number m k place change number ≡ Ok n → IsWithinLimits n
number_within m k place change (Large negative) n limits there e = absurd cc
number_within m k place change (Dec units decimals) n limits there e = by (exact_units (Dec units decimals) (decimals_at m place)) e
  where
    by : (o : Option ℤ) → by_units m k place change o ≡ Ok n → IsWithinLimits n
    by None e = absurd cc
    by (Some z) e = within_after m k place (new_number change z) n limits there e

pub edited_within : (m : Parts) (k : ℕ) (edit : Edit) (n : Parts) → IsWithinLimits m → edited m k edit ≡ Ok n → IsWithinLimits n
edited_within m k edit n limits e = by (located m edit.datum) refl e
  where
    by : (r : Result Place PlaceError) → located m edit.datum ≡ r → by_place m k edit.change r ≡ Ok n → IsWithinLimits n
    by (Err Lacks.UnknownName) is e = absurd cc
    by (Err Lacks.NoSide) is e = absurd cc
    by (Ok place) is e = number_within m k place edit.change (written edit.change) n limits (located_exists m edit.datum place is) e

-- an answer that is a program is within its limits
pub answered_within : (m : Parts) (k : ℕ) (edit : Edit) (r : Result Parts EditError) → IsWithinLimits m → Answers (edited m k edit) r
    → IfOk r IsWithinLimits
answered_within m k edit (Ok n) limits e = edited_within m k edit n limits e
answered_within m k edit (Err error) limits e = tt

-- ---- sizes

quotient_size : (z : ℤ) (n : ℕ) → unsigned_abs (int_div z (pos n)) ≡ unsigned_abs z / n
quotient_size (pos a) n = omega (arith, ints)
quotient_size (negsuc a) n = omega (arith, ints)

quotient_small : (units : ℤ) (power : ℕ) (z : ℤ) → 0 < power → unsigned_abs units ≤ 2 ^ 127 → whole_quotient units (10 ^ power) ≡ Some z
    → unsigned_abs z ≤ 2 ^ 126
quotient_small units power z some fits e = by (unsigned_abs units % 10 ^ power == 0) e
  where
    by : (t : Bool) → where_true t (int_div units (pos (10 ^ power))) ≡ Some z → unsigned_abs z ≤ 2 ^ 126
    by false e = absurd cc
    by true e =
        let same : int_div units (pos (10 ^ power)) ≡ z = cc in
        let ten = tens_rise 1 power some in
        let size = quotient_size units (10 ^ power) in
        let below = mul-div-le (unsigned_abs units) (10 ^ power) in
        let tenfold = mul-le-mul_right {m = 10} {n = 10 ^ power} (unsigned_abs units / 10 ^ power) (omega (arith, ten)) in
        subst (λ y. unsigned_abs y ≤ 2 ^ 126) same (omega arith)

-- what is counted in units is far within 128 bits
pub exact_small : (number : Number) (k : ℕ) (z : ℤ) → IsBelowLarge number → k ≤ 9
    → ((units : ℤ) (decimals : ℕ) → number ≡ Dec units decimals
    → unsigned_abs units ≤ 2 ^ 127) → exact_units number k ≡ Some z → unsigned_abs z ≤ 2 ^ 126
exact_small (Large negative) k z below few fits e = absurd cc
exact_small (Dec units decimals) k z below few fits e = by (nat_le decimals k) refl e
  where
    by : (t : Bool) → nat_le decimals k ≡ t
        → cond t (Some (units *ℤ pos (10 ^ (k - decimals)))) (whole_quotient units (10 ^ (decimals - k))) ≡ Some z
        → unsigned_abs z ≤ 2 ^ 126
    by true l e =
        let same : units *ℤ pos (10 ^ (k - decimals)) ≡ z = cc in
        let size = scaled_size units decimals k below (leb-true decimals k l) few in
        subst (λ y. unsigned_abs y ≤ 2 ^ 126) same (omega arith)
    by false l e = quotient_small units (decimals - k) z (let h = leb-false decimals k l in omega arith) (fits units decimals refl) e

row_few : (m : Parts) (i : ℕ) → IsWithinLimits m → row_decimals (slice_get m.rows i) ≤ 9
row_few m i limits = by (slice_get m.rows i) refl
  where
    by : (o : Option Row) → slice_get m.rows i ≡ o → row_decimals o ≤ 9
    by None e = omega arith
    by (Some r) e = (limits.shape.rows i r e).decimals

-- the units of a place have at most nine decimals
pub decimals_few : (m : Parts) (place : Place) → IsWithinLimits m → decimals_at m place ≤ 9
decimals_few m (At.Cost j) limits = limits.shape.decimals
decimals_few m (At.Lower j) limits = omega arith
decimals_few m (At.Upper j) limits = omega arith
decimals_few m (At.Low i) limits = row_few m i limits
decimals_few m (At.High i) limits = row_few m i limits
decimals_few m (At.Coef i j) limits = row_few m i limits

-- a number within the limit of its place fits 64 bits
pub limit_fits : (place : Place) (z : ℤ) → exceeds (limit_of place) z ≡ false → unsigned_abs z ≤ 2 ^ 62
limit_fits (At.Cost j) z e = let h = ltb-false (2 ^ 40) (unsigned_abs z) e in omega arith
limit_fits (At.Lower j) z e = let h = ltb-false (2 ^ 24) (unsigned_abs z) e in omega arith
limit_fits (At.Upper j) z e = let h = ltb-false (2 ^ 24) (unsigned_abs z) e in omega arith
limit_fits (At.Low i) z e = ltb-false (2 ^ 62) (unsigned_abs z) e
limit_fits (At.High i) z e = ltb-false (2 ^ 62) (unsigned_abs z) e
limit_fits (At.Coef i j) z e = let h = ltb-false (2 ^ 40) (unsigned_abs z) e in omega arith

-- ---- answers

-- the answer where neither limit is exceeded
pub is_within : (m : Parts) (k : ℕ) (place : Place) (z : ℤ) (n : Parts) → exceeds (limit_of place) z ≡ false
    → n ≡ changed m place (λ old. z)
    → nat_lt 200000 (entries n) ≡ false → changed_within m k place (λ old. z) ≡ Ok n
is_within m k place z n few is short =
    let short' : nat_lt 200000 (entries (changed m place (λ old. z))) ≡ false = subst (λ (y : Parts). nat_lt 200000 (entries y) ≡ false)
    is short in
    ap (λ t. cond (t || nat_lt 200000 (entries (changed m place (λ old. z)))) (Err (Refused.Limit k)) (Ok (changed m place (λ old. z)))) few
    ∙ ap (λ t. cond t (Err (Refused.Limit k)) (Ok (changed m place (λ old. z)))) short'
    ∙ ap Ok (sym is)

-- what f makes of the number there, in its place
replaced_is : (m : Parts) (k : ℕ) (place : Place) (f : ℤ → ℤ) → IsWithinLimits m
    → changed_within m k place f ≡ changed_within m k place (λ old. f (number_of m place))
replaced_is m k place f limits =
    ap (λ (n : Parts). cond (exceeds (limit_of place) (f (number_of m place)) || nat_lt 200000 (entries n)) (Err (Refused.Limit k)) (Ok n))
    (Changes.replaced m place f limits)

-- the answer to a change whose number is z in the units of the place
pub by_number_is : (m : Parts) (k : ℕ) (place : Place) (change : Change) (number : Number) (z : ℤ) → IsWithinLimits m
    → exact_units number (decimals_at m place) ≡ Some z
    → by_number m k place change number ≡ changed_within m k place (λ old. new_number change z (number_of m place))
by_number_is m k place change (Large negative) z limits e = absurd cc
by_number_is m k place change (Dec units decimals) z limits e =
    ap (by_units m k place change) e ∙ replaced_is m k place (new_number change z) limits
