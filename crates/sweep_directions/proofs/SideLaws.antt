-- The sides that directions name: the model has them, no two are the same, and so they are few.
use Rattle.std.specs.Prelude.{◌≡◌, ◌≢◌, ℕ, suc, ◌+◌, ◌*◌, ◌<◌, ◌≤◌, Bool, true, false, cond, ◌||◌, List, [], ◌∷◌, ◌++◌, length, map}
use Rattle.std.specs.Prelude.{bytes_eq, slice_get, option_and_then, option_map, Option, Some, None, Result, Ok, Err, ℤ}
use Rattle.std.specs.List.{IsDistinct, AllByRecursion, list_any}
use Rattle.std.proofs.Common.{arith, refl, ap, sym, ◌∙◌, subst}
use Rattle.std.proofs.Math.Dec.{eqb}
use Rattle.std.proofs.lemmas.Bool.{eqb-true}
use Rattle.std.proofs.lemmas.Map.Steps.{length-le_from_distinct_below}
use Rattle.std.proofs.lemmas.Option.{slice_get_within}
use Rattle.ip_defs.specs.Lists.{Each}
use Rattle.ip_defs.specs.declared.programs.Row.{Row}
use Rattle.ip_defs.specs.declared.programs.Parts.{Parts}
use Rattle.ip_defs.proofs.BoolLaws.{left_false, right_false}
use Rattle.ip_defs.proofs.ListLaws.{each_append}
use Rattle.ip_defs.proofs.TextLaws.{text_self, text_same}
use Rattle.mps_defs.specs.Lists.{AreDistinct, is_among}
use Rattle.mps_defs.specs.TextModels.{is_negative_number}
use Rattle.mps_defs.specs.declared.reading.Number.{Number}
use Rattle.mps_defs.proofs.PlaceLaws.{position_cons}
use Rattle.ip_model.specs.declared.places.Place.{Place}
use Rattle.ip_model.specs.declared.places.Place.TheVariants as At
use Rattle.perturbation.specs.declared.edits.Datum.{Datum}
use Rattle.perturbation.specs.declared.edits.Datum.TheVariants.{Cost, Low, High, Coef, Lower, Upper}
use Rattle.perturbation.specs.declared.edits.PlaceError.{PlaceError}
use Rattle.perturbation.specs.Edits.{at_side, found_side, located, row_named}
use Rattle.perturbation.specs.Lines.{IsSide}
use Rattle.question_text.specs.SweepFiles.{IsOutward, MovesOutwards, is_positive_number, side_name}
use Rattle.sweep_directions.specs.Directions.{AreDifferent, placed_at, placed_of}
use Rattle.sweep_directions.specs.Internal.Sides.{IsPlaced}

-- ---- what is named

-- the row of a name has that name
named : (rows : List Row) (name : List ℕ) (i : ℕ) → row_named rows name ≡ Some i
    → (r : Row) × (slice_get rows i ≡ Some r) × (bytes_eq r.name name ≡ true)
named [] name i e = absurd cc
named (r ∷ rows) name i e = by (bytes_eq r.name name) refl (sym (position_cons (λ (q : Row). bytes_eq q.name name) r rows) ∙ e)
    (λ j is. named rows name j is)
  where
    later : (o : Option ℕ) → row_named rows name ≡ o → option_map suc o ≡ Some i
        → ((j : ℕ) → row_named rows name ≡ Some j → (q : Row) × (slice_get rows j ≡ Some q) × (bytes_eq q.name name ≡ true))
        → (q : Row) × (slice_get (r ∷ rows) i ≡ Some q) × (bytes_eq q.name name ≡ true)
    later None is e rest = absurd cc
    later (Some j) is e rest =
        let same : suc j ≡ i = cc in
        subst (λ k. (q : Row) × (slice_get (r ∷ rows) k ≡ Some q) × (bytes_eq q.name name ≡ true)) same (rest j is)

    by : (t : Bool) → bytes_eq r.name name ≡ t → cond t (Some 0) (option_map suc (row_named rows name)) ≡ Some i
        → ((j : ℕ) → row_named rows name ≡ Some j → (q : Row) × (slice_get rows j ≡ Some q) × (bytes_eq q.name name ≡ true))
        → (q : Row) × (slice_get (r ∷ rows) i ≡ Some q) × (bytes_eq q.name name ≡ true)
    by true is e rest =
        let same : 0 ≡ i = cc in
        subst (λ k. (q : Row) × (slice_get (r ∷ rows) k ≡ Some q) × (bytes_eq q.name name ≡ true)) same (r, refl, is)
    by false is e rest = later (row_named rows name) refl e rest

-- so two names of one row are the same
same_name : (rows : List Row) (a b : List ℕ) (i : ℕ) → row_named rows a ≡ Some i → row_named rows b ≡ Some i → a ≡ b
same_name rows a b i one other =
    let first = named rows a i one in
    let second = named rows b i other in
    let same : first.0 ≡ second.0 = let e = sym first.1 ∙ second.1 in cc in
    sym (text_same first.0.name a first.2) ∙ ap (λ (r : Row). r.name) same ∙ text_same second.0.name b second.2

-- a side that is found is one of the row of the name
pub record IsFound (side : Row → Option ℤ) (at : ℕ → Place) (rows : List Row) (name : List ℕ) (place : Place) : Type 0 where
  pub index : ℕ
  pub row : row_named rows name ≡ Some index
  pub is : place ≡ at index
  pub there : option_and_then side (slice_get rows index) ≢ None

found : (side : Row → Option ℤ) (at : ℕ → Place) (rows : List Row) (name : List ℕ) (place : Place)
    → found_side side at rows (row_named rows name) ≡ Ok place → IsFound side at rows name place
found side at rows name place e = by (row_named rows name) refl e
  where
    here : (i : ℕ) → row_named rows name ≡ Some i → (o : Option ℤ) → option_and_then side (slice_get rows i) ≡ o
        → at_side (at i) o ≡ Ok place → IsFound side at rows name place
    here i row None is e = absurd cc
    here i row (Some z) is e = record {
      index = i;
      row = row;
      is = let same : at i ≡ place = cc in sym same;
      there = λ n. absurd (let f : Some z ≡ None = sym is ∙ n in cc);
    }

    by : (o : Option ℕ) → row_named rows name ≡ o → found_side side at rows o ≡ Ok place → IsFound side at rows name place
    by None is e = absurd cc
    by (Some i) is e = here i is (option_and_then side (slice_get rows i)) refl e

-- ---- a direction outwards names a side

-- a low side falls or stays, and a high side rises or stays
abbrev pub StaysOut : Place → Number → Type 0
StaysOut (At.Low i) x = is_positive_number x ≡ false
StaysOut (At.High i) x = is_negative_number x ≡ false
StaysOut (At.Cost j) x = ⊥
StaysOut (At.Coef i j) x = ⊥
StaysOut (At.Lower j) x = ⊥
StaysOut (At.Upper j) x = ⊥

side_of : (m : Parts) (datum : Datum) (x : Number) (place : Place) → IsOutward datum x → located m datum ≡ Ok place
    → IsSide m place × StaysOut place x
side_of m (Low row) x place out e =
    let at = found (λ r. r.low) At.Low m.rows row place e in
    subst (λ p. IsSide m p × StaysOut p x) (sym at.is) (at.there, out)
side_of m (High row) x place out e =
    let at = found (λ r. r.high) At.High m.rows row place e in
    subst (λ p. IsSide m p × StaysOut p x) (sym at.is) (at.there, out)
side_of m (Cost column) x place out e = absurd out
side_of m (Coef row column) x place out e = absurd out
side_of m (Lower column) x place out e = absurd out
side_of m (Upper column) x place out e = absurd out

-- what holds of each direction that has a place holds of each place
each_place : (m : Parts) (P : Place × Number → Type 0) → ((d : Datum × Number) (place : Place) → MovesOutwards d
    → located m d.0 ≡ Ok place → P (place, d.1)) → (ds : List (Datum × Number)) → Each MovesOutwards ds → Each P (placed_of m ds)
each_place m P own [] out = tt
each_place m P own (d ∷ ds) out =
    each_append P (placed_at d.1 (located m d.0)) (placed_of m ds) (by (located m d.0) refl) (each_place m P own ds out.1)
  where
    by : (r : Result Place PlaceError) → located m d.0 ≡ r → Each P (placed_at d.1 r)
    by (Err e) is = tt
    by (Ok place) is = (own d place out.0 is, tt)

pub all_placed : (m : Parts) (ds : List (Datum × Number)) → Each MovesOutwards ds → Each (IsPlaced m) (placed_of m ds)
all_placed m ds out = each_place m (IsPlaced m) (λ d place h is. ((side_of m d.0 d.1 place h.0 is).0, h.1)) ds out

pub all_outwards : (m : Parts) (ds : List (Datum × Number)) → Each MovesOutwards ds → Each (λ s. StaysOut s.0 s.1) (placed_of m ds)
all_outwards m ds out = each_place m (λ s. StaysOut s.0 s.1) (λ d place h is. (side_of m d.0 d.1 place h.0 is).1) ds out

-- ---- no two directions name one side

-- directions at one place have the same name
one_side : (m : Parts) (d e : Datum) (x y : Number) (place : Place) → IsOutward d x → IsOutward e y → located m d ≡ Ok place
    → located m e ≡ Ok place → side_name d ≡ side_name e
one_side m (Low a) (Low b) x y place h g is also =
    let first = found (λ r. r.low) At.Low m.rows a place is in
    let second = found (λ r. r.low) At.Low m.rows b place also in
    let same : first.index ≡ second.index = let e = sym first.is ∙ second.is in cc in
    ap (λ n. side_name (Low n)) (same_name m.rows a b second.index (first.row ∙ ap Some same) second.row)
one_side m (High a) (High b) x y place h g is also =
    let first = found (λ r. r.high) At.High m.rows a place is in
    let second = found (λ r. r.high) At.High m.rows b place also in
    let same : first.index ≡ second.index = let e = sym first.is ∙ second.is in cc in
    ap (λ n. side_name (High n)) (same_name m.rows a b second.index (first.row ∙ ap Some same) second.row)
one_side m (Low a) (High b) x y place h g is also =
    let first = found (λ r. r.low) At.Low m.rows a place is in
    let second = found (λ r. r.high) At.High m.rows b place also in
    absurd (let e = sym first.is ∙ second.is in cc)
one_side m (High a) (Low b) x y place h g is also =
    let first = found (λ r. r.high) At.High m.rows a place is in
    let second = found (λ r. r.low) At.Low m.rows b place also in
    absurd (let e = sym first.is ∙ second.is in cc)
one_side m (Cost j) e x y place h g is also = absurd h
one_side m (Coef i j) e x y place h g is also = absurd h
one_side m (Lower j) e x y place h g is also = absurd h
one_side m (Upper j) e x y place h g is also = absurd h
one_side m (Low a) (Cost j) x y place h g is also = absurd g
one_side m (Low a) (Coef i j) x y place h g is also = absurd g
one_side m (Low a) (Lower j) x y place h g is also = absurd g
one_side m (Low a) (Upper j) x y place h g is also = absurd g
one_side m (High a) (Cost j) x y place h g is also = absurd g
one_side m (High a) (Coef i j) x y place h g is also = absurd g
one_side m (High a) (Lower j) x y place h g is also = absurd g
one_side m (High a) (Upper j) x y place h g is also = absurd g

-- a place apart from the places of directions with other names
apart : (m : Parts) (d : Datum × Number) (place : Place) (es : List (Datum × Number)) → MovesOutwards d → located m d.0 ≡ Ok place
    → is_among (side_name d.0) (map (λ e. side_name e.0) es) ≡ false → Each MovesOutwards es
    → Each (λ q. place ≢ q) (map (λ s. s.0) (placed_of m es))
apart m d place [] h is new out = tt
apart m d place (e ∷ es) h is new out = by (located m e.0) refl (apart m d place es h is
    (right_false (bytes_eq (side_name d.0) (side_name e.0)) (is_among (side_name d.0) (map (λ e. side_name e.0) es)) new) out.1)
  where
    by : (r : Result Place PlaceError) → located m e.0 ≡ r → Each (λ q. place ≢ q) (map (λ s. s.0) (placed_of m es))
        → Each (λ q. place ≢ q) (map (λ s. s.0) (placed_at e.1 r ++ placed_of m es))
    by (Err error) also rest = rest
    by (Ok q) also rest = (
      λ same.
          let names = one_side m d.0 e.0 d.1 e.1 place h.0 out.0.0 is (also ∙ ap Ok (sym same)) in
          let yes = ap (bytes_eq (side_name d.0)) (sym names) ∙ text_self (side_name d.0) in
          let no = left_false (bytes_eq (side_name d.0) (side_name e.0)) (is_among (side_name d.0) (map (λ e. side_name e.0) es)) new in
          absurd (let f : true ≡ false = sym yes ∙ no in cc),
      rest,
    )

pub all_different : (m : Parts) (ds : List (Datum × Number)) → Each MovesOutwards ds → AreDistinct (map (λ d. side_name d.0) ds)
    → AreDifferent (map (λ s. s.0) (placed_of m ds))
all_different m [] out names = tt
all_different m (d ∷ ds) out names = by (located m d.0) refl (all_different m ds out.1 names.1)
  where
    by : (r : Result Place PlaceError) → located m d.0 ≡ r → AreDifferent (map (λ s. s.0) (placed_of m ds))
        → AreDifferent (map (λ s. s.0) (placed_at d.1 r ++ placed_of m ds))
    by (Err error) is rest = rest
    by (Ok place) is rest = (apart m d place ds out.0 is names.0 out.1, rest)

-- ---- so they are few

-- a number for each side of a row
abbrev code : Place → ℕ
code (At.Low i) = 2 * i
code (At.High i) = 2 * i + 1
code (At.Cost j) = 0
code (At.Coef i j) = 0
code (At.Lower j) = 0
code (At.Upper j) = 0

has_row : (side : Row → Option ℤ) (rows : List Row) (i : ℕ) → option_and_then side (slice_get rows i) ≢ None → i < length rows
has_row side rows i there = by (slice_get rows i) refl
  where
    by : (o : Option Row) → slice_get rows i ≡ o → i < length rows
    by None is = absurd (there (ap (option_and_then side) is))
    by (Some r) is = slice_get_within rows i r is

code_below : (m : Parts) (p : Place) → length m.rows ≤ 1024 → IsSide m p → code p < 2048
code_below m (At.Low i) few h = let within = has_row (λ r. r.low) m.rows i h in omega arith
code_below m (At.High i) few h = let within = has_row (λ r. r.high) m.rows i h in omega arith
code_below m (At.Cost j) few h = absurd h
code_below m (At.Coef i j) few h = absurd h
code_below m (At.Lower j) few h = absurd h
code_below m (At.Upper j) few h = absurd h

same_code : (m : Parts) (p q : Place) → IsSide m p → IsSide m q → code p ≡ code q → p ≡ q
same_code m (At.Low i) (At.Low j) h g e = ap At.Low (omega arith)
same_code m (At.High i) (At.High j) h g e = ap At.High (omega arith)
same_code m (At.Low i) (At.High j) h g e = absurd (omega arith)
same_code m (At.High i) (At.Low j) h g e = absurd (omega arith)
same_code m (At.Cost j) q h g e = absurd h
same_code m (At.Coef i j) q h g e = absurd h
same_code m (At.Lower j) q h g e = absurd h
same_code m (At.Upper j) q h g e = absurd h
same_code m (At.Low i) (At.Cost k) h g e = absurd g
same_code m (At.Low i) (At.Coef k l) h g e = absurd g
same_code m (At.Low i) (At.Lower k) h g e = absurd g
same_code m (At.Low i) (At.Upper k) h g e = absurd g
same_code m (At.High i) (At.Cost k) h g e = absurd g
same_code m (At.High i) (At.Coef k l) h g e = absurd g
same_code m (At.High i) (At.Lower k) h g e = absurd g
same_code m (At.High i) (At.Upper k) h g e = absurd g

codes_apart : (m : Parts) (p : Place) (ps : List Place) → IsSide m p → Each (IsSide m) ps → Each (λ q. p ≢ q) ps
    → AllByRecursion (λ n. eqb (code p) n ≡ false) (map code ps)
codes_apart m p [] h sides other = tt
codes_apart m p (q ∷ ps) h sides other = (by (eqb (code p) (code q)) refl, codes_apart m p ps h sides.1 other.1)
  where
    by : (t : Bool) → eqb (code p) (code q) ≡ t → t ≡ false
    by true is = absurd (other.0 (same_code m p q h sides.0 (eqb-true (code p) (code q) is)))
    by false is = refl

codes_distinct : (m : Parts) (ps : List Place) → Each (IsSide m) ps → AreDifferent ps → IsDistinct eqb (map code ps)
unfolding IsDistinct
codes_distinct m [] sides other = tt
codes_distinct m (p ∷ ps) sides other = (codes_apart m p ps sides.0 sides.1 other.0, codes_distinct m ps sides.1 other.1)

codes_below : (m : Parts) (ps : List Place) → length m.rows ≤ 1024 → Each (IsSide m) ps → (q : ℕ)
    → list_any (eqb q) (map code ps) ≡ true → q < 2048
codes_below m [] few sides q h = absurd cc
codes_below m (p ∷ ps) few sides q h = by (eqb q (code p)) refl h (λ g. codes_below m ps few sides.1 q g)
  where
    by : (t : Bool) → eqb q (code p) ≡ t → (t || list_any (eqb q) (map code ps)) ≡ true
        → (list_any (eqb q) (map code ps) ≡ true → q < 2048) → q < 2048
    by true is h rest = let same = eqb-true q (code p) is in let low = code_below m p few sides.0 in omega arith
    by false is h rest = rest h

length_map : {A B : Type 0} (f : A → B) (xs : List A) → length (map f xs) ≡ length xs
length_map f [] = refl
length_map f (x ∷ xs) = ap suc (length_map f xs)

each_map : {A B : Type 0} (f : A → B) (P : B → Type 0) (xs : List A) → Each (λ x. P (f x)) xs → Each P (map f xs)
each_map f P [] h = tt
each_map f P (x ∷ xs) h = (h.0, each_map f P xs h.1)

sides_few : (m : Parts) (ps : List Place) → length m.rows ≤ 1024 → Each (IsSide m) ps → AreDifferent ps → length ps ≤ 2048
sides_few m ps few sides other =
    let size = length-le_from_distinct_below (map code ps) 2048 (codes_distinct m ps sides other) (codes_below m ps few sides) in
    subst (λ n. n ≤ 2048) (length_map code ps) size

pub placed_few : (m : Parts) (ds : List (Datum × Number)) → length m.rows ≤ 1024 → Each MovesOutwards ds
    → AreDistinct (map (λ d. side_name d.0) ds) → length (placed_of m ds) ≤ 2048
placed_few m ds few out names =
    let sides = each_place m (λ s. IsSide m s.0) (λ d place h is. (side_of m d.0 d.1 place h.0 is).0) ds out in
    let places = each_map (λ s. s.0) (IsSide m) (placed_of m ds) sides in
    subst (λ n. n ≤ 2048) (length_map (λ s. s.0) (placed_of m ds))
    (sides_few m (map (λ s. s.0) (placed_of m ds)) few places (all_different m ds out names))
