-- The moves of directions that pass each test: one for each direction, and such that a model can follow them.
use Rattle.std.specs.Prelude.{◌≡◌, ℕ, suc, ◌^◌, ◌≤◌, false, List, [], ◌∷◌, ◌++◌, length, map, Option, Some, None, Result, Ok, Err, ℤ, pos}
use Rattle.std.specs.Prelude.{◌+ℤ◌, ◌*ℤ◌, IfOk}
use Rattle.std.specs.Int.RustNames.{unsigned_abs}
use Rattle.std.proofs.Common.{refl, ap, sym, ◌∙◌, subst}
use Rattle.std.proofs.lemmas.Bool.{ltb-false}
use Rattle.ip_defs.specs.Lists.{Each}
use Rattle.ip_defs.specs.Limits.{exceeds}
use Rattle.ip_defs.specs.declared.programs.Parts.{Parts}
use Rattle.ip_defs.proofs.BoolLaws.{left_false, right_false}
use Rattle.ip_defs.proofs.ListLaws.{each_append}
use Rattle.mps_defs.specs.Lists.{AreDistinct}
use Rattle.mps_defs.specs.declared.reading.Number.{Number}
use Rattle.ip_model.specs.declared.places.Place.{Place}
use Rattle.ip_model.specs.declared.places.Place.TheVariants as At
use Rattle.ip_model.specs.Places.{number_of}
use Rattle.perturbation.specs.declared.edits.Datum.{Datum}
use Rattle.perturbation.specs.declared.edits.EditError.{EditError}
use Rattle.perturbation.specs.Edits.{decimals_at}
use Rattle.perturbation.specs.Lines.{IsSide}
use Rattle.question_text.specs.SweepFiles.{MovesOutwards, side_name}
use Rattle.sweep_proof.specs.RowSweeps.{MovesOutwards as WidensBy}
use Rattle.sweep_directions.specs.Directions.{Answers, AreDifferent, IsDirection, direction_fault, directed, exceeds_at, move_by, moves_at}
use Rattle.sweep_directions.specs.Directions.{moves_of, placed_at, placed_of, units_at}
use Rattle.sweep_directions.specs.Internal.Sides.{IsPlaced}
use Rattle.sweep_directions.proofs.FaultLaws.{HasMove, HasPlace, HavePassed, have_passed, no_fault}
use Rattle.sweep_proof.proofs.LineLaws.{row_side}
use Rattle.sweep_directions.proofs.LineLaws.{StaysWithin, all_within}
use Rattle.sweep_directions.proofs.SideLaws.{StaysOut, all_different, all_outwards, all_placed}
use Rattle.sweep_directions.proofs.SignLaws.{units_down, units_up}

-- ---- one move for each direction

place_count : (m : Parts) (ds : List (Datum × Number)) → Each (HasPlace m) ds → length (placed_of m ds) ≡ length ds
place_count m [] h = refl
place_count m (d ∷ ds) h =
    ap (λ r. length (placed_at d.1 r ++ placed_of m ds)) h.0.1 ∙ ap suc (place_count m ds h.1)

same_places : (m : Parts) (steps : ℕ) (ss : List (Place × Number)) → Each (HasMove m steps) ss
    → map (λ s. s.0) (moves_at m ss) ≡ map (λ s. s.0) ss
same_places m steps [] h = refl
same_places m steps (s ∷ ss) h =
    ap (λ o. map (λ q. q.0) (move_by s.0 o ++ moves_at m ss)) h.0.is ∙ ap (λ ps. s.0 ∷ ps) (same_places m steps ss h.1)

move_count : (m : Parts) (steps : ℕ) (ss : List (Place × Number)) → Each (HasMove m steps) ss → length (moves_at m ss) ≡ length ss
move_count m steps [] h = refl
move_count m steps (s ∷ ss) h =
    ap (λ o. length (move_by s.0 o ++ moves_at m ss)) h.0.is ∙ ap suc (move_count m steps ss h.1)

-- ---- what each move has

-- what follows for the move of each place follows for all moves
each_move : (m : Parts) (P : Place × Number → Type 0) (Q : Place × ℤ → Type 0)
    → ((s : Place × Number) (z : ℤ) → P s → units_at m s ≡ Some z → Q (s.0, z)) → (ss : List (Place × Number)) → Each P ss
    → Each Q (moves_at m ss)
each_move m P Q own [] h = tt
each_move m P Q own (s ∷ ss) h =
    each_append Q (move_by s.0 (units_at m s)) (moves_at m ss) (by (units_at m s) refl h.0) (each_move m P Q own ss h.1)
  where
    by : (o : Option ℤ) → units_at m s ≡ o → P s → Each Q (move_by s.0 o)
    by None is p = tt
    by (Some z) is p = (own s z p is, tt)

-- the units of a number that is within the limits
units_are : (m : Parts) (steps : ℕ) (s : Place × Number) (z : ℤ) → HasMove m steps s → units_at m s ≡ Some z
    → exceeds_at m steps s.0 z ≡ false
units_are m steps s z h is =
    let same : h.units ≡ z = let e = sym h.is ∙ is in cc in
    subst (λ y. exceeds_at m steps s.0 y ≡ false) same h.within

step_small : (m : Parts) (steps : ℕ) (s : Place × Number) (z : ℤ) → HasMove m steps s → units_at m s ≡ Some z → unsigned_abs z ≤ 2 ^ 62
step_small m steps s z h is =
    ltb-false (2 ^ 62) (unsigned_abs z)
    (left_false (exceeds (2 ^ 62) z) (exceeds (2 ^ 62) (number_of m s.0 +ℤ pos steps *ℤ z)) (units_are m steps s z h is))

-- a side that may be moved
abbrev CanMove : Parts → ℕ → Place × Number → Type 0
CanMove m steps s = IsPlaced m s × HasMove m steps s

stays_within : (m : Parts) (steps : ℕ) (s : Place × Number) (z : ℤ) → CanMove m steps s → units_at m s ≡ Some z
    → StaysWithin m m steps (s.0, z)
stays_within m steps s z h is = record {
  side = row_side m s.0 h.0.0;
  few = right_false (exceeds (2 ^ 62) z) (exceeds (2 ^ 62) (number_of m s.0 +ℤ pos steps *ℤ z)) (units_are m steps s z h.1 is);
  same = refl;
}

widens : (m : Parts) (place : Place) (x : Number) (z : ℤ) → StaysOut place x → units_at m (place, x) ≡ Some z → WidensBy place z
widens m (At.Low i) x z out is = units_down x (decimals_at m (At.Low i)) z out is
widens m (At.High i) x z out is = units_up x (decimals_at m (At.High i)) z out is
widens m (At.Cost j) x z out is = absurd out
widens m (At.Coef i j) x z out is = absurd out
widens m (At.Lower j) x z out is = absurd out
widens m (At.Upper j) x z out is = absurd out

-- ---- all moves

each_both : {A : Type 0} (P Q : A → Type 0) (xs : List A) → Each P xs → Each Q xs → Each (λ x. P x × Q x) xs
each_both P Q [] h g = tt
each_both P Q (x ∷ xs) h g = ((h.0, g.0), each_both P Q xs h.1 g.1)

followed : (m : Parts) (ds : List (Datum × Number)) (steps : ℕ) → Each MovesOutwards ds → AreDistinct (map (λ d. side_name d.0) ds)
    → HavePassed m ds steps → IsDirection m steps (moves_of m ds)
followed m ds steps out names passed =
    let ss = placed_of m ds in
    let placed = all_placed m ds out in
    let other = subst AreDifferent (sym (same_places m steps ss passed.moves)) (all_different m ds out names) in
    let both = each_both (IsPlaced m) (HasMove m steps) ss placed passed.moves in
    record {
      sides = each_move m (IsPlaced m) (λ s. IsSide m s.0) (λ s z h is. h.0) ss placed;
      small = each_move m (HasMove m steps) (λ s. unsigned_abs s.1 ≤ 2 ^ 62) (step_small m steps) ss passed.moves;
      different = other;
      within = all_within m m steps (moves_at m ss) other
          (each_move m (CanMove m steps) (StaysWithin m m steps) (stays_within m steps) ss both);
      widening = each_move m (λ s. StaysOut s.0 s.1) (λ s. WidensBy s.0 s.1) (λ s z h is. widens m s.0 s.1 z h is) ss
          (all_outwards m ds out);
    }

-- what an answer that is made says
pub answer_count : (m : Parts) (ds : List (Datum × Number)) (steps : ℕ) (r : Result (List (Place × ℤ)) EditError)
    → Answers (directed m ds steps) r → IfOk r (λ d. length d ≡ length ds)
answer_count m ds steps (Err e) h = tt
answer_count m ds steps (Ok d) h =
    let made = no_fault (direction_fault m ds steps) (moves_of m ds) d h in
    let passed = have_passed m ds steps made.0 in
    ap length (sym made.1) ∙ move_count m steps (placed_of m ds) passed.moves ∙ place_count m ds passed.places

pub answer_direction : (m : Parts) (ds : List (Datum × Number)) (steps : ℕ) (r : Result (List (Place × ℤ)) EditError)
    → Each MovesOutwards ds → AreDistinct (map (λ d. side_name d.0) ds) → Answers (directed m ds steps) r → IfOk r (IsDirection m steps)
answer_direction m ds steps (Err e) out names h = tt
answer_direction m ds steps (Ok d) out names h =
    let made = no_fault (direction_fault m ds steps) (moves_of m ds) d h in
    subst (IsDirection m steps) made.1 (followed m ds steps out names (have_passed m ds steps made.0))
