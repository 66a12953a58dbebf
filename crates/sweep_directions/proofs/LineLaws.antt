-- Sides of different places move apart from each other, so that each may be tried alone.
use Rattle.std.specs.Prelude.{◌≡◌, ◌≢◌, ℕ, zero, suc, ◌^◌, false, cond, List, [], ◌∷◌, map, slice_get, option_and_then}
use Rattle.std.specs.Prelude.{Option, Ok, Err, ℤ, pos, ◌+ℤ◌, ◌*ℤ◌}
use Rattle.std.proofs.Common.{refl, ap, ◌∙◌}
use Rattle.ip_defs.specs.Lists.{Each}
use Rattle.ip_defs.specs.Limits.{exceeds}
use Rattle.ip_defs.specs.declared.programs.Row.{Row}
use Rattle.ip_defs.specs.declared.programs.Parts.{Parts}
use Rattle.ip_model.specs.declared.places.Place.{Place}
use Rattle.ip_model.specs.declared.places.Place.TheVariants.{Cost, Low, High, Coef, Lower, Upper}
use Rattle.ip_model.specs.Places.{changed_at, limit_of, number_of, or_zero, raised, with_high, with_low}
use Rattle.perturbation.specs.declared.edits.LineError.TheVariants.{Limit}
use Rattle.perturbation.specs.Lines.{index_of, row_line_of, side_moved, unless_stopped}
use Rattle.sweep_proof.specs.RowSweeps.{IsWithinAt}
use Rattle.sweep_proof.proofs.LineLaws.{IsRowSide}
use Rattle.sweep_directions.specs.Directions.{AreDifferent}

-- ---- one side

-- a change at one index leaves another index as it is
other_index : {A : Type 0} (f : A → A) (xs : List A) (k i : ℕ) → k ≢ i → slice_get (changed_at f k xs) i ≡ slice_get xs i
other_index f [] k i h = refl
other_index f (x ∷ xs) zero zero h = absurd (h refl)
other_index f (x ∷ xs) zero (suc i) h = refl
other_index f (x ∷ xs) (suc k) zero h = refl
other_index f (x ∷ xs) (suc k) (suc i) h = other_index f xs k i (λ e. h (ap suc e))

-- a change that keeps a side of a row keeps that side of each row
other_side : (side : Row → Option ℤ) (f : Row → Row) (rows : List Row) (k i : ℕ) → ((r : Row) → side (f r) ≡ side r)
    → option_and_then side (slice_get (changed_at f k rows) i) ≡ option_and_then side (slice_get rows i)
other_side side f [] k i own = refl
other_side side f (r ∷ rows) zero zero own = own r
other_side side f (r ∷ rows) zero (suc i) own = refl
other_side side f (r ∷ rows) (suc k) zero own = refl
other_side side f (r ∷ rows) (suc k) (suc i) own = other_side side f rows k i own

-- a moved side leaves the number of each other side as it is
number_stays : (m : Parts) (p q : Place) (e : ℤ) → IsRowSide p → IsRowSide q → p ≢ q → number_of (raised m p e) q ≡ number_of m q
number_stays m (Low k) (Low i) e h g apart =
    ap (λ o. or_zero (option_and_then (λ r. r.low) o)) (other_index (with_low (λ z. z +ℤ e)) m.rows k i (λ s. apart (ap Low s)))
number_stays m (High k) (High i) e h g apart =
    ap (λ o. or_zero (option_and_then (λ r. r.high) o)) (other_index (with_high (λ z. z +ℤ e)) m.rows k i (λ s. apart (ap High s)))
number_stays m (Low k) (High i) e h g apart =
    ap or_zero (other_side (λ r. r.high) (with_low (λ z. z +ℤ e)) m.rows k i (λ r. refl))
number_stays m (High k) (Low i) e h g apart =
    ap or_zero (other_side (λ r. r.low) (with_high (λ z. z +ℤ e)) m.rows k i (λ r. refl))
number_stays m (Cost j) q e h g apart = absurd h
number_stays m (Coef i j) q e h g apart = absurd h
number_stays m (Lower j) q e h g apart = absurd h
number_stays m (Upper j) q e h g apart = absurd h
number_stays m (Low k) (Cost j) e h g apart = absurd g
number_stays m (Low k) (Coef i j) e h g apart = absurd g
number_stays m (Low k) (Lower j) e h g apart = absurd g
number_stays m (Low k) (Upper j) e h g apart = absurd g
number_stays m (High k) (Cost j) e h g apart = absurd g
number_stays m (High k) (Coef i j) e h g apart = absurd g
number_stays m (High k) (Lower j) e h g apart = absurd g
number_stays m (High k) (Upper j) e h g apart = absurd g

-- a side that is within the limit after some steps is moved
side_limit : (p : Place) → IsRowSide p → limit_of p ≡ 2 ^ 62
side_limit (Low i) h = refl
side_limit (High i) h = refl
side_limit (Cost j) h = absurd h
side_limit (Coef i j) h = absurd h
side_limit (Lower j) h = absurd h
side_limit (Upper j) h = absurd h

moves : (n : Parts) (p : Place) (z : ℤ) (t : ℕ) → IsRowSide p → exceeds (2 ^ 62) (number_of n p +ℤ pos t *ℤ z) ≡ false
    → side_moved n p z t ≡ Ok (raised n p (pos t *ℤ z))
moves n p z t h few =
    ap (λ s. cond s (Err (Limit (index_of p))) (Ok (raised n p (pos t *ℤ z))))
    (ap (λ k. exceeds k (number_of n p +ℤ pos t *ℤ z)) (side_limit p h) ∙ few)

-- ---- all sides

-- a move of a side that in a program is within the limit after some steps, and has the same number in another one
pub record StaysWithin (m n : Parts) (t : ℕ) (s : Place × ℤ) : Type 0 where
  pub side : IsRowSide s.0
  pub few : exceeds (2 ^ 62) (number_of m s.0 +ℤ pos t *ℤ s.1) ≡ false
  pub same : number_of n s.0 ≡ number_of m s.0

later : (m n : Parts) (t : ℕ) (p : Place) (e : ℤ) (ss : List (Place × ℤ)) → IsRowSide p → Each (λ q. p ≢ q) (map (λ s. s.0) ss)
    → Each (StaysWithin m n t) ss → Each (StaysWithin m (raised n p e) t) ss
later m n t p e [] h apart each = tt
later m n t p e (s ∷ ss) h apart each = (
  record {
    side = each.0.side;
    few = each.0.few;
    same = number_stays n p s.0 e h each.0.side apart.0 ∙ each.0.same;
  },
  later m n t p e ss h apart.1 each.1,
)

pub all_within : (m n : Parts) (t : ℕ) (ss : List (Place × ℤ)) → AreDifferent (map (λ s. s.0) ss) → Each (StaysWithin m n t) ss
    → IsWithinAt n ss t
all_within m n t [] other each = refl
all_within m n t (s ∷ ss) other each =
    let e = pos t *ℤ s.1 in
    let few = ap (λ y. exceeds (2 ^ 62) (y +ℤ pos t *ℤ s.1)) each.0.same ∙ each.0.few in
    ap (λ r. unless_stopped r (λ k. row_line_of k ss t)) (moves n s.0 s.1 t each.0.side few)
    ∙ all_within m (raised n s.0 e) t ss other.1 (later m n t s.0 e ss each.0.side other.0 each.1)
