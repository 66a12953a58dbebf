-- What a final answer of `next` says of the searches before it.
use Rattle.std.specs.Prelude.{◌≡◌, ◌≢◌, ℕ, ◌<◌, ◌==◌, Bool, true, false, cond, if◌then◌else◌, List, length, Option, Some, None, option_map}
use Rattle.std.specs.Prelude.{option_and_then, ℤ}
use Rattle.std.specs.List.{position}
use Rattle.std.proofs.Common.{refl, ap, sym, ◌∙◌, subst}
use Rattle.frac128.specs.Rationals.{Rational, neg, absolute}
use Rattle.ip_defs.specs.declared.programs.Parts.{Parts}
use Rattle.tableau.specs.declared.positions.Rest.{Rest}
use Rattle.tableau.specs.Tables.{Table, basic_at, variable_at, IsTable}
use Rattle.tableau.specs.Numbers.{side_at, range}
use Rattle.tableau.specs.Nodes.{number, StandsFor, HasItsPoints}
use Rattle.tableau.specs.Meanings.{value_number, price_number, ratio_number}
use Rattle.simplex_laws.specs.declared.next.Next.{Next}
use Rattle.simplex_laws.specs.declared.next.Next.TheVariants.{Pivot, Flip, FinalRow, FinalPoint}
use Rattle.simplex_laws.specs.Steps.{direction, infeasible, outside, row_entering, restore, side_met, block_at, block, nearest, move_by}
use Rattle.simplex_laws.specs.Steps.{move, entering, improve, by_infeasible, next, is_final}
use Rattle.ip_defs.proofs.FirstLaws.{first-none}
use Rattle.simplex_laws.proofs.ChoiceLaws.{paired, first_is, nearest_is}
use Rattle.simplex_laws.proofs.StepLaws.{direction_is, first_infeasible_is}
use Rattle.simplex_laws.proofs.BlockLaws.{something_blocks}
use Rattle.ip_defs.proofs.ListLaws.{unmapped}
use Rattle.ip_defs.specs.Lists.{first}

-- the entries of a row, or their negations
abbrev pub ray : Table → ℕ → Bool → ℕ → Rational
ray T i up v = if up then number T i v else neg (number T i v)

-- ---- what blocks a variable is a step
module _ (T : Table) (v : ℕ) (up : Bool) where
  block_at_steps : (i : ℕ) (side : Rest) (x : Rational × Next) → block_at T v i side ≡ Some x → is_final x.1 ≡ false
  block_at_steps i side x e = by (side_at (variable_at T.variables (basic_at T.basics i)) side) e
    where
      by : (o : Option ℤ) → option_map {U = Rational × Next} (λ there. (absolute (ratio_number T i v side), Pivot i v side)) o ≡ Some x →
          is_final x.1 ≡ false
      by None h = absurd cc
      by (Some z) h =
          let q : paired (absolute (ratio_number T i v side)) (Pivot i v side) ≡ x = cc in
          subst (λ (y : Rational × Next). is_final y.1 ≡ false) q refl

  block_in_steps : (i : ℕ) (x : Rational × Next) → option_and_then (block_at T v i) (side_met up (number T i v)) ≡ Some x →
      is_final x.1 ≡ false
  block_in_steps i x e = by (side_met up (number T i v)) e
    where
      by : (o : Option Rest) → option_and_then (block_at T v i) o ≡ Some x → is_final x.1 ≡ false
      by None h = absurd cc
      by (Some side) h = block_at_steps i side x h

  block_steps : (w : ℕ) (x : Rational × Next) → block T v up w ≡ Some x → is_final x.1 ≡ false
  block_steps w x e = by (w == v) (range (variable_at T.variables v)) (position (λ z. z == w) T.basics) e
    where
      by : (t : Bool) (far : Option Rational) (at : Option ℕ) →
          cond t (option_map {U = Rational × Next} (λ far. (far, Flip v)) far) (option_and_then
          (λ i. option_and_then (block_at T v i) (side_met up (number T i v))) at) ≡ Some x → is_final x.1 ≡ false
      by true None at h = absurd cc
      by true (Some far) at h = let q : paired far (Flip v) ≡ x = cc in subst (λ (z : Rational × Next). is_final z.1 ≡ false) q refl
      by false far None h = absurd cc
      by false far (Some i) h = block_in_steps i x h

  -- a move is final only where nothing blocks the variable, and then with a point
  pub move_is : (n : Next) → is_final n ≡ true → move T (v, up) ≡ n → (nearest (block T v up) (length T.variables) ≡ None)
      × (n ≡ FinalPoint)
  move_is n f e = by (nearest (block T v up) (length T.variables)) refl e
    where
      by : (o : Option (Rational × Next)) → nearest (block T v up) (length T.variables) ≡ o → move_by o ≡ n → (o ≡ None) × (n ≡ FinalPoint)
      by None g h = (refl, sym h)
      by (Some x) g h =
          let r = nearest_is (block T v up) (length T.variables) x g in
          let s = block_steps r.0 x r.2 in
          let q : false ≡ true = sym s ∙ ap is_final h ∙ f in absurd cc

-- ---- an entering variable
-- an entering variable can move in its direction
pub entering_is : (T : Table) (go : ℕ × Bool) → entering T ≡ Some go → (go.0 < length T.variables)
    × (direction T (price_number T go.0) go.0 ≡ Some go.1)
entering_is T go e = by (first_is (λ v. option_map (λ up. (v, up)) (direction T (price_number T v) v)) (length T.variables) go e)
  where
    at : (w : ℕ) → w < length T.variables → (o : Option Bool) → direction T (price_number T w) w ≡ o →
        option_map {U = ℕ × Bool} (λ up. (w, up)) o ≡ Some go → (go.0 < length T.variables) × (direction T (price_number T go.0) go.0
        ≡ Some go.1)
    at w k None g h = absurd cc
    at w k (Some up) g h =
        let same : paired w up ≡ go = cc in
        subst (λ (z : ℕ × Bool). (z.0 < length T.variables) × (direction T (price_number T z.0) z.0 ≡ Some z.1)) same (k, g)

    by : (w : ℕ) × (w < length T.variables) × (option_map {U = ℕ × Bool} (λ up. (w, up)) (direction T (price_number T w) w) ≡ Some go) →
        (go.0 < length T.variables) × (direction T (price_number T go.0) go.0 ≡ Some go.1)
    by r = at r.0 r.1 (direction T (price_number T r.0) r.0) refl r.2

-- without an entering variable no reduced cost gives a direction
pub entering_none : (T : Table) → entering T ≡ None → (v : ℕ) → v < length T.variables → direction T (price_number T v) v ≡ None
entering_none T e v l = unmapped {B = ℕ × Bool} (λ up. (v, up)) (direction T (price_number T v) v)
    (first-none (λ v. option_map {U = ℕ × Bool} (λ up. (v, up)) (direction T (price_number T v) v)) (length T.variables) e v l)

-- ---- a final row
-- row i is outside the sides of its basic variable, and no variable can enter to bring it back
pub record IsBroken (T : Table) (i : ℕ) (up : Bool) : Type 0 where
  pub row : i < length T.rows
  pub outside : outside (value_number T i) (variable_at T.variables (basic_at T.basics i)).low
      (variable_at T.variables (basic_at T.basics i)).high ≡ Some up
  pub directions : (v : ℕ) → v < length T.variables → direction T (ray T i up v) v ≡ None

-- where none can enter, no entry of the row gives a direction
pub row_entering_none : (T : Table) (i : ℕ) (up : Bool) → row_entering T i up ≡ None → (v : ℕ) → v < length T.variables
    → direction T (ray T i up v) v ≡ None
row_entering_none T i up e v l = unmapped {B = ℕ} (λ go. v) (direction T (ray T i up v) v) (first-none
    (λ v. option_map {U = ℕ} (λ go. v) (direction T (ray T i up v) v)) (length T.variables) e v l)

restored : (x : ℕ × Bool) (i : ℕ) (up : Bool) (o : Option ℕ) → restore x.0 x.1 o ≡ FinalRow i up → (o ≡ None) × (x ≡ (i, up))
restored x i up None e =
    let first : x.0 ≡ i = cc in
    let second : x.1 ≡ up = cc in
    (refl, ap (λ (k : ℕ). paired k x.1) first ∙ ap (paired i) second)
restored x i up (Some v) e = absurd cc

no_row : (T : Table) (i : ℕ) (up : Bool) (o : Option (ℕ × Bool)) → improve T o ≢ FinalRow i up
no_row T i up None e = absurd cc
no_row T i up (Some go) e = let r = move_is T go.0 go.1 (FinalRow i up) refl e in let q : FinalRow i up ≡ FinalPoint = r.1 in absurd cc

pub final_row_is : (T : Table) → IsTable T → (i : ℕ) (up : Bool) → next T ≡ FinalRow i up → IsBroken T i up
unfolding next
final_row_is T table i up e = by (first (infeasible T) (length T.variables)) refl e
  where
    by : (o : Option (ℕ × Bool)) → first (infeasible T) (length T.variables) ≡ o → by_infeasible T o ≡ FinalRow i up → IsBroken T i up
    by None f h = absurd (no_row T i up (entering T) h)
    by (Some x) f h =
        let r = restored x i up (row_entering T x.0 x.1) h in
        let s = first_infeasible_is T table x f in
        subst (λ (z : ℕ × Bool). IsBroken T z.0 z.1) r.1 (record {
          row = s.0;
          outside = s.1;
          directions =
              row_entering_none T x.0 x.1 r.0;
        })

-- ---- a final point
no_row_entering : (i : ℕ) (up : Bool) (o : Option ℕ) → restore i up o ≢ FinalPoint
no_row_entering i up None e = absurd cc
no_row_entering i up (Some v) e = absurd cc

-- nothing is outside its sides, and no reduced cost gives a direction
pub record IsSettled (T : Table) : Type 0 where
  pub within : (v : ℕ) → v < length T.variables → infeasible T v ≡ None
  pub directions : (v : ℕ) → v < length T.variables → direction T (price_number T v) v ≡ None

module _ (m : Parts) (b : List (ℤ × ℤ)) (T : Table) (table : IsTable T) (stands : StandsFor m b T) (has : HasItsPoints m T) where
  -- a variable that enters has a step
  goes : (go : ℕ × Bool) → entering T ≡ Some go → move T go ≢ FinalPoint
  goes go e h =
      let r = entering_is T go e in
      let x = direction_is T (price_number T go.0) go.0 go.1 r.1 in
      something_blocks m b T table stands has go.0 go.1 r.0 x.1 (move_is T go.0 go.1 FinalPoint refl h).0

  improved : (o : Option (ℕ × Bool)) → entering T ≡ o → improve T o ≡ FinalPoint → (v : ℕ) → v < length T.variables →
      direction T (price_number T v) v ≡ None
  improved None e h = entering_none T e
  improved (Some go) e h = absurd (goes go e h)

  pub final_point_is : next T ≡ FinalPoint → IsSettled T
  unfolding next
  final_point_is e = by (first (infeasible T) (length T.variables)) refl e
    where
      by : (o : Option (ℕ × Bool)) → first (infeasible T) (length T.variables) ≡ o → by_infeasible T o ≡ FinalPoint → IsSettled T
      by None f h = record { within = first-none (infeasible T) (length T.variables) f; directions = improved (entering T) refl h }
      by (Some x) f h = absurd (no_row_entering x.0 x.1 (row_entering T x.0 x.1) h)
