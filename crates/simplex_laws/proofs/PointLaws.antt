-- The point of a tableau: its basic variables have the values of their rows, the others their nonbasic values, and each row of the tableau
-- is 0 there.
use Rattle.std.specs.Prelude.{◌≡◌, ◌≢◌, ℕ, ◌+◌, ◌<◌, ◌==◌, Bool, List, length, Option, Some, None, option_map, option_and_then, ℤ, pos}
use Rattle.std.specs.List.{position}
use Rattle.std.proofs.Common.{arith, refl, ap, sym, ◌∙◌, subst, ◌⊎◌, inl, inr}
use Rattle.ring_laws.proofs.Rings.{zero_mul}
use Rattle.ring_laws.proofs.Sums.{sum}
use Rattle.frac128.specs.Rationals.{Rational, of, mul, neg}
use Rattle.frac128.proofs.Rationals.{rationals}
use Rattle.frac128.proofs.Order.{zero_top}
use Rattle.ip_defs.specs.Certificates.{coefficient_of}
use Rattle.ip_defs.specs.declared.programs.Parts.{Parts}
use Rattle.lp_duality.specs.Duals.{paid}
use Rattle.lp_duality.specs.Relaxations.{IsBetween, IsUncrossed}
use Rattle.lp_duality.proofs.SignLaws.{paid_zero}
use Rattle.tableau.specs.declared.positions.Rest.{Rest}
use Rattle.tableau.specs.declared.positions.Rest.TheVariants.{Basic, Low, High, Zero}
use Rattle.tableau.specs.Tables.{Table, basic_at, position_at, variable_at, IsTable}
use Rattle.tableau.specs.Numbers.{side_or_zero, nonbasic_value}
use Rattle.tableau.specs.Nodes.{number, IsWellPlaced, StandsFor, AreRowsZero}
use Rattle.tableau.specs.Meanings.{nonbasic_number, value_number}
use Rattle.tableau.proofs.RowLaws.{same_number}
use Rattle.tableau.proofs.TableLaws.{system_of}
use Rattle.simplex_laws.specs.Steps.{infeasible, outside}
use Rattle.simplex_laws.specs.Finals.{number_by, point_of}
use Rattle.simplex_laws.proofs.ListPositionLaws.{found}
use Rattle.simplex_laws.proofs.StepLaws.{basic_row}
use Rattle.simplex_laws.proofs.PriceLaws.{basic_point}
use Rattle.simplex_laws.proofs.SideLaws.{in_order}
use Rattle.simplex_laws.proofs.NonbasicLaws.{Sits, SignFits, nonbasic_is, paid_nonbasic, nonbasic_between, outside_none}
use Rattle.ip_defs.proofs.ListLaws.{unmapped}

module _ (m : Parts) (b : List (ℤ × ℤ)) (T : Table) (table : IsTable T) (stands : StandsFor m b T) where
  -- ---- rows
  pub basic_position : (v k : ℕ) → position (λ w. w == v) T.basics ≡ Some k → (k < length m.rows) × (basic_at T.basics k ≡ v)
  basic_position v k e = let p = basic_row T table v k e in let l = p.0 in let s = stands.rows in (omega arith, p.1)

  -- a basic variable has a row
  pub has_position : (i v : ℕ) → i < length m.rows → basic_at T.basics i ≡ v → position (λ w. w == v) T.basics ≢ None
  has_position i v l e = found (λ w. w == v) T.basics i 0 (let s = stands.rows in let t = table.basics in
      omega arith) (ap (λ z. z == v) e ∙ same_number v)

  -- the row of a basic variable is its own
  pub own_place : (i k : ℕ) → i < length m.rows → position (λ w. w == basic_at T.basics i) T.basics ≡ Some k → k ≡ i
  own_place i k l e = let p = basic_position (basic_at T.basics i) k e in stands.different k i p.0 l p.1

  -- ---- the point
  apart : (v : ℕ) → ((k : ℕ) × (k < length m.rows) × (basic_at T.basics k ≡ v)) ⊎ (point_of T v ≡ nonbasic_number T v)
  apart v = by (position (λ w. w == v) T.basics) refl
    where
      by : (o : Option ℕ) → position (λ w. w == v) T.basics ≡ o → ((k : ℕ) × (k < length m.rows) × (basic_at T.basics k ≡ v))
          ⊎ (number_by T v o ≡ nonbasic_number T v)
      by None e = inr refl
      by (Some k) e = let p = basic_position v k e in inl (k, p.0, p.1)

  pub values : (i : ℕ) → i < length m.rows → point_of T (basic_at T.basics i) ≡ value_number T i
  values i l = by (position (λ w. w == basic_at T.basics i) T.basics) refl
    where
      by : (o : Option ℕ) → position (λ w. w == basic_at T.basics i) T.basics ≡ o → number_by T (basic_at T.basics i) o ≡ value_number T i
      by None e = absurd (has_position i (basic_at T.basics i) l refl e)
      by (Some k) e = ap (value_number T) (own_place i k l e)

  -- each row of the tableau is 0 at its point
  pub point_zero : AreRowsZero m T (point_of T)
  point_zero = basic_point rationals (length m.rows) (length m.columns) (coefficient_of m.rows) (number T) (basic_at T.basics)
      (system_of m b T stands) (point_of T) (nonbasic_number T)
      (λ v l. apart v)
      (λ i l. ap (λ r. of (side_or_zero (nonbasic_value (variable_at T.variables (basic_at T.basics i)) r))) (stands.basic i l))
      (λ i l. values i l ∙ ap (λ n. neg (sum rationals (λ v. mul (number T i v) (nonbasic_number T v)) n)) stands.size)

  -- ---- between its sides
  -- a variable that is basic in no row is nonbasic
  sits_out : (v : ℕ) → v < length m.columns + length m.rows → ((i : ℕ) → i < length m.rows → basic_at T.basics i ≢ v) →
      Sits (variable_at T.variables v).low (variable_at T.variables v).high (position_at T.positions v)
  sits_out v l free = by (position_at T.positions v) (stands.positions v l)
    where
      by : (r : Rest) → IsWellPlaced T v r → Sits (variable_at T.variables v).low (variable_at T.variables v).high r
      by Basic s = free s.0 (let k = s.1 in let e = stands.rows in omega arith) s.2
      by Low s = s
      by High s = s
      by Zero s = s

  no_position : (v : ℕ) → v < length m.columns + length m.rows → position (λ w. w == v) T.basics ≡ None →
      Sits (variable_at T.variables v).low (variable_at T.variables v).high (position_at T.positions v)
  no_position v l e = sits_out v l (λ i k q. has_position i v k q e)

  -- where nothing is outside its sides, the point lies between them
  pub point_between : IsUncrossed m b → ((v : ℕ) → v < length m.columns + length m.rows → infeasible T v ≡ None) → (v : ℕ) →
      v < length m.columns + length m.rows → IsBetween (variable_at T.variables v).low (variable_at T.variables v).high (point_of T v)
  point_between ok none v l = by (position (λ w. w == v) T.basics) refl (none v l)
    where
      by : (o : Option ℕ) → position (λ w. w == v) T.basics ≡ o →
          option_and_then (λ i. option_map {U = ℕ × Bool} (λ up. (i, up)) (outside (value_number T i) (variable_at T.variables v).low
          (variable_at T.variables v).high)) o ≡ None
          → IsBetween (variable_at T.variables v).low (variable_at T.variables v).high (number_by T v o)
      by None e h =
          let x = variable_at T.variables v in
          subst (λ (p : Rational). IsBetween x.low x.high p) (sym (nonbasic_is x (position_at T.positions v)))
          (nonbasic_between x.low x.high (position_at T.positions v) (λ low high p q. in_order m b T stands ok v low high l p q)
          (no_position v l e))
      by (Some i) e h =
          let x = variable_at T.variables v in
          outside_none (value_number T i) x.low x.high (unmapped {B = ℕ × Bool} (λ up. (i, up))
          (outside (value_number T i) x.low x.high) h)

  -- a number of a variable whose sign fits its position, and that is 0 where the variable is basic, pays what it gives at the point
  pub pays_at : (p : Rational) (v : ℕ) → v < length m.columns + length m.rows →
      ((i : ℕ) → i < length m.rows → basic_at T.basics i ≡ v → p ≡ of (pos 0)) →
      SignFits p (variable_at T.variables v).low (variable_at T.variables v).high (position_at T.positions v)
      → paid p (variable_at T.variables v).low (variable_at T.variables v).high ≡ Some (mul p (point_of T v))
  pays_at p v l flat f = by (position (λ w. w == v) T.basics) refl
    where
      by : (o : Option ℕ) → position (λ w. w == v) T.basics ≡ o → paid p (variable_at T.variables v).low (variable_at T.variables v).high
          ≡ Some (mul p (number_by T v o))
      by None e =
          let x = variable_at T.variables v in
          paid_nonbasic p x.low x.high (position_at T.positions v) (no_position v l e) f
          ∙ ap (λ z. Some (mul p z)) (sym (nonbasic_is x (position_at T.positions v)))
      by (Some i) e =
          let k = basic_position v i e in
          let z = flat i k.0 k.1 in
          paid_zero p (variable_at T.variables v).low (variable_at T.variables v).high (ap (λ w. w.numerator) z ∙ zero_top)
          ∙ ap Some (sym (ap (λ w. mul w (value_number T i)) z ∙ zero_mul rationals (value_number T i)))
