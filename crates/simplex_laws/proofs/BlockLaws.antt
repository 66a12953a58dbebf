-- Something always blocks a nonbasic variable: a column at its other side, and a slack by a column of the rows, for else the
-- slack would move where no column does.
use Rattle.std.specs.Prelude.{◌≡◌, ◌≢◌, ℕ, ◌+◌, ◌<◌, ◌==◌, not, Bool, true, false, cond, if◌then◌else◌, List, [], length, Option, Some}
use Rattle.std.specs.Prelude.{None, option_map, option_and_then, ℤ, pos}
use Rattle.std.specs.List.{position}
use Rattle.std.specs.Int.Signed.{lt_z}
use Rattle.std.proofs.Common.{arith, refl, ap, sym, ◌∙◌, subst, ◌⊎◌, inl, inr}
use Rattle.std.proofs.lemmas.Int.{ints}
use Rattle.std.proofs.lemmas.Bool.{eqb-true, eqb-false}
use Rattle.ring_laws.proofs.Rings.{mul_zero}
use Rattle.ring_laws.proofs.Normal.{num, minus, identity}
use Rattle.ring_laws.proofs.Sums.{sum_same, sum_zero, sum_single}
use Rattle.frac128.specs.Rationals.{Rational, of, mul, neg, absolute}
use Rattle.frac128.proofs.Rationals.{rationals}
use Rattle.frac128.proofs.Order.{zero_top}
use Rattle.ip_defs.specs.Certificates.{coefficient_of}
use Rattle.ip_defs.specs.Program.{low_at, high_at}
use Rattle.ip_defs.specs.declared.programs.Parts.{Parts}
use Rattle.lp_duality.proofs.SignLaws.{top_zero, over_positive}
use Rattle.tableau.specs.declared.positions.Rest.TheVariants.{Basic, Low, High}
use Rattle.tableau.specs.Tables.{Table, basic_at, position_at, variable_at, IsTable}
use Rattle.tableau.specs.Nodes.{number, StandsFor, AreRowsZero, HasItsPoints}
use Rattle.tableau.specs.Meanings.{ratio_number}
use Rattle.tableau.proofs.RowLaws.{same_number}
use Rattle.tableau.proofs.TableLaws.{system_of}
use Rattle.simplex_laws.specs.declared.next.Next.{Next}
use Rattle.simplex_laws.specs.declared.next.Next.TheVariants.{Pivot, Flip}
use Rattle.tableau.specs.Numbers.{range_between, range}
use Rattle.simplex_laws.specs.Steps.{side_towards, side_met, block_at, block, nearest}
use Rattle.simplex_laws.proofs.ChoiceLaws.{nearest_none}
use Rattle.simplex_laws.proofs.PriceLaws.{basic_point}
use Rattle.simplex_laws.proofs.SideLaws.{column_or_slack, column_low, column_high}
use Rattle.simplex_laws.proofs.PointLaws.{basic_position, has_position, own_place}
use Rattle.ip_defs.proofs.OrderLaws.{not_less}
use Rattle.ip_defs.proofs.ListLaws.{unmapped}

one_apart : of (pos 1) ≢ of (pos 0)
unfolding of
one_apart e = let p = over_positive (pos 1) 0 (omega (arith, ints)) in let q = ap (λ z. z.numerator) e ∙ zero_top in omega (arith, ints)

pub if_same : {A : Type 0} (v w : ℕ) (a b : A) → v ≡ w → cond (v == w) a b ≡ a
if_same v w a b e = by (v == w) refl
  where
    by : (t : Bool) → (v == w) ≡ t → cond t a b ≡ a
    by true f = refl
    by false f = absurd (eqb-false v w f e)

pub if_other : {A : Type 0} (v w : ℕ) (a b : A) → v ≢ w → cond (v == w) a b ≡ b
if_other v w a b e = by (v == w) refl
  where
    by : (t : Bool) → (v == w) ≡ t → cond t a b ≡ b
    by true f = absurd (e (eqb-true v w f))
    by false f = refl

-- a basic variable with both sides blocks v, but where its entry is 0
flat_entry : (T : Table) (v k : ℕ) (up : Bool) → (variable_at T.variables (basic_at T.basics k)).low ≢ None →
    (variable_at T.variables (basic_at T.basics k)).high ≢ None → option_and_then (block_at T v k) (side_met up (number T k v)) ≡ None →
    number T k v ≡ of (pos 0)
flat_entry T v k up low high e = by (lt_z (number T k v).numerator (pos 0)) (lt_z (pos 0) (number T k v).numerator) refl refl e
  where
    blocks : (u : Bool) → block_at T v k (side_towards u) ≢ None
    blocks true h = high (unmapped {B = Rational × Next} (λ there. (absolute (ratio_number T k v High), Pivot k v High))
        (variable_at T.variables (basic_at T.basics k)).high h)
    blocks false h = low (unmapped {B = Rational × Next} (λ there. (absolute (ratio_number T k v Low), Pivot k v Low))
        (variable_at T.variables (basic_at T.basics k)).low h)

    by : (s t : Bool) → lt_z (number T k v).numerator (pos 0) ≡ s → lt_z (pos 0) (number T k v).numerator ≡ t →
        option_and_then (block_at T v k) (cond s (Some (side_towards up)) (cond t (Some (side_towards (not up))) None)) ≡ None →
        number T k v ≡ of (pos 0)
    by true t f g h = absurd (blocks up h)
    by false true f g h = absurd (blocks (not up) h)
    by false false f g h = top_zero (number T k v) (let x = not_less (number T k v).numerator (pos 0) f in
        let y = not_less (pos 0) (number T k v).numerator g in omega (arith, ints))

module _ (m : Parts) (b : List (ℤ × ℤ)) (T : Table) (table : IsTable T) (stands : StandsFor m b T) (v : ℕ) (up : Bool) (inside : v
    < length m.columns + length m.rows) (free : position_at T.positions v ≢ Basic)
    (loose : (w : ℕ) → w < length m.columns + length m.rows → block T v up w ≡ None) where
  not_basic : (i : ℕ) → i < length m.rows → basic_at T.basics i ≢ v
  not_basic i l e = free (ap (position_at T.positions) (sym e) ∙ stands.basic i l)

  -- the direction in which v moves
  abbrev q : ℕ → Rational
  q u = if u == v then of (pos 1) else of (pos 0)

  abbrev by_position : Option ℕ → ℕ → Rational
  by_position None u = q u
  by_position (Some i) u = neg (number T i v)

  abbrev x : ℕ → Rational
  x u = by_position (position (λ w. w == u) T.basics) u

  q_other : (u : ℕ) → u ≢ v → q u ≡ of (pos 0)
  q_other u n = if_other u v (of (pos 1)) (of (pos 0)) n

  q_own : q v ≡ of (pos 1)
  q_own = if_same v v (of (pos 1)) (of (pos 0)) refl

  x_is : (u : ℕ) → ((k : ℕ) × (k < length m.rows) × (basic_at T.basics k ≡ u) × (x u ≡ neg (number T k v))) ⊎ (x u ≡ q u)
  x_is u = by (position (λ w. w == u) T.basics) refl
    where
      by : (o : Option ℕ) → position (λ w. w == u) T.basics ≡ o → ((k : ℕ) × (k < length m.rows) × (basic_at T.basics k ≡ u)
          × (by_position o u ≡ neg (number T k v))) ⊎ (by_position o u ≡ q u)
      by None e = inr refl
      by (Some k) e = let p = basic_position m b T table stands u k e in inl (k, p.0, p.1, refl)

  x_basic : (i : ℕ) → i < length m.rows → x (basic_at T.basics i) ≡ neg (number T i v)
  x_basic i l = by (position (λ w. w == basic_at T.basics i) T.basics) refl
    where
      by : (o : Option ℕ) → position (λ w. w == basic_at T.basics i) T.basics ≡ o → by_position o (basic_at T.basics i)
          ≡ neg (number T i v)
      by None e = absurd (has_position m b T table stands i (basic_at T.basics i) l refl e)
      by (Some k) e = ap (λ z. neg (number T z v)) (own_place m b T table stands i k l e)

  -- the rows of the tableau are 0 in that direction
  x_zero : AreRowsZero m T x
  x_zero = basic_point rationals (length m.rows) (length m.columns) (coefficient_of m.rows) (number T) (basic_at T.basics)
      (system_of m b T stands) x q
      (λ u l. by u (x_is u))
      (λ i l. q_other (basic_at T.basics i) (not_basic i l))
      (λ i l. x_basic i l ∙ ap neg (sym (sum_single rationals (λ w. mul (number T i w) (q w)) v (length m.columns
      + length m.rows) inside (λ w k n. ap (λ z. mul (number T i w) z) (q_other w n) ∙ mul_zero rationals (number T i w))
      ∙ ap (λ z. mul (number T i v) z) q_own ∙ rationals.mul_one (number T i v))))
    where
      by : (u : ℕ) → ((k : ℕ) × (k < length m.rows) × (basic_at T.basics k ≡ u) × (x u ≡ neg (number T k v))) ⊎ (x u ≡ q u) →
          ((k : ℕ) × (k < length m.rows) × (basic_at T.basics k ≡ u)) ⊎ (x u ≡ q u)
      by u (inl (k, l, e, f)) = inl (k, l, e)
      by u (inr e) = inr e

  -- no basic column moves
  column_flat : (i : ℕ) → i < length m.rows → basic_at T.basics i < length m.columns → number T i v ≡ of (pos 0)
  column_flat i l c = by (basic_at T.basics i == v) refl (position (λ z. z == basic_at T.basics i) T.basics) refl
      (loose (basic_at T.basics i) (stands.within i l))
    where
      low_there : (variable_at T.variables (basic_at T.basics i)).low ≢ None
      low_there h = let p : Some (low_at b (basic_at T.basics i)) ≡ None = sym (column_low m b T stands (basic_at T.basics i) c) ∙ h in
          absurd cc

      high_there : (variable_at T.variables (basic_at T.basics i)).high ≢ None
      high_there h = let p : Some (high_at b (basic_at T.basics i)) ≡ None = sym (column_high m b T stands (basic_at T.basics i) c) ∙ h in
          absurd cc

      by : (t : Bool) → (basic_at T.basics i == v) ≡ t → (o : Option ℕ) → position (λ z. z == basic_at T.basics i) T.basics ≡ o
          → cond t (option_map {U = Rational × Next} (λ far. (far, Flip v)) (range (variable_at T.variables v)))
          (option_and_then (λ k. option_and_then (block_at T v k) (side_met up (number T k v))) o) ≡ None → number T i v ≡ of (pos 0)
      by true f o g h = absurd (not_basic i l (eqb-true (basic_at T.basics i) v f))
      by false f None g h = absurd (has_position m b T table stands i (basic_at T.basics i) l refl g)
      by false f (Some k) g h =
          let same = own_place m b T table stands i k l g in
          flat_entry T v i up low_there high_there (subst (λ (k : ℕ). option_and_then (block_at T v k) (side_met up (number T k v))
          ≡ None) same h)

  own_range : range (variable_at T.variables v) ≡ None
  own_range = by (v == v) (same_number v) (loose v inside)
    where
      by : (t : Bool) → t ≡ true → cond t (option_map {U = Rational × Next} (λ far. (far, Flip v)) (range (variable_at T.variables v)))
          (option_and_then (λ k. option_and_then (block_at T v k) (side_met up (number T k v))) (position (λ z. z == v) T.basics)) ≡ None →
          range (variable_at T.variables v) ≡ None
      by false f h = absurd cc
      by true f h = unmapped {B = Rational × Next} (λ far. (far, Flip v)) (range (variable_at T.variables v)) h

  never_loose : HasItsPoints m T → ⊥
  never_loose has = by (column_or_slack (length m.columns) (length m.rows) v inside)
    where
      at_column : (k : ℕ) → v ≡ length m.columns + k → (j : ℕ) → j < length m.columns → x j ≡ of (pos 0)
      at_column k e j l = is (x_is j)
        where
          is : ((k : ℕ) × (k < length m.rows) × (basic_at T.basics k ≡ j) × (x j ≡ neg (number T k v))) ⊎ (x j ≡ q j) → x j ≡ of (pos 0)
          is (inl (i, o, p, f)) = f ∙ ap neg (column_flat i o (omega arith))
              ∙ identity rationals [] (minus (num (pos 0))) (num (pos 0)) refl
          is (inr f) = f ∙ q_other j (omega arith)

      at_own : ((k : ℕ) × (k < length m.rows) × (basic_at T.basics k ≡ v) × (x v ≡ neg (number T k v))) ⊎ (x v ≡ q v) → x v ≡ of (pos 1)
      at_own (inl (i, o, p, f)) = absurd (not_basic i o p)
      at_own (inr f) = f ∙ q_own

      by : (v < length m.columns) ⊎ ((k : ℕ) × (k < length m.rows) × (v ≡ length m.columns + k)) → ⊥
      by (inl c) =
          let first = subst (λ (o : Option ℤ). range_between o (variable_at T.variables v).high
          ≡ None) (column_low m b T stands v c) own_range in
          let second = subst (λ (o : Option ℤ). range_between (Some (low_at b v)) o ≡ None) (column_high m b T stands v c) first in
          absurd cc
      by (inr (k, s, e)) =
          let total = sum_same rationals (λ j. mul (of (coefficient_of m.rows k j)) (x j)) (λ j. of (pos 0)) (length m.columns)
          (λ j l. ap (λ z. mul (of (coefficient_of m.rows k j)) z) (at_column k e j l)
          ∙ mul_zero rationals (of (coefficient_of m.rows k j))) ∙ sum_zero rationals (length m.columns) in
          one_apart (sym (at_own (x_is v)) ∙ ap x e ∙ has x x_zero k s ∙ total)

-- something blocks a nonbasic variable in each direction
pub something_blocks : (m : Parts) (b : List (ℤ × ℤ)) (T : Table) → IsTable T → StandsFor m b T → HasItsPoints m T → (v : ℕ) (up : Bool) →
    v < length T.variables → position_at T.positions v ≢ Basic → nearest (block T v up) (length T.variables) ≢ None
something_blocks m b T table stands has v up inside free e =
    never_loose m b T table stands v up (let s = stands.size in
    omega arith) free (λ w l. nearest_none (block T v up) (length T.variables) e w (let s = stands.size in omega arith)) has
