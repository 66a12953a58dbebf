-- A program with a number raised: sides and bounds make it wider or narrower; costs and coefficients change linearly.
use Rattle.std.specs.Prelude.{◌≡◌, ℕ, zero, suc, ◌==◌, Bool, true, false, List, [], ◌∷◌, length, map, Option, Some, None}
use Rattle.std.specs.Prelude.{option_map, ℤ, pos, ◌+ℤ◌, ◌-ℤ◌, ◌*ℤ◌, ◌≤ℤ◌, cond}
use Rattle.std.proofs.Common.{arith, refl, sym, ◌∙◌}
use Rattle.std.proofs.lemmas.Int.{ints}
use Rattle.ip_defs.specs.Sums.{sum_below, sum_over}
use Rattle.ip_defs.specs.Program.{at, coefficient, row_sum, costs_of, cost}
use Rattle.ip_defs.specs.Certificates.{coefficient_of}
use Rattle.ip_defs.specs.declared.programs.Column.{Column}
use Rattle.ip_defs.specs.declared.programs.Row.{Row}
use Rattle.ip_defs.specs.declared.programs.Parts.{Parts}
use Rattle.ip_model.specs.declared.places.Place.TheVariants.{Cost, Low, High, Coef, Lower, Upper}
use Rattle.ip_model.specs.Places.{changed_at, with_cost, with_lower, with_upper, with_low, with_high, with_coef}
use Rattle.ip_model.specs.Places.{with_columns, with_rows, raised}
use Rattle.leaf_cert.proofs.RaisedNumbers.{plus, raised_coefs, raised_coefs_is, pay_by_coef}
use Rattle.range_laws.specs.Widening.{Paired, IsNotAbove, IsWiderRow, IsWiderColumn, IsWider}
use Rattle.range_laws.proofs.ConcaveLaws.{Linear, linear_add, linear_sub, linear_scale, linear_times, linear_sum, linear_over}
use Rattle.range_laws.proofs.LeafLaws.{Between, Fixed, rays, boxes}
use Rattle.range_laws.proofs.WideningLaws.{row_self, column_self}

-- ---- sides and bounds

-- a list and itself, and a list with one element changed in two ways
paired_self : {A : Type 0} (R : A → A → Type 0) → ((x : A) → R x x) → (xs : List A) → Paired R xs xs
paired_self R same [] = tt
paired_self R same (x ∷ xs) = (same x, paired_self R same xs)

changed_paired : {A : Type 0} (R : A → A → Type 0) (f g : A → A) → ((x : A) → R x x) → ((x : A) → R (f x) (g x)) → (xs : List A) (j : ℕ)
    → Paired R (changed_at f j xs) (changed_at g j xs)
changed_paired R f g same own [] j = tt
changed_paired R f g same own (x ∷ xs) zero = (own x, paired_self R same xs)
changed_paired R f g same own (x ∷ xs) (suc j) = (same x, changed_paired R f g same own xs j)

raised_option : (a b : ℤ) → a ≤ℤ b → (o : Option ℤ) → IsNotAbove (option_map (plus a) o) (option_map (plus b) o)
raised_option a b le None = tt
raised_option a b le (Some z) = omega (arith, ints)

-- programs with other rows or other columns
wider_rows : (m : Parts) (f g : Row → Row) (i : ℕ) → ((r : Row) → IsWiderRow (f r) (g r))
    → IsWider (with_rows m (changed_at f i m.rows)) (with_rows m (changed_at g i m.rows))
wider_rows m f g i own = record {
  constant = refl;
  columns = paired_self IsWiderColumn column_self m.columns;
  rows = changed_paired IsWiderRow f g row_self own m.rows i;
}

wider_columns : (m : Parts) (f g : Column → Column) (j : ℕ) → ((c : Column) → IsWiderColumn (f c) (g c))
    → IsWider (with_columns m (changed_at f j m.columns)) (with_columns m (changed_at g j m.columns))
wider_columns m f g j own = record {
  constant = refl;
  columns = changed_paired IsWiderColumn f g column_self own m.columns j;
  rows = paired_self IsWiderRow row_self m.rows;
}

-- a low side or a lower bound that rises makes the program narrower, a high side or an upper bound wider
pub low_narrows : (m : Parts) (i : ℕ) (a b : ℤ) → a ≤ℤ b → IsWider (raised m (Low i) b) (raised m (Low i) a)
low_narrows m i a b le = wider_rows m (with_low (plus b)) (with_low (plus a)) i
    (λ r. record { coefs = refl; low = raised_option a b le r.low; high = (row_self r).high })

pub high_widens : (m : Parts) (i : ℕ) (a b : ℤ) → a ≤ℤ b → IsWider (raised m (High i) a) (raised m (High i) b)
high_widens m i a b le = wider_rows m (with_high (plus a)) (with_high (plus b)) i
    (λ r. record { coefs = refl; low = (row_self r).low; high = raised_option a b le r.high })

pub lower_narrows : (m : Parts) (j : ℕ) (a b : ℤ) → a ≤ℤ b → IsWider (raised m (Lower j) b) (raised m (Lower j) a)
lower_narrows m j a b le = wider_columns m (with_lower (plus b)) (with_lower (plus a)) j
    (λ c. record { cost = refl; lo = omega (arith, ints); hi = (column_self c).hi })

pub upper_widens : (m : Parts) (j : ℕ) (a b : ℤ) → a ≤ℤ b → IsWider (raised m (Upper j) a) (raised m (Upper j) b)
upper_widens m j a b le = wider_columns m (with_upper (plus a)) (with_upper (plus b)) j
    (λ c. record { cost = refl; lo = (column_self c).lo; hi = omega (arith, ints) })

-- ---- costs and coefficients

module _ (p r : ℕ) (a b c : ℤ) (steps : Linear p r a b c) where
  -- costs
  pub cost_linear : (cs : List Column) (j k : ℕ)
      → Linear p r (at (map (λ (d : Column). d.cost) (changed_at (with_cost (plus a)) j cs)) k)
      (at (map (λ (d : Column). d.cost) (changed_at (with_cost (plus b)) j cs)) k)
      (at (map (λ (d : Column). d.cost) (changed_at (with_cost (plus c)) j cs)) k)
  cost_linear [] j k = refl
  cost_linear (d ∷ cs) zero zero = linear_add p r d.cost d.cost d.cost a b c refl steps
  cost_linear (d ∷ cs) zero (suc k) = refl
  cost_linear (d ∷ cs) (suc j) zero = refl
  cost_linear (d ∷ cs) (suc j) (suc k) = cost_linear cs j k

  pub coef_linear : (j : ℕ) (ps : List (ℕ × ℤ)) (k : ℕ)
      → Linear p r (coefficient (raised_coefs j a ps) k) (coefficient (raised_coefs j b ps) k) (coefficient (raised_coefs j c ps) k)
  coef_linear j ps k = rw (raised_coefs_is j a ps k, raised_coefs_is j b ps k, raised_coefs_is j c ps k) (by (j == k))
    where
      by : (t : Bool) → Linear p r (cond t (a +ℤ coefficient ps k) (coefficient ps k)) (cond t (b +ℤ coefficient ps k) (coefficient ps k))
          (cond t (c +ℤ coefficient ps k) (coefficient ps k))
      by true = linear_add p r a b c (coefficient ps k) (coefficient ps k) (coefficient ps k) steps refl
      by false = refl

  pub coefficient_linear : (rs : List Row) (i j l k : ℕ)
      → Linear p r (coefficient_of (changed_at (with_coef j (plus a)) i rs) l k)
      (coefficient_of (changed_at (with_coef j (plus b)) i rs) l k) (coefficient_of (changed_at (with_coef j (plus c)) i rs) l k)
  coefficient_linear [] i j l k = refl
  coefficient_linear (s ∷ rs) zero j zero k = coef_linear j s.coefs k
  coefficient_linear (s ∷ rs) zero j (suc l) k = refl
  coefficient_linear (s ∷ rs) (suc i) j zero k = refl
  coefficient_linear (s ∷ rs) (suc i) j (suc l) k = coefficient_linear rs i j l k

  pub cost_between : (m : Parts) (j : ℕ) → Between p r (raised m (Cost j) a) (raised m (Cost j) b) (raised m (Cost j) c)
  cost_between m j = record {
    pays = λ y. (refl, refl);
    constants = (refl, refl);
    columns = λ q y k.
        let F : ℤ → ℤ = λ e. at (costs_of (raised m (Cost j) e)) k in
        let taken : ℤ = sum_over (λ s. s.1 *ℤ coefficient_of m.rows s.0 k) y in
        linear_sub p r (q *ℤ F a) (q *ℤ F b) (q *ℤ F c) taken taken taken
        (linear_scale p r q (F a) (F b) (F c) (cost_linear m.columns j k)) refl;
  }

  pub coef_between : (m : Parts) (i j : ℕ) → Between p r (raised m (Coef i j) a) (raised m (Coef i j) b) (raised m (Coef i j) c)
  coef_between m i j = record {
    pays = λ y. (
      pay_by_coef m.rows i j a y ∙ sym (pay_by_coef m.rows i j b y),
      pay_by_coef m.rows i j c y ∙ sym (pay_by_coef m.rows i j b y),
    );
    constants = (refl, refl);
    columns = λ q y k.
        let F : ℤ → ℕ × ℤ → ℤ = λ e s. s.1 *ℤ coefficient_of (changed_at (with_coef j (plus e)) i m.rows) s.0 k in
        let own : ℤ = q *ℤ at (costs_of m) k in
        linear_sub p r own own own (sum_over (F a) y) (sum_over (F b) y) (sum_over (F c) y) refl
        (linear_over p r (F a) (F b) (F c) y (λ s. linear_scale p r s.1
        (coefficient_of (changed_at (with_coef j (plus a)) i m.rows) s.0 k)
        (coefficient_of (changed_at (with_coef j (plus b)) i m.rows) s.0 k)
        (coefficient_of (changed_at (with_coef j (plus c)) i m.rows) s.0 k) (coefficient_linear m.rows i j s.0 k)));
  }

  no_cost : (x y s : ℤ) → pos 0 *ℤ x -ℤ s ≡ pos 0 *ℤ y -ℤ s
  no_cost x y s = omega (arith, ints)

  -- rays do not see a cost
  pub cost_fixed : (m : Parts) (j : ℕ) (u v w : ℤ) → Fixed (raised m (Cost j) a) (raised m (Cost j) b) (raised m (Cost j) c) u v w
  cost_fixed m j u v w = rays (λ y k.
      let F : ℤ → ℤ = λ e. at (costs_of (raised m (Cost j) e)) k in
      let taken : ℤ = sum_over (λ s. s.1 *ℤ coefficient_of m.rows s.0 k) y in
      (no_cost (F a) (F b) taken, no_cost (F c) (F b) taken))

  -- the box sum does not see a coefficient
  pub coef_fixed : (m : Parts) (i j : ℕ) (w : ℤ) → Fixed (raised m (Coef i j) a) (raised m (Coef i j) b) (raised m (Coef i j) c) w w w
  coef_fixed m i j w = boxes (λ k. (refl, refl)) refl refl

  -- what a point costs, and the value of a row at it
  pub cost_at_linear : (m : Parts) (j : ℕ) (x : List ℤ)
      → Linear p r (cost (raised m (Cost j) a) x) (cost (raised m (Cost j) b) x) (cost (raised m (Cost j) c) x)
  cost_at_linear m j x =
      let F : ℤ → ℕ → ℤ = λ e k. at (costs_of (raised m (Cost j) e)) k *ℤ at x k in
      linear_add p r m.constant m.constant m.constant (sum_below (F a) (length x)) (sum_below (F b) (length x))
      (sum_below (F c) (length x)) refl
      (linear_sum p r (F a) (F b) (F c) (length x) (λ k. linear_times p r (at x k) (at (costs_of (raised m (Cost j) a)) k)
      (at (costs_of (raised m (Cost j) b)) k) (at (costs_of (raised m (Cost j) c)) k) (cost_linear m.columns j k)))

  pub row_linear : (j : ℕ) (ps : List (ℕ × ℤ)) (x : List ℤ)
      → Linear p r (row_sum (raised_coefs j a ps) x) (row_sum (raised_coefs j b ps) x) (row_sum (raised_coefs j c ps) x)
  row_linear j ps x =
      let F : ℤ → ℕ → ℤ = λ e k. coefficient (raised_coefs j e ps) k *ℤ at x k in
      linear_sum p r (F a) (F b) (F c) (length x) (λ k. linear_times p r (at x k) (coefficient (raised_coefs j a ps) k)
      (coefficient (raised_coefs j b ps) k) (coefficient (raised_coefs j c ps) k) (coef_linear j ps k))
