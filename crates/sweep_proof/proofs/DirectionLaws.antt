-- Directions of row sides: later steps of one outwards are wider, and every step has the columns, the rows and the costs of the program.
use Rattle.std.specs.Prelude.{◌≡◌, ℕ, zero, suc, ◌≤◌, List, [], ◌∷◌, length, Option, Some, None, option_map, ℤ, pos, negsuc}
use Rattle.std.specs.Prelude.{◌+ℤ◌, ◌*ℤ◌, ◌≤ℤ◌}
use Rattle.std.proofs.Common.{arith, refl, ap, sym, ◌∙◌, subst}
use Rattle.std.proofs.lemmas.Int.{ints}
use Rattle.ring_laws.proofs.Normal.{◌⊗◌}
use Rattle.ring_laws.proofs.Named.{ring2}
use Rattle.ring_laws.proofs.Rings.{whole}
use Rattle.ring_laws.proofs.Products.{mul_up, mul_down}
use Rattle.ip_defs.specs.Program.{cost}
use Rattle.ip_defs.specs.declared.programs.Parts.{Parts}
use Rattle.ip_model.specs.declared.places.Place.{Place}
use Rattle.ip_model.specs.declared.places.Place.TheVariants.{Cost, Low, High, Coef, Lower, Upper}
use Rattle.ip_model.specs.Places.{changed_at, raised, with_cost, with_coef, with_high, with_low, with_lower, with_upper}
use Rattle.ip_model.proofs.ChangeLaws.{length_changed}
use Rattle.leaf_cert.specs.declared.workspaces.Scratch.{Scratch}
use Rattle.perturbation.specs.Lines.{row_at}
use Rattle.proof_tree.specs.Scratches.{FitsWalk}
use Rattle.proof_tree.specs.Trees.{FitsColumns, FitsModel, FitsRows, PlainTree}
use Rattle.range_laws.specs.Widening.{Paired, IsNotAbove, IsWiderRow, IsWiderColumn, IsWider}
use Rattle.range_laws.proofs.WideningLaws.{row_self, column_self}
use Rattle.sweep_proof.specs.Laws.{LaterStepsAreWider}
use Rattle.sweep_proof.specs.RowSweeps.{IsWidening, MovesOutwards}

-- ---- numbers of steps

turned : (a b : ℤ) → a *ℤ b ≡ b *ℤ a
turned a b = ring2 whole (λ a b. a ⊗ b) (λ a b. b ⊗ a) refl a b

pub scaled_up : (s t : ℕ) (r : ℤ) → s ≤ t → pos 0 ≤ℤ r → (pos s *ℤ r) ≤ℤ (pos t *ℤ r)
scaled_up s t (pos n) le sign = rw (turned (pos s) (pos n), turned (pos t) (pos n)) (mul_up n (pos s) (pos t) (omega (arith, ints)))
scaled_up s t (negsuc n) le sign = absurd (omega (arith, ints))

pub scaled_down : (s t : ℕ) (r : ℤ) → s ≤ t → r ≤ℤ pos 0 → (pos t *ℤ r) ≤ℤ (pos s *ℤ r)
scaled_down s t (pos zero) le sign = omega (arith, ints)
scaled_down s t (pos (suc n)) le sign = absurd (omega (arith, ints))
scaled_down s t (negsuc n) le sign = rw (turned (pos s) (negsuc n), turned (pos t) (negsuc n))
    (mul_down n (pos s) (pos t) (omega (arith, ints)))

-- ---- wider steps

-- lists in pairs, with one element of each changed
pub changed_both : {A : Type 0} (R : A → A → Type 0) (f g : A → A) → ((x y : A) → R x y → R (f x) (g y)) → (xs ys : List A) (j : ℕ)
    → Paired R xs ys → Paired R (changed_at f j xs) (changed_at g j ys)
changed_both R f g own [] [] j h = tt
changed_both R f g own (x ∷ xs) [] j h = absurd h
changed_both R f g own [] (y ∷ ys) j h = absurd h
changed_both R f g own (x ∷ xs) (y ∷ ys) zero h = (own x y h.0, h.1)
changed_both R f g own (x ∷ xs) (y ∷ ys) (suc j) h = (h.0, changed_both R f g own xs ys j h.1)

pub same_pairs : {A : Type 0} (R : A → A → Type 0) → ((x : A) → R x x) → (xs : List A) → Paired R xs xs
same_pairs R same [] = tt
same_pairs R same (x ∷ xs) = (same x, same_pairs R same xs)

raised_both : (a b : ℤ) → a ≤ℤ b → (u v : Option ℤ) → IsNotAbove u v
    → IsNotAbove (option_map (λ z. z +ℤ a) u) (option_map (λ z. z +ℤ b) v)
raised_both a b le None None h = tt
raised_both a b le (Some u) None h = absurd h
raised_both a b le None (Some v) h = absurd h
raised_both a b le (Some u) (Some v) h = omega (arith, ints)

pub self_wider : (m : Parts) → IsWider m m
self_wider m = record {
  constant = refl;
  columns = same_pairs IsWiderColumn column_self m.columns;
  rows = same_pairs IsWiderRow row_self m.rows;
}

-- a side that moves outwards from two programs, further in the wider one
moved_wider : (m n : Parts) (place : Place) (r : ℤ) (s t : ℕ) → s ≤ t → MovesOutwards place r → IsWider m n
    → IsWider (raised m place (pos s *ℤ r)) (raised n place (pos t *ℤ r))
moved_wider m n (Low i) r s t le out wider = record {
  constant = wider.constant;
  columns = wider.columns;
  rows = changed_both IsWiderRow (with_low (λ z. z +ℤ pos s *ℤ r)) (with_low (λ z. z +ℤ pos t *ℤ r))
      (λ x y h. record {
        coefs = h.coefs;
        low = raised_both (pos t *ℤ r) (pos s *ℤ r) (scaled_down s t r le out) y.low x.low h.low;
        high = h.high;
      })
      m.rows n.rows i wider.rows;
}
moved_wider m n (High i) r s t le out wider = record {
  constant = wider.constant;
  columns = wider.columns;
  rows = changed_both IsWiderRow (with_high (λ z. z +ℤ pos s *ℤ r)) (with_high (λ z. z +ℤ pos t *ℤ r))
      (λ x y h. record {
        coefs = h.coefs;
        low = h.low;
        high = raised_both (pos s *ℤ r) (pos t *ℤ r) (scaled_up s t r le out) x.high y.high h.high;
      })
      m.rows n.rows i wider.rows;
}
moved_wider m n (Cost j) r s t le out wider = absurd out
moved_wider m n (Coef i j) r s t le out wider = absurd out
moved_wider m n (Lower j) r s t le out wider = absurd out
moved_wider m n (Upper j) r s t le out wider = absurd out

steps_wider : (m n : Parts) (d : List (Place × ℤ)) (s t : ℕ) → IsWidening d → s ≤ t → IsWider m n → IsWider (row_at m d s) (row_at n d t)
steps_wider m n [] s t out le wider = wider
steps_wider m n (p ∷ d) s t out le wider =
    steps_wider (raised m p.0 (pos s *ℤ p.1)) (raised n p.0 (pos t *ℤ p.1)) d s t out.1 le (moved_wider m n p.0 p.1 s t le out.0 wider)

pub later_steps_are_wider : LaterStepsAreWider
later_steps_are_wider m d s t out le = steps_wider m m d s t out le (self_wider m)

-- ---- what stays

-- the cost of a point does not change
moved_cost : (m : Parts) (place : Place) (r e : ℤ) (x : List ℤ) → MovesOutwards place r → cost (raised m place e) x ≡ cost m x
moved_cost m (Low i) r e x out = refl
moved_cost m (High i) r e x out = refl
moved_cost m (Cost j) r e x out = absurd out
moved_cost m (Coef i j) r e x out = absurd out
moved_cost m (Lower j) r e x out = absurd out
moved_cost m (Upper j) r e x out = absurd out

pub step_cost : (m : Parts) (d : List (Place × ℤ)) (t : ℕ) (x : List ℤ) → IsWidening d → cost (row_at m d t) x ≡ cost m x
step_cost m [] t x out = refl
step_cost m (p ∷ d) t x out = step_cost (raised m p.0 (pos t *ℤ p.1)) d t x out.1 ∙ moved_cost m p.0 p.1 (pos t *ℤ p.1) x out.0

-- nor do the numbers of columns and rows
pub record IsAlike (m n : Parts) : Type 0 where
  pub columns : length n.columns ≡ length m.columns
  pub rows : length n.rows ≡ length m.rows

alike_raised : (m : Parts) (place : Place) (e : ℤ) → IsAlike m (raised m place e)
alike_raised m (Cost j) e = record { columns = length_changed (with_cost (λ z. z +ℤ e)) m.columns j; rows = refl }
alike_raised m (Lower j) e = record { columns = length_changed (with_lower (λ z. z +ℤ e)) m.columns j; rows = refl }
alike_raised m (Upper j) e = record { columns = length_changed (with_upper (λ z. z +ℤ e)) m.columns j; rows = refl }
alike_raised m (Low i) e = record { columns = refl; rows = length_changed (with_low (λ z. z +ℤ e)) m.rows i }
alike_raised m (High i) e = record { columns = refl; rows = length_changed (with_high (λ z. z +ℤ e)) m.rows i }
alike_raised m (Coef i j) e = record { columns = refl; rows = length_changed (with_coef j (λ z. z +ℤ e)) m.rows i }

pub alike_step : (m : Parts) (d : List (Place × ℤ)) (t : ℕ) → IsAlike m (row_at m d t)
alike_step m [] t = record { columns = refl; rows = refl }
alike_step m (p ∷ d) t =
    let first = alike_raised m p.0 (pos t *ℤ p.1) in
    let rest = alike_step (raised m p.0 (pos t *ℤ p.1)) d t in
    record { columns = rest.columns ∙ first.columns; rows = rest.rows ∙ first.rows }

-- so a tree and a scratch that fit the program fit each step, and a scratch back
pub fits_step : (m : Parts) (d : List (Place × ℤ)) (t : ℕ) (n : Parts) (tree : PlainTree) → n ≡ row_at m d t → FitsModel m tree
    → FitsModel n tree
fits_step m d t n tree e fits =
    let same = alike_step m d t in
    subst (λ (k : Parts). FitsModel k tree) (sym e) (record {
      columns = subst (λ (k : ℕ). FitsColumns k tree) (sym same.columns) fits.columns;
      rows = subst (λ (k : ℕ). FitsRows k tree) (sym same.rows) fits.rows;
    })

pub same_columns : (m : Parts) (d : List (Place × ℤ)) (t : ℕ) (n : Parts) → n ≡ row_at m d t → length n.columns ≡ length m.columns
same_columns m d t n e = ap (λ (k : Parts). length k.columns) e ∙ (alike_step m d t).columns

pub walk_step : (m : Parts) (d : List (Place × ℤ)) (t : ℕ) (n : Parts) (s : Scratch) → n ≡ row_at m d t → FitsWalk (length m.columns) s
    → FitsWalk (length n.columns) s
walk_step m d t n s e fits = subst (λ (k : ℕ). FitsWalk k s) (sym (same_columns m d t n e)) fits

pub walk_back : (m : Parts) (d : List (Place × ℤ)) (t : ℕ) (n : Parts) (s : Scratch) → n ≡ row_at m d t → FitsWalk (length n.columns) s
    → FitsWalk (length m.columns) s
walk_back m d t n s e fits = subst (λ (k : ℕ). FitsWalk k s) (same_columns m d t n e) fits
