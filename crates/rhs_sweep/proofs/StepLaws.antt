-- The models at the steps of a direction outwards: what stays the same, and that none has a crossed row.
use Rattle.std.specs.Prelude.{◌≡◌, ℕ, zero, suc, ◌+◌, ◌/◌, ◌^◌, ◌≤◌, min, Bool, true, false, cond, List, [], ◌∷◌, length, map, position}
use Rattle.std.specs.Prelude.{Option, Some, None, option_map, ℤ, pos, ◌+ℤ◌, ◌*ℤ◌, ◌≤ℤ◌}
use Rattle.std.specs.Int.Signed.{lt_z}
use Rattle.std.specs.Option.{option_map_or}
use Rattle.std.proofs.Common.{arith, refl, ap, sym, ◌∙◌}
use Rattle.std.proofs.lemmas.Int.{ints}
use Rattle.branching.specs.Sizes.{most_nodes}
use Rattle.ip_defs.specs.Program.{box_of, is_crossed}
use Rattle.ip_defs.specs.declared.programs.Column.{Column}
use Rattle.ip_defs.specs.declared.programs.Row.{Row}
use Rattle.ip_defs.specs.declared.programs.Parts.{Parts}
use Rattle.ip_defs.proofs.OrderLaws.{less_false, not_less}
use Rattle.ip_model.specs.Places.{changed_at, raised, with_high, with_low}
use Rattle.ip_model.specs.Sizes.{allowance, first_crossed}
use Rattle.ip_model.specs.declared.places.Place.{Place}
use Rattle.ip_model.specs.declared.places.Place.TheVariants.{Cost, Low, High, Coef, Lower, Upper}
use Rattle.mps_defs.proofs.PlaceLaws.{position_cons}
use Rattle.perturbation.specs.Lines.{row_at}
use Rattle.range_laws.specs.Widening.{IsNotAbove, IsWider, IsWiderRow, Paired}
use Rattle.sweep_proof.proofs.DirectionLaws.{alike_step, scaled_down, scaled_up, self_wider}
use Rattle.sweep_proof.specs.RowSweeps.{IsWidening, MovesOutwards}

-- ---- rows

abbrev crossed_sides : Option ℤ → Option ℤ → Bool
crossed_sides a b = option_map_or (λ low. option_map_or (λ high. lt_z high low) b false) a false

sides_wider : (a b c e : Option ℤ) → IsNotAbove c a → IsNotAbove b e → crossed_sides a b ≡ false → crossed_sides c e ≡ false
sides_wider None b None e low high is = refl
sides_wider None b (Some c) e low high is = absurd low
sides_wider (Some a) b None e low high is = absurd low
sides_wider (Some a) None (Some c) None low high is = refl
sides_wider (Some a) None (Some c) (Some e) low high is = absurd high
sides_wider (Some a) (Some b) (Some c) None low high is = absurd high
sides_wider (Some a) (Some b) (Some c) (Some e) low high is =
    let le : a ≤ℤ b = not_less b a is in
    less_false e c (omega (arith, ints))

row_wider : (r s : Row) → IsWiderRow r s → is_crossed r ≡ false → is_crossed s ≡ false
row_wider r s h is = sides_wider r.low r.high s.low s.high h.low h.high is

-- no row is crossed, one row at a time
first_not : (t : Bool) (o : Option ℕ) → cond t (Some 0) (option_map suc o) ≡ None → (t ≡ false) × (o ≡ None)
first_not true o e = absurd cc
first_not false None e = (refl, refl)
first_not false (Some k) e = absurd cc

rows_wider : (rs ss : List Row) → Paired IsWiderRow rs ss → position is_crossed rs ≡ None → position is_crossed ss ≡ None
rows_wider [] [] h e = e
rows_wider [] (s ∷ ss) h e = absurd h
rows_wider (r ∷ rs) [] h e = absurd h
rows_wider (r ∷ rs) (s ∷ ss) h e =
    let both = first_not (is_crossed r) (position is_crossed rs) (sym (position_cons is_crossed r rs) ∙ e) in
    position_cons is_crossed s ss
    ∙ ap (λ (t : Bool). cond t (Some 0) (option_map suc (position is_crossed ss))) (row_wider r s h.0 both.0)
    ∙ ap (option_map suc) (rows_wider rs ss h.1 both.1)

-- ---- a side that moves outwards from a wider program

changed_second : {A : Type 0} (R : A → A → Type 0) (g : A → A) → ((x y : A) → R x y → R x (g y)) → (xs ys : List A) (j : ℕ)
    → Paired R xs ys → Paired R xs (changed_at g j ys)
changed_second R g own [] [] j h = tt
changed_second R g own (x ∷ xs) [] j h = absurd h
changed_second R g own [] (y ∷ ys) j h = absurd h
changed_second R g own (x ∷ xs) (y ∷ ys) zero h = (own x y h.0, h.1)
changed_second R g own (x ∷ xs) (y ∷ ys) (suc j) h = (h.0, changed_second R g own xs ys j h.1)

lower : (e : ℤ) → e ≤ℤ pos 0 → (u v : Option ℤ) → IsNotAbove v u → IsNotAbove (option_map (λ z. z +ℤ e) v) u
lower e le None None h = tt
lower e le None (Some v) h = absurd h
lower e le (Some u) None h = absurd h
lower e le (Some u) (Some v) h = omega (arith, ints)

higher : (e : ℤ) → pos 0 ≤ℤ e → (u v : Option ℤ) → IsNotAbove u v → IsNotAbove u (option_map (λ z. z +ℤ e) v)
higher e le None None h = tt
higher e le None (Some v) h = absurd h
higher e le (Some u) None h = absurd h
higher e le (Some u) (Some v) h = omega (arith, ints)

moved_out : (m n : Parts) (place : Place) (r : ℤ) (t : ℕ) → MovesOutwards place r → IsWider m n → IsWider m (raised n place (pos t *ℤ r))
moved_out m n (Low i) r t out wider =
    let down = scaled_down 0 t r (omega arith) out in
    let le : (pos t *ℤ r) ≤ℤ pos 0 = omega (arith, ints) in
    record {
      constant = wider.constant;
      columns = wider.columns;
      rows = changed_second IsWiderRow (with_low (λ z. z +ℤ pos t *ℤ r))
          (λ x y h. record { coefs = h.coefs; low = lower (pos t *ℤ r) le x.low y.low h.low; high = h.high }) m.rows n.rows i wider.rows;
    }
moved_out m n (High i) r t out wider =
    let up = scaled_up 0 t r (omega arith) out in
    let le : pos 0 ≤ℤ (pos t *ℤ r) = omega (arith, ints) in
    record {
      constant = wider.constant;
      columns = wider.columns;
      rows = changed_second IsWiderRow (with_high (λ z. z +ℤ pos t *ℤ r))
          (λ x y h. record { coefs = h.coefs; low = h.low; high = higher (pos t *ℤ r) le x.high y.high h.high }) m.rows n.rows i wider.rows;
    }
moved_out m n (Cost j) r t out wider = absurd out
moved_out m n (Coef i j) r t out wider = absurd out
moved_out m n (Lower j) r t out wider = absurd out
moved_out m n (Upper j) r t out wider = absurd out

wider_than : (m n : Parts) (d : List (Place × ℤ)) (t : ℕ) → IsWidening d → IsWider m n → IsWider m (row_at n d t)
wider_than m n [] t out wider = wider
wider_than m n (p ∷ d) t out wider =
    wider_than m (raised n p.0 (pos t *ℤ p.1)) d t out.1 (moved_out m n p.0 p.1 t out.0 wider)

pub le_through : (a b c : ℕ) → a ≤ b → b ≤ c → a ≤ c
le_through a b c p q = omega arith

-- no row is crossed where none is in the program
pub step_uncrossed : (m : Parts) (d : List (Place × ℤ)) (t : ℕ) → IsWidening d → first_crossed m ≡ None
    → first_crossed (row_at m d t) ≡ None
step_uncrossed m d t out e = rows_wider m.rows (row_at m d t).rows (wider_than m m d t out (self_wider m)).rows e

-- ---- what stays

-- the columns, and so the box and its sizes, are those of the program
raised_columns : (m : Parts) (place : Place) (r e : ℤ) → MovesOutwards place r → (raised m place e).columns ≡ m.columns
raised_columns m (Low i) r e out = refl
raised_columns m (High i) r e out = refl
raised_columns m (Cost j) r e out = absurd out
raised_columns m (Coef i j) r e out = absurd out
raised_columns m (Lower j) r e out = absurd out
raised_columns m (Upper j) r e out = absurd out

pub step_columns : (m : Parts) (d : List (Place × ℤ)) (t : ℕ) → IsWidening d → (row_at m d t).columns ≡ m.columns
step_columns m [] t out = refl
step_columns m (p ∷ d) t out =
    step_columns (raised m p.0 (pos t *ℤ p.1)) d t out.1 ∙ raised_columns m p.0 p.1 (pos t *ℤ p.1) out.0

pub step_nodes : (m : Parts) (d : List (Place × ℤ)) (t : ℕ) → IsWidening d → most_nodes (box_of (row_at m d t)) ≡ most_nodes (box_of m)
step_nodes m d t out = ap (λ (cs : List Column). most_nodes (map (λ (c : Column). (c.lo, c.hi)) cs)) (step_columns m d t out)

pub step_allowance : (m : Parts) (d : List (Place × ℤ)) (t n : ℕ) → allowance (row_at m d t) n ≡ allowance m n
step_allowance m d t n =
    let same = alike_step m d t in
    ap (λ (k : ℕ). min n (2 ^ 24 / (k + length (row_at m d t).rows + 1))) same.columns
    ∙ ap (λ (k : ℕ). min n (2 ^ 24 / (length m.columns + k + 1))) same.rows
