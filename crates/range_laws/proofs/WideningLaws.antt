-- Where sides move outwards no bound rises, and feasible points stay feasible.
use Rattle.std.specs.Prelude.{◌≡◌, ℕ, zero, suc, ◌<◌, Bool, true, false, List, [], ◌∷◌, length, map, All, Option, Some, None, IfSome}
use Rattle.std.specs.Prelude.{slice_get, slice_index_or, slice_set, option_map, option_and_then, ℤ, pos, negsuc, ◌+ℤ◌, ◌*ℤ◌, ◌≤ℤ◌, cond}
use Rattle.std.specs.Int.{int_min, int_max}
use Rattle.std.specs.Int.Signed.{lt_z}
use Rattle.std.specs.List.{list_any}
use Rattle.std.proofs.Common.{arith, refl, ap, sym, ◌∙◌}
use Rattle.std.proofs.lemmas.Int.{ints, clamps}
use Rattle.std.proofs.lemmas.List.Folds.{list_any_none}
use Rattle.std.proofs.lemmas.List.Elements.{All-from_get_or}
use Rattle.ip_defs.specs.Program.{at, coefficient, row_sum, Meets, box_of, costs_of, low_at, high_at, IsIn, cost}
use Rattle.ip_defs.specs.Boxes.{below, above}
use Rattle.ip_defs.specs.Certificates.{side_for, payment, pay, coefs_of, coefficient_of, reduced, column_part, dual_value, box_sum}
use Rattle.ip_defs.specs.Certificates.{is_empty_side, bound_by, leaf_bound}
use Rattle.ip_defs.specs.declared.programs.Column.{Column}
use Rattle.ip_defs.specs.declared.programs.Row.{Row}
use Rattle.ip_defs.specs.declared.programs.Parts.{Parts}
use Rattle.ip_defs.specs.declared.certificates.Bound.TheVariants.{At, Infinite}
use Rattle.ip_defs.specs.declared.certificates.Cert.{Cert}
use Rattle.ip_defs.proofs.SumLaws.{sum_le}
use Rattle.ip_defs.proofs.BoxLaws.{open_from}
use Rattle.ip_defs.proofs.DualityLaws.{lesser_end, sum_over_same}
use Rattle.ring_laws.proofs.Products.{mul_up, mul_down}
use Rattle.proof_tree.specs.LabelledTrees.{leaf, split}
use Rattle.proof_tree.specs.Trees.{PlainTree, bound_over}
use Rattle.proof_tree.specs.Verdicts.{IsAtLeast}
use Rattle.range_laws.specs.Widening.{Paired, IsNotAbove, IsWiderRow, IsWiderColumn, IsWider}
use Rattle.range_laws.specs.Laws.{WideningLowersBounds, WideningKeepsPoints}
use Rattle.range_laws.proofs.CeilingLaws.{marked, reached}
use Rattle.range_laws.proofs.ReachLaws.{leaf_out, leaf_in, split_left, split_right, split_in}

-- a side of a box moved outwards
pub record IsWiderSide (s t : ℤ × ℤ) : Type 0 where
  pub low : t.0 ≤ℤ s.0
  pub high : s.1 ≤ℤ t.1

abbrev pub IsWiderBox : List (ℤ × ℤ) → List (ℤ × ℤ) → Type 0
IsWiderBox = Paired IsWiderSide

-- lists in pairs
pub paired_size : {A : Type 0} (R : A → A → Type 0) (xs ys : List A) → Paired R xs ys → length xs ≡ length ys
paired_size R [] [] h = refl
paired_size R (x ∷ xs) [] h = absurd h
paired_size R [] (y ∷ ys) h = absurd h
paired_size R (x ∷ xs) (y ∷ ys) h = ap suc (paired_size R xs ys h.1)

pub paired_at : {A : Type 0} (R : A → A → Type 0) (d : A) → R d d → (xs ys : List A) (j : ℕ) → Paired R xs ys
    → R (slice_index_or xs j d) (slice_index_or ys j d)
paired_at R d same [] [] j h = same
paired_at R d same (x ∷ xs) [] j h = absurd h
paired_at R d same [] (y ∷ ys) j h = absurd h
paired_at R d same (x ∷ xs) (y ∷ ys) zero h = h.0
paired_at R d same (x ∷ xs) (y ∷ ys) (suc j) h = paired_at R d same xs ys j h.1

pub paired_set : {A : Type 0} (R : A → A → Type 0) (x y : A) → R x y → (xs ys : List A) (j : ℕ) → Paired R xs ys
    → Paired R (slice_set xs j x) (slice_set ys j y)
paired_set R x y own [] [] j h = tt
paired_set R x y own (x' ∷ xs) [] j h = absurd h
paired_set R x y own [] (y' ∷ ys) j h = absurd h
paired_set R x y own (x' ∷ xs) (y' ∷ ys) zero h = (own, h.1)
paired_set R x y own (x' ∷ xs) (y' ∷ ys) (suc j) h = (h.0, paired_set R x y own xs ys j h.1)

pub paired_map : {A B : Type 0} (R : A → A → Type 0) (S : B → B → Type 0) (f : A → B) → ((x y : A) → R x y → S (f x) (f y))
    → (xs ys : List A) → Paired R xs ys → Paired S (map f xs) (map f ys)
paired_map R S f each [] [] h = tt
paired_map R S f each (x ∷ xs) [] h = absurd h
paired_map R S f each [] (y ∷ ys) h = absurd h
paired_map R S f each (x ∷ xs) (y ∷ ys) h = (each x y h.0, paired_map R S f each xs ys h.1)

-- boxes
pub box_side : (b d : List (ℤ × ℤ)) (j : ℕ) → IsWiderBox b d → (low_at d j ≤ℤ low_at b j) × (high_at b j ≤ℤ high_at d j)
box_side b d j h = let s = paired_at IsWiderSide (pos 0, pos 0) (record { low = omega (arith, ints); high = omega (arith, ints) }) b d j
    h in (s.low, s.high)

pub below_wider : (b d : List (ℤ × ℤ)) (j : ℕ) (cut : ℤ) → IsWiderBox b d → IsWiderBox (below b j cut) (below d j cut)
below_wider b d j cut h =
    let side = box_side b d j h in
    let l = side.0 in
    let u = side.1 in
    paired_set IsWiderSide (low_at b j, int_min (high_at b j) cut) (low_at d j, int_min (high_at d j) cut)
    (record { low = l; high = omega (arith, ints, clamps) }) b d j h

pub above_wider : (b d : List (ℤ × ℤ)) (j : ℕ) (cut : ℤ) → IsWiderBox b d → IsWiderBox (above b j cut) (above d j cut)
above_wider b d j cut h =
    let side = box_side b d j h in
    let l = side.0 in
    let u = side.1 in
    paired_set IsWiderSide (int_max (low_at b j) (cut +ℤ pos 1), high_at b j) (int_max (low_at d j) (cut +ℤ pos 1), high_at d j)
    (record { low = omega (arith, ints, clamps); high = u }) b d j h

pub box_wider : (m n : Parts) → IsWider m n → IsWiderBox (box_of m) (box_of n)
box_wider m n wider = paired_map IsWiderColumn IsWiderSide (λ c. (c.lo, c.hi)) (λ c d h. record { low = h.lo; high = h.hi }) m.columns
    n.columns wider.columns

costs_wider : (cs ds : List Column) → Paired IsWiderColumn cs ds → map (λ (c : Column). c.cost) cs ≡ map (λ (c : Column). c.cost) ds
costs_wider [] [] h = refl
costs_wider (c ∷ cs) [] h = absurd h
costs_wider [] (d ∷ ds) h = absurd h
costs_wider (c ∷ cs) (d ∷ ds) h = let one = h.0.cost in let rest = costs_wider cs ds h.1 in cc

pub wider_costs : (m n : Parts) → IsWider m n → costs_of m ≡ costs_of n
wider_costs m n wider = costs_wider m.columns n.columns wider.columns

pub wider_cost : (m n : Parts) (x : List ℤ) → IsWider m n → cost m x ≡ cost n x
wider_cost m n x wider = rw (wider_costs m n wider, wider.constant) refl

-- rows
coefs_wider : (rs ss : List Row) (i : ℕ) → Paired IsWiderRow rs ss → coefs_of (slice_get rs i) ≡ coefs_of (slice_get ss i)
coefs_wider [] [] i h = refl
coefs_wider (r ∷ rs) [] i h = absurd h
coefs_wider [] (s ∷ ss) i h = absurd h
coefs_wider (r ∷ rs) (s ∷ ss) zero h = h.0.coefs
coefs_wider (r ∷ rs) (s ∷ ss) (suc i) h = coefs_wider rs ss i h.1

pub reduced_wider : (m n : Parts) (q : ℤ) (y : List (ℕ × ℤ)) (j : ℕ) → IsWider m n → reduced m q y j ≡ reduced n q y j
reduced_wider m n q y j wider =
    let costs = ap (λ l. q *ℤ at l j) (wider_costs m n wider) in
    let rows = sum_over_same (λ p. p.1 *ℤ coefficient_of m.rows p.0 j) (λ p. p.1 *ℤ coefficient_of n.rows p.0 j) y
    (λ p. ap (λ l. p.1 *ℤ coefficient l j) (coefs_wider m.rows n.rows p.0 wider.rows)) in
    omega (arith, ints)

-- what multipliers are paid: none in both programs, or no more in the wider one
row_pays : (k : ℤ) (r s : Row) → IsWiderRow r s
    → IsNotAbove (option_map (λ side. k *ℤ side) (side_for k s)) (option_map (λ side. k *ℤ side) (side_for k r))
row_pays (pos zero) r s wider = omega (arith, ints)
row_pays (pos (suc n)) r s wider = by r.low s.low wider.low
  where
    by : (a b : Option ℤ) → IsNotAbove b a
        → IsNotAbove (option_map (λ side. pos (suc n) *ℤ side) b) (option_map (λ side. pos (suc n) *ℤ side) a)
    by None None h = tt
    by (Some a) None h = absurd h
    by None (Some b) h = absurd h
    by (Some a) (Some b) h = mul_up (suc n) b a h
row_pays (negsuc n) r s wider = by r.high s.high wider.high
  where
    by : (a b : Option ℤ) → IsNotAbove a b → IsNotAbove (option_map (λ side. negsuc n *ℤ side) b) (option_map (λ side. negsuc n *ℤ side) a)
    by None None h = tt
    by (Some a) None h = absurd h
    by None (Some b) h = absurd h
    by (Some a) (Some b) h = mul_down n a b h

payment_wider : (rs ss : List Row) (i : ℕ) (k : ℤ) → Paired IsWiderRow rs ss → IsNotAbove (payment ss (i, k)) (payment rs (i, k))
payment_wider [] [] i k h = tt
payment_wider (r ∷ rs) [] i k h = absurd h
payment_wider [] (s ∷ ss) i k h = absurd h
payment_wider (r ∷ rs) (s ∷ ss) zero k h = row_pays k r s h.0
payment_wider (r ∷ rs) (s ∷ ss) (suc i) k h = payment_wider rs ss i k h.1

pub pay_wider : (rs ss : List Row) (y : List (ℕ × ℤ)) → Paired IsWiderRow rs ss → IsNotAbove (pay ss y) (pay rs y)
pay_wider rs ss [] h = omega (arith, ints)
pay_wider rs ss (p ∷ ps) h = by (payment rs p) (payment ss p) (pay rs ps) (pay ss ps) (payment_wider rs ss p.0 p.1 h) (pay_wider rs ss ps h)
  where
    by : (a b c d : Option ℤ) → IsNotAbove b a → IsNotAbove d c
        → IsNotAbove (option_and_then (λ one. option_map (λ rest. one +ℤ rest) d) b)
        (option_and_then (λ one. option_map (λ rest. one +ℤ rest) c) a)
    by None None c d h g = tt
    by (Some a) None c d h g = absurd h
    by None (Some b) c d h g = absurd h
    by (Some a) (Some b) None None h g = tt
    by (Some a) (Some b) (Some c) None h g = absurd g
    by (Some a) (Some b) None (Some d) h g = absurd g
    by (Some a) (Some b) (Some c) (Some d) h g = omega (arith, ints)

-- the columns add no more over a wider box, where the first box has no empty column
column_wider : (m n : Parts) (b d : List (ℤ × ℤ)) (q : ℤ) (y : List (ℕ × ℤ)) → IsWider m n → IsWiderBox b d
    → list_any is_empty_side b ≡ false → column_part n d q y ≤ℤ column_part m b q y
column_wider m n b d q y wider wide none =
    let size = paired_size IsWiderSide b d wide in
    let F : ℕ → ℤ = λ j. int_min (reduced n q y j *ℤ low_at d j) (reduced n q y j *ℤ high_at d j) in
    let G : ℕ → ℤ = λ j. int_min (reduced m q y j *ℤ low_at b j) (reduced m q y j *ℤ high_at b j) in
    let le = sum_le F G (length b) (λ j l. each j l) in
    rw (sym size) le
  where
    each : (j : ℕ) → j < length b → int_min (reduced n q y j *ℤ low_at d j) (reduced n q y j *ℤ high_at d j)
        ≤ℤ int_min (reduced m q y j *ℤ low_at b j) (reduced m q y j *ℤ high_at b j)
    each j l = rw (reduced_wider m n q y j wider) (
        let k = reduced n q y j in
        let open' = open_from b none j l in
        let side = box_side b d j wide in
        let low = side.0 in
        let high = side.1 in
        let one = lesser_end k (low_at d j) (low_at b j) (high_at d j) low (omega (arith, ints)) in
        let two = lesser_end k (low_at d j) (high_at b j) (high_at d j) (omega (arith, ints)) high in
        omega (arith, ints, clamps))

not_below : (a b : ℤ) → b ≤ℤ a → lt_z a b ≡ false
not_below a b h = grind (arith, ints)

pub open_wider : (b d : List (ℤ × ℤ)) → IsWiderBox b d → list_any is_empty_side b ≡ false → list_any is_empty_side d ≡ false
open_wider b d wide none = list_any_none is_empty_side d (All-from_get_or (λ s. is_empty_side s ≡ false) d (pos 0, pos 0) (λ j l.
    let size = paired_size IsWiderSide b d wide in
    let open' = open_from b none j (omega arith) in
    let side = box_side b d j wide in
    let low = side.0 in
    let high = side.1 in
    not_below (high_at d j) (low_at d j) (omega (arith, ints))))

-- what a lesser dual value bounds
by_less : (q : ℤ) (u v : ℤ) (g h : Option ℤ) (w : ℤ) → v ≤ℤ u → IsNotAbove h g → IsAtLeast (bound_by q v h) w → IsAtLeast (bound_by q u g) w
by_less (pos (suc n)) u v (Some g) (Some h) w le less reach = reached g w n (let m = marked h w n reach in omega (arith, ints))
by_less (pos zero) u v (Some g) (Some h) w le less reach = by (lt_z (pos 0) g) (lt_z (pos 0) h) refl refl reach
  where
    by : (s t : Bool) → lt_z (pos 0) g ≡ s → lt_z (pos 0) h ≡ t → IsAtLeast (cond t Infinite (At v)) w
        → IsAtLeast (cond s Infinite (At u)) w
    by true t e f r = tt
    by false false e f r = omega (arith, ints)
    by false true e f r = absurd (omega (arith, ints))
by_less (negsuc n) u v (Some g) (Some h) w le less reach = omega (arith, ints)
by_less q u v (Some g) None w le less reach = absurd less
by_less q u v None (Some h) w le less reach = absurd less
by_less (pos (suc n)) u v None None w le less reach = omega (arith, ints)
by_less (pos zero) u v None None w le less reach = omega (arith, ints)
by_less (negsuc n) u v None None w le less reach = omega (arith, ints)

pub leaf_wider : (m n : Parts) (b d : List (ℤ × ℤ)) (c : Cert) (w : ℤ) → IsWider m n → IsWiderBox b d → IsAtLeast (leaf_bound n d c) w
    → IsAtLeast (leaf_bound m b c) w
leaf_wider m n b d c w wider wide reach = by (list_any is_empty_side b) refl
  where
    duals : list_any is_empty_side b ≡ false → (o r : Option ℤ) → IsNotAbove r o
        → IsNotAbove (option_map (λ paid. paid +ℤ (c.q *ℤ n.constant) +ℤ column_part n d c.q c.y) r)
        (option_map (λ paid. paid +ℤ (c.q *ℤ m.constant) +ℤ column_part m b c.q c.y) o)
    duals none None None h = tt
    duals none (Some o) None h = absurd h
    duals none None (Some r) h = absurd h
    duals none (Some o) (Some r) h =
        let k = column_wider m n b d c.q c.y wider wide none in
        let same = ap (λ z. c.q *ℤ z) wider.constant in
        omega (arith, ints)

    by : (t : Bool) → list_any is_empty_side b ≡ t → IsAtLeast (cond t Infinite (bound_by c.q (box_sum m b) (dual_value m b c.q c.y))) w
    by true e = tt
    by false e =
        let k = column_wider m n b d (pos 1) [] wider wide e in
        let same = wider.constant in
        let sums : box_sum n d ≤ℤ box_sum m b = omega (arith, ints) in
        by_less c.q (box_sum m b) (box_sum n d) (dual_value m b c.q c.y) (dual_value n d c.q c.y) w sums
        (duals e (pay m.rows c.y) (pay n.rows c.y) (pay_wider m.rows n.rows c.y wider.rows)) (rw (open_wider b d wide e) at reach)

pub over_wider : (m n : Parts) (t : PlainTree) (b d : List (ℤ × ℤ)) (w : ℤ) → IsWider m n → IsWiderBox b d
    → IsAtLeast (bound_over n t d) w → IsAtLeast (bound_over m t b) w
over_wider m n (leaf c) b d w wider wide h = leaf_in m b c w (leaf_wider m n b d c w wider wide (leaf_out n d c w h))
over_wider m n (split col cut y left right) b d w wider wide h =
    split_in m b col cut left right w
    (over_wider m n left (below b col cut) (below d col cut) w wider (below_wider b d col cut wide) (split_left n d col cut left right w h))
    (over_wider m n right (above b col cut) (above d col cut) w wider (above_wider b d col cut wide)
    (split_right n d col cut left right w h))

pub widening_lowers_bounds : WideningLowersBounds
widening_lowers_bounds m n t w wider h = over_wider m n t (box_of m) (box_of n) w wider (box_wider m n wider) h

-- points
in_wider : (b d : List (ℤ × ℤ)) (x : List ℤ) → IsWiderBox b d → IsIn b x → IsIn d x
in_wider b d x wide inside =
    let size = paired_size IsWiderSide b d wide in
    record {
      size = inside.size ∙ size;
      low = λ j l. let side = box_side b d j wide in let s = side.0 in let i = inside.low j (omega arith) in omega (arith, ints);
      high = λ j l. let side = box_side b d j wide in let s = side.1 in let i = inside.high j (omega arith) in omega (arith, ints);
    }

meets_wider : (x : List ℤ) (r s : Row) → IsWiderRow r s → Meets x r → Meets x s
meets_wider x r s wider meets = record {
  low = low r.low s.low wider.low (rw wider.coefs at meets.low);
  high = high r.high s.high wider.high (rw wider.coefs at meets.high);
}
  where
    low : (a b : Option ℤ) → IsNotAbove b a → IfSome a (λ side. side ≤ℤ row_sum s.coefs x) → IfSome b (λ side. side ≤ℤ row_sum s.coefs x)
    low None None h m = m
    low (Some a) None h m = absurd h
    low None (Some b) h m = absurd h
    low (Some a) (Some b) h m = omega (arith, ints)

    high : (a b : Option ℤ) → IsNotAbove a b → IfSome a (λ side. row_sum s.coefs x ≤ℤ side) → IfSome b (λ side. row_sum s.coefs x ≤ℤ side)
    high None None h m = m
    high (Some a) None h m = absurd h
    high None (Some b) h m = absurd h
    high (Some a) (Some b) h m = omega (arith, ints)

-- a program is as wide as itself
option_self : (o : Option ℤ) → IsNotAbove o o
option_self None = tt
option_self (Some z) = omega (arith, ints)

pub row_self : (r : Row) → IsWiderRow r r
row_self r = record { coefs = refl; low = option_self r.low; high = option_self r.high }

pub column_self : (c : Column) → IsWiderColumn c c
column_self c = record { cost = refl; lo = omega (arith, ints); hi = omega (arith, ints) }

rows_wider : (x : List ℤ) (rs ss : List Row) → Paired IsWiderRow rs ss → All (Meets x) rs → All (Meets x) ss
rows_wider x rs ss h all = λ k d l. meets_wider x (slice_index_or rs k d) (slice_index_or ss k d)
    (paired_at IsWiderRow d (row_self d) rs ss k h) (all k d (omega (arith, paired_size IsWiderRow rs ss h)))

pub widening_keeps_points : WideningKeepsPoints
widening_keeps_points m n x wider feasible = record {
  within = in_wider (box_of m) (box_of n) x (box_wider m n wider) feasible.within;
  rows = rows_wider x m.rows n.rows wider.rows feasible.rows;
}
