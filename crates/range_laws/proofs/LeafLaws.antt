-- The bound of a leaf at three changes of a cost or of a coefficient: what it reaches at the outer two it reaches between them.
use Rattle.std.specs.Prelude.{◌≡◌, ℕ, zero, suc, ◌+◌, ◌<◌, Bool, true, false, List, [], length, Option, Some, None, option_map, ℤ, pos}
use Rattle.std.specs.Prelude.{negsuc, ◌+ℤ◌, ◌*ℤ◌, ◌≤ℤ◌, cond}
use Rattle.std.specs.Int.{int_min}
use Rattle.std.specs.Int.Signed.{lt_z}
use Rattle.std.specs.List.{list_any}
use Rattle.std.proofs.Common.{arith, refl, ap}
use Rattle.std.proofs.lemmas.Int.{ints}
use Rattle.ip_defs.specs.Program.{low_at, high_at}
use Rattle.ip_defs.specs.Certificates.{pay, reduced, column_part, box_sum, is_empty_side, bound_by, leaf_bound}
use Rattle.ip_defs.specs.declared.programs.Parts.{Parts}
use Rattle.ip_defs.specs.declared.certificates.Bound.TheVariants.{At, Infinite}
use Rattle.ip_defs.specs.declared.certificates.Cert.{Cert}
use Rattle.ip_defs.proofs.SumLaws.{sum_same}
use Rattle.proof_tree.specs.Verdicts.{IsAtLeast}
use Rattle.range_laws.proofs.ConcaveLaws.{Linear, Concave, linear_sub, linear_scale, linear_times, concave_add, concave_sum, concave_min}
use Rattle.range_laws.proofs.ConcaveLaws.{concave_past}
use Rattle.range_laws.proofs.CeilingLaws.{mark, marked, reached}

-- three programs with the same sides and constant, whose reduced costs are linear
pub record Between (p r : ℕ) (m n o : Parts) : Type 0 where
  pub pays : (y : List (ℕ × ℤ)) → (pay m.rows y ≡ pay n.rows y) × (pay o.rows y ≡ pay n.rows y)
  pub constants : (m.constant ≡ n.constant) × (o.constant ≡ n.constant)
  pub columns : (q : ℤ) (y : List (ℕ × ℤ)) (j : ℕ) → Linear p r (reduced m q y j) (reduced n q y j) (reduced o q y j)

-- either the change does not reach the reduced costs of rays, or neither those of the box sum nor what is to be reached
pub data Fixed (m n o : Parts) (u v w : ℤ) : Type 0 where
  rays : ((y : List (ℕ × ℤ)) (j : ℕ) → (reduced m (pos 0) y j ≡ reduced n (pos 0) y j) × (reduced o (pos 0) y j ≡ reduced n (pos 0) y j))
      → Fixed m n o u v w
  boxes : ((j : ℕ) → (reduced m (pos 1) [] j ≡ reduced n (pos 1) [] j) × (reduced o (pos 1) [] j ≡ reduced n (pos 1) [] j)) → u ≡ v
      → w ≡ v → Fixed m n o u v w

-- a dual value whose payments are known
abbrev pub value : Parts → List (ℤ × ℤ) → ℤ → List (ℕ × ℤ) → ℤ → ℤ
value m b q y paid = paid +ℤ (q *ℤ m.constant) +ℤ column_part m b q y

column_same : (m n : Parts) (b : List (ℤ × ℤ)) (q : ℤ) (y : List (ℕ × ℤ)) → ((j : ℕ) → reduced m q y j ≡ reduced n q y j)
    → column_part m b q y ≡ column_part n b q y
column_same m n b q y h = sum_same (λ j. int_min (reduced m q y j *ℤ low_at b j) (reduced m q y j *ℤ high_at b j))
    (λ j. int_min (reduced n q y j *ℤ low_at b j) (reduced n q y j *ℤ high_at b j)) (length b)
    (λ j l. ap (λ (d : ℤ). int_min (d *ℤ low_at b j) (d *ℤ high_at b j)) (h j))

module _ (p r : ℕ) (m n o : Parts) (some : 0 < p + r) (bet : Between p r m n o) where
  pub concave_columns : (b : List (ℤ × ℤ)) (q : ℤ) (y : List (ℕ × ℤ))
      → Concave p r (column_part m b q y) (column_part n b q y) (column_part o b q y)
  concave_columns b q y =
      let F : Parts → ℕ → ℤ = λ k j. int_min (reduced k q y j *ℤ low_at b j) (reduced k q y j *ℤ high_at b j) in
      concave_sum p r (F m) (F n) (F o) (length b) (λ j. concave_min p r
      (reduced m q y j *ℤ low_at b j) (reduced n q y j *ℤ low_at b j) (reduced o q y j *ℤ low_at b j)
      (reduced m q y j *ℤ high_at b j) (reduced n q y j *ℤ high_at b j) (reduced o q y j *ℤ high_at b j)
      (linear_times p r (low_at b j) (reduced m q y j) (reduced n q y j) (reduced o q y j) (bet.columns q y j))
      (linear_times p r (high_at b j) (reduced m q y j) (reduced n q y j) (reduced o q y j) (bet.columns q y j)))

  pub concave_value : (b : List (ℤ × ℤ)) (q : ℤ) (y : List (ℕ × ℤ)) (paid : ℤ)
      → Concave p r (value m b q y paid) (value n b q y paid) (value o b q y paid)
  concave_value b q y paid = rw (bet.constants.0, bet.constants.1)
      (concave_add p r (paid +ℤ (q *ℤ n.constant)) (paid +ℤ (q *ℤ n.constant)) (paid +ℤ (q *ℤ n.constant)) (column_part m b q y)
      (column_part n b q y) (column_part o b q y) (omega (arith, ints)) (concave_columns b q y))

  pub concave_box : (b : List (ℤ × ℤ)) → Concave p r (box_sum m b) (box_sum n b) (box_sum o b)
  concave_box b = rw (bet.constants.0, bet.constants.1) (concave_add p r n.constant n.constant n.constant (column_part m b (pos 1) [])
      (column_part n b (pos 1) []) (column_part o b (pos 1) []) (omega (arith, ints)) (concave_columns b (pos 1) []))

  box_past : (b : List (ℤ × ℤ)) (u v w : ℤ) → Linear p r u v w → u ≤ℤ box_sum m b → w ≤ℤ box_sum o b → v ≤ℤ box_sum n b
  box_past b u v w lev first last = concave_past p r (box_sum m b) (box_sum n b) (box_sum o b) u v w some (concave_box b) lev first last

  -- the bound by a ray, which lapses where its dual value is not positive
  ray_past : (b : List (ℤ × ℤ)) (y : List (ℕ × ℤ)) (u v w paid : ℤ) → Linear p r u v w → Fixed m n o u v w
      → IsAtLeast (bound_by (pos 0) (box_sum m b) (Some (value m b (pos 0) y paid))) u
      → IsAtLeast (bound_by (pos 0) (box_sum o b) (Some (value o b (pos 0) y paid))) w
      → IsAtLeast (bound_by (pos 0) (box_sum n b) (Some (value n b (pos 0) y paid))) v
  ray_past b y u v w paid lev (rays same) first last =
      let left : value m b (pos 0) y paid ≡ value n b (pos 0) y paid = let c = column_same m n b (pos 0) y (λ j. (same y j).0) in omega
      (arith, ints) in
      let right : value o b (pos 0) y paid ≡ value n b (pos 0) y paid = let c = column_same o n b (pos 0) y (λ j. (same y j).1) in omega
      (arith, ints) in
      by (lt_z (pos 0) (value n b (pos 0) y paid)) (rw left at first) (rw right at last)
    where
      by : (t : Bool) → IsAtLeast (cond t Infinite (At (box_sum m b))) u → IsAtLeast (cond t Infinite (At (box_sum o b))) w
          → IsAtLeast (cond t Infinite (At (box_sum n b))) v
      by true f l = tt
      by false f l = box_past b u v w lev f l
  ray_past b y u v w paid lev (boxes same eu ew) first last =
      let left : box_sum m b ≡ box_sum n b = let c = column_same m n b (pos 1) [] (λ j. (same j).0) in let d = bet.constants.0 in omega
      (arith, ints) in
      let right : box_sum o b ≡ box_sum n b = let c = column_same o n b (pos 1) [] (λ j. (same j).1) in let d = bet.constants.1 in omega
      (arith, ints) in
      by (lt_z (pos 0) (value m b (pos 0) y paid)) (lt_z (pos 0) (value n b (pos 0) y paid)) (lt_z (pos 0) (value o b (pos 0) y paid))
      refl refl refl left right first last
    where
      by : (s t z : Bool) → lt_z (pos 0) (value m b (pos 0) y paid) ≡ s → lt_z (pos 0) (value n b (pos 0) y paid) ≡ t
          → lt_z (pos 0) (value o b (pos 0) y paid) ≡ z → box_sum m b ≡ box_sum n b → box_sum o b ≡ box_sum n b
          → IsAtLeast (cond s Infinite (At (box_sum m b))) u → IsAtLeast (cond z Infinite (At (box_sum o b))) w
          → IsAtLeast (cond t Infinite (At (box_sum n b))) v
      by s true z es et ez left right f l = tt
      by false false z es et ez left right f l = omega (arith, ints)
      by true false false es et ez left right f l = omega (arith, ints)
      by true false true es et ez left right f l =
          let past = concave_past p r (value m b (pos 0) y paid) (value n b (pos 0) y paid) (value o b (pos 0) y paid) (pos 1) (pos 1)
          (pos 1) some (concave_value b (pos 0) y paid) refl (omega (arith, ints)) (omega (arith, ints)) in
          absurd (omega (arith, ints))

  paid_past : (b : List (ℤ × ℤ)) (q : ℤ) (y : List (ℕ × ℤ)) (u v w : ℤ) (paid : Option ℤ) → Linear p r u v w → Fixed m n o u v w
      → IsAtLeast (bound_by q (box_sum m b) (option_map (value m b q y) paid)) u
      → IsAtLeast (bound_by q (box_sum o b) (option_map (value o b q y) paid)) w
      → IsAtLeast (bound_by q (box_sum n b) (option_map (value n b q y) paid)) v
  paid_past b (pos (suc k)) y u v w (Some paid) lev fixed first last =
      let q : ℤ = pos (suc k) in
      let marks : Linear p r (mark k u) (mark k v) (mark k w) = linear_sub p r (q *ℤ u) (q *ℤ v) (q *ℤ w) (pos k) (pos k) (pos k)
      (linear_scale p r q u v w lev) refl in
      reached (value n b q y paid) v k (concave_past p r (value m b q y paid) (value n b q y paid) (value o b q y paid) (mark k u)
      (mark k v) (mark k w) some (concave_value b q y paid) marks (marked (value m b q y paid) u k first)
      (marked (value o b q y paid) w k last))
  paid_past b (pos zero) y u v w (Some paid) lev fixed first last = ray_past b y u v w paid lev fixed first last
  paid_past b (negsuc k) y u v w (Some paid) lev fixed first last = box_past b u v w lev first last
  paid_past b (pos (suc k)) y u v w None lev fixed first last = box_past b u v w lev first last
  paid_past b (pos zero) y u v w None lev fixed first last = box_past b u v w lev first last
  paid_past b (negsuc k) y u v w None lev fixed first last = box_past b u v w lev first last

  -- over the same box
  pub leaf_between : (b : List (ℤ × ℤ)) (c : Cert) (u v w : ℤ) → Linear p r u v w → Fixed m n o u v w → IsAtLeast (leaf_bound m b c) u
      → IsAtLeast (leaf_bound o b c) w → IsAtLeast (leaf_bound n b c) v
  leaf_between b c u v w lev fixed first last = by (list_any is_empty_side b) (pay m.rows c.y) (pay o.rows c.y) (bet.pays c.y).0
      (bet.pays c.y).1 first last
    where
      by : (t : Bool) (left right : Option ℤ) → left ≡ pay n.rows c.y → right ≡ pay n.rows c.y
          → IsAtLeast (cond t Infinite (bound_by c.q (box_sum m b) (option_map (value m b c.q c.y) left))) u
          → IsAtLeast (cond t Infinite (bound_by c.q (box_sum o b) (option_map (value o b c.q c.y) right))) w
          → IsAtLeast (cond t Infinite (bound_by c.q (box_sum n b) (option_map (value n b c.q c.y) (pay n.rows c.y)))) v
      by true left right l r first last = tt
      by false left right l r first last = paid_past b c.q c.y u v w (pay n.rows c.y) lev fixed (rw l at first) (rw r at last)
