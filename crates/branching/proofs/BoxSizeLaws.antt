-- The points and the width of a box and of its halves.
use Rattle.std.specs.Prelude.{◌≡◌, ℕ, zero, suc, ◌+◌, ◌*◌, ◌<◌, ◌≤◌, ◌==◌, Bool, true, false, List, [], ◌∷◌, length, ℤ, pos, negsuc, ◌+ℤ◌}
use Rattle.std.specs.Prelude.{◌-ℤ◌, ◌≤ℤ◌, ◌<ℤ◌}
use Rattle.std.specs.Int.{int_min, int_max}
use Rattle.std.proofs.Common.{arith, refl, ap, sym, ◌∙◌, get_or, set, length-set, subst}
use Rattle.std.proofs.Math.Nat.{add-mul, mul-add}
use Rattle.std.proofs.lemmas.Bool.{eqb-true, eqb-false}
use Rattle.std.proofs.lemmas.Grind.{get_or-set_at}
use Rattle.std.proofs.lemmas.Int.{ints, clamps}
use Rattle.std.proofs.lemmas.List.{get_or-set_other}
use Rattle.std.proofs.lemmas.List.Elements.{All-from_get_or}
use Rattle.std.proofs.lemmas.List.Folds.{list_any_none}
use Rattle.ip_defs.specs.declared.programs.Parts.{Parts}
use Rattle.ip_defs.specs.Boxes.{IsOpen, below, above, width}
use Rattle.ip_defs.specs.Certificates.{is_empty_side}
use Rattle.ip_defs.specs.Program.{box_of, low_at, high_at}
use Rattle.ip_defs.proofs.BoxLaws as Boxes
use Rattle.ip_model.specs.Sizes.{width_sum}
use Rattle.branching.specs.Sizes.{count, side_points, point_count}
use Rattle.proof_tree.specs.LabelledTrees.{split_at}
use Rattle.node_bounds.specs.Splits.{IsProper}
use Rattle.ip_defs.proofs.OrderLaws.{less_false}

count_is : (z : ℤ) → pos 0 ≤ℤ z → pos (count z) ≡ z
count_is (pos n) h = refl
count_is (negsuc n) h = absurd (omega (arith, ints))

-- ---- a proper split cuts inside the column
module _ (b : List (ℤ × ℤ)) (j : ℕ) (z : ℤ) (p : IsProper (split_at b j z)) where
  abbrev lower : ℤ × ℤ
  lower = (low_at b j, int_min (high_at b j) z)

  abbrev upper : ℤ × ℤ
  upper = (int_max (low_at b j) (z +ℤ pos 1), high_at b j)

  low_half : low_at b j ≤ℤ int_min (high_at b j) z
  low_half =
      let l : j < length b = p.col in
      let is = get_or-set_at b j j lower (pos 0, pos 0) refl l in
      let l' : j < length (set b j lower) = omega (arith, l, length-set b j lower) in
      subst (λ (q : ℤ × ℤ). q.0 ≤ℤ q.1) is (p.left j l')

  high_half : int_max (low_at b j) (z +ℤ pos 1) ≤ℤ high_at b j
  high_half =
      let l : j < length b = p.col in
      let is = get_or-set_at b j j upper (pos 0, pos 0) refl l in
      let l' : j < length (set b j upper) = omega (arith, l, length-set b j upper) in
      subst (λ (q : ℤ × ℤ). q.0 ≤ℤ q.1) is (p.right j l')

  pub cut_low : low_at b j ≤ℤ z
  cut_low = let h = low_half in omega (arith, ints, clamps)

  pub cut_high : z <ℤ high_at b j
  cut_high = let h = high_half in omega (arith, ints, clamps)

  -- and so the box has a point
  pub proper_open : IsOpen b
  proper_open k h = by (k == j) refl
    where
      by : (t : Bool) → (k == j) ≡ t → low_at b k ≤ℤ high_at b k
      by true e = let same = eqb-true k j e in let low = cut_low in let high = cut_high in rw same (omega (arith, ints))
      by false e = let is = get_or-set_other b j k lower (pos 0, pos 0) (eqb-false k j e) in let h' : k < length (set b j lower) =
          omega (arith, h, length-set b j lower) in subst (λ (q : ℤ × ℤ). q.0 ≤ℤ q.1) is (p.left k h')

-- ---- points
points_cut : (b : List (ℤ × ℤ)) (j : ℕ) (s t : ℤ × ℤ) → j < length b
    → side_points s + side_points t ≡ side_points (get_or b j (pos 0, pos 0))
    → point_count (set b j s) + point_count (set b j t) ≡ point_count b
points_cut [] j s t l h = absurd (omega arith)
points_cut (x ∷ b) zero s t l h =
    let out = add-mul (side_points s) (side_points t) (point_count b) in
    let same : (side_points s + side_points t) * point_count b ≡ side_points x * point_count b = ap (λ n. n * point_count b) h in
    sym out ∙ same
points_cut (x ∷ b) (suc j) s t l h =
    let rest = points_cut b j s t (omega arith) h in
    let out = mul-add (side_points x) (point_count (set b j s)) (point_count (set b j t)) in
    sym out ∙ ap (λ n. side_points x * n) rest

side_cut : (lo hi z : ℤ) → lo ≤ℤ z → z <ℤ hi
    → side_points (lo, int_min hi z) + side_points (int_max lo (z +ℤ pos 1), hi) ≡ side_points (lo, hi)
side_cut lo hi z p q =
    let a = count_is (int_min hi z +ℤ pos 1 -ℤ lo) (omega (arith, ints, clamps)) in
    let b = count_is (hi +ℤ pos 1 -ℤ int_max lo (z +ℤ pos 1)) (omega (arith, ints, clamps)) in
    let c = count_is (hi +ℤ pos 1 -ℤ lo) (omega (arith, ints)) in
    omega (arith, ints, clamps)

-- the points of a box are those of its halves
pub points_split : (b : List (ℤ × ℤ)) (j : ℕ) (z : ℤ) → IsProper (split_at b j z)
    → point_count (below b j z) + point_count (above b j z) ≡ point_count b
points_split b j z p = points_cut b j (low_at b j, int_min (high_at b j) z) (int_max (low_at b j) (z +ℤ pos 1), high_at b j) p.col
    (side_cut (low_at b j) (high_at b j) z (cut_low b j z p) (cut_high b j z p))

positive_mul : (a b : ℕ) → 1 ≤ a → 1 ≤ b → 1 ≤ a * b
positive_mul zero b p q = absurd (omega arith)
positive_mul (suc a) zero p q = absurd (omega arith)
positive_mul (suc a) (suc b) p q = omega arith

-- a box without an empty column has a point
pub has_point : (b : List (ℤ × ℤ)) → IsOpen b → 1 ≤ point_count b
has_point [] h = omega arith
has_point (s ∷ b) h =
    let first : s.0 ≤ℤ s.1 = h 0 (omega arith) in
    let n = count_is (s.1 +ℤ pos 1 -ℤ s.0) (omega (arith, ints)) in
    positive_mul (side_points s) (point_count b) (omega (arith, ints)) (has_point b (λ j l. h (suc j) (omega arith)))

-- ---- width
pub below_narrower : (b : List (ℤ × ℤ)) (j : ℕ) (z : ℤ) → IsProper (split_at b j z) → width (below b j z) < width b
below_narrower b j z p = Boxes.below_narrower b j z p.col (cut_low b j z p) (cut_high b j z p)

pub above_narrower : (b : List (ℤ × ℤ)) (j : ℕ) (z : ℤ) → IsProper (split_at b j z) → width (above b j z) < width b
above_narrower b j z p = Boxes.above_narrower b j z p.col (cut_low b j z p) (cut_high b j z p)

pub width_of : (m : Parts) → IsOpen (box_of m) → width_sum m ≡ width (box_of m)
width_of m h = rw (list_any_none is_empty_side (box_of m)
    (All-from_get_or (λ s. is_empty_side s ≡ false) (box_of m) (pos 0, pos 0)
    (λ j l. less_false (high_at (box_of m) j) (low_at (box_of m) j) (h j l)))) refl
