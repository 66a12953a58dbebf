-- Boxes and their points: the one point of a box, and its halves, which cover its points, are narrower and stay within the limits.
use Rattle.std.specs.Prelude.{◌^◌, ◌≡◌, ◌≢◌, ℕ, suc, ◌+◌, ◌<◌, ◌≤◌, ◌==◌, Bool, true, false, List, [], ◌∷◌, length, map, ℤ, pos, negsuc}
use Rattle.std.specs.Prelude.{◌+ℤ◌, ◌-ℤ◌, ◌≤ℤ◌, ◌<ℤ◌}
use Rattle.std.specs.Int.RustNames.{unsigned_abs}
use Rattle.std.specs.Int.{int_gap, int_min, int_max}
use Rattle.std.proofs.Common.{arith, refl, ap, sym, ◌∙◌, get_or, set, length-set}
use Rattle.std.proofs.lemmas.Bool.{eqb-true, eqb-false}
use Rattle.std.proofs.lemmas.Grind.{get_or-set_at}
use Rattle.std.proofs.lemmas.Int.{ints, clamps}
use Rattle.std.proofs.lemmas.List.{length-map, get_or-map, get_or-set_other}
use Rattle.std.proofs.lemmas.List.Sums.{sum_by-set}
use Rattle.ip_defs.specs.Program.{IsIn, at, box_of, low_at, high_at}
use Rattle.ip_defs.specs.Boxes.{below, above, width, IsOpen}
use Rattle.ip_defs.specs.Certificates.{is_empty_side}
use Rattle.ip_defs.specs.Limits.{IsArea, IsColumn, IsWithinLimits}
use Rattle.ip_defs.specs.declared.programs.Column.{Column}
use Rattle.ip_defs.specs.declared.programs.Parts.{Parts}
use Rattle.std.specs.List.{list_any}
use Rattle.std.specs.Prelude.{Some, slice_get, zero}
use Rattle.std.proofs.lemmas.List.Elements.{All-from_get_or}
use Rattle.std.proofs.lemmas.List.Folds.{list_any_at, list_any_none}
use Rattle.ip_defs.proofs.OrderLaws.{less_false}

-- lists of one length that agree at each index are equal
pub same_lists : (xs ys : List ℤ) → length xs ≡ length ys → ((j : ℕ) → j < length ys → at xs j ≡ at ys j) → xs ≡ ys
same_lists [] [] e h = refl
same_lists [] (y ∷ ys) e h = absurd (omega arith)
same_lists (x ∷ xs) [] e h = absurd (omega arith)
same_lists (x ∷ xs) (y ∷ ys) e h =
    let first : x ≡ y = h 0 (omega arith) in
    let rest = same_lists xs ys (omega arith) (λ j l. h (suc j) (omega arith)) in
    cc

-- the one point of a box whose bounds are equal in each column
pub one_point : (b : List (ℤ × ℤ)) (x : List ℤ) → ((j : ℕ) → j < length b → high_at b j ≤ℤ low_at b j) → IsIn b x → x ≡ map (λ s. s.0) b
one_point b x single inside = same_lists x (map (λ s. s.0) b) (omega (arith, length-map b (λ (s : ℤ × ℤ). s.0), inside.size)) (λ j l.
    let within : j < length b = omega (arith, length-map b (λ (s : ℤ × ℤ). s.0)) in
    let low = inside.low j within in
    let high = inside.high j within in
    let meet = single j within in
    let is : at x j ≡ low_at b j = omega (arith, ints) in
    is ∙ sym (get_or-map (λ (s : ℤ × ℤ). s.0) b j (pos 0, pos 0) (pos 0) within))

-- a box with other bounds for one column
module _ (b : List (ℤ × ℤ)) (j : ℕ) (s : ℤ × ℤ) (l : j < length b) where
  side_at : (k : ℕ) → (k ≡ j → get_or (set b j s) k (pos 0, pos 0) ≡ s) × (k ≢ j →
      get_or (set b j s) k (pos 0, pos 0) ≡ get_or b k (pos 0, pos 0))
  side_at k = (λ e. get_or-set_at b j k s (pos 0, pos 0) e l, λ n. get_or-set_other b j k s (pos 0, pos 0) n)

  pub in_cut : (x : List ℤ) → IsIn b x → s.0 ≤ℤ at x j → at x j ≤ℤ s.1 → IsIn (set b j s) x
  in_cut x inside low high = record {
    size = omega (arith, inside.size, length-set b j s);
    low = λ k h. by_low k (k == j) refl (omega (arith, length-set b j s));
    high = λ k h. by_high k (k == j) refl (omega (arith, length-set b j s));
  }
    where
      by_low : (k : ℕ) (t : Bool) → (k == j) ≡ t → k < length b → low_at (set b j s) k ≤ℤ at x k
      by_low k true e h = let same = eqb-true k j e in rw (ap (λ (p : ℤ × ℤ). p.0) ((side_at k).0 same), same) low
      by_low k false e h = rw (ap (λ (p : ℤ × ℤ). p.0) ((side_at k).1 (eqb-false k j e))) (inside.low k h)

      by_high : (k : ℕ) (t : Bool) → (k == j) ≡ t → k < length b → at x k ≤ℤ high_at (set b j s) k
      by_high k true e h = let same = eqb-true k j e in rw (ap (λ (p : ℤ × ℤ). p.1) ((side_at k).0 same), same) high
      by_high k false e h = rw (ap (λ (p : ℤ × ℤ). p.1) ((side_at k).1 (eqb-false k j e))) (inside.high k h)

-- each point of a box lies in one of its halves
pub in_below : (b : List (ℤ × ℤ)) (j : ℕ) (cut : ℤ) (x : List ℤ) → j < length b → IsIn b x → at x j ≤ℤ cut → IsIn (below b j cut) x
in_below b j cut x l inside h = let low = inside.low j l in let high = inside.high j l in
    in_cut b j (low_at b j, int_min (high_at b j) cut) l x inside low (omega (arith, ints, clamps))

pub in_above : (b : List (ℤ × ℤ)) (j : ℕ) (cut : ℤ) (x : List ℤ) → j < length b → IsIn b x → cut <ℤ at x j → IsIn (above b j cut) x
in_above b j cut x l inside h = let low = inside.low j l in let high = inside.high j l in
    in_cut b j (int_max (low_at b j) (cut +ℤ pos 1), high_at b j) l x inside (omega (arith, ints, clamps)) high

gap_is : (x y : ℤ) → x ≤ℤ y → x +ℤ pos (int_gap x y) ≡ y
gap_is (pos a) (pos b) h = omega (arith, ints)
gap_is (pos a) (negsuc b) h = absurd (omega (arith, ints))
gap_is (negsuc a) (pos b) h = omega (arith, ints)
gap_is (negsuc a) (negsuc b) h = omega (arith, ints)

-- a box is narrower where one of its columns is
narrower : (b : List (ℤ × ℤ)) (j : ℕ) (lo hi : ℤ) → j < length b → lo ≤ℤ hi → low_at b j ≤ℤ high_at b j →
    (hi -ℤ lo) <ℤ (high_at b j -ℤ low_at b j) → width (set b j (lo, hi)) < width b
narrower b j lo hi l p q r =
    let sum : width (set b j (lo, hi)) + int_gap (low_at b j) (high_at b j) ≡ width b + int_gap lo hi =
    sum_by-set (λ (s : ℤ × ℤ). int_gap s.0 s.1) b j (lo, hi) (pos 0, pos 0) l in
    let old = gap_is (low_at b j) (high_at b j) q in
    let new = gap_is lo hi p in
    let falls : int_gap lo hi < int_gap (low_at b j) (high_at b j) = omega (arith, ints) in
    omega arith

-- the halves are narrower
pub below_narrower : (b : List (ℤ × ℤ)) (j : ℕ) (cut : ℤ) → j < length b → low_at b j ≤ℤ cut → cut <ℤ high_at b j →
    width (below b j cut) < width b
below_narrower b j cut l p q = narrower b j (low_at b j) (int_min (high_at b j) cut) l (omega (arith, ints, clamps)) (omega (arith, ints))
    (omega (arith, ints, clamps))

pub above_narrower : (b : List (ℤ × ℤ)) (j : ℕ) (cut : ℤ) → j < length b → low_at b j ≤ℤ cut → cut <ℤ high_at b j →
    width (above b j cut) < width b
above_narrower b j cut l p q = narrower b j (int_max (low_at b j) (cut +ℤ pos 1)) (high_at b j) l (omega (arith, ints, clamps))
    (omega (arith, ints)) (omega (arith, ints, clamps))

-- with other bounds for one column a box stays open, and within the limits, where these bounds are so
module _ (b : List (ℤ × ℤ)) (j : ℕ) (lo hi : ℤ) (l : j < length b) where
  pub open_cut : lo ≤ℤ hi → IsOpen b → IsOpen (set b j (lo, hi))
  open_cut h open' = λ k within. by k (k == j) refl (omega (arith, length-set b j (lo, hi)))
    where
      by : (k : ℕ) (t : Bool) → (k == j) ≡ t → k < length b → low_at (set b j (lo, hi)) k ≤ℤ high_at (set b j (lo, hi)) k
      by k true e w = let is = get_or-set_at b j k (lo, hi) (pos 0, pos 0) (eqb-true k j e) l in
          rw (ap (λ (s : ℤ × ℤ). s.0) is, ap (λ (s : ℤ × ℤ). s.1) is) h
      by k false e w = let is = get_or-set_other b j k (lo, hi) (pos 0, pos 0) (eqb-false k j e) in
          rw (ap (λ (s : ℤ × ℤ). s.0) is, ap (λ (s : ℤ × ℤ). s.1) is) (open' k w)

  pub area_cut : (n : ℕ) → unsigned_abs lo ≤ 2 ^ 24 → unsigned_abs hi ≤ 2 ^ 24 → IsArea n b → IsArea n (set b j (lo, hi))
  area_cut n p q area = record {
    size = length-set b j (lo, hi) ∙ area.size;
    low = λ k w. low_by k (k == j) refl (area.low k w);
    high = λ k w. high_by k (k == j) refl (area.high k w);
  }
    where
      low_by : (k : ℕ) (t : Bool) → (k == j) ≡ t → unsigned_abs (low_at b k) ≤ 2 ^ 24 → unsigned_abs (low_at (set b j (lo, hi)) k) ≤ 2 ^ 24
      low_by k true e s = rw (ap (λ (s : ℤ × ℤ). s.0) (get_or-set_at b j k (lo, hi) (pos 0, pos 0) (eqb-true k j e) l)) p
      low_by k false e s = rw (ap (λ (s : ℤ × ℤ). s.0) (get_or-set_other b j k (lo, hi) (pos 0, pos 0) (eqb-false k j e))) s

      high_by : (k : ℕ) (t : Bool) → (k == j) ≡ t → unsigned_abs (high_at b k) ≤ 2 ^ 24 →
          unsigned_abs (high_at (set b j (lo, hi)) k) ≤ 2 ^ 24
      high_by k true e s = rw (ap (λ (s : ℤ × ℤ). s.1) (get_or-set_at b j k (lo, hi) (pos 0, pos 0) (eqb-true k j e) l)) q
      high_by k false e s = rw (ap (λ (s : ℤ × ℤ). s.1) (get_or-set_other b j k (lo, hi) (pos 0, pos 0) (eqb-false k j e))) s

-- the halves of an open box within the limits are so too
pub below_open : (b : List (ℤ × ℤ)) (j : ℕ) (cut : ℤ) → j < length b → low_at b j ≤ℤ cut → cut <ℤ high_at b j → IsOpen b →
    IsOpen (below b j cut)
below_open b j cut l p q open' = open_cut b j (low_at b j) (int_min (high_at b j) cut) l (omega (arith, ints, clamps)) open'

pub above_open : (b : List (ℤ × ℤ)) (j : ℕ) (cut : ℤ) → j < length b → low_at b j ≤ℤ cut → cut <ℤ high_at b j → IsOpen b →
    IsOpen (above b j cut)
above_open b j cut l p q open' = open_cut b j (int_max (low_at b j) (cut +ℤ pos 1)) (high_at b j) l (omega (arith, ints, clamps)) open'

pub below_area : (n : ℕ) (b : List (ℤ × ℤ)) (j : ℕ) (cut : ℤ) → j < length b → low_at b j ≤ℤ cut → cut <ℤ high_at b j → IsArea n b →
    IsArea n (below b j cut)
below_area n b j cut l p q area =
    let within : j < n = omega (arith, area.size) in
    area_cut b j (low_at b j) (int_min (high_at b j) cut) l n (area.low j within)
    (omega (arith, ints, clamps, area.low j within, area.high j within)) area

pub above_area : (n : ℕ) (b : List (ℤ × ℤ)) (j : ℕ) (cut : ℤ) → j < length b → low_at b j ≤ℤ cut → cut <ℤ high_at b j → IsArea n b →
    IsArea n (above b j cut)
above_area n b j cut l p q area =
    let within : j < n = omega (arith, area.size) in
    area_cut b j (int_max (low_at b j) (cut +ℤ pos 1)) (high_at b j) l n
    (omega (arith, ints, clamps, area.low j within, area.high j within)) (area.high j within) area

-- a box that has no empty column is open
pub open_from : (b : List (ℤ × ℤ)) → list_any is_empty_side b ≡ false → IsOpen b
open_from b none = λ j within. by j within (is_empty_side (get_or b j (pos 0, pos 0))) refl
  where
    by : (j : ℕ) → j < length b → (t : Bool) → is_empty_side (get_or b j (pos 0, pos 0)) ≡ t → low_at b j ≤ℤ high_at b j
    by j within true e = let some = list_any_at is_empty_side b j (pos 0, pos 0) within e in absurd cc
    by j within false e = omega (arith, ints)

-- and an open box has no empty column
pub open_sides : (b : List (ℤ × ℤ)) → IsOpen b → list_any is_empty_side b ≡ false
open_sides b open' = list_any_none is_empty_side b (All-from_get_or (λ s. is_empty_side s ≡ false) b (pos 0, pos 0)
    (λ j within. less_false (high_at b j) (low_at b j) (open' j within)))

-- the box of columns within their limits is within the limits
sides_small : (columns : List Column) → ((j : ℕ) (c : Column) → slice_get columns j ≡ Some c → IsColumn c) → (j : ℕ) → j < length columns
    → (unsigned_abs (low_at (map (λ c. (c.lo, c.hi)) columns) j) ≤ 2 ^ 24)
    × (unsigned_abs (high_at (map (λ c. (c.lo, c.hi)) columns) j) ≤ 2 ^ 24)
sides_small [] all j within = absurd (omega arith)
sides_small (c ∷ cs) all zero within = let one = all 0 c refl in (one.lo, one.hi)
sides_small (c ∷ cs) all (suc j) within = sides_small cs (λ k d e. all (suc k) d e) j (omega arith)

-- the box of a program within its limits
pub box_within : (m : Parts) → IsWithinLimits m → IsArea (length m.columns) (box_of m)
box_within m limits = record {
  size = length-map m.columns (λ (c : Column). (c.lo, c.hi));
  low = λ j within. (sides_small m.columns limits.columns j within).0;
  high = λ j within. (sides_small m.columns limits.columns j within).1;
}
