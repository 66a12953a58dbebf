-- The walk through a tree: halves without a point, boxes within the limits, and a box restored.
use Rattle.std.specs.Prelude.{◌≡◌, ℕ, ◌^◌, ◌<◌, ◌≤◌, ◌==◌, Bool, true, false, IsTrue, ◌↔◌, List, length, ℤ, pos, ◌+ℤ◌, ◌≤ℤ◌, ◌<ℤ◌}
use Rattle.std.specs.Int.{int_min, int_max}
use Rattle.std.specs.Int.RustNames.{unsigned_abs}
use Rattle.std.specs.Int.Signed.{lt_z}
use Rattle.std.proofs.Common.{refl, arith, ap, ◌∙◌, get_or, set, length-set}
use Rattle.std.proofs.lemmas.Bool.{eqb-true, eqb-false}
use Rattle.std.proofs.lemmas.Grind.{get_or-set_at}
use Rattle.std.proofs.lemmas.Int.{ints, clamps}
use Rattle.std.proofs.lemmas.List.{get_or-set_other, set-get_or, set-set}
use Rattle.std.proofs.lemmas.List.Folds.{list_any_at}
use Rattle.ip_defs.specs.declared.certificates.Bound.{Bound}
use Rattle.ip_defs.specs.declared.certificates.Bound.TheVariants.{Infinite}
use Rattle.ip_defs.specs.declared.programs.Parts.{Parts}
use Rattle.ip_defs.specs.Boxes.{below, above}
use Rattle.ip_defs.specs.Certificates.{is_empty_side}
use Rattle.ip_defs.specs.Limits.{IsArea}
use Rattle.ip_defs.specs.Program.{low_at, high_at}
use Rattle.ip_defs.proofs.BoxLaws.{area_cut}
use Rattle.proof_tree.specs.LabelledTrees.{leaf, split}
use Rattle.proof_tree.specs.Trees.{PlainTree, bound_min, bound_over}
use Rattle.proof_tree.proofs.TreeLaws.{bound_split}
use Rattle.ip_defs.proofs.OrderLaws.{less_true}

-- a column stays empty when the box is cut
gap_stays : (b : List (ℤ × ℤ)) (j col : ℕ) (s : ℤ × ℤ) → j < length b → high_at b j <ℤ low_at b j → (j ≡ col → s.1 <ℤ s.0)
    → high_at (set b col s) j <ℤ low_at (set b col s) j
gap_stays b j col s l gap own = by (j == col) refl
  where
    by : (t : Bool) → (j == col) ≡ t → high_at (set b col s) j <ℤ low_at (set b col s) j
    by true e =
        let same = eqb-true j col e in
        let is = get_or-set_at b col j s (pos 0, pos 0) same (rw same at l) in
        rw (ap (λ (p : ℤ × ℤ). p.0) is, ap (λ (p : ℤ × ℤ). p.1) is) (own same)
    by false e =
        let is = get_or-set_other b col j s (pos 0, pos 0) (eqb-false j col e) in
        rw (ap (λ (p : ℤ × ℤ). p.0) is, ap (λ (p : ℤ × ℤ). p.1) is) gap

below_gap : (b : List (ℤ × ℤ)) (j col : ℕ) (cut : ℤ) → high_at b j <ℤ low_at b j → j ≡ col → int_min (high_at b col) cut <ℤ low_at b col
below_gap b j col cut gap e = let h = rw e at gap in omega (arith, ints, clamps)

above_gap : (b : List (ℤ × ℤ)) (j col : ℕ) (cut : ℤ) → high_at b j <ℤ low_at b j → j ≡ col
    → high_at b col <ℤ int_max (low_at b col) (cut +ℤ pos 1)
above_gap b j col cut gap e = let h = rw e at gap in omega (arith, ints, clamps)

-- over a box with an empty column every tree is infinite
pub bound_gap : (m : Parts) (t : PlainTree) (b : List (ℤ × ℤ)) (j : ℕ) → j < length b → high_at b j <ℤ low_at b j
    → bound_over m t b ≡ Infinite
bound_gap m (leaf c) b j l gap = rw (list_any_at is_empty_side b j (pos 0, pos 0) l (less_true (high_at b j) (low_at b j) gap)) refl
bound_gap m (split col cut y left right) b j l gap =
    let first = bound_gap m left (below b col cut) j (omega (arith, length-set b col (low_at b col, int_min (high_at b col) cut)))
    (gap_stays b j col (low_at b col, int_min (high_at b col) cut) l gap (below_gap b j col cut gap)) in
    let second = bound_gap m right (above b col cut) j
    (omega (arith, length-set b col (int_max (low_at b col) (cut +ℤ pos 1), high_at b col)))
    (gap_stays b j col (int_max (low_at b col) (cut +ℤ pos 1), high_at b col) l gap (above_gap b j col cut gap)) in
    bound_split m b col cut left right ∙ ap (λ (v : Bound). bound_min v (bound_over m right (above b col cut))) first ∙ second

closed : (t : Bool) (low high : ℤ) → t ≡ false → (IsTrue t ↔ low ≤ℤ high) → high <ℤ low
closed t low high e h = by (lt_z high low) refl
  where
    by : (s : Bool) → lt_z high low ≡ s → high <ℤ low
    by true f = omega (arith, ints)
    by false f = let true' : t ≡ true = h.1 (omega (arith, ints)) in absurd cc

-- the bound of a half without a point is infinite
pub no_half : (m : Parts) (t : PlainTree) (b : List (ℤ × ℤ)) (j : ℕ) (some : Bool) → j < length b → some ≡ false
    → (IsTrue some ↔ low_at b j ≤ℤ high_at b j) → bound_over m t b ≡ Infinite
no_half m t b j some l e h = bound_gap m t b j l (closed some (low_at b j) (high_at b j) e h)

pub below_size : (b : List (ℤ × ℤ)) (j : ℕ) (cut : ℤ) → j < length b → j < length (below b j cut)
below_size b j cut l = omega (arith, length-set b j (low_at b j, int_min (high_at b j) cut))

pub above_size : (b : List (ℤ × ℤ)) (j : ℕ) (cut : ℤ) → j < length b → j < length (above b j cut)
above_size b j cut l = omega (arith, length-set b j (int_max (low_at b j) (cut +ℤ pos 1), high_at b j))

-- a box cut within the limit stays within the limits, where the column is not empty
pub below_within : (n : ℕ) (b : List (ℤ × ℤ)) (j : ℕ) (cut : ℤ) → j < n → unsigned_abs cut ≤ 2 ^ 24 → IsArea n b → IsArea n (below b j cut)
below_within n b j cut l small area =
    let s = area.low j l in
    let t = area.high j l in
    area_cut b j (low_at b j) (int_min (high_at b j) cut) (omega (arith, area.size)) n s (omega (arith, ints, clamps)) area

pub above_within : (n : ℕ) (b : List (ℤ × ℤ)) (j : ℕ) (cut : ℤ) → j < n → unsigned_abs cut ≤ 2 ^ 24 → IsArea n b
    → low_at (above b j cut) j ≤ℤ high_at (above b j cut) j → IsArea n (above b j cut)
above_within n b j cut l small area some =
    let within : j < length b = omega (arith, area.size) in
    let is = get_or-set_at b j j (int_max (low_at b j) (cut +ℤ pos 1), high_at b j) (pos 0, pos 0) refl within in
    let open' = rw (ap (λ (p : ℤ × ℤ). p.0) is, ap (λ (p : ℤ × ℤ). p.1) is) at some in
    let s = area.low j l in
    let t = area.high j l in
    area_cut b j (int_max (low_at b j) (cut +ℤ pos 1)) (high_at b j) within n (omega (arith, ints, clamps)) t area

-- a box is as it was, once the bounds of its column are restored
pub put_back : (b b' : List (ℤ × ℤ)) (j : ℕ) (x : ℤ × ℤ) → b' ≡ set b j x → set b' j (get_or b j (pos 0, pos 0)) ≡ b
put_back b b' j x e = ap (λ l. set l j (get_or b j (pos 0, pos 0))) e ∙ set-set b j x (get_or b j (pos 0, pos 0))
    ∙ set-get_or b j (pos 0, pos 0)
