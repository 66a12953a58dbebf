-- Boxes that are cut and restored on the way through a tree.
use Rattle.std.specs.Prelude.{◌≡◌, ℕ, suc, ◌^◌, ◌<◌, ◌≤◌, ◌&&◌, nat_lt, Bool, true, false, List, [], ◌∷◌, length, if◌then◌else◌}
use Rattle.std.specs.Prelude.{slice_set, ℤ, pos, ◌+ℤ◌, ◌<ℤ◌}
use Rattle.std.specs.Int.{int_max}
use Rattle.std.specs.Int.RustNames.{unsigned_abs}
use Rattle.std.specs.Int.Signed.{lt_z}
use Rattle.std.proofs.Common.{refl, arith, ap, sym, ◌∙◌, subst, get_or, set, length-set}
use Rattle.std.proofs.lemmas.Grind.{get_or-set_at}
use Rattle.std.proofs.lemmas.Int.{ints}
use Rattle.std.proofs.lemmas.List.{set-set}
use Rattle.ip_defs.specs.declared.programs.Parts.{Parts}
use Rattle.ip_defs.specs.Boxes.{below, above}
use Rattle.ip_defs.specs.Limits.{IsArea, IsWithinLimits}
use Rattle.ip_defs.specs.Program.{low_at, high_at, box_of}
use Rattle.ip_defs.proofs.BoxLaws.{area_cut, box_within}
use Rattle.ip_defs.specs.Lists.{Each}
use Rattle.ip_defs.proofs.BoolLaws.{both_true}
use Rattle.ip_defs.proofs.OrderLaws.{less_is, not_less, lt_is}
use Rattle.proof_tree.specs.Trees.{PlainTree, bound_over, is_at_most}
use Rattle.proof_tree.proofs.WalkLaws.{bound_gap, below_within, above_within, put_back}
use Rattle.tree_checker.specs.Internal.Descents.{halved, can_enter, entered, restored, in_right, settled_from, IsCut, IsDescent}
use Rattle.tree_checker.specs.declared.cuts.Cut.{Cut}
use Rattle.tree_checker.specs.declared.descents.Descent.{Descent}

module _ (b : List (ℤ × ℤ)) (j : ℕ) where
  pub halved_size : length (halved b j) ≡ length b
  halved_size = by (lt_z (high_at b j) (low_at b j))
    where
      by : (t : Bool) → length (if t then slice_set b j (pos 1, pos 0) else b) ≡ length b
      by true = length-set b j (pos 1, pos 0)
      by false = refl

  -- a tree has the same bound over it
  pub halved_bound : (m : Parts) (t : PlainTree) → j < length b → bound_over m t (halved b j) ≡ bound_over m t b
  halved_bound m t l = by (lt_z (high_at b j) (low_at b j)) refl
    where
      by : (s : Bool) → lt_z (high_at b j) (low_at b j) ≡ s → bound_over m t (if s then slice_set b j (pos 1, pos 0) else b)
          ≡ bound_over m t b
      by false e = refl
      by true e =
          let side = get_or-set_at b j j (pos 1, pos 0) (pos 0, pos 0) refl l in
          let empty : high_at (slice_set b j (pos 1, pos 0)) j <ℤ low_at (slice_set b j (pos 1, pos 0)) j =
          rw (ap (λ (p : ℤ × ℤ). p.0) side, ap (λ (p : ℤ × ℤ). p.1) side) (omega (arith, ints)) in
          bound_gap m t (slice_set b j (pos 1, pos 0)) j (omega (arith, length-set b j (pos 1, pos 0))) empty
          ∙ sym (bound_gap m t b j l (less_is (high_at b j) (low_at b j) e))

-- a side put in place of one that was cut
pub halved_restored : (b : List (ℤ × ℤ)) (j : ℕ) (s : ℤ × ℤ) → set (halved (set b j s) j) j (get_or b j (pos 0, pos 0)) ≡ b
halved_restored b j s = by (lt_z (high_at (set b j s) j) (low_at (set b j s) j))
  where
    by : (t : Bool) → set (if t then set (set b j s) j (pos 1, pos 0) else set b j s) j (get_or b j (pos 0, pos 0)) ≡ b
    by true = put_back b (set (set b j s) j (pos 1, pos 0)) j (pos 1, pos 0) (set-set b j s (pos 1, pos 0))
    by false = put_back b (set b j s) j s refl

pub lowered_area : (n : ℕ) (b : List (ℤ × ℤ)) (j : ℕ) (at : ℤ) → j < n → unsigned_abs at ≤ 2 ^ 24 → IsArea n b
    → IsArea n (halved (below b j at) j)
lowered_area n b j at l small area =
    let low = below_within n b j at l small area in
    by (lt_z (high_at (below b j at) j) (low_at (below b j at) j)) low
  where
    by : (t : Bool) → IsArea n (below b j at) → IsArea n (if t then slice_set (below b j at) j (pos 1, pos 0) else below b j at)
    by true low = area_cut (below b j at) j (pos 1) (pos 0) (omega (arith, low.size)) n (omega (arith, ints)) (omega (arith, ints)) low
    by false low = low

pub raised_area : (n : ℕ) (b : List (ℤ × ℤ)) (j : ℕ) (at : ℤ) → j < n → unsigned_abs at ≤ 2 ^ 24 → IsArea n b
    → IsArea n (halved (above b j at) j)
raised_area n b j at l small area = by (lt_z (high_at (above b j at) j) (low_at (above b j at) j)) refl
  where
    by : (t : Bool) → lt_z (high_at (above b j at) j) (low_at (above b j at) j) ≡ t
        → IsArea n (if t then slice_set (above b j at) j (pos 1, pos 0) else above b j at)
    by false e = above_within n b j at l small area (not_less (high_at (above b j at) j) (low_at (above b j at) j) e)
    by true e =
        let whole = area_cut b j (pos 1) (pos 0) (omega (arith, area.size)) n (omega (arith, ints)) (omega (arith, ints)) area in
        subst (IsArea n) (sym (set-set b j (int_max (low_at b j) (at +ℤ pos 1), high_at b j) (pos 1, pos 0))) whole

pub same_area : (n : ℕ) (b : List (ℤ × ℤ)) (j : ℕ) (low high : ℤ) → j < n → unsigned_abs low ≤ 2 ^ 24 → unsigned_abs high ≤ 2 ^ 24
    → IsArea n b → IsArea n (set b j (low, high))
same_area n b j low high l p q area = area_cut b j low high (omega (arith, area.size)) n p q area

-- ---- descents

-- what it takes to enter a split
pub record CanEnter (n : ℕ) (d : Descent) (col : ℕ) (at : ℤ) : Type 0 where
  pub column : col < n
  pub small : unsigned_abs at ≤ 2 ^ 24
  pub few : length d.cuts < 800

pub can_enter_is : (n : ℕ) (d : Descent) (col : ℕ) (at : ℤ) → can_enter n d col at ≡ true → CanEnter n d col at
can_enter_is n d col at e =
    let two = both_true (nat_lt col n && is_at_most (unsigned_abs at) (2 ^ 24)) (nat_lt (length d.cuts) 800) e in
    let one = both_true (nat_lt col n) (is_at_most (unsigned_abs at) (2 ^ 24)) two.0 in
    let small = lt_is (unsigned_abs at) (suc (2 ^ 24)) one.1 in
    record { column = lt_is col n one.0; small = omega arith; few = lt_is (length d.cuts) 800 two.1 }

pub entered_sound : (n : ℕ) (d : Descent) (col : ℕ) (at : ℤ) → IsDescent n d → can_enter n d col at ≡ true → IsDescent n (entered d col at)
entered_sound n d col at s e =
    let h = can_enter_is n d col at e in
    let few = h.few in
    record {
      area = lowered_area n d.area col at h.column h.small s.area;
      cuts = (record { column = h.column; at = h.small; low = s.area.low col h.column; high = s.area.high col h.column }, s.cuts);
      few = omega arith;
    }

-- the box above the lowest split
pub restored_sound : (n : ℕ) (b : List (ℤ × ℤ)) (c : Cut) (more : List Cut) → IsArea n b → IsCut n c → Each (IsCut n) more
    → length (c ∷ more) ≤ 800 → IsDescent n (record { area = restored b c; cuts = more })
restored_sound n b c more area cut cuts few = record {
  area = same_area n b c.col c.sides.0 c.sides.1 cut.column cut.low cut.high area;
  cuts = cuts;
  few = omega arith;
}

pub right_sound : (n : ℕ) (b : List (ℤ × ℤ)) (c : Cut) (more : List Cut) → IsArea n b → IsCut n c → Each (IsCut n) more
    → length (c ∷ more) ≤ 800 → IsDescent n (in_right b c more)
right_sound n b c more area cut cuts few = record {
  area = raised_area n (restored b c) c.col c.at cut.column cut.at
      (same_area n b c.col c.sides.0 c.sides.1 cut.column cut.low cut.high area);
  cuts = (record { column = cut.column; at = cut.at; low = cut.low; high = cut.high }, cuts);
  few = few;
}

-- ---- after a node

pub settles_on : (b : List (ℤ × ℤ)) (cuts : List Cut) (c : Cut) (more : List Cut) → cuts ≡ c ∷ more → c.right ≡ true
    → settled_from (restored b c) more ≡ settled_from b cuts
settles_on b cuts c more e right =
    sym (ap (settled_from b) e ∙ ap (λ (t : Bool). if t then settled_from (restored b c) more else in_right b c more) right)

pub next_sound : (n : ℕ) (b : List (ℤ × ℤ)) (cuts : List Cut) (c : Cut) (more : List Cut) → cuts ≡ c ∷ more
    → IsDescent n (record { area = b; cuts = cuts }) → IsDescent n (record { area = restored b c; cuts = more })
next_sound n b cuts c more e s =
    let all = subst (Each (IsCut n)) e s.cuts in
    restored_sound n b c more s.area all.0 all.1 (subst (λ (cs : List Cut). length cs ≤ 800) e s.few)

pub next_right_sound : (n : ℕ) (b : List (ℤ × ℤ)) (cuts : List Cut) (c : Cut) (more : List Cut) → cuts ≡ c ∷ more
    → IsDescent n (record { area = b; cuts = cuts }) → IsDescent n (in_right b c more)
next_right_sound n b cuts c more e s =
    let all = subst (Each (IsCut n)) e s.cuts in
    right_sound n b c more s.area all.0 all.1 (subst (λ (cs : List Cut). length cs ≤ 800) e s.few)

-- at the root
pub start_sound : (m : Parts) (b : List (ℤ × ℤ)) (cuts : List Cut) → IsWithinLimits m → b ≡ box_of m → cuts ≡ []
    → IsDescent (length m.columns) (record { area = b; cuts = cuts })
start_sound m b cuts w e f = record {
  area = subst (IsArea (length m.columns)) (sym e) (box_within m w);
  cuts = subst (Each (IsCut (length m.columns))) (sym f) tt;
  few = subst (λ (cs : List Cut). length cs ≤ 800) (sym f) (omega arith);
}
