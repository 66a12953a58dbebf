-- The box of the next node, cut by the splits above it.
use Rattle.std.specs.Prelude.{ℕ, ◌^◌, ◌<◌, ◌≤◌, ◌&&◌, if◌then◌else◌, nat_lt, Bool, true, false, List, [], ◌∷◌, length, slice_set, ℤ, pos}
use Rattle.std.specs.Int.RustNames.{unsigned_abs}
use Rattle.std.specs.Int.Signed.{lt_z}
use Rattle.ip_defs.specs.Boxes.{below, above}
use Rattle.ip_defs.specs.Limits.{IsArea}
use Rattle.ip_defs.specs.Lists.{Each}
use Rattle.ip_defs.specs.Program.{low_at, high_at}
use Rattle.proof_tree.specs.Trees.{is_at_most}
use Rattle.tree_checker.specs.declared.cuts.Cut.{Cut}
use Rattle.tree_checker.specs.declared.descents.Descent.{Descent}

-- a box whose column is empty gets an empty side within the limits for it
abbrev pub halved : List (ℤ × ℤ) → ℕ → List (ℤ × ℤ)
halved b j = if lt_z (high_at b j) (low_at b j) then slice_set b j (pos 1, pos 0) else b

-- a split that can be entered, where some cuts are above it
abbrev pub can_enter : ℕ → Descent → ℕ → ℤ → Bool
can_enter columns d col at = nat_lt col columns && is_at_most (unsigned_abs at) (2 ^ 24) && nat_lt (length d.cuts) 800

-- in the left half of a split
abbrev pub entered : Descent → ℕ → ℤ → Descent
entered d col at = record {
  area = halved (below d.area col at) col;
  cuts = record { col = col; at = at; sides = (low_at d.area col, high_at d.area col); right = false } ∷ d.cuts;
}

-- the box above a split
abbrev pub restored : List (ℤ × ℤ) → Cut → List (ℤ × ℤ)
restored b c = slice_set b c.col c.sides

-- in the right half of a split, from its left half
abbrev pub in_right : List (ℤ × ℤ) → Cut → List Cut → Descent
in_right b c more = record {
  area = halved (above (restored b c) c.col c.at) c.col;
  cuts = record { col = c.col; at = c.at; sides = c.sides; right = true } ∷ more;
}

-- after a node: in the right half of the lowest split whose right half is still to come, or above all splits
abbrev pub settled_from : List (ℤ × ℤ) → List Cut → Descent
settled_from b [] = record { area = b; cuts = [] }
settled_from b (c ∷ more) = if c.right then settled_from (restored b c) more else in_right b c more

abbrev pub settled : Descent → Descent
settled d = settled_from d.area d.cuts

-- a cut of one of n columns within the limits
pub record IsCut (n : ℕ) (c : Cut) : Type 0 where
  pub column : c.col < n
  pub at : unsigned_abs c.at ≤ 2 ^ 24
  pub low : unsigned_abs c.sides.0 ≤ 2 ^ 24
  pub high : unsigned_abs c.sides.1 ≤ 2 ^ 24

-- the box is one for n columns, and the cuts are of these
pub record IsDescent (n : ℕ) (d : Descent) : Type 0 where
  pub area : IsArea n d.area
  pub cuts : Each (IsCut n) d.cuts
  pub few : length d.cuts ≤ 800
