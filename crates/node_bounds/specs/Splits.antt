-- Splits of boxes: proper ones, and those at the middle of the widest column.
use Rattle.std.specs.Prelude.{◌≡◌, ℕ, ◌<◌, List, length, ℤ, pos, ◌+ℤ◌, ◌-ℤ◌, ◌≤ℤ◌, ◌<ℤ◌}
use Rattle.std.specs.Int.{int_div_euclid}
use Rattle.ip_defs.specs.Boxes.{IsOpen, below, above}
use Rattle.ip_defs.specs.Program.{low_at, high_at}
use Rattle.proof_tree.specs.LabelledTrees.{Split}

-- a proper split: both halves have a point
pub record IsProper (s : Split) : Type 0 where
  pub col : s.col < length s.box
  pub left : IsOpen (below s.box s.col s.cut)
  pub right : IsOpen (above s.box s.col s.cut)

-- how far the upper side of a column is above its lower side
abbrev pub width_at : List (ℤ × ℤ) → ℕ → ℤ
width_at b j = high_at b j -ℤ low_at b j

-- a column is the widest of a box, the first of those that are as wide
pub record IsWidest (b : List (ℤ × ℤ)) (col : ℕ) : Type 0 where
  pub within : col < length b
  pub widest : (j : ℕ) → j < length b → width_at b j ≤ℤ width_at b col
  pub first : (j : ℕ) → j < col → width_at b j <ℤ width_at b col

-- the middle of two numbers, rounded down
abbrev pub middle : ℤ → ℤ → ℤ
middle low high = int_div_euclid (low +ℤ high) (pos 2)

-- a split at the middle of the widest column
pub record IsHalving (s : Split) : Type 0 where
  pub widest : IsWidest s.box s.col
  pub cut : s.cut ≡ middle (low_at s.box s.col) (high_at s.box s.col)
