-- The boxes of nodes: parts of a program's box, boxes of one point, and their lowest points.
use Rattle.std.specs.Prelude.{ℕ, ◌<◌, List, length, map, ℤ, ◌≤ℤ◌}
use Rattle.ip_defs.specs.declared.programs.Parts.{Parts}
use Rattle.ip_defs.specs.Limits.{IsArea}
use Rattle.ip_defs.specs.Program.{box_of, high_at, low_at}

-- a box is part of another one
abbrev pub IsPartOf : List (ℤ × ℤ) → List (ℤ × ℤ) → Type 0
IsPartOf b whole = (j : ℕ) → j < length b → (low_at whole j ≤ℤ low_at b j) × (high_at b j ≤ℤ high_at whole j)

-- a box that a search of a program may come to
pub record IsSearchArea (m : Parts) (b : List (ℤ × ℤ)) : Type 0 where
  pub area : IsArea (length m.columns) b
  pub part : IsPartOf b (box_of m)

-- no column has two numbers
abbrev pub IsSingle : List (ℤ × ℤ) → Type 0
IsSingle b = (j : ℕ) → j < length b → high_at b j ≤ℤ low_at b j

-- the point at the lower sides of a box
abbrev pub lowest : List (ℤ × ℤ) → List ℤ
lowest b = map (λ s. s.0) b
