-- Integer programs: points, rows, boxes, feasible points, costs, optimal points and optimal values. Coefficients, costs and sides are
-- whole numbers in their units; a coefficient that is not listed is 0.
use Rattle.std.specs.Prelude.{◌≡◌, ℕ, ◌<◌, ◌==◌, Bool, false, if◌then◌else◌, List, [], ◌∷◌, length, map, All, Option, Some, None, IfSome}
use Rattle.std.specs.Prelude.{slice_index_or, ℤ, pos, ◌+ℤ◌, ◌*ℤ◌, ◌≤ℤ◌}
use Rattle.std.specs.Int.Signed.{lt_z}
use Rattle.std.specs.Option.{option_map_or}
use Rattle.ip_defs.specs.Sums.{sum_below}
use Rattle.ip_defs.specs.declared.programs.Row.{Row}
use Rattle.ip_defs.specs.declared.programs.Parts.{Parts}

-- the coordinate of a point at an index, 0 past its end
abbrev pub at : List ℤ → ℕ → ℤ
at x j = slice_index_or x j (pos 0)

-- the coefficient of a column: the sum of what is listed for it, 0 where nothing is
abbrev pub coefficient : List (ℕ × ℤ) → ℕ → ℤ
coefficient [] j = pos 0
coefficient (p ∷ ps) j = if p.0 == j then p.1 +ℤ coefficient ps j else coefficient ps j

-- the value of a row at a point: the sum over the columns of coefficient times coordinate
abbrev pub row_sum : List (ℕ × ℤ) → List ℤ → ℤ
row_sum coefs x = sum_below (λ j. coefficient coefs j *ℤ at x j) (length x)

-- a point satisfies a row: each side that the row has holds for its value
pub record Meets (x : List ℤ) (r : Row) : Type 0 where
  pub low : IfSome r.low (λ side. side ≤ℤ row_sum r.coefs x)
  pub high : IfSome r.high (λ side. row_sum r.coefs x ≤ℤ side)

-- a row is crossed: its low side is above its high side, so no point satisfies it
abbrev pub is_crossed : Row → Bool
is_crossed r = option_map_or (λ low. option_map_or (λ high. lt_z high low) r.high false) r.low false

-- the box of a program: the two bounds of each column
abbrev pub box_of : Parts → List (ℤ × ℤ)
box_of m = map (λ c. (c.lo, c.hi)) m.columns

-- the costs of the columns of a program
abbrev pub costs_of : Parts → List ℤ
costs_of m = map (λ c. c.cost) m.columns

-- the lower and the upper bound of a column in a box, by column number
abbrev pub low_at : List (ℤ × ℤ) → ℕ → ℤ
low_at b j = (slice_index_or b j (pos 0, pos 0)).0

abbrev pub high_at : List (ℤ × ℤ) → ℕ → ℤ
high_at b j = (slice_index_or b j (pos 0, pos 0)).1

-- a point lies in a box: one coordinate for each column, between the bounds of the column
pub record IsIn (b : List (ℤ × ℤ)) (x : List ℤ) : Type 0 where
  pub size : length x ≡ length b
  pub low : (j : ℕ) → j < length b → low_at b j ≤ℤ at x j
  pub high : (j : ℕ) → j < length b → at x j ≤ℤ high_at b j

-- a feasible point lies in the box of the program and satisfies each row
pub record IsFeasible (m : Parts) (x : List ℤ) : Type 0 where
  pub within : IsIn (box_of m) x
  pub rows : All (Meets x) m.rows

-- the cost of a point: the constant, and the sum over the columns of cost times coordinate
abbrev pub cost : Parts → List ℤ → ℤ
cost m x = m.constant +ℤ sum_below (λ j. at (costs_of m) j *ℤ at x j) (length x)

-- a point is optimal: it is feasible, and no feasible point costs less
pub record IsLeast (m : Parts) (x : List ℤ) : Type 0 where
  pub feasible : IsFeasible m x
  pub least : (y : List ℤ) → IsFeasible m y → cost m x ≤ℤ cost m y

-- a program is infeasible: no point is feasible
abbrev pub IsEmpty : Parts → Type 0
IsEmpty m = (x : List ℤ) → ¬ IsFeasible m x

-- the optimal value of a program: the cost of an optimal point, or none where the program is infeasible
abbrev pub IsValue : Parts → Option ℤ → Type 0
IsValue m None = IsEmpty m
IsValue m (Some v) = (x : List ℤ) × IsLeast m x × (cost m x ≡ v)
