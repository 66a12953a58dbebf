-- Wider programs: sides of rows and bounds of columns that moved outwards.
use Rattle.std.specs.Prelude.{◌≡◌, List, [], ◌∷◌, Option, Some, None, ℤ, ◌≤ℤ◌}
use Rattle.ip_defs.specs.declared.programs.Column.{Column}
use Rattle.ip_defs.specs.declared.programs.Row.{Row}
use Rattle.ip_defs.specs.declared.programs.Parts.{Parts}

-- a relation between the elements of two lists of one length, in order
abbrev pub Paired : {A : Type 0} → (A → A → Type 0) → List A → List A → Type 0
Paired R [] [] = Unit {0}
Paired R (x ∷ xs) [] = ⊥
Paired R [] (y ∷ ys) = ⊥
Paired R (x ∷ xs) (y ∷ ys) = R x y × Paired R xs ys

-- an optional number is at most another: both are there, or neither is. A side that vanishes is no wider one, since multipliers are
-- then paid nothing for it
abbrev pub IsNotAbove : Option ℤ → Option ℤ → Type 0
IsNotAbove None None = Unit {0}
IsNotAbove (Some s) None = ⊥
IsNotAbove None (Some t) = ⊥
IsNotAbove (Some s) (Some t) = s ≤ℤ t

-- the second row is wider than the first: the same coefficients, and no side moved inwards
pub record IsWiderRow (r s : Row) : Type 0 where
  pub coefs : r.coefs ≡ s.coefs
  pub low : IsNotAbove s.low r.low
  pub high : IsNotAbove r.high s.high

-- the second column is wider than the first: the same cost, and no bound moved inwards
pub record IsWiderColumn (c d : Column) : Type 0 where
  pub cost : c.cost ≡ d.cost
  pub lo : d.lo ≤ℤ c.lo
  pub hi : c.hi ≤ℤ d.hi

-- the second program is wider than the first: only sides and bounds differ, and none moved inwards
pub record IsWider (m n : Parts) : Type 0 where
  pub constant : m.constant ≡ n.constant
  pub columns : Paired IsWiderColumn m.columns n.columns
  pub rows : Paired IsWiderRow m.rows n.rows
