-- What is read off a final tableau, before anything is said of a node.
use Rattle.std.specs.Prelude.{◌≡◌, ℕ, ◌+◌, ◌<◌, Bool, length}
use Rattle.tableau.specs.Tables.{Table}
use Rattle.tableau.specs.Nodes.{number}
use Rattle.tableau.specs.Meanings.{price_number}
use Rattle.simplex_laws.specs.declared.next.Next.{Next}
use Rattle.simplex_laws.specs.declared.next.Next.TheVariants.{Pivot, Flip, FinalRow, FinalPoint}
use Rattle.simplex_laws.specs.Wides.{HasWideNumber}
use Rattle.simplex_laws.specs.Finals.{point_of}
use Rattle.simplex_exact.specs.declared.answers.LpAnswer.{LpAnswer}
use Rattle.simplex_exact.specs.declared.answers.LpAnswer.TheVariants.{Best, Empty, Stopped, Wide}
use Rattle.simplex_exact.specs.Answers.{AreNumbers}
use Rattle.simplex_exact.specs.Internal.Numbers.{turned}

-- a tableau has a variable for each column and each row
pub record HasColumnsAndRows (T : Table) (columns rows : ℕ) : Type 0 where
  pub small : columns + rows < 8192
  pub count : columns + rows ≡ length T.variables

-- the numbers of the columns and the dual prices of the rows (the reduced costs of their slacks), or a number is wide
abbrev pub IsPointRead : Table → ℕ → ℕ → LpAnswer → Type 0
IsPointRead T columns rows (Best point prices) = AreNumbers columns (point_of T) point
    × AreNumbers rows (λ k. price_number T (columns + k)) prices
IsPointRead T columns rows (Empty ray) = ⊥
IsPointRead T columns rows Stopped = ⊥
IsPointRead T columns rows Wide = HasWideNumber T

-- the slack entries of a row, as they are or negated
abbrev pub IsRayRead : Table → ℕ → Bool → ℕ → ℕ → LpAnswer → Type 0
IsRayRead T row up columns rows (Best point prices) = ⊥
IsRayRead T row up columns rows (Empty ray) = AreNumbers rows (λ k. turned up (number T row (columns + k))) ray
IsRayRead T row up columns rows Stopped = ⊥
IsRayRead T row up columns rows Wide = ⊥

-- what is read off a tableau that is final so
abbrev pub IsRead : Table → ℕ → ℕ → Next → LpAnswer → Type 0
IsRead T columns rows (Pivot r v leaving) answer = ⊥
IsRead T columns rows (Flip v) answer = ⊥
IsRead T columns rows (FinalRow i up) answer = IsRayRead T i up columns rows answer
IsRead T columns rows FinalPoint answer = IsPointRead T columns rows answer
