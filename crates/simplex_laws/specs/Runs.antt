-- The tableau of a node after a number of steps of the simplex, and the number of steps after which it is not final yet.
use Rattle.std.specs.Prelude.{◌≡◌, ℕ, zero, suc, ◌<◌, false, List, Result, Ok, ℤ}
use Rattle.frac128.specs.declared.fraction.Wide.{Wide}
use Rattle.ip_defs.specs.declared.programs.Parts.{Parts}
use Rattle.tableau.specs.Tables.{Table}
use Rattle.tableau.specs.Numbers.{and_then}
use Rattle.tableau.specs.Pivots.{after_pivot, after_flip}
use Rattle.tableau.specs.Nodes.{start_of}
use Rattle.simplex_laws.specs.declared.next.Next.{Next}
use Rattle.simplex_laws.specs.declared.next.Next.TheVariants.{Pivot, Flip, FinalRow, FinalPoint}
use Rattle.simplex_laws.specs.Steps.{next, is_final}

-- the tableau after a step, wide where its pivot is; a final one stays as it is
abbrev pub step : Table → Next → Result Table Wide
step T (Pivot r v leaving) = after_pivot T r v leaving
step T (Flip v) = Ok (after_flip T v)
step T (FinalRow i up) = Ok T
step T FinalPoint = Ok T

-- the tableau of a node after n steps, wide where a pivot of one of them is
unfoldable pub after : Parts → List (ℤ × ℤ) → ℕ → Result Table Wide
after m b zero = Ok (start_of m b)
after m b (suc n) = and_then (after m b n) (λ T. step T (next T))

-- the tableau after n steps is there and not final
pub record IsNotFinal (m : Parts) (b : List (ℤ × ℤ)) (n : ℕ) : Type 0 where
  pub tableau : Table
  pub after : after m b n ≡ Ok tableau
  pub unfinished : is_final (next tableau) ≡ false

-- the simplex comes to a tableau after just n steps: none of the tableaus before it is final
pub record IsReached (m : Parts) (b : List (ℤ × ℤ)) (n : ℕ) (T : Table) : Type 0 where
  pub after : after m b n ≡ Ok T
  pub unfinished : (k : ℕ) → k < n → IsNotFinal m b k
