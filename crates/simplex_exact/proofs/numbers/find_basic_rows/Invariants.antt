use Rattle.std.proofs.Common.{◌≡◌, ◌<◌, ◌==◌, ℕ, None, length, take, slice_index_or}
use Rattle.std.specs.List.{position}
use Rattle.simplex_exact.proofs.numbers.find_basic_rows.Given as goal

abbrev pub invariant-loop-row : goal.invariant-loop-row
invariant-loop-row l = (v : ℕ) → v < length l.tableau.variables → slice_index_or l.basic_rows v None
    ≡ position (λ w. w == v) (take l.row l.tableau.basics)
