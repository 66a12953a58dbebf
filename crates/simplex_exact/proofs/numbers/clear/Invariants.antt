use Rattle.std.proofs.Common.{◌≡◌, ◌<◌, ℕ, None, slice_index_or}
use Rattle.simplex_exact.proofs.numbers.clear.Given as goal

abbrev pub invariant-loop-own_row : goal.invariant-loop-own_row
invariant-loop-own_row l = (v : ℕ) → v < l.own_row-index → slice_index_or l.basic_rows v None ≡ None
