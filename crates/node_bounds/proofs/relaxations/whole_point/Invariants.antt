use Rattle.std.proofs.Common.{◌≡◌, ◌<◌, ℕ, length}
use Rattle.frac128.specs.Rationals.{of}
use Rattle.ip_defs.specs.Program.{at as number_at}
use Rattle.lp_duality.specs.Relaxations.{numbers_of}
use Rattle.node_bounds.proofs.relaxations.whole_point.Given as goal

abbrev pub invariant-loop-number : goal.invariant-loop-number
invariant-loop-number l = (length l.numbers.items ≡ l.number-index)
    × ((j : ℕ) → j < l.number-index → numbers_of l.point j ≡ of (number_at l.numbers.items j))
