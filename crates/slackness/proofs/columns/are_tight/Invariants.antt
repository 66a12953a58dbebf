use Rattle.std.proofs.Common.{◌<◌, ℕ, ◌-ℤ◌, ◌*ℤ◌}
use Rattle.ip_defs.specs.Program.{at, low_at, high_at, costs_of}
use Rattle.slackness.specs.Tight.{IsTightColumn}
use Rattle.slackness.proofs.columns.are_tight.Given as goal

abbrev pub invariant-loop-j : goal.invariant-loop-j
invariant-loop-j l = (j : ℕ) → j < l.j → IsTightColumn l.denominator (low_at l.area j) (high_at l.area j) (at l.point j)
    (l.q *ℤ at (costs_of l.parts) j -ℤ at l.taken j)
