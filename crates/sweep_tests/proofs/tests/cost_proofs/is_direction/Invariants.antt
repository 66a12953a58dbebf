use Rattle.std.specs.Prelude.{ℕ, ◌<◌, ◌≤◌, ◌^◌}
use Rattle.std.specs.Int.RustNames.{unsigned_abs}
use Rattle.ip_defs.specs.Program.{at}
use Rattle.sweep_tests.proofs.tests.cost_proofs.is_direction.Given as goal

abbrev pub invariant-loop-step : goal.invariant-loop-step
invariant-loop-step l = (j : ℕ) → j < l.step-index → unsigned_abs (at l.dir j) ≤ 2 ^ 40
