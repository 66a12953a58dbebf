use Rattle.std.proofs.Common.{◌≡◌, ◌<◌, ℕ, Some}
use Rattle.std.specs.Prelude.{slice_get}
use Rattle.ip_defs.specs.Program.{row_sum}
use Rattle.ip_defs.specs.declared.programs.Row.{Row}
use Rattle.slackness.specs.Tight.{IsWithinSides}
use Rattle.slackness.proofs.rows.are_within.Given as goal

abbrev pub invariant-loop-row : goal.invariant-loop-row
invariant-loop-row l = (k : ℕ) → k < l.row-index → (r : Row) → slice_get l.parts.rows k ≡ Some r →
    IsWithinSides l.denominator r.low r.high (row_sum r.coefs l.point)
