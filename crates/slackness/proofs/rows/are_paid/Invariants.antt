use Rattle.std.proofs.Common.{◌<◌, ℕ}
use Rattle.std.specs.Prelude.{slice_get}
use Rattle.ip_defs.specs.Limits.{index_at, value_at}
use Rattle.slackness.specs.Tight.{activity, StandsAt}
use Rattle.slackness.proofs.rows.are_paid.Given as goal

abbrev pub invariant-loop-row : goal.invariant-loop-row
invariant-loop-row l = (i : ℕ) → i < l.row-index →
    StandsAt l.denominator (value_at l.y i) (slice_get l.parts.rows (index_at l.y i)) (activity l.parts.rows l.point (index_at l.y i))
