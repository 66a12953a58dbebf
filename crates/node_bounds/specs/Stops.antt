-- Which reasons tell that a linear program was skipped, or stopped.
use Rattle.std.specs.Prelude.{ℕ, if◌then◌else◌, Bool, true, false}
use Rattle.node_bounds.specs.declared.reasons.Why.{Why}
use Rattle.node_bounds.specs.declared.reasons.Why.TheVariants.{Fractional, Stopped, Wide}

-- a split for this reason went without the answer of a linear program
abbrev pub is_skipped : Why → Bool
is_skipped (Fractional x c) = false
is_skipped Stopped = true
is_skipped Wide = true

-- the linear program of the node was stopped
abbrev pub is_stopped : Why → Bool
is_stopped (Fractional x c) = false
is_stopped Stopped = true
is_stopped Wide = false

-- how many linear programs were stopped
abbrev pub stops : Why → ℕ
stops why = if is_stopped why then 1 else 0
