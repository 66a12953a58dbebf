-- Steps of linear programs: an answered node owes none.
use Rattle.std.specs.Prelude.{◌≡◌, ℕ, ◌+◌, ◌*◌, ◌≤◌, Result, Ok, Err, IfOk}
use Rattle.std.proofs.Common.{arith, ap}
use Rattle.ip_defs.specs.declared.memory.Memory.{Memory}
use Rattle.node_bounds.specs.declared.relaxations.Relaxed.{Relaxed}
use Rattle.node_bounds.specs.Internal.Relaxed.{stops_by}

pub answered_least : (r : Result Relaxed Memory) (before after pivots : ℕ) → IfOk r (λ r. stops_by r ≡ 0) → before ≤ after
    → IfOk r (λ r. before + stops_by r * pivots ≤ after)
answered_least (Ok r) before after pivots none rises = let nothing = ap (λ n. n * pivots) none in omega arith
answered_least (Err e) before after pivots none rises = tt
