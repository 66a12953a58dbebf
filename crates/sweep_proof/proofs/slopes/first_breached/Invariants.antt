use Rattle.std.specs.Prelude.{◌≡◌, None}
use Rattle.ip_defs.specs.Lists.{first}
use Rattle.sweep_proof.specs.CostRules.{breach_at}
use Rattle.sweep_proof.proofs.slopes.first_breached.Given as goal

abbrev pub invariant-loop-k : goal.invariant-loop-k
invariant-loop-k l = first (breach_at l.model l.points) l.k ≡ None
