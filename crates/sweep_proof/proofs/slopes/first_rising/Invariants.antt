use Rattle.std.specs.Prelude.{◌≡◌, None}
use Rattle.ip_defs.specs.Lists.{first}
use Rattle.sweep_proof.specs.CostRules.{slope_at}
use Rattle.sweep_proof.proofs.slopes.first_rising.Given as goal

abbrev pub invariant-loop-k : goal.invariant-loop-k
invariant-loop-k l = first (slope_at l.dir l.points) l.k ≡ None
