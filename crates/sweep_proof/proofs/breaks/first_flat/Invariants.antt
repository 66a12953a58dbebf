use Rattle.std.specs.Prelude.{◌≡◌, None}
use Rattle.ip_defs.specs.Lists.{first}
use Rattle.sweep_proof.specs.CostRules.{rise_at}
use Rattle.sweep_proof.proofs.breaks.first_flat.Given as goal

abbrev pub invariant-loop-k : goal.invariant-loop-k
invariant-loop-k l = first (rise_at l.breaks) l.k ≡ None
