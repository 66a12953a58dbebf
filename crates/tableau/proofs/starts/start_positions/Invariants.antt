use Rattle.std.proofs.Common.{◌≡◌, nat_lt, if◌then◌else◌}
use Rattle.tableau.specs.declared.positions.Rest.TheVariants.{Basic, Low}
use Rattle.tableau.specs.Nodes.{listed}
use Rattle.tableau.proofs.starts.start_positions.Given as goal

abbrev pub invariant-loop-v : goal.invariant-loop-v
invariant-loop-v l = l.positions.items ≡ listed l.v (λ v. if nat_lt v l.columns then Low else Basic)
