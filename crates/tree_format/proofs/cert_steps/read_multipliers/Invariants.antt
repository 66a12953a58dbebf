use Rattle.tree_format.proofs.CertStepLaws.{MultipliersRead}
use Rattle.tree_format.proofs.cert_steps.read_multipliers.Given as goal

abbrev pub invariant-loop : goal.invariant-loop
invariant-loop l = MultipliersRead l.bytes l.fn.at l.at l.least l.counter l.count l.y
