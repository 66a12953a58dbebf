use Rattle.std.proofs.Common.{◌∙◌, sym}
use Rattle.sweep_proof.proofs.RuleLaws.{ends_within}
use Rattle.sweep_proof.proofs.checks.judged.Goals as goal

pub first_fault-requires-clause-ends : goal.first_fault-requires-clause-ends
first_fault-requires-clause-ends c = ends_within c.args.steps _ (sym c.first_gap.ensures ∙ c.in-None.is)
