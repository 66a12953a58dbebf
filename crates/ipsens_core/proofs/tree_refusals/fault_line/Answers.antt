use Rattle.ipsens_core.proofs.RefusalLaws.{same_line}
use Rattle.ipsens_core.proofs.tree_refusals.fault_line.Goals as goal

pub returns-in-Some : goal.returns-in-Some
returns-in-Some c = same_line _ _ _ c.refused_at.result c.in-Some.ensures c.refused_at.ensures
