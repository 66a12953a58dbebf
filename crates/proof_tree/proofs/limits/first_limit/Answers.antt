use Rattle.std.proofs.Common.{◌∙◌, sym}
use Rattle.proof_tree.specs.LabelledTrees.{nodes_from}
use Rattle.proof_tree.specs.Trees.{plain, limit_at}
use Rattle.proof_tree.proofs.NumberedLaws.{pass_none, pass_some}
use Rattle.proof_tree.proofs.limits.first_limit.Goals as goal

pub returns-in-Ok : goal.returns-in-Ok
returns-in-Ok c = sym (pass_none limit_at 0 (nodes_from 0 (plain c.args.tree.now)) _ (sym c.pass.ensures ∙ c.in-Ok.is))

pub returns-in-Err : goal.returns-in-Err
returns-in-Err c = sym (pass_some limit_at 0 (nodes_from 0 (plain c.args.tree.now)) c.in-Err.limit (sym c.pass.ensures ∙ c.in-Err.is))
