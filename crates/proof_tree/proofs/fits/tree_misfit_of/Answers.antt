use Rattle.std.proofs.Common.{◌∙◌, sym}
use Rattle.proof_tree.specs.LabelledTrees.{nodes}
use Rattle.proof_tree.specs.Trees.{plain, misfit_at}
use Rattle.proof_tree.proofs.NumberedLaws.{pass_none, pass_some}
use Rattle.proof_tree.proofs.fits.tree_misfit_of.Goals as goal

pub returns-in-Ok : goal.returns-in-Ok
returns-in-Ok c =
    let f = misfit_at c.args.columns c.args.rows in
    sym (pass_none f 0 (nodes (plain c.args.tree.now)) _ (sym c.pass.ensures ∙ c.in-Ok.is))

pub returns-in-Err : goal.returns-in-Err
returns-in-Err c =
    let f = misfit_at c.args.columns c.args.rows in
    sym (pass_some f 0 (nodes (plain c.args.tree.now)) c.in-Err.shape (sym c.pass.ensures ∙ c.in-Err.is))
