use Rattle.std.proofs.Common.{◌∙◌, sym}
use Rattle.proof_tree.proofs.WithinLaws.{misfits_are_true}
use Rattle.proof_tree.proofs.fits.fits_model.Goals as goal

pub returns-in-None-clause-tree : goal.returns-in-None-clause-tree
returns-in-None-clause-tree c = (misfits_are_true c.args.model.now c.args.proof.now (sym c.first_misfit.ensures ∙ c.in-None.is)).1
