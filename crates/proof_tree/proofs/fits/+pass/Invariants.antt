use Rattle.proof_tree.specs.LabelledTrees.{depth}
use Rattle.proof_tree.specs.Trees.{plain}
use Rattle.proof_tree.proofs.fits.+pass.Given as goal

abbrev pub decreases-pass : goal.decreases-pass
decreases-pass l = depth (plain l.tree.now)
