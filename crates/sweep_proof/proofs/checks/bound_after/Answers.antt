use Rattle.proof_tree.specs.Trees.{plain}
use Rattle.sweep_proof.proofs.DirectionLaws.{fits_step, walk_back, walk_step}
use Rattle.sweep_proof.proofs.checks.bound_after.Goals as goal

pub tree_bound-requires-clause-fits : goal.tree_bound-requires-clause-fits
tree_bound-requires-clause-fits c = fits_step c.args.model.now c.args.dir.now _ c.in_ok-last.last
    (plain c.args.piece.now.tree) c.in_ok-last.ensures c.requires.fits.tree

pub tree_bound-requires-clause-scratch : goal.tree_bound-requires-clause-scratch
tree_bound-requires-clause-scratch c =
    walk_step c.args.model.now c.args.dir.now _ c.in_ok-last.last _ c.in_ok-last.ensures c.requires.scratch

pub returns-clause-scratch : goal.returns-clause-scratch
returns-clause-scratch c =
    walk_back c.args.model.now c.args.dir.now _ c.in_ok-last.last _ c.in_ok-last.ensures c.tree_bound.ensures.scratch
