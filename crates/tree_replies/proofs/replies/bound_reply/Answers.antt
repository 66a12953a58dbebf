use Rattle.tree_replies.proofs.ReplyLaws.{fits_edited, walk_edited, walk_unedited}
use Rattle.tree_replies.proofs.replies.bound_reply.Goals as goal

pub tree_bound-requires-clause-fits : goal.tree_bound-requires-clause-fits
tree_bound-requires-clause-fits c =
    fits_edited c.args.model.now c.in-Ok.edited c.args.edits.now _ c.in-Ok.ensures c.requires.fits

pub tree_bound-requires-clause-scratch : goal.tree_bound-requires-clause-scratch
tree_bound-requires-clause-scratch c =
    walk_edited c.args.model.now c.in-Ok.edited c.args.edits.now _ c.in-Ok.ensures c.requires.scratch

pub returns-in-Ok-clause-scratch : goal.returns-in-Ok-clause-scratch
returns-in-Ok-clause-scratch c =
    walk_unedited c.args.model.now c.in-Ok.edited c.args.edits.now _ c.in-Ok.ensures c.tree_bound.ensures.scratch
