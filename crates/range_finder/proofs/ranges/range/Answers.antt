use Rattle.proof_tree.specs.Trees.{plain}
use Rattle.range_finder.specs.Aims.{plain_aim}
use Rattle.range_finder.proofs.EndLaws.{range_holds}
use Rattle.range_finder.proofs.ranges.range.Goals as goal

pub returns-clause-holds : goal.returns-clause-holds
returns-clause-holds c =
    range_holds c.args.model.now (plain c.args.tree.now) c.args.place (plain_aim c.args.aim) c.range_of.result c.requires.fits.columns
    c.range_of.ensures.range
