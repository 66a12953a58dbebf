use Rattle.tree_format.proofs.PendingLaws.{unused_all}
use Rattle.tree_format.proofs.pending.Pending.is_empty.Goals as goal

pub returns : goal.returns
returns c = unused_all c.self.inside.unused c.self.inside.levels.items c.args.self.now c.self.view_is c.self.invariant.0 c.self.invariant.1
