use Rattle.std.proofs.Common.{arith}
use Rattle.tree_checker.proofs.LeafLaws.{none_for_many}
use Rattle.tree_checker.proofs.blanks.Blanks.bound.Goals as goal

pub returns-then-y-len-clause-bound : goal.returns-then-y-len-clause-bound
returns-then-y-len-clause-bound c =
    none_for_many c.args.model.now c.args.area.now (record { q = c.args.q; y = c.args.y.now })
    (let many = c.if-y-len.true in let room = c.requires.rows in let is = c.self.view_is in let some = c.self.invariant.0 in omega arith)
