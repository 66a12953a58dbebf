use Rattle.std.proofs.Common.{arith, ◌+◌}
use Rattle.tableau.proofs.ListLaws.{listed-push}
use Rattle.tableau.proofs.starts.start_basics.Goals as goal

pub loop-k-preserved : goal.loop-k-preserved
loop-k-preserved c = listed-push c.loop-k.k (λ k. c.args.columns + k) _ c.loop-k.basics.items c.push.new.self.items
    c.in_ok-push.ensures.items c.loop-k.invariant (omega arith)
