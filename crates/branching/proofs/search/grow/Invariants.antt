use Rattle.branching.proofs.LoopLaws.{GoesOn}
use Rattle.branching.specs.Internal.Growth.{rounds_left}
use Rattle.branching.proofs.search.grow.Given as goal

abbrev pub invariant-rounds : goal.invariant-rounds
invariant-rounds g l = GoesOn l.model l.limits l.fn.search l.search l.fn.steps l.steps

abbrev pub decreases-rounds : goal.decreases-rounds
decreases-rounds g l = rounds_left l.limits l.search.open
