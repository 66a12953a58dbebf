use Rattle.std.proofs.Common.{◌≡◌, length}
use Rattle.tree_checker.specs.Internal.Descents.{IsDescent, settled}
use Rattle.tree_checker.proofs.descents.Descent.settle.Given as goal

abbrev pub invariant-loop-cut : goal.invariant-loop-cut
invariant-loop-cut l = record {
  sound : IsDescent l.columns l.self;
  settled : settled l.self ≡ settled l.initial.self;
}

abbrev pub decreases-loop-cut : goal.decreases-loop-cut
decreases-loop-cut l = length l.self.cuts
