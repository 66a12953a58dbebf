use Rattle.std.proofs.Common.{◌<◌, ◌≤◌, ◌-◌, length}
use Rattle.proof_tree.specs.Scratches.{FitsWalk}
use Rattle.range_finder.specs.Internal.Asked.{IsGood, steps_by}
use Rattle.range_finder.proofs.ends.last_good.Given as goal

abbrev pub invariant-loop-bad : goal.invariant-loop-bad
invariant-loop-bad l = record {
  apart : l.good < l.bad;
  within : l.bad ≤ l.to;
  good : IsGood l.asked (steps_by l.up l.good);
  bad : ¬ IsGood l.asked (steps_by l.up l.bad);
  scratch : FitsWalk (length l.asked.model.now.columns) l.scratch;
}

abbrev pub decreases-loop-bad : goal.decreases-loop-bad
decreases-loop-bad l = l.bad - l.good
