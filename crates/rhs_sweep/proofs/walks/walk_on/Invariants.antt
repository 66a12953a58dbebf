use Rattle.std.specs.Prelude.{◌≤◌}
use Rattle.rhs_sweep.specs.Internal.Walks.{IsWalking, turns_left}
use Rattle.rhs_sweep.proofs.walks.walk_on.Given as goal

abbrev pub invariant-turns : goal.invariant-turns
invariant-turns g l = record {
  walking : IsWalking l.fn.course.model.now l.fn.course.dir.now l.fn.course.limits l.fn.course.steps_to l.walk;
  rises : l.initial.steps ≤ l.steps;
}

abbrev pub decreases-turns : goal.decreases-turns
decreases-turns g l = turns_left l.walk
