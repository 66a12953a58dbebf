use Rattle.std.proofs.Common.{◌≡◌, ◌+◌, ◌-◌, ◌≤◌, length}
use Rattle.simplex_laws.specs.Laws.{IsTableOf}
use Rattle.simplex_laws.specs.Runs.{IsReached}
use Rattle.simplex_exact.proofs.solving.solve.Given as goal

abbrev pub invariant-loop-next : goal.invariant-loop-next
invariant-loop-next g l = record {
  within : l.taken ≤ l.pivots;
  steps : l.steps ≡ l.fn.steps + l.taken;
  reached : IsReached l.model l.area l.taken l.tableau;
  node : IsTableOf l.model l.area l.tableau;
  basic_rows : length l.basic_rows.items ≡ length l.tableau.variables;
  values : length l.values.items ≡ length l.tableau.variables;
}

abbrev pub decreases-loop-next : goal.decreases-loop-next
decreases-loop-next g l = l.pivots - l.taken
