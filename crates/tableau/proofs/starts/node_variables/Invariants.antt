use Rattle.std.proofs.Common.{◌≡◌, ◌++◌, map, take}
use Rattle.std.specs.List.{zip}
use Rattle.tableau.specs.Nodes.{column_variable, slack_variable}
use Rattle.tableau.proofs.starts.node_variables.Given as goal

abbrev pub invariant-loop-j : goal.invariant-loop-j
invariant-loop-j l = l.variables.items ≡ map column_variable (take l.j (zip l.columns l.area))

abbrev pub invariant-loop-row : goal.invariant-loop-row
invariant-loop-row l = l.variables.items ≡ map column_variable (zip l.parts.columns l.area)
    ++ map slack_variable (take l.row-index l.row-items)
