-- The printed text of a row sweep that stops before it is answered.
use Rattle.std.specs.Prelude.{ℕ, ◌≤◌, List, [], ◌++◌, codes, decimal}
use Rattle.mps_defs.specs.CanonicalText.{newline}
use Rattle.open_nodes.specs.OpenTrees.{plain_open}
use Rattle.open_nodes.specs.declared.open_trees.OpenTree.{OpenTree}
use Rattle.proof_tree.specs.LabelledTrees.{node_count}
use Rattle.rhs_sweep.specs.declared.stops.RowStop.{RowStop}
use Rattle.rhs_sweep.specs.declared.stops.RowStop.TheVariants.{Budget, Solves, Memory}
use Rattle.sens_report.specs.AnswerTexts.{limit_word}

-- how many nodes a tree has that is still being grown
abbrev pub grown_count : OpenTree → ℕ
grown_count t = node_count (plain_open t)

-- the limit at which a solve stopped, and the nodes of the tree that it has grown; or that no further solve may be made, and how many
-- were. No line is printed for want of memory
abbrev pub row_stop_lines : RowStop → List ℕ
row_stop_lines (Budget what p q grown best nodes made) =
    codes "budget " ++ limit_word what ++ newline ++ codes "nodes " ++ decimal (grown_count grown) ++ newline
row_stop_lines (Solves p q made) = codes "budget solves" ++ newline ++ codes "solves 10000" ++ newline
row_stop_lines Memory = []

-- the tree that a solve has grown is within the limit of nodes
abbrev pub IsStopWithin : RowStop → Type 0
IsStopWithin (Budget what p q grown best nodes made) = grown_count grown ≤ 1000000
IsStopWithin (Solves p q made) = Unit {0}
IsStopWithin Memory = Unit {0}
