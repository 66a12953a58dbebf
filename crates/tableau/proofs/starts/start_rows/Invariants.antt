use Rattle.std.proofs.Common.{◌≡◌, ◌+◌, length}
use Rattle.tableau.specs.Nodes.{listed, start_entry}
use Rattle.tableau.proofs.starts.start_rows.Given as goal

abbrev pub invariant-loop-k : goal.invariant-loop-k
invariant-loop-k l = l.lines.items ≡ listed l.k (λ k. listed (length l.parts.columns + length l.parts.rows) (start_entry l.parts k))
