use Rattle.std.proofs.Common.{◌≡◌, ◌<◌, ℕ, take, length}
use Rattle.ip_defs.specs.Program.{at}
use Rattle.leaf_cert.specs.Columns.{taken_of}
use Rattle.leaf_cert.proofs.columns.take_rows.Given as goal

abbrev pub invariant-loop-row : goal.invariant-loop-row
invariant-loop-row l = (j : ℕ) → j < length l.taken → at l.taken j ≡ taken_of l.parts.rows (take l.row-index l.y) j
