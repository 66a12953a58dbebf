-- The node allowance of a program is one that a search takes.
use Rattle.std.specs.Prelude.{ℕ, ◌+◌, ◌/◌, ◌^◌, ◌≤◌, length}
use Rattle.std.proofs.Common.{arith}
use Rattle.std.proofs.lemmas.Nat.{le-div}
use Rattle.ip_defs.specs.declared.programs.Parts.{Parts}
use Rattle.ip_defs.specs.Limits.{IsWithinLimits}
use Rattle.ip_model.specs.Sizes.{allowance}

-- where at least one node is asked for, and not more than a tree may have
pub allowance_fits : (m : Parts) (nodes : ℕ) → IsWithinLimits m → 1 ≤ nodes → nodes ≤ 1000000 → (1 ≤ allowance m nodes)
    × (allowance m nodes ≤ allowance m 1000000)
allowance_fits m nodes limits some few =
    let size : ℕ = length m.columns + length m.rows + 1 in
    let columns = limits.column_count in
    let rows = limits.row_count in
    let one : 1 ≤ 2 ^ 24 / size = le-div 1 (2 ^ 24) size (omega arith) (omega arith) in
    (omega arith, omega arith)
