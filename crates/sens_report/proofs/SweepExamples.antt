-- Printed texts of row sweeps, computed.
use Rattle.std.specs.Prelude.{◌≡◌, ℕ, List, [], ◌∷◌, Some, None, codes, refl, ℤ, pos, negsuc, map}
use Rattle.std.specs.Fmt.{digits}
use Rattle.branching.specs.declared.budgets.BudgetWhat.TheVariants.{Nodes, Depth}
use Rattle.ip_defs.specs.declared.certificates.Bound.TheVariants.{At, Infinite}
use Rattle.ip_defs.specs.declared.programs.Breach.TheVariants.{Column, Row}
use Rattle.ip_defs.specs.declared.programs.Parts.{Parts}
use Rattle.open_nodes.specs.declared.open_trees.OpenTree.{Pending}
use Rattle.proof_tree.specs.declared.claims.Claim.{Claim}
use Rattle.proof_tree.specs.declared.claims.Claim.TheVariants.{Best, Empty}
use Rattle.proof_tree.specs.declared.trees.Tree.{Leaf}
use Rattle.rhs_sweep.specs.declared.stops.RowStop.TheVariants as Stops
use Rattle.sens_report.specs.StopTexts.{row_stop_lines}
use Rattle.sens_report.specs.SweepTexts.{row_sweep_lines}
use Rattle.sens_report.specs.SweepVerdictTexts.{sweep_verdict_line}
use Rattle.sweep_proof.specs.declared.row_sweeps.RowPiece.{RowPiece}
use Rattle.sweep_proof.specs.declared.verdicts.SweepVerdict.{SweepVerdict}
use Rattle.sweep_proof.specs.declared.verdicts.SweepVerdict.TheVariants.{Proved, Cover, Breach, Fall, Meet, Short}

-- least `cost` x for x from 0 to 3, where 2x is at most 1; with decimals of the cost
abbrev program : ℤ → ℕ → Parts
program cost' decimals' = record {
  objective = codes "cost";
  cost_decimals = decimals';
  constant = pos 0;
  columns = record { name = codes "x"; cost = cost'; lo = pos 0; hi = pos 3 } ∷ [];
  rows = record { name = codes "r1"; decimals = 0; coefs = (0, pos 2) ∷ []; low = None; high = Some (pos 1) } ∷ [];
}

abbrev piece : ℕ → ℕ → Claim → RowPiece
piece from' to' claim' = record { from = from'; to = to'; claim = claim'; tree = Leaf (record { q = pos 1; y = [] }) }

abbrev point : ℤ → Claim
point x = Best (x ∷ [])

-- ---- sweeps

pub four_pieces : row_sweep_lines (program (negsuc 0) 0)
    (piece 0 0 (point (pos 0)) ∷ piece 1 2 (point (pos 1)) ∷ piece 3 4 (point (pos 2)) ∷ piece 5 8 (point (pos 3)) ∷ [])
    ≡ codes "piece 0 0 value 0\npiece 1 2 value -1\npiece 3 4 value -2\npiece 5 8 value -3\n"
unfolding digits
four_pieces = refl

-- values have the decimals of the costs
pub none_first : row_sweep_lines (program (negsuc 24) 1) (piece 0 9 Empty ∷ piece 10 10 (point (pos 1)) ∷ [])
    ≡ codes "piece 0 9 empty\npiece 10 10 value -2.5\n"
unfolding digits
none_first = refl

-- ---- verdicts: pieces count from 1, and numbers have no decimals

abbrev PrintedAs : List (SweepVerdict × List ℕ) → Type 0
PrintedAs cases = map (λ c. sweep_verdict_line (program (negsuc 0) 1) c.0) cases ≡ map (λ c. c.1) cases

pub verdicts : PrintedAs (
    (Proved, codes "proved\n")
    ∷ (Cover 1, codes "not proved piece 2 cover\n")
    ∷ (Breach 0 (Row 0), codes "not proved piece 1 row r1\n")
    ∷ (Breach 2 (Column 0), codes "not proved piece 3 column x\n")
    ∷ (Fall 9 (negsuc 24) (pos 0), codes "not proved piece 10 fall -25 0\n")
    ∷ (Meet 0 (pos 1) (pos 0), codes "not proved piece 1 meet 1 0\n")
    ∷ (Short 0 (At (negsuc 0)) (Some (pos 0)), codes "not proved piece 1 short -1 0\n")
    ∷ (Short 0 (At (pos 15)) None, codes "not proved piece 1 short 15 empty\n")
    ∷ (Short 1 Infinite (Some (pos 2)), codes "not proved piece 2 short empty 2\n")
    ∷ [])
unfolding digits
verdicts = refl

-- ---- stops

pub nothing_left : row_stop_lines (Stops.Budget Nodes (pos 4) (pos 1) Pending None 0 []) ≡ codes "budget nodes\nnodes 1\n"
unfolding digits
nothing_left = refl

pub too_deep : row_stop_lines (Stops.Budget Depth (pos 4) (pos 1) Pending None 5 []) ≡ codes "budget depth\nnodes 1\n"
unfolding digits
too_deep = refl

pub most_solves : row_stop_lines (Stops.Solves (pos 4) (pos 1) []) ≡ codes "budget solves\nsolves 10000\n"
most_solves = refl
