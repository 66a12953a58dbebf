-- The printed text of a row sweep: a line for each piece, in order.
use Rattle.std.specs.Prelude.{ℕ, List, ◌++◌, codes, decimal, flat_map, Option, Some, None, ℤ}
use Rattle.ip_defs.specs.declared.programs.Parts.{Parts}
use Rattle.mps_defs.specs.CanonicalText.{newline, value_text}
use Rattle.sweep_proof.specs.RowRules.{claimed_cost}
use Rattle.sweep_proof.specs.declared.row_sweeps.RowPiece.{RowPiece}

-- the optimal value at the steps of a piece, with the decimals of the costs, or that no point is feasible
abbrev pub claim_text : Parts → Option ℤ → List ℕ
claim_text m (Some w) = codes "value " ++ value_text m w
claim_text m None = codes "empty"

-- the first and the last step of a piece, and the value at each of its steps
abbrev pub piece_line : Parts → RowPiece → List ℕ
piece_line m p =
    codes "piece " ++ decimal p.from ++ codes " " ++ decimal p.to ++ codes " " ++ claim_text m (claimed_cost m p.claim) ++ newline

abbrev pub row_sweep_lines : Parts → List RowPiece → List ℕ
row_sweep_lines m ps = flat_map (piece_line m) ps
