-- How many lines a text has.
use Rattle.std.specs.Prelude.{◌≡◌, ℕ, ◌+◌, ◌≤◌, List, length, map}
use Rattle.std.specs.List.{slice_split}
use Rattle.std.proofs.Common.{arith, ap, sym, ◌∙◌}
use Rattle.std.proofs.lemmas.List.{length-map}
use Rattle.std.proofs.lemmas.List.Splits.{length-slice_split}
use Rattle.std.proofs.lemmas.List.Sums.{count_by-le-length}
use Rattle.mps_defs.specs.Records.{is_line_end}

-- a text has at most one line more than it has bytes
pub few_lines : (text : List ℕ) → length (slice_split is_line_end text) ≤ length text + 1
few_lines text = omega (arith, length-slice_split is_line_end text, count_by-le-length is_line_end text)

-- and so has a list of what stands for its lines
pub few_pieces : {X : Type 0} (view : X → List ℕ) (items : List X) (text : List ℕ) → map view items ≡ slice_split is_line_end text
    → length items ≤ length text + 1
few_pieces view items text are =
    let few = few_lines text in
    let count = sym (length-map items view) ∙ ap length are in
    omega (arith, few, count)
