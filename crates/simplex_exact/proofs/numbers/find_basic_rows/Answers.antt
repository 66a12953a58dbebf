use Rattle.std.proofs.Common.{arith, ◌≡◌, ◌<◌, ◌∙◌, sym, ap, length, ℕ, List, Option, slice_index_or, None, get_or}
use Rattle.simplex_exact.proofs.ScanLaws.{row_step, placed_here, placed_there, kept_here}
use Rattle.simplex_exact.proofs.numbers.find_basic_rows.Goals.{then-is_none, else-is_none}
use Rattle.simplex_exact.proofs.numbers.find_basic_rows.Goals as goal

pub loop-row-preserved : goal.loop-row-preserved
loop-row-preserved c = λ v h.
    let T = c.args.tableau.now in
    let row = c.loop-row.row in
    let basic = c.basic-basic.result in
    let basic_rows = c.loop-row.basic_rows in
    let is : basic ≡ get_or T.basics row 0 = c.basic-basic.ensures.basic in
    let size = c.requires.table.basics in
    let inside : row < length T.basics = omega arith in
    let range : basic < length basic_rows = omega arith in
    row_step basic_rows c.if-is_none.basic_rows T.basics row v inside (c.loop-row.invariant v h)
    (λ e. elim c.if-is_none.branch [
      | then-is_none w ↦ placed_here basic_rows c.if-is_none.basic_rows basic row v w.basic_rows-is range
          w.if-is_none.ensures (is ∙ e)
      | else-is_none w ↦ kept_here basic_rows c.if-is_none.basic_rows basic row v w.basic_rows-is w.if-is_none.ensures
          (is ∙ e)
    ])
    (λ n. elim c.if-is_none.branch [
      | then-is_none w ↦ placed_there basic_rows c.if-is_none.basic_rows basic row v w.basic_rows-is (λ e. n (sym is ∙ e))
      | else-is_none w ↦ ap (λ (xs : List (Option ℕ)). slice_index_or xs v None) w.basic_rows-is
    ])
