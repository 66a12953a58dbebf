use Rattle.std.proofs.Common.{arith, ◌≡◌, ◌∙◌, sym, ap, refl, pos, Err, ℕ, length, Result}
use Rattle.std.proofs.lemmas.List.{get_or_read_under}
use Rattle.frac128.specs.Fractions.{Fraction, whole}
use Rattle.frac128.specs.declared.fraction.Wide.{Wide}
use Rattle.tableau.specs.Tables.{at}
use Rattle.tableau.specs.Numbers.{less_product}
use Rattle.tableau.proofs.ListLaws.{all_below-ok, all_below-wide, is_wide}
use Rattle.tableau.proofs.pivots.lessen_row.Goals as goal

pub returns-in-Err-clause-wide : goal.returns-in-Err-clause-wide
returns-in-Err-clause-wide c =
    let row = c.args.row.now in
    let quotients = c.args.quotients.now in
    let w = c.loop-w.w in
    let f : ℕ → Result Fraction Wide = λ w. less_product (at row w) c.args.factor (at quotients w) in
    let read = get_or_read_under row w (length row) c.index-row-w.result (whole (pos 0)) c.index-row-w.is c.loop-w-test.true refl in
    let read' = get_or_read_under quotients w (length row) c.index-quotients-w.result (whole (pos 0)) c.index-quotients-w.is
    c.loop-w-test.true (sym c.requires.size) in
    let step : f w ≡ Err (record {}) = ap (λ x. less_product x c.args.factor (at quotients w)) (sym read)
    ∙ ap (less_product c.index-row-w.result c.args.factor) (sym read') ∙ sym c.lessened.ensures.exact
    ∙ is_wide c.lessened.result c.in-Err.field-0 c.in-Err.is in
    all_below-wide (length row) f w c.loop-w-test.true step

pub returns-clause-lessened : goal.returns-clause-lessened
returns-clause-lessened c =
    let row = c.args.row.now in
    all_below-ok (length row) (λ w. less_product (at row w) c.args.factor (at c.args.quotients.now w)) c.loop-w.into (whole (pos 0))
    c.loop-w.invariant.size (λ w l. c.loop-w.invariant.made w (omega arith))
