use Rattle.std.proofs.Common.{arith, ◌≡◌, ◌∙◌, sym, ap, refl, pos, Err, ℕ, length, Result}
use Rattle.std.proofs.lemmas.List.{get_or_read_under}
use Rattle.frac128.specs.Fractions.{Fraction, quotient_of, whole}
use Rattle.frac128.specs.declared.fraction.Wide.{Wide}
use Rattle.tableau.specs.Tables.{at}
use Rattle.tableau.proofs.ListLaws.{all_below-ok, all_below-wide, is_wide}
use Rattle.tableau.proofs.pivots.divide_row.Goals as goal

pub returns-in-Err-clause-wide : goal.returns-in-Err-clause-wide
returns-in-Err-clause-wide c =
    let row = c.args.row.now in
    let w = c.loop-w.w in
    let f : ℕ → Result Fraction Wide = λ w. quotient_of (at row w) c.args.pivot in
    let read = get_or_read_under row w (length row) c.index-row-w.result (whole (pos 0)) c.index-row-w.is c.loop-w-test.true refl in
    let step : f w ≡ Err (record {}) = ap (λ x. quotient_of x c.args.pivot) (sym read) ∙ sym c.div.ensures.exact
    ∙ is_wide c.div.result c.in-Err.field-0 c.in-Err.is in
    all_below-wide (length row) f w c.loop-w-test.true step

pub returns-clause-quotients : goal.returns-clause-quotients
returns-clause-quotients c = all_below-ok (length c.args.row.now) (λ w. quotient_of (at c.args.row.now w) c.args.pivot) c.loop-w.into
    (whole (pos 0)) c.loop-w.invariant.size (λ w l. c.loop-w.invariant.made w (omega arith))
