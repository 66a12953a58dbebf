use Rattle.std.proofs.Common.{arith, ◌≡◌, ◌∙◌, sym, ap, Ok, Err, ℕ, length, Result, List, [], length-set, slice_set}
use Rattle.std.proofs.lemmas.List.{get_or_default, get_or-set_same, get_or-set_other}
use Rattle.frac128.specs.Fractions.{Fraction, quotient_of}
use Rattle.frac128.specs.declared.fraction.Wide.{Wide}
use Rattle.tableau.specs.Tables.{at, line, entry}
use Rattle.tableau.specs.Pivots.{all_below}
use Rattle.tableau.specs.Internal.Changes.{AreLessened, HasWideRow}
use Rattle.tableau.proofs.RowLaws.{wide_pivot_row, wide_other_row, new_rows-are}
use Rattle.tableau.proofs.pivots.pivot_rows.Goals as goal

-- the new pivot row from the row and the pivot that were read
made_of : (n : ℕ) (rows : List (List Fraction)) (r v : ℕ) (s : List Fraction) (p : Fraction) (o : Result (List Fraction) Wide) →
    s ≡ line rows r → p ≡ at s v → length (line rows r) ≡ n → all_below (length s) (λ w. quotient_of (at s w) p) ≡ o →
    all_below n (λ w. quotient_of (entry rows r w) (entry rows r v)) ≡ o
made_of n rows r v s p o e f size h =
    ap (λ k. all_below k (λ w. quotient_of (entry rows r w) (entry rows r v))) (sym size)
    ∙ ap (λ (z : List Fraction). all_below (length z) (λ w. quotient_of (at z w) (at z v))) (sym e)
    ∙ ap (λ (z : Fraction). all_below (length s) (λ w. quotient_of (at s w) z)) (sym f) ∙ h

pub returns-in-Err-clause-wide : goal.returns-in-Err-clause-wide
returns-in-Err-clause-wide c =
    let n = length c.args.quotients.now in
    let rows = c.args.rows.now in
    let r = c.args.row in
    let v = c.args.var in
    let read = get_or_default rows r c.index-rows-row.result [] c.requires.row in
    let row_is = c.as_slice.ensures ∙ read in
    let made = made_of n rows r v c.as_slice.result.now c.at.result (Err (record {})) row_is (c.at.ensures
    ∙ ap (λ (z : List Fraction). at z v) (sym c.as_slice.ensures)) (c.requires.rows.size r c.requires.row) c.in-Err.ensures.wide in
    wide_pivot_row n rows r v c.requires.rows c.requires.row c.requires.variable c.requires.pivot made

pub returns-in-Err-lessen_rows-clause-wide : goal.returns-in-Err-lessen_rows-clause-wide
returns-in-Err-lessen_rows-clause-wide c =
    let rows = c.args.rows.now in
    let g = c.divide_row.new.into in
    let row_is = c.as_slice.ensures ∙ get_or_default rows c.args.row c.index-rows-row.result [] c.requires.row in
    let made = made_of (length c.args.quotients.now) rows c.args.row c.args.var c.as_slice.result.now c.at.result (Ok g) row_is
    (c.at.ensures ∙ ap (λ (z : List Fraction). at z c.args.var) (sym c.as_slice.ensures))
    (c.requires.rows.size c.args.row c.requires.row) c.in-Ok.ensures.quotients in
    let wide : HasWideRow rows c.args.row c.args.var g = rw (c.as_slice-2.ensures) at c.in-Err-lessen_rows.ensures.wide in
    wide_other_row (length c.args.quotients.now) rows c.args.row c.args.var c.requires.rows c.requires.row c.requires.variable
    c.requires.pivot g made wide

pub returns-clause-pivoted : goal.returns-clause-pivoted
returns-clause-pivoted c =
    let n = length c.args.quotients.now in
    let rows = c.args.rows.now in
    let r = c.args.row in
    let v = c.args.var in
    let g = c.divide_row.new.into in
    let spare = c.lessen_rows.new.spare in
    let after = c.exchange_rows.new.rows in
    let read = get_or_default rows r c.index-rows-row.result [] c.requires.row in
    let row_is = c.as_slice.ensures ∙ read in
    let made = made_of n rows r v c.as_slice.result.now c.at.result (Ok g) row_is (c.at.ensures
    ∙ ap (λ (z : List Fraction). at z v) (sym c.as_slice.ensures)) (c.requires.rows.size r c.requires.row)
    c.in-Ok.ensures.quotients in
    let lessened : AreLessened rows r v g spare = rw (c.as_slice-2.ensures) at c.in-Ok-lessen_rows.ensures.lessened in
    let count = c.exchange_rows.ensures.count in
    new_rows-are n rows r v c.requires.rows c.requires.row c.requires.variable c.requires.pivot g made spare
    (slice_set after r c.swap.new.x) lessened
    (length-set after r c.swap.new.x ∙ count)
    (get_or-set_same after r c.swap.new.x [] (let l = c.requires.row in omega arith) ∙ c.swap.ensures.x_after)
    (λ i l apart. get_or-set_other after r i c.swap.new.x [] apart ∙ c.exchange_rows.ensures.rows i l)
