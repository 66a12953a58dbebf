use Rattle.std.proofs.Common.{arith, ◌≡◌, ◌≢◌, ◌<◌, ◌++◌, ◌∙◌, sym, ap, subst, ℕ, length, take, drop, List, Ok, pos}
use Rattle.std.proofs.Math.Seq.{take-append_seam}
use Rattle.std.proofs.lemmas.List.{get_or_default}
use Rattle.frac128.specs.Fractions.{Fraction}
use Rattle.tableau.specs.Tables.{Table, table_of, basic_at, entry, IsTable, AreSpareLines}
use Rattle.tableau.specs.Pivots.{new_rows}
use Rattle.tableau.proofs.EntryLaws.{count}
use Rattle.tableau.proofs.TableLaws.{with_rows, with_rows-table}
use Rattle.tableau.proofs.tables.Tableau.exchange.Goals as goal

take_whole : {A : Type 0} (xs ys : List A) (n : ℕ) → length xs ≡ n → take n (xs ++ ys) ≡ xs
take_whole xs ys n e = ap (λ k. take k (xs ++ ys)) (sym e) ∙ take-append_seam xs ys

pub invariant_of-self-2 : goal.invariant_of-self-2
invariant_of-self-2 c =
    let new = c.pivot_rows-pivoted.new.rows in
    let spare = c.pivot_rows-pivoted.new.spare in
    let inside = c.self.inside in
    let r = c.args.row in
    let v = c.args.var in
    let n = length inside.variables.items in
    let T = table_of inside.rows.items inside.basics.items inside.positions.items inside.variables.items in
    let table : IsTable T = c.self.invariant.0 in
    let lines = c.self.invariant.1 in
    let row : r < length inside.rows.items = subst (λ (t : Table). r < length t.rows) (sym c.self.view_is) c.requires.row in
    let var : v < n = subst (λ (t : Table). v < length t.variables) (sym c.self.view_is) c.requires.variable in
    let pivot : (entry inside.rows.items r v).num ≢ pos 0 =
    subst (λ (t : Table). (entry t.rows r v).num ≢ pos 0) (sym c.self.view_is) c.requires.pivot in
    let left_is : c.index-left.result.now ≡ basic_at inside.basics.items r = c.index-left.ensures
    ∙ get_or_default inside.basics.items r c.index-left.result.now 0 (let e = table.basics in omega arith) in
    let made : new_rows n inside.rows.items r v ≡ Ok new =
    ap (λ k. new_rows k inside.rows.items r v) (sym lines.quotients)
    ∙ ap (λ (z : List (List Fraction)). new_rows (length inside.quotients) z r v) (sym c.as_mut_slice.ensures.value)
    ∙ c.in-Ok.ensures.pivoted in
    let same = count n inside.rows.items r v table.rows row var pivot new made in
    let kept = c.in-Ok.ensures.spare in
    let rows_is : take inside.rows.len (new ++ drop (length new) inside.rows.items) ≡ new =
    take_whole new (drop (length new) inside.rows.items) inside.rows.len (let e = c.as_mut_slice.ensures.len in omega arith) in
    let spare_is : take inside.spare.len (spare ++ drop (length spare) inside.spare.items) ≡ spare =
    take_whole spare (drop (length spare) inside.spare.items) inside.spare.len (let e = c.as_mut_slice-2.ensures.len in
    let f = kept.lines in let g = lines.lines in omega arith) in
    let after : IsTable (with_rows T r v c.args.leaving new) = with_rows-table T r v c.args.leaving table row var pivot new made in
    let kept' : AreSpareLines (length new) n spare c.pivot_rows-pivoted.new.quotients =
    subst (λ k. AreSpareLines (length new) k spare c.pivot_rows-pivoted.new.quotients) lines.quotients kept in
    rw (rows_is, spare_is, left_is) (after, kept')
