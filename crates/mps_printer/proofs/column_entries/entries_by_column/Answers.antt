use Rattle.std.proofs.Common.{◌≡◌, ◌<◌, ◌∙◌, ◌+◌, ◌++◌, add-one, ap, arith, length, refl, sym, take, List}
use Rattle.std.specs.Prelude.{Some, slice_get}
use Rattle.std.proofs.lemmas.Option.{slice_get_read}
use Rattle.ip_defs.specs.declared.programs.Row.{Row}
use Rattle.mps_printer.specs.Internal.Entries.{column_entries, listed_for}
use Rattle.mps_printer.proofs.EntryLaws.{entries_more}
use Rattle.mps_printer.proofs.column_entries.entries_by_column.Goals as goal

pub loop-i-preserved : goal.loop-i-preserved
loop-i-preserved c =
    let rows = c.args.parts.now.rows in
    let columns = c.args.parts.now.columns in
    let i = c.loop-i.i in
    let row = c.row-item.result in
    let these = c.as_slice-row-items.result.now in
    let read : slice_get these i ≡ Some row = slice_get_read these (length these) i row refl c.loop-i-test.true c.row-item.is in
    let found : slice_get rows i ≡ Some row = ap (λ (rs : List Row). slice_get rs i) (sym c.as_slice-row-items.ensures) ∙ read in
    let size : length c.loop-i.lists.items ≡ length columns = c.loop-i.invariant.size in
    let coefs = c.as_slice-in-loop-i.result.now in
    let first : 0 + i ≡ i = omega arith in
    record {
      size = c.in_ok-push_row.ensures.length ∙ size;
      lists = λ j l.
          let within : j < length c.loop-i.lists.items = omega arith in
          let before = column_entries j 0 (take i rows) in
          rw add-one (c.in_ok-push_row.ensures.lists j within
          ∙ ap (λ es. es ++ listed_for j i coefs) (c.loop-i.invariant.lists j l)
          ∙ ap (λ ps. before ++ listed_for j i ps) c.as_slice-in-loop-i.ensures
          ∙ ap (λ n. before ++ listed_for j n row.coefs) (sym first)
          ∙ sym (entries_more j 0 rows i row found));
    }
