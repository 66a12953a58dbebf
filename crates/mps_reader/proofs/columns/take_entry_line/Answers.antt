use Rattle.std.proofs.Common.{sym}
use Rattle.mps_reader.proofs.TakingLaws.{passed_on}
use Rattle.mps_reader.proofs.TableLaws.{words}
use Rattle.mps_reader.proofs.ColumnLineLaws.{split_line, entry_line, word_at, one_or_two, rest_words}
use Rattle.mps_reader.proofs.columns.take_entry_line.Goals as goal

pub returns-in_err-number : goal.returns-in_err-number
returns-in_err-number c before h there has_rows no_bounds plain =
    let a = c.from_residual.ensures in
    let error = c.in_err-number.field-0.0 in
    let is = passed_on c.from_residual.result error _ a.0 a.1 (λ x g. g) in
    let fields = c.args.fields.now in
    let count = one_or_two fields (sym c.if-not-has_entries.ensures) in
    let name = word_at fields 0 _ count.1 in
    split_line before c.args.line (words fields) _ c.open_column.new.columns c.from_residual.result error count.0 has_rows plain is
    (c.in_err-number.ensures before (words fields) h.columns h.bounds no_bounds plain name)

pub returns : goal.returns
returns c before h there has_rows no_bounds plain =
    let fields = c.args.fields.now in
    let count = one_or_two fields (sym c.if-not-has_entries.ensures) in
    let name = word_at fields 0 _ count.1 in
    let opened = c.in_ok-number.ensures before (words fields) h.columns h.bounds no_bounds plain name in
    entry_line before c.args.draft.now c.args.line
    (words fields) _ c.take_entries.new.rows c.open_column.new.columns c.in_ok-number.number c.take_entries.result count.0 h there has_rows
    plain
    (rest_words fields) opened.0 opened.1 c.take_entries.ensures
