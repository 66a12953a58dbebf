use Rattle.std.proofs.Common.{◌≡◌, arith, length}
use Rattle.std.proofs.lemmas.Bool.{eq-eqb}
use Rattle.std.proofs.lemmas.List.{length-map}
use Rattle.mps_reader.proofs.TableLaws.{words}
use Rattle.mps_reader.proofs.ColumnLineLaws.{marker_line}
use Rattle.mps_reader.proofs.columns.take_marker_line.Goals as goal

pub returns-in-len3 : goal.returns-in-len3
returns-in-len3 c before h there has_rows marker =
    let fields = c.args.fields.now in
    let size = length-map fields (λ f. f.now) in
    let low = c.in-len3.len_at_least in
    let high = c.in-len3.len_below in
    let three : length (words fields) ≡ 3 = omega arith in
    marker_line before c.args.draft.now c.args.line fields _ c.take_marker.new.columns c.take_marker.result
    (eq-eqb (length (words fields)) 3 three) (omega arith) h there has_rows marker c.take_marker.ensures
