use Rattle.std.proofs.Common.{arith, sym, ap, ◌∙◌, ◌++◌, ◌+◌, drop, map}
use Rattle.std.specs.Prelude.{string_bytes}
use Rattle.mps_reader.specs.Internal.Clamps.{clamped_row}
use Rattle.mps_reader.specs.Internal.Drafted.{drafted_row, drafted_rows}
use Rattle.mps_reader.proofs.ModelListLaws.{rows_take, rows_skip, drop_read, drop_mapped}
use Rattle.mps_reader.proofs.row_list.row_list.Goals as goal
use Rattle.mps_reader.proofs.row_list.row_list.Goals.{then-not-is_free+in_ok-row_of+in_ok-push, else-not-is_free}

pub loop-i-preserved : goal.loop-i-preserved
loop-i-preserved c =
    let how = c.args.how in
    let i = c.loop-i.i in
    let names = map string_bytes c.args.names.now in
    let rows = c.args.rows.now in
    let row = c.index-rows-i.result in
    let listed = drop_read rows i row c.loop-i-test.true c.index-rows-i.is in
    let rest = map clamped_row (drafted_rows how (drop (i + 1) names) (drop (i + 1) rows)) in
    let named =
    drop_mapped string_bytes c.args.names.now i c.index-names-i.result
    (let same = c.requires.names in let inside = c.loop-i-test.true in omega arith) c.index-names-i.is in
    let name = string_bytes c.index-names-i.result in
    let done = c.loop-i.list.items in
    elim c.if-not-is_free.branch [
      | then-not-is_free+in_ok-row_of+in_ok-push w ↦
          ap (λ v. v.items ++ rest) w.list-is ∙ ap (λ l. l ++ rest) w.in_ok-push.ensures.items
          ∙ rows_take how (drop i names) (drop (i + 1) names) (drop i rows)
          (drop (i + 1) rows) name row done w.in_ok-row_of.field-0 named listed (sym c.is_free.ensures ∙ w.if-not-is_free.true)
          (w.in_ok-row_of.ensures ∙ ap (λ n. clamped_row (drafted_row how n row)) c.as_str-name.ensures.value)
          ∙ c.loop-i.invariant
      | else-not-is_free w ↦
          ap (λ v. v.items ++ rest) w.list-is
          ∙ rows_skip how (drop i names) (drop (i + 1) names) (drop i rows) (drop (i + 1) rows) name row done named listed
          (sym c.is_free.ensures ∙ w.if-not-is_free.false)
          ∙ c.loop-i.invariant
    ]
