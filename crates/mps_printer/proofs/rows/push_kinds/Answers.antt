use Rattle.std.specs.Prelude.{[], ◌∷◌, ◌++◌, string_bytes}
use Rattle.std.proofs.Common.{◌∙◌, ap}
use Rattle.std.proofs.lemmas.List.Concat.{flat_map_single}
use Rattle.mps_printer.specs.Internal.Sections.{kind_line, lines_text}
use Rattle.mps_printer.proofs.LineLaws.{one_line, lines_added, lines_complete}
use Rattle.mps_printer.proofs.rows.push_kinds.Goals as goal

pub loop-row-preserved : goal.loop-row-preserved
loop-row-preserved c =
    lines_added (λ r. kind_line r ∷ [])
    (string_bytes c.args.text.now) c.args.rows.now c.loop-row.row-index _ c.loop-row-test.true c.row-item.is
    c.loop-row.invariant
    (c.in_ok-push_kind.ensures ∙ one_line (string_bytes c.loop-row.text) (kind_line c.row-item.result))

pub returns : goal.returns
returns c =
    let rows = c.args.rows.now in
    lines_complete (λ r. kind_line r ∷ [])
    (string_bytes c.args.text.now) rows c.loop-row.row-index c.loop-row-test.false c.loop-row.invariant
    ∙ ap (λ lines. string_bytes c.args.text.now ++ lines_text lines) (flat_map_single kind_line rows)
