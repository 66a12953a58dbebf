use Rattle.std.specs.Prelude.{string_bytes}
use Rattle.mps_printer.specs.Internal.Sections.{part_lines}
use Rattle.mps_printer.proofs.LineLaws.{lines_added, lines_complete}
use Rattle.mps_printer.proofs.rows.push_parts.Goals as goal

pub loop-row-preserved : goal.loop-row-preserved
loop-row-preserved c =
    lines_added (part_lines c.args.part) (string_bytes c.args.text.now) c.args.rows.now c.loop-row.row-index _ c.loop-row-test.true
    c.row-item.is c.loop-row.invariant c.in_ok-push_part.ensures

pub returns : goal.returns
returns c =
    lines_complete (part_lines c.args.part) (string_bytes c.args.text.now) c.args.rows.now c.loop-row.row-index c.loop-row-test.false
    c.loop-row.invariant
