use Rattle.std.specs.Prelude.{string_bytes}
use Rattle.mps_printer.specs.Internal.Sections.{bound_lines}
use Rattle.mps_printer.proofs.LineLaws.{lines_added, lines_complete}
use Rattle.mps_printer.proofs.columns.push_bounds.Goals as goal

pub loop-column-preserved : goal.loop-column-preserved
loop-column-preserved c =
    lines_added bound_lines (string_bytes c.args.text.now) c.args.columns.now c.loop-column.column-index _ c.loop-column-test.true
    c.column-item.is c.loop-column.invariant c.in_ok-push_bounds_of.ensures

pub returns : goal.returns
returns c =
    lines_complete bound_lines (string_bytes c.args.text.now) c.args.columns.now c.loop-column.column-index c.loop-column-test.false
    c.loop-column.invariant
