use Rattle.std.proofs.Common.{◌++◌, ◌∙◌, ap}
use Rattle.std.specs.Prelude.{codes}
use Rattle.mps_defs.specs.CanonicalText.{head, written_text}
use Rattle.mps_printer.specs.Internal.Sections.{lines_text, row_section, column_section, side_section, range_section, bound_section}
use Rattle.mps_printer.proofs.SectionLaws.{sections_are}
use Rattle.mps_printer.proofs.printer.text_of.Goals as goal

pub returns : goal.returns
returns c =
    let m = c.args.parts.now in
    let rows = c.in_ok-push_row_section.ensures ∙ ap (λ bs. bs ++ lines_text (row_section m)) c.new-text.ensures.bytes in
    let columns = c.in_ok-push_column_section.ensures ∙ ap (λ bs. bs ++ lines_text (column_section m)) rows in
    let sides = c.in_ok-push_side_section.ensures ∙ ap (λ bs. bs ++ lines_text (side_section m)) columns in
    let ranges = c.in_ok-push_range_section.ensures ∙ ap (λ bs. bs ++ lines_text (range_section m)) sides in
    let bounds = c.in_ok-push_bound_section.ensures ∙ ap (λ bs. bs ++ lines_text (bound_section m)) ranges in
    c.in_ok-push_head.ensures ∙ ap (λ bs. bs ++ written_text (head (codes "ENDATA"))) bounds ∙ sections_are m
