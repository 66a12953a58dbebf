use Rattle.std.proofs.Common.{◌≡◌, ◌==◌, ◌++◌, ◌∙◌, ap, false, length, subst, sym, List, ℕ}
use Rattle.std.specs.Prelude.{OnOk, codes, flat_map, string_bytes}
use Rattle.std.specs.List.{enumerate_from}
use Rattle.mps_defs.specs.CanonicalText.{column_block, triple, written_text}
use Rattle.mps_printer.specs.Internal.Sections.{lines_text}
use Rattle.mps_printer.proofs.SectionLaws.{columns_are}
use Rattle.mps_printer.proofs.columns.push_column_section.Goals as goal

pub returns : goal.returns
returns c =
    let m = c.args.parts.now in
    let first = triple (codes "M") (codes "'MARKER'") (codes "'INTORG'") in
    let last = triple (codes "M") (codes "'MARKER'") (codes "'INTEND'") in
    let blocks = lines_text (flat_map (column_block m) (enumerate_from 0 m.columns)) in
    let some : (length m.columns == 0) ≡ false = sym (rw c.as_slice.ensures at c.is_empty.ensures) ∙ c.if-is_empty.false in
    let opened = c.in_ok-push_triple.ensures ∙ ap (λ bs. bs ++ written_text first) c.in_ok-push_head.ensures in
    let filled = c.in_ok-push_blocks.ensures ∙ ap (λ bs. bs ++ blocks) opened in
    let all = ap (λ bs. bs ++ written_text last) filled ∙ columns_are m (string_bytes c.args.text.now) some in
    subst (λ (bs : List ℕ). OnOk c.push_triple-2.result (string_bytes c.push_triple-2.new.text ≡ bs)) all c.push_triple-2.ensures
