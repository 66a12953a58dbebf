use Rattle.std.proofs.Common.{◌≡◌, ◌<◌, ◌≤◌, ◌∙◌, ◌++◌, ◌∷◌, [], add-one, ap, arith, length, refl, subst, sym, take, ℕ, List}
use Rattle.std.specs.Prelude.{Some, flat_map, slice_get, string_bytes, ℤ}
use Rattle.std.specs.List.{enumerate_from}
use Rattle.std.proofs.lemmas.List.FromFn.{length-enumerate_from}
use Rattle.std.proofs.lemmas.Option.{get_or_from_slice_get, slice_get_read}
use Rattle.ip_defs.specs.Limits.{index_at}
use Rattle.mps_defs.specs.CanonicalText.{column_block, triple, value_text}
use Rattle.ip_defs.specs.declared.programs.Column.{Column}
use Rattle.mps_printer.specs.Internal.Entries.{column_entries, entry_line}
use Rattle.mps_printer.specs.Internal.Sections.{lines_text}
use Rattle.mps_printer.proofs.EntryLaws.{entries_below, entry_lines, numbered}
use Rattle.mps_printer.proofs.LineLaws.{text_more, text_all}
use Rattle.mps_printer.proofs.columns.push_blocks.Goals as goal

pub push_block-requires : goal.push_block-requires
push_block-requires c =
    let lists = c.in_ok-lists.lists.items in
    let rows = c.args.parts.now.rows in
    let j = c.loop-j.j in
    let size : length lists ≡ length c.args.parts.now.columns = c.in_ok-lists.ensures.length in
    let these = ap (λ (cs : List Column). length cs) c.as_slice-column-items.ensures in
    let inside : j < length c.args.parts.now.columns = omega arith in
    let here : slice_get lists j ≡ Some c.index.result.now =
    slice_get_read lists (length lists) j c.index.result.now refl (omega arith) c.index.ensures in
    let is : c.as_slice.result.now ≡ column_entries j 0 rows =
    c.as_slice.ensures ∙ sym (get_or_from_slice_get lists j c.index.result.now [] here) ∙ c.in_ok-lists.ensures.lists j inside in
    subst (λ (es : List (ℕ × ℤ)). (i : ℕ) → i < length es → index_at es i < length rows) (sym is) (entries_below j rows)

pub loop-j-preserved : goal.loop-j-preserved
loop-j-preserved c =
    let m = c.args.parts.now in
    let lists = c.in_ok-lists.lists.items in
    let j = c.loop-j.j in
    let column = c.column-item.result in
    let size : length lists ≡ length m.columns = c.in_ok-lists.ensures.length in
    let these = ap (λ (cs : List Column). length cs) c.as_slice-column-items.ensures in
    let inside : j < length m.columns = omega arith in
    let here : slice_get lists j ≡ Some c.index.result.now =
    slice_get_read lists (length lists) j c.index.result.now refl (omega arith) c.index.ensures in
    let is : c.as_slice.result.now ≡ column_entries j 0 m.rows =
    c.as_slice.ensures ∙ sym (get_or_from_slice_get lists j c.index.result.now [] here) ∙ c.in_ok-lists.ensures.lists j inside in
    let columns = c.as_slice-column-items.result.now in
    let found : slice_get m.columns j ≡ Some column =
    ap (λ (cs : List Column). slice_get cs j) (sym c.as_slice-column-items.ensures)
    ∙ slice_get_read columns (length columns) j column refl c.loop-j-test.true c.column-item.is in
    let before = string_bytes c.args.text.now ++ lines_text (flat_map (column_block m) (take j (enumerate_from 0 m.columns))) in
    let line = triple column.name m.objective (value_text m column.cost) in
    rw add-one (
    c.in_ok-push_block.ensures
    ∙ ap (λ bs. bs ++ lines_text (line ∷ flat_map (entry_line column.name m.rows) c.as_slice.result.now)) c.loop-j.invariant
    ∙ ap (λ (es : List (ℕ × ℤ)). before ++ lines_text (line ∷ flat_map (entry_line column.name m.rows) es)) is
    ∙ ap (λ ls. before ++ lines_text (line ∷ ls)) (entry_lines j column.name m.rows (λ k r e. (c.requires.shape.rows k r e).coefs.rising))
    ∙ text_more (column_block m) (string_bytes c.args.text.now) (enumerate_from 0 m.columns) j (j, column)
    (numbered m.columns j column found))

pub returns : goal.returns
returns c =
    let m = c.args.parts.now in
    let these = ap (λ (cs : List Column). length cs) c.as_slice-column-items.ensures in
    let size = length-enumerate_from 0 m.columns in
    let end : length (enumerate_from 0 m.columns) ≤ c.loop-j.j = omega arith in
    c.loop-j.invariant
    ∙ ap (λ bs. string_bytes c.args.text.now ++ bs) (text_all (column_block m) (enumerate_from 0 m.columns) c.loop-j.j end)
