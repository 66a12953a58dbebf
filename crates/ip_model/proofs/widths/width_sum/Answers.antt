use Rattle.std.proofs.Common.{arith, refl, ap, sym, ◌∙◌, ◌≡◌, length, Some, pos}
use Rattle.std.specs.Prelude.{slice_get}
use Rattle.ip_defs.specs.Program.{box_of}
use Rattle.ip_defs.specs.declared.programs.Parts.{Parts}
use Rattle.ip_model.specs.Sizes.{width_of}
use Rattle.ip_model.proofs.PlaceLaws.{read_at, side_read}
use Rattle.ip_model.proofs.SizeLaws.{not_true, sum_by_more, none_empty_more, no_width}
use Rattle.ip_model.proofs.widths.width_sum.Goals as goal

pub width-requires : goal.width-requires
width-requires c =
    let m = c.args.model.now in
    let same = c.as_slice-column-items.ensures ∙ ap (λ (n : Parts). n.columns) c.parts.ensures.parts in
    let found : slice_get m.columns c.loop-column.column-index ≡ Some c.column-item.result =
    read_at m.columns c.as_slice-column-items.result.now c.loop-column.column-index c.column-item.result same
    c.loop-column-test.true c.column-item.is in
    c.parts.ensures.limits.columns c.loop-column.column-index c.column-item.result found

pub overflow_add-total : goal.overflow_add-total
overflow_add-total c =
    let same = ap length (c.as_slice-column-items.ensures ∙ ap (λ (n : Parts). n.columns) c.parts.ensures.parts) in
    let few = c.parts.ensures.limits.column_count in
    let so = c.loop-column.invariant.small in
    let small = c.in-Some.ensures.small in
    let inside = c.loop-column-test.true in
    omega arith

pub returns-in-None : goal.returns-in-None
returns-in-None c =
    let same = c.as_slice-column-items.ensures ∙ ap (λ (n : Parts). n.columns) c.parts.ensures.parts in
    let side = side_read c.args.model.now c.as_slice-column-items.result.now c.loop-column.column-index c.column-item.result same
    c.loop-column-test.true c.column-item.is in
    sym (no_width c.args.model.now c.loop-column.column-index (c.column-item.result.lo, c.column-item.result.hi) side.0 side.1
    (c.in-None.ensures.none.0 refl))

pub loop-column-preserved : goal.loop-column-preserved
loop-column-preserved c =
    let b = box_of c.args.model.now in
    let i = c.loop-column.column-index in
    let column = c.column-item.result in
    let side = side_read c.args.model.now c.as_slice-column-items.result.now i column
    (c.as_slice-column-items.ensures ∙ ap (λ (n : Parts). n.columns) c.parts.ensures.parts) c.loop-column-test.true c.column-item.is in
    let here = ap width_of side.1 in
    let more = sum_by_more width_of b i (pos 0, pos 0) side.0 in
    let before = c.loop-column.invariant.sum in
    let so = c.loop-column.invariant.small in
    let width = c.in-Some.ensures.some in
    let small = c.in-Some.ensures.small in
    record {
      none = none_empty_more b i (column.lo, column.hi) side.0 side.1 c.loop-column.invariant.none
          (not_true _ c.in-Some.ensures.none.1);
      sum = omega arith;
      small = omega arith;
    }
