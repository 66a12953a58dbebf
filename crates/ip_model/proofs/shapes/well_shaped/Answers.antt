use Rattle.std.proofs.Common.{refl, ◌≡◌, length, Some}
use Rattle.std.specs.Prelude.{slice_get}
use Rattle.std.proofs.lemmas.Option.{slice_get_read}
use Rattle.ip_model.proofs.ShapeLaws.{shaped_more, all_shaped}
use Rattle.ip_model.proofs.shapes.well_shaped.Goals as goal

pub loop-row-preserved : goal.loop-row-preserved
loop-row-preserved c =
    let rows = c.as_slice-row-items.result.now in
    let row = c.row-item.result in
    let i = c.loop-row.row-index in
    let found : slice_get rows i ≡ Some row = slice_get_read rows (length rows) i row refl c.loop-row-test.true c.row-item.is in
    shaped_more (length c.as_slice-columns.result.now) rows i row c.loop-row.invariant found (c.if-not-is_row_shaped.ensures.0 refl)

pub returns : goal.returns
returns c = (
  λ t. all_shaped c.args.parts.now c.as_slice-columns.result.now c.as_slice-row-items.result.now c.loop-row.row-index
      c.as_slice-columns.ensures c.as_slice-row-items.ensures c.if-parts-gt-MOST_DECIMALS.false c.loop-row-test.false
      c.loop-row.invariant,
  λ shape. refl,
)
