use Rattle.std.proofs.Common.{rules, ◌≡◌, ◌∙◌, ap, refl, set, Some}
use Rattle.std.specs.Prelude.{slice_get}
use Rattle.std.specs.Int.{w64}
use mir.Val.{SFits}
use Rattle.std.proofs.lemmas.Int.{to_z-of_z}
use Rattle.ip_model.proofs.PlaceLaws.{read_at}
use Rattle.ip_model.proofs.AreaLaws.{side_more}
use Rattle.ip_model.proofs.areas.set_sides.Goals as goal

pub loop-j-preserved : goal.loop-j-preserved
loop-j-preserved c =
    let columns = c.args.columns.now in
    let j = c.loop-j.j in
    let column = c.index-columns-j.result in
    let fits_lo : SFits w64 column.lo = search rules in
    let fits_hi : SFits w64 column.hi = search rules in
    let read_lo = to_z-of_z w64 column.lo fits_lo in
    let read_hi = to_z-of_z w64 column.hi fits_hi in
    let found : slice_get columns j ≡ Some column = read_at columns columns j column refl c.loop-j-test.true c.index-columns-j.is in
    let one = rw (read_lo, read_hi) at c.set.ensures in
    one ∙ ap (λ b. set b j (column.lo, column.hi)) c.loop-j.invariant ∙ side_more columns c.args.area.now j column found c.requires
