use Rattle.std.proofs.Common.{rules, arith, ◌≡◌, ◌↔◌, ◌+ℤ◌, ◌*ℤ◌, IsTrue, subst, to_z, of_z, Some}
use Rattle.std.specs.Prelude.{slice_get}
use Rattle.std.specs.Int.{w64, w128}
use mir.Val.{SFits}
use Rattle.std.proofs.lemmas.Int.{ints, to_z-of_z}
use Rattle.ip_defs.specs.Program.{at}
use Rattle.ip_defs.specs.declared.programs.Row.{Row}
use Rattle.ip_model.proofs.PlaceLaws.{read_at}
use Rattle.range_finder.specs.Internal.Points.{KeepsSides, value_of}
use Rattle.range_finder.proofs.points.keeps_row.Goals as goal

pub returns : goal.returns
returns c =
    let m = c.args.parts.now in
    let x = c.args.point.now in
    let row = c.index-as_slice-row.result in
    let found : slice_get m.rows c.args.row ≡ Some row = read_at m.rows c.as_slice.result.now c.args.row row c.as_slice.ensures
    (rw c.as_slice.ensures c.requires.row) c.index-as_slice-row.is in
    let fits : SFits w64 (at x c.args.column) = search rules in
    let more : c.weighed-more.result ≡ c.args.by *ℤ at x c.args.column = rw (
      to_z-of_z w128 c.args.by c.ranges.by,
      to_z-of_z w64 (at x c.args.column) fits,
    ) at c.weighed-more.ensures.value in
    let value = c.value_of-value.ensures.value in
    let size = c.value_of-value.ensures.small in
    let size' = c.weighed-more.ensures.small in
    let total = c.total_of.ensures in
    let sum : to_z w128 (of_z w128 c.total_of.result) ≡ value_of m c.args.row x +ℤ c.args.by *ℤ at x c.args.column = omega (arith, ints) in
    let here = subst (λ v. IsTrue c.keeps_sides.result ↔ KeepsSides row v) sum c.keeps_sides.ensures in
    let keeps : Row → Type 0 = λ r. KeepsSides r (value_of m c.args.row x +ℤ c.args.by *ℤ at x c.args.column) in
    (λ t r e. let same : row ≡ r = cc in subst keeps same (here.0 t), λ all. here.1 (all row found))
